mod Firsts
mod Looking
mod Breaking
mod Walking
mod Keeping
mod Stepping
