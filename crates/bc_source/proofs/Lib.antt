mod Behind
mod Appending
