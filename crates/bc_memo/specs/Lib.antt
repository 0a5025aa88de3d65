pub mod Places
pub mod Memos
