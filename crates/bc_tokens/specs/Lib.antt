pub mod Token
pub mod Parser
pub mod Cursor
