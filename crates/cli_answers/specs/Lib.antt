pub mod Feeds
pub mod Words
pub mod Answers
