pub mod Answers
pub mod Formats
pub mod Headers
pub mod Scenarios
pub mod Urls
pub mod Words
