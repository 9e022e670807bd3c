-- Each text that isn't empty begins with one thing: white space, a comment, a token, or something wrong.
pub mod Runs
pub mod Quotes
pub mod Found
pub mod Alone
