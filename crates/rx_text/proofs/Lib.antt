pub mod Digits
pub mod Lists
pub mod OneText
pub mod Scanning
pub mod Standing
pub mod Short
