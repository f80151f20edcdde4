pub mod Lists
pub mod Naming
pub mod Scanning
pub mod OneScan
pub mod ReadBack
pub mod Spelling
pub mod Mentioned
pub mod Within
