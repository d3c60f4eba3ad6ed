pub mod Between
pub mod Changed
pub mod CopiedLists
pub mod Entry
pub mod Lists
pub mod Placing
pub mod Pushing
pub mod Wholes
