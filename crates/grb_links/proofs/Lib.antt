pub mod Blank
pub mod Frame
pub mod Grown
mod LastOf
pub mod Links
pub mod Lists
pub mod Overwritten
mod Packing
