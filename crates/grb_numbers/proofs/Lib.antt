pub mod Commuting
pub mod First
pub mod Lists
pub mod LiveNumbers
pub mod Next
pub mod Numbering
pub mod Outwards
pub mod Renamed
mod Rows
pub mod Same
pub mod SameObjects
pub mod SeenLists
pub mod SeenWhole
