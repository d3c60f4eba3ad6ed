pub mod Linked
pub mod Steps
pub use Rattle.logbook.specs.Pages
