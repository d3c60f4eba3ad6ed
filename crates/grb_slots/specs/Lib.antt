pub mod Row
pub mod Rule
pub use Rattle.atomic_table.specs.Seated
pub use Rattle.atomic_table.specs.Table
