pub mod Kept
pub mod Inside
pub use Rattle.rx_rules.specs.Tree
pub use Rattle.rx_rules.specs.Entries
