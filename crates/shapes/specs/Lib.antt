-- Checks of a value, rules 12 and 13, and laws for code that checks.
pub mod Checks
pub mod Shapes
pub mod Says
pub mod Laws
