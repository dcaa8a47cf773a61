-- Rules 15 to 17 of docs/RULES.md.
pub mod Passes
pub mod Says
