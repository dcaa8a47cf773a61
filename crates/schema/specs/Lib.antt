-- Rules 7 to 14 of docs/RULES.md as a schema.
pub mod Says
