-- Rules 7 to 17 of docs/RULES.md.
pub mod Schema
pub mod Links
pub mod Examples
