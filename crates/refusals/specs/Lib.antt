-- The rules of docs/RULES.md and their numbers, and what the refusal of a fault tells.
pub mod Refusals
pub mod Says
