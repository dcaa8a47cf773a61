-- The words of docs/RULES.md with their codes.
pub mod Words
pub mod Tables
pub mod Laws
