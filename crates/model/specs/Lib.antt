-- The city model (docs/SHEET.md), its reading from a tree, its sheet, and what the sheet tells.
pub mod Code
pub mod Unique
pub mod Lists
pub mod Model
pub mod Read
pub mod Good
pub mod Fits
pub mod Numbers
pub mod Alike
pub mod Demand
