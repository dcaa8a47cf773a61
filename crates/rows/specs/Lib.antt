-- The numbers of the objects that each city object lists, in a flat table of rows.
pub mod Rows
pub mod Says
pub mod Laws
pub mod Examples
