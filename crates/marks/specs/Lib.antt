-- Sets of pairs of objects' numbers, by the rows of a flat table.
pub mod Marks
pub mod Says
