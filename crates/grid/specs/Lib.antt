-- A set of pairs of numbers, as bits.
pub mod Grid
pub mod Laws
