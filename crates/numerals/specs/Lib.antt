-- What the bytes of a JSON numeral stand for.
pub mod Numerals
pub mod Reading
pub mod Laws
pub mod Values
pub mod Parts
