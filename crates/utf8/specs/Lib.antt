-- Characters in UTF-8 (RFC 3629), and how much of a text they make up.
pub mod Ascii
pub mod Bytes
pub mod Utf8
pub mod Rows
pub mod Says
pub mod Laws
pub mod Meaning
pub mod Splits
pub mod Finite
pub mod RowLaws
