-- The records of geometries, written from the node table of an accepted text.
pub mod Fits
pub mod Bytes
pub mod Parts
pub mod Says
pub mod Members
pub mod Accepted
