-- What the parts of judge and lay answer, the least fault of a tree, and laws of both.
pub mod Examining
pub mod Least
pub mod Laws
