-- What the parts of the parser tell.
pub mod Says
