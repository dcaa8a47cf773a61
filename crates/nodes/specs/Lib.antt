-- What is looked up in a JSON tree, and the faults that are found in it.
pub mod Faults
pub mod Access
pub mod Says
pub mod Siblings
pub mod Laws
pub mod Reads
pub mod Walk
pub mod Unique
