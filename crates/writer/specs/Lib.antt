-- Bytes written to a lent sheet: what a writer tells, and how writers go one after the other.
pub mod Writes
pub mod Laws
