-- What the functions of rule 6 ask and tell.
pub mod Names
pub mod Chains
pub mod Entries
