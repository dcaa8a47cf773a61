-- That the machine and RFC 8259's grammar agree.
pub mod Theorems
pub mod Ordered
pub mod Exactly
