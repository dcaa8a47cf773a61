pub mod Nodes
pub mod Rules
pub mod Counting
