-- JSON texts (RFC 8259): their tree, the machine that reads them, and the table that the code keeps of a tree.
pub mod Tree
pub mod Machine
pub mod Table
pub mod Grammar
pub mod Steps
pub mod Laws
pub mod Says
pub mod Parse
pub mod Examples
