-- The parts of a tree, and the rules that hold in every part of a text (5 and 6).
pub mod Everywhere
pub mod Parts
pub mod Says
pub mod Chains
pub mod Laws
