-- Arrays of numbers written as their payloads: what the writers ask of a value and tell, and the law of their loops.
pub mod Fits
pub mod Says
pub mod Laws
pub mod Parts
