-- The machine that reads JSON texts and RFC 8259's grammar agree: `Theorems` and `Exactly` in proofs/ say
-- how, with the definitions of `Order`; the other files prove it.
pub mod Order
pub mod Induction
pub mod Joins
pub mod Accepts
pub mod Derived
pub mod Parsed
pub mod Endings
pub mod Alike
pub mod Reaches
pub mod Theorems
