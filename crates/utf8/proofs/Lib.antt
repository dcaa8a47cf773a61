-- What the proofs of several functions use.
mod Arms
mod Places
mod Rules
pub mod RowLaws
pub mod OneRow
pub mod Examples
