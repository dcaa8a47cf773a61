-- What the proofs of several functions use.
mod Rules
mod Depths
mod Outline
mod Both
