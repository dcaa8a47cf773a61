-- What the proofs of several functions use.
mod Fills
mod Signs
