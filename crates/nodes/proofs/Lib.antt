-- What the proofs of several functions use.
mod Firsts
mod Loops
mod Stepping
