-- What the proof of `put` uses.
mod Bits
mod Sets
