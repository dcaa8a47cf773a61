-- What the proofs of several functions use.
mod Alone
mod Rooms
mod Rules
