-- That the room suffices, whatever the text.
pub mod Bound
