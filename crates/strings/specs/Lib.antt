-- What the bytes between the quotes of a JSON string stand for.
pub mod Strings
pub mod Spans
pub mod Parts
pub mod Ahead
pub mod Laws
pub mod Characters
