-- The verdict of a text.
pub mod Ends
pub mod EndLaws
pub mod Verdict
pub mod Places
pub mod Exact
