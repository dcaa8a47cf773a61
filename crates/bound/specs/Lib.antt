-- How long a sheet is at the most, and how much room always suffices.
pub mod Length
pub mod Full
pub mod Bound
