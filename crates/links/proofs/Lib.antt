pub mod Lists
pub mod Numbers
pub mod Absents
pub mod Level
pub mod Split
pub mod Opens
pub mod Sweeps
pub mod Rules
