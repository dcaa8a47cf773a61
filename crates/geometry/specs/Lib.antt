-- What the checks of a geometry ask and tell.
pub mod Says
