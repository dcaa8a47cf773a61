-- What the checks of boundaries and values ask and tell.
pub mod Says
