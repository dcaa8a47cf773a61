-- The IDs of city objects, and how one is found among them.
pub mod Says
