-- What the rules look up in objects: a type and its code, a count, the city objects and their index.
pub mod Fields
pub mod Says
pub mod Laws
