-- Examples of the rules, decided by computation.
pub mod Rules
