-- What lay answers for a text and a room, what each byte of the lent sheet is afterwards, and demands 2 and 3.
pub mod Laid
pub mod Clear
pub mod Numbers
pub mod Short
pub mod Faultless
pub mod Quoted
pub mod Characters
pub mod Theorems
