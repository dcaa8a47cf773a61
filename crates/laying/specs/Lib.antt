-- What lay answers, and the sheet that it leaves.
pub mod Laying
