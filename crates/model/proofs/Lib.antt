-- Theorems on the model, its sheet and on texts that are alike.
pub mod Once
pub mod Demand
pub mod Size
pub mod Weigh
pub mod AlikeExamples
pub mod AlikeLaws
pub mod AlikeTest
