pub mod Feeding
pub mod Growth
pub mod LineTexts
pub mod Numerals
pub mod OneFault
pub mod OneTrace
pub mod Parts
pub mod Saying
