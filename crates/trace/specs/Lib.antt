pub mod FaultTexts
pub mod Grammar
pub mod Growing
pub mod Laws
pub mod Reading
pub mod Texts
pub mod inner
