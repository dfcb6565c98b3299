pub mod Asking
pub mod Files
pub mod Grammar
pub mod RunFiles
pub mod inner
