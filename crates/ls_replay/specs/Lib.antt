pub mod ReplyLines
pub mod StepsFile
pub mod View
