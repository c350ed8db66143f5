pub mod AnswerIn
pub mod Reply
pub mod ByForm
pub mod Stepped
