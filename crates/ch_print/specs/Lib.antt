pub mod AnswerText
pub mod RunTexts
pub mod Written
