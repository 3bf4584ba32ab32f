pub mod Left
pub mod NodeAnswers
pub mod Numbers
pub mod Names
pub mod Returns
pub mod Stepping
