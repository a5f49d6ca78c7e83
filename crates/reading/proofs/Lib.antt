pub mod Counting
pub mod RuleSteps
pub mod ReadLaws
pub mod FillSteps
