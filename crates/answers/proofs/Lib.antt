pub mod LaidLaws
pub mod LineSteps
