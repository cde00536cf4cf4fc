pub mod Copy
pub mod CopySteps
