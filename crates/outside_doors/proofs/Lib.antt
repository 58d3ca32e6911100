mod Examples
pub mod Waited
mod WaitedExamples
