-- What the crates above read of answer_path, passed on to them.

pub use Rattle.answer_path.specs.Reading
pub use Rattle.answer_path.specs.Admission
pub use Rattle.answer_path.specs.Query
pub use Rattle.answer_path.specs.Program
pub use Rattle.answer_path.specs.Noise
pub use Rattle.answer_path.specs.Verdict
pub use Rattle.answer_path.specs.Demand
pub use Rattle.answer_path.specs.Answered
pub use Rattle.answer_path.specs.Standing
pub use Rattle.answer_path.specs.Met
pub use Rattle.answer_path.specs.Shut
pub use Rattle.answer_path.specs.Idle
pub use Rattle.answer_path.specs.Closing
pub use Rattle.answer_path.specs.Code
pub use Rattle.answer_path.specs.Laws
pub use Rattle.answer_path.specs.declared.program.Accepted as AcceptedProgram
