-- What the crates above read of answer_path, passed on to them.

pub use Rattle.answer_path.proofs.Limits
pub use Rattle.answer_path.proofs.Told
pub use Rattle.answer_path.proofs.Readings
pub use Rattle.answer_path.proofs.Existing
pub use Rattle.answer_path.proofs.Programs
pub use Rattle.answer_path.proofs.Charged
pub use Rattle.answer_path.proofs.Answering
pub use Rattle.answer_path.proofs.Alone
pub use Rattle.answer_path.proofs.Sole
pub use Rattle.answer_path.proofs.Idle
pub use Rattle.answer_path.proofs.SizePeople
pub use Rattle.answer_path.proofs.Walking
