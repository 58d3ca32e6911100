use Rattle.std.proofs.Common.{subst, sym, List, ℕ}
use Rattle.journal_records.specs.Encoding.{IsByteList}
use Rattle.answer_path.proofs.Digests.{sha256_bytes}
use Rattle.answer_path.proofs.answer.asking_of.Goals as goal

pub returns-clause-digest : goal.returns-clause-digest
returns-clause-digest c = subst (λ (bytes : List ℕ). IsByteList 32 bytes) (sym c.requires) (sha256_bytes c.args.query.now.program.now)
