use Rattle.std.proofs.Common.{refl}
use Rattle.derivation_rows.proofs.Amounts.{line_of}
use Rattle.derivation_rows.proofs.rows.View.at.Goals as goal

pub returns-clause-is : goal.returns-clause-is
returns-clause-is c = rw (line_of c.args.self.now.arena.now c.args.self.now.lines.now c.args.at c.index-self-at.result c.requires.known) refl
