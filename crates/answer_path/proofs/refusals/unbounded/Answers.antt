use Rattle.std.proofs.Common.{sym, subst}
use Rattle.std.specs.Prelude.{IsTrue}
use Rattle.wire_lines.specs.Name.{is_name}
use Rattle.answer_path.proofs.Told.{named}
use Rattle.answer_path.proofs.refusals.unbounded.Goals as goal

pub invariant_of-name : goal.invariant_of-name
invariant_of-name c =
    record { is_name = subst (λ x. IsTrue (is_name x)) (sym c.as_bytes.ensures) (named c.args.sig.now c.args.table _ c.requires.names c.table.ensures.is) }
