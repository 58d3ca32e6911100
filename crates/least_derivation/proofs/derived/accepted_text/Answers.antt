use Rattle.least_derivation.proofs.Judged.{never_fails}
use Rattle.least_derivation.proofs.derived.accepted_text.Goals as goal

pub unreachable-requires : goal.unreachable-requires
unreachable-requires c = never_fails c.args.sig.now c.args.term.now c.is_signature.ensures c.in-Err-Fails.ensures.limits c.requires.accepted (c.in-Err-Fails.ensures.fails c.in-Err-Fails.field-0-is)
