use Rattle.std.proofs.Common.{ℕ, subst, arith}
use Rattle.std.proofs.lemmas.Option.{MatchOption-at_some}
use Rattle.outside_disks.specs.Disks.{seen_of, Gives}
use Rattle.budget_journal.specs.Journals.{slot_place}
use Rattle.budget_journal.proofs.Scans.{gives-piece}
use Rattle.budget_journal.proofs.opening.read_slot.Goals as goal

pub returns-clause-judged : goal.returns-clause-judged
returns-clause-judged g c t layout told here within =
    let gives : Gives (seen_of t) c.args.place c.read_at.new.buf = MatchOption-at_some _ _ t told c.in_ok-read_at.ensures.bytes in
    let there : Gives (seen_of t) (slot_place layout c.args.slot) c.read_at.new.buf = subst (λ (n : ℕ). Gives (seen_of t) n c.read_at.new.buf) here gives in
    c.judge_slot.ensures.judged (seen_of t) layout (omega (arith, here))
    (gives-piece (seen_of t) c.read_at.new.buf (slot_place layout c.args.slot) 64 there (omega arith) (omega (arith, here)))
