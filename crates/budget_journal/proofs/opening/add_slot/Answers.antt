use Rattle.std.proofs.Common.{◌≡◌, ◌<◌, ◌≤◌, length, arith, rules, ltb}
use Rattle.std.proofs.lemmas.Bool.{ltb-true, ltb-false}
use Rattle.outside_disks.specs.Disks.{seen_of}
use Rattle.budget_journal.specs.Journals.{slot_place}
use Rattle.budget_journal.proofs.Scans.{added-or-fault, torn-off}
use Rattle.budget_journal.proofs.opening.add_slot.Goals as goal

pub returns-then-size-place-clause-judged : goal.returns-then-size-place-clause-judged
returns-then-size-place-clause-judged g c t layout told long begins lt scanned =
    (tt, torn-off layout (seen_of t) c.args.slot c.args.records.now.items scanned lt (omega (arith, c.place-place.ensures, long, begins)))

pub returns-clause-judged : goal.returns-clause-judged
returns-clause-judged g c t layout told long begins lt scanned =
    let count : c.len.result ≡ length c.args.records.now.items = search rules in
    let here : c.place-place.result ≡ slot_place layout c.args.slot = omega (arith, c.place-place.ensures, begins) in
    added-or-fault layout (seen_of t) c.args.slot c.args.records.now.items scanned (ltb c.len.result c.args.slot) _ _ lt
    (omega (arith, long, here))
    (λ is. let fewer : c.len.result < c.args.slot = ltb-true c.len.result c.args.slot is in omega arith)
    (λ isnt. let all : c.args.slot ≤ c.len.result = ltb-false c.len.result c.args.slot isnt in omega arith)
    (c.read_slot.ensures.judged t layout told here (omega (arith, long)))
