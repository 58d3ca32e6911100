use Rattle.std.proofs.Common.{◌≡◌, ◌≤◌, ℕ, ◌∙◌, arith, subst, sym}
use Rattle.std.proofs.lemmas.Result.{err_from_is_err_and}
use Rattle.outside_disks.specs.Disks.{seen_of}
use Rattle.budget_journal.specs.Journals.{FillsSlots}
use Rattle.budget_journal.specs.Areas.{area_slots, area_in}
use Rattle.budget_journal.specs.Opening.{Scanned, IsSlotFault, SlotsRead}
use Rattle.budget_journal.proofs.Scans.{area-read, too-long}
use Rattle.budget_journal.proofs.opening.read_slots.Goals as goal

pub returns-in_err-add_slot-clause-judged : goal.returns-in_err-add_slot-clause-judged
returns-in_err-add_slot-clause-judged g c t told long =
    let live = c.args.live.now in
    let layout = area_in live.form live.capacity live.number c.args.size in
    let scanned = c.loop-slot.invariant.judged t told long in
    let fault = (c.in_err-add_slot.ensures.judged t layout (c.loop-slot.invariant.same ∙ told) long live.begins (omega (arith, live.counted)) scanned).1 in
    let back = err_from_is_err_and c.from_residual-in_err-add_slot.result c.from_residual-in_err-add_slot.ensures.1 in
    subst (SlotsRead layout (seen_of t)) (sym back.1) (subst (IsSlotFault layout (seen_of t)) (sym back.2) fault)

pub returns-then-size-file_size-clause-judged : goal.returns-then-size-file_size-clause-judged
returns-then-size-file_size-clause-judged g c t told long =
    let live = c.args.live.now in
    let layout = area_in live.form live.capacity live.number c.args.size in
    let scanned = c.loop-slot.invariant.judged t told long in
    let all : c.loop-slot.slot ≡ live.slots = omega arith in
    too-long layout (seen_of t) live.slots c.loop-slot.records.items
    (subst (λ (k : ℕ). Scanned layout (seen_of t) k c.loop-slot.records.items) all scanned) live.counted (omega (arith, long, c.file_size.ensures))

pub returns-clause-judged : goal.returns-clause-judged
returns-clause-judged g c t told long =
    let live = c.args.live.now in
    let scanned = c.loop-slot.invariant.judged t told long in
    let all : c.loop-slot.slot ≡ area_slots live.form live.capacity live.number = omega (arith, live.counted) in
    let short : c.args.size ≤ (area_in live.form live.capacity live.number c.args.size).size = omega (arith, c.file_size.ensures) in
    subst (λ (n : ℕ). FillsSlots (area_in live.form live.capacity live.number n) (seen_of t) c.loop-slot.records.items) (sym long)
    (area-read live.form live.capacity live.number (seen_of t) c.loop-slot.records.items live.there (omega (arith, long, c.requires))
    (subst (λ (n : ℕ). n ≤ (area_in live.form live.capacity live.number n).size) long short)
    (subst (λ (n : ℕ). Scanned (area_in live.form live.capacity live.number n) (seen_of t) (area_slots live.form live.capacity live.number) c.loop-slot.records.items) long
    (subst (λ (k : ℕ). Scanned (area_in live.form live.capacity live.number c.args.size) (seen_of t) k c.loop-slot.records.items) all scanned)))

pub loop-slot-preserved : goal.loop-slot-preserved
loop-slot-preserved g c =
    let live = c.args.live.now in
    let layout = area_in live.form live.capacity live.number c.args.size in
    record {
      judged = λ t told long. (c.in_ok-add_slot.ensures.judged t layout (c.loop-slot.invariant.same ∙ told) long live.begins (omega (arith, live.counted))
          (c.loop-slot.invariant.judged t told long)).0;
      bounded = omega (arith, c.in_ok-add_slot.ensures.bounded, c.loop-slot.invariant.bounded);
      valid = c.in_ok-add_slot.ensures.valid c.loop-slot.invariant.valid;
      same = c.in_ok-add_slot.ensures.same ∙ c.loop-slot.invariant.same;
      passed = c.in_ok-add_slot.ensures.passed ∙ c.loop-slot.invariant.passed;
    }
