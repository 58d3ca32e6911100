use Rattle.budget_journal.proofs.Gates.{GatesRead, read-all, stray-behind, stray-past}
use Rattle.std.proofs.Common.{◌≡◌, ℕ, ◌∙◌, ap, subst, arith}
use Rattle.journal_records.specs.Encoding.{gate}
use Rattle.budget_journal.specs.declared.form.Form.{Form}
use Rattle.budget_journal.specs.declared.form.Form.TheVariants.{Many}
use Rattle.budget_journal.specs.Areas.{IsArea, area_gate, area_slots}
use Rattle.budget_journal.proofs.opening.area_by_gates.Goals as goal

pub returns-then-shut-clause-stray : goal.returns-then-shut-clause-stray
returns-then-shut-clause-stray c =
    let l = c.loop-number in
    let is_open : area_gate c.args.kept.now l.number ≡ gate = c.if-kept-number.false in
    (l.number, stray-behind c.args.kept.now l.number l.live.number l.shut l.invariant.read c.args.capacity (omega arith) (omega arith) is_open c.if-shut.true)

pub returns-then-live-capacity-clause-stray : goal.returns-then-live-capacity-clause-stray
returns-then-live-capacity-clause-stray c =
    let l = c.loop-number in
    let is_open : area_gate c.args.kept.now l.number ≡ gate = c.if-kept-number.false in
    let counted = l.live.counted ∙ ap (λ (v : Form). area_slots v l.live.capacity l.live.number) l.invariant.form in
    let all : area_slots Many c.args.capacity l.live.number ≡ c.args.capacity = omega (arith, counted, l.invariant.capacity, c.if-live-capacity.true) in
    (l.number, stray-past c.args.kept.now l.number l.live.number l.shut l.invariant.read c.args.capacity (omega arith) (omega arith) is_open all)

pub returns-clause-live : goal.returns-clause-live
returns-clause-live c =
    let l = c.loop-number in
    let there : IsArea Many c.args.capacity l.live.number = subst (λ (v : Form). IsArea v c.args.capacity l.live.number) l.invariant.form
    (subst (λ (n : ℕ). IsArea l.live.form n l.live.number) l.invariant.capacity l.live.there) in
    let all : l.number ≡ 32 = omega arith in (
      l.invariant.form,
      l.invariant.capacity,
      read-all c.args.capacity c.args.kept.now l.live.number l.shut there
          (subst (λ (n : ℕ). GatesRead c.args.kept.now n l.live.number l.shut) all l.invariant.read),
    )
