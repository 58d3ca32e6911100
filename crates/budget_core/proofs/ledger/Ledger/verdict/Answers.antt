use Rattle.std.proofs.Common.{◌≡◌, ◌∙◌, sym, ap, subst, arith}
use Rattle.budget_core.specs.Ledger.{Ledger, start_of}
use Rattle.budget_core.specs.Run.{ledger_in}
use Rattle.budget_core.specs.Entries.{Entry}
use Rattle.budget_core.proofs.RunLemmas.{run-open}
use Rattle.budget_core.proofs.SoundLemmas.{Said, sound-history, with-ask, verdict-over, verdict-full, verdict-share, verdict-grant}
use Rattle.budget_core.proofs.ledger.Ledger.verdict.Goals as goal

pub returns-then-after-budget-clause-verdict : goal.returns-then-after-budget-clause-verdict
returns-then-after-budget-clause-verdict c =
    let h = c.self.inside.history in
    let after = with-ask h.entry h.records c.args.ask.now c.charge_for.result c.cost_after-after.result (sound-history (ledger_in c.self.inside) c.self.invariant.sound) c.charge_for.ensures.charge c.cost_after-after.ensures.cost in
    let v = verdict-over h.entry (start_of (ledger_in c.self.inside)) h.records c.args.ask.now c.spent-spent.result c.cost_after-after.result c.budget-budget.result c.len-seen.result c.self.inside.unsettled
    c.spent-spent.ensures after c.budget-budget.ensures.budget c.len-seen.ensures (run-open c.self.inside c.self.invariant) c.if-after-budget.true in
    rw (← c.self.view_is) cc

pub returns-then-seen-self-clause-verdict : goal.returns-then-seen-self-clause-verdict
returns-then-seen-self-clause-verdict c =
    let h = c.self.inside.history in
    let after = with-ask h.entry h.records c.args.ask.now c.charge_for.result c.cost_after-after.result (sound-history (ledger_in c.self.inside) c.self.invariant.sound) c.charge_for.ensures.charge c.cost_after-after.ensures.cost in
    let capacity : c.capacity-capacity.result ≡ h.entry.capacity = c.capacity-capacity.ensures.capacity ∙ ap (λ (e : Entry). e.capacity) c.entry.ensures in
    let v = verdict-full h.entry (start_of (ledger_in c.self.inside)) h.records c.args.ask.now c.spent-spent.result c.cost_after-after.result c.budget-budget.result c.len-seen.result c.self.inside.unsettled
    c.spent-spent.ensures after c.budget-budget.ensures.budget c.len-seen.ensures (run-open c.self.inside c.self.invariant) c.if-after-budget.false (omega (arith, c.if-seen-self.true, capacity)) in
    rw (← c.self.view_is) cc

pub returns-in-Some-clause-verdict : goal.returns-in-Some-clause-verdict
returns-in-Some-clause-verdict c =
    let h = c.self.inside.history in
    let after = with-ask h.entry h.records c.args.ask.now c.charge_for.result c.cost_after-after.result (sound-history (ledger_in c.self.inside) c.self.invariant.sound) c.charge_for.ensures.charge c.cost_after-after.ensures.cost in
    let capacity : c.capacity-capacity.result ≡ h.entry.capacity = c.capacity-capacity.ensures.capacity ∙ ap (λ (e : Entry). e.capacity) c.entry.ensures in
    let said = subst (λ (l : Ledger). Said l.entry l.records c.args.ask.now c.over_share.result) (sym c.self.view_is) c.over_share.ensures in
    let v = verdict-share h.entry (start_of (ledger_in c.self.inside)) h.records c.args.ask.now c.spent-spent.result c.cost_after-after.result c.budget-budget.result c.len-seen.result c.self.inside.unsettled
    c.spent-spent.ensures after c.budget-budget.ensures.budget c.len-seen.ensures (run-open c.self.inside c.self.invariant)
    c.if-after-budget.false (omega (arith, c.if-seen-self.false, capacity)) c.in-Some.fault (sym c.in-Some.is ∙ said) in
    rw (← c.self.view_is) cc

pub returns-in-None-clause-verdict : goal.returns-in-None-clause-verdict
returns-in-None-clause-verdict c =
    let h = c.self.inside.history in
    let after = with-ask h.entry h.records c.args.ask.now c.charge_for.result c.cost_after-after.result (sound-history (ledger_in c.self.inside) c.self.invariant.sound) c.charge_for.ensures.charge c.cost_after-after.ensures.cost in
    let capacity : c.capacity-capacity.result ≡ h.entry.capacity = c.capacity-capacity.ensures.capacity ∙ ap (λ (e : Entry). e.capacity) c.entry.ensures in
    let said = subst (λ (l : Ledger). Said l.entry l.records c.args.ask.now c.over_share.result) (sym c.self.view_is) c.over_share.ensures in
    let v = verdict-grant h.entry (start_of (ledger_in c.self.inside)) h.records c.args.ask.now c.spent-spent.result c.cost_after-after.result c.budget-budget.result c.len-seen.result c.self.inside.unsettled
    c.spent-spent.ensures after c.budget-budget.ensures.budget c.len-seen.ensures (run-open c.self.inside c.self.invariant)
    c.if-after-budget.false (omega (arith, c.if-seen-self.false, capacity)) (sym c.in-None.is ∙ said) c.reservations.result c.reservations.ensures in
    rw (← c.self.view_is) cc
