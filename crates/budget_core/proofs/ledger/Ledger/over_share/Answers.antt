use Rattle.std.proofs.Common.{◌≡◌, ◌∙◌, Some, sym, ap}
use Rattle.budget_core.specs.Entries.{Entry, limit_of}
use Rattle.budget_core.specs.Run.{ledger_in}
use Rattle.budget_core.proofs.SoundLemmas.{sound-history, share-within, share-over}
use Rattle.budget_core.proofs.ledger.Ledger.over_share.Goals as goal

pub returns-then-after-limit : goal.returns-then-after-limit
returns-then-after-limit c =
    let h = c.self.inside.history in
    let is : limit_of h.entry c.args.ask.now.analyst ≡ Some c.in_ok-limit.limit
    = sym (c.limit.ensures ∙ ap (λ (e : Entry). limit_of e c.args.ask.now.analyst) c.entry.ensures) ∙ c.in_ok-limit.was in
    let said = share-within h.entry h.records c.args.ask.now c.charge_for-charge.result c.spent_after-after.result c.in_ok-limit.limit
    (sound-history (ledger_in c.self.inside) c.self.invariant.sound) c.charge_for-charge.ensures.charge c.spent_after-after.ensures is c.if-after-limit.true in
    rw (← c.self.view_is) said

pub returns : goal.returns
returns c =
    let h = c.self.inside.history in
    let is : limit_of h.entry c.args.ask.now.analyst ≡ Some c.in_ok-limit.limit
    = sym (c.limit.ensures ∙ ap (λ (e : Entry). limit_of e c.args.ask.now.analyst) c.entry.ensures) ∙ c.in_ok-limit.was in
    let said = share-over h.entry h.records c.args.ask.now c.charge_for-charge.result c.spent_after-after.result c.in_ok-limit.limit
    (sound-history (ledger_in c.self.inside) c.self.invariant.sound) c.charge_for-charge.ensures.charge c.spent_after-after.ensures is c.if-after-limit.false
    c.spent_by.result c.len.result c.spent_by.ensures c.len.ensures in
    rw (← c.self.view_is) said
