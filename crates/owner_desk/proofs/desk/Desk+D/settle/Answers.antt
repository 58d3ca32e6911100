use Rattle.std.proofs.Common.{sym, ap, ◌≡◌, ◌∙◌, subst}
use Rattle.owner_lock.specs.Passes.{known}
use Rattle.budget_core.specs.Ledger.{returned_by, settlement_for, IsUnsettled}
use Rattle.budget_core.specs.Sound.{IsSound}
use Rattle.budget_ledger.specs.Booked.{IsSettlementOf}
use Rattle.owner_desk.specs.Passes.{ledger_on}
use Rattle.owner_desk.specs.Answers.{HasGranted, HasSettled}
use Rattle.owner_desk.specs.Watched.{Watched, account_at}
use Rattle.owner_desk.specs.Shared.{Shared, opened_in, pass_with}
use Rattle.owner_desk.proofs.Calls.{has_settled, owes, settled_goes}
use Rattle.owner_desk.proofs.Meeting.{closes_own, may_settle}
use Rattle.owner_desk.proofs.desk.Desk+D.settle.Goals as goal

pub with-requires-clause-can : goal.with-requires-clause-can
with-requires-clause-can g c = λ x m p is.
    let v = known c.pass.inside.ticket in
    let mine : HasGranted (pass_with (opened_in v.fixed) v) c.args.number = subst (λ (p : Shared). HasGranted p.knows c.args.number) (sym c.pass.view_is) c.requires.granted in
    subst (λ (z : Watched). IsUnsettled (ledger_on z.opened z.records) c.args.number) (sym is)
    (may_settle (opened_in v.fixed) v x c.pass.invariant m mine.place mine.reserved mine.granted c.args.number mine.numbered mine.unsettled)

pub with-requires-clause-owes : goal.with-requires-clause-owes
with-requires-clause-owes g c = λ x y r m called.
    let v = known c.pass.inside.ticket in
    let mine : HasGranted (pass_with (opened_in v.fixed) v) c.args.number = subst (λ (p : Shared). HasGranted p.knows c.args.number) (sym c.pass.view_is) c.requires.granted in
    let said : IsSettlementOf (account_at x) c.args.number c.args.outcome r (account_at y) =
    subst (λ (z : Watched). IsSettlementOf (account_at z) c.args.number c.args.outcome r (account_at y)) called.shows
    (subst (λ (z : Watched). IsSettlementOf (account_at called.shown.now) c.args.number c.args.outcome r (account_at z)) called.leaves called.met.0) in
    let opened_stays : y.opened ≡ x.opened = sym (ap (λ (z : Watched). z.opened) called.leaves) ∙ (called.met.1.0 ∙ ap (λ (z : Watched). z.opened) called.shows) in
    let sound : IsSound (ledger_on y.opened y.records) = subst (λ (z : Watched). IsSound (ledger_on z.opened z.records)) called.leaves called.met.1.1 in
    owes v x y (settlement_for x.opened.ledger.entry x.records c.args.number c.args.outcome) opened_stays sound
    (closes_own (opened_in v.fixed) v x c.pass.invariant m mine.place mine.reserved mine.granted c.args.number c.args.outcome (returned_by x.opened.ledger.entry x.records c.args.number c.args.outcome) mine.numbered)
    (settled_goes x y c.args.number c.args.outcome r said)

pub returns-clause-settled : goal.returns-clause-settled
returns-clause-settled g c =
    let (x, y, meets, called, after) = c.with.ensures.ran in
    let v = known c.pass.inside.ticket in
    let w = known c.with.new.pass in
    let said : IsSettlementOf (account_at x) c.args.number c.args.outcome c.with.result (account_at y) =
    subst (λ (z : Watched). IsSettlementOf (account_at z) c.args.number c.args.outcome c.with.result (account_at y)) called.shows
    (subst (λ (z : Watched). IsSettlementOf (account_at called.shown.now) c.args.number c.args.outcome c.with.result (account_at z)) called.leaves called.met.0) in
    subst (λ (p : Shared). HasSettled p.knows c.args.number c.args.outcome c.with.result (pass_with (opened_in w.fixed) w)) c.pass.view_is
    (has_settled (opened_in v.fixed) v w x y meets after c.pass.invariant c.args.number c.args.outcome c.with.result said)
