use Rattle.std.proofs.Common.{sym, ◌≡◌, ◌∙◌, subst}
use Rattle.owner_lock.specs.Passes.{known}
use Rattle.budget_core.specs.Answers.{recalled}
use Rattle.budget_core.specs.Ledger.{Ledger}
use Rattle.owner_desk.specs.Passes.{ledger_on}
use Rattle.owner_desk.specs.Answers.{HasLooked}
use Rattle.owner_desk.specs.Watched.{Watched}
use Rattle.owner_desk.specs.Shared.{Shared, opened_in, pass_with}
use Rattle.owner_desk.proofs.Calls.{has_looked}
use Rattle.owner_desk.proofs.desk.Desk+D.recall.Goals as goal

pub returns-clause-told : goal.returns-clause-told
returns-clause-told g c =
    let (x, y, meets, called, after) = c.with.ensures.ran in
    let v = known c.pass.inside.ticket in
    let w = known c.with.new.pass in
    let still : x ≡ y = sym called.shows ∙ (sym called.met.1 ∙ called.leaves) in
    let told : c.with.result ≡ recalled (ledger_on x.opened x.records) c.args.number c.args.analyst =
    subst (λ (z : Watched). c.with.result ≡ recalled (ledger_on z.opened z.records) c.args.number c.args.analyst) called.shows called.met.0 in
    subst (λ (p : Shared). HasLooked p.knows (λ (ledger : Ledger). c.with.result ≡ recalled ledger c.args.number c.args.analyst) (pass_with (opened_in w.fixed) w)) c.pass.view_is
    (has_looked (opened_in v.fixed) v w x y meets after c.pass.invariant (λ (ledger : Ledger). c.with.result ≡ recalled ledger c.args.number c.args.analyst) told still)
