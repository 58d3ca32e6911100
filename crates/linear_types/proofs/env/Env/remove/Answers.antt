-- What is left to prove of env::Env::remove.
use Rattle.std.proofs.Common.{refl, subst, sym, ◌∙◌}
use Rattle.linear_types.proofs.Entries.{absent_none, absent_of, env_removed, found_at, place_of, removed_at, set_absent}
use Rattle.linear_types.specs.Environment.{Amounts, IsAbsent}
use Rattle.linear_types.proofs.env.Env.remove.Goals as goal

pub invariant_of-self : goal.invariant_of-self
invariant_of-self c = rw c.remove.ensures.items (env_removed c.self.inside.entries.items c.in-Some.i c.self.invariant)

pub returns-in-Some-clause-amount : goal.returns-in-Some-clause-amount
returns-in-Some-clause-amount c =
    let p = place_of c.self.inside.entries.items c.deref.result.now c.args.name.now c.args.name.now c.in-Some.i c.deref.ensures.value refl c.in-Some.ensures in
    found_at c.args.self.now c.self.inside.entries.items c.in-Some.i c.args.name.now c.remove.result c.self.view_is c.self.invariant p c.remove.ensures.value

pub returns-in-Some-clause-removed : goal.returns-in-Some-clause-removed
returns-in-Some-clause-removed c =
    let p = place_of c.self.inside.entries.items c.deref.result.now c.args.name.now c.args.name.now c.in-Some.i c.deref.ensures.value refl c.in-Some.ensures in
    removed_at c.args.self.now c.self.inside.entries.items c.remove.new.self.items c.in-Some.i c.args.name.now c.self.view_is c.remove.ensures.items c.self.invariant p

pub returns-in-None-clause-amount : goal.returns-in-None-clause-amount
returns-in-None-clause-amount c =
    let h = absent_of c.self.inside.entries.items c.deref.result.now c.args.name.now c.args.name.now c.deref.ensures.value refl c.in-None.ensures in
    c.whole.ensures ∙ sym (absent_none c.args.name.now c.args.self.now (subst (λ (L : Amounts). IsAbsent c.args.name.now L) c.self.view_is h))

pub returns-in-None-clause-removed : goal.returns-in-None-clause-removed
returns-in-None-clause-removed c =
    let h = absent_of c.self.inside.entries.items c.deref.result.now c.args.name.now c.args.name.now c.deref.ensures.value refl c.in-None.ensures in
    set_absent c.args.name.now c.args.self.now (subst (λ (L : Amounts). IsAbsent c.args.name.now L) c.self.view_is h)
