-- What is left to prove of env::Env::amount.
use Rattle.std.proofs.Common.{refl, subst, sym, ◌∙◌}
use Rattle.linear_types.proofs.Entries.{absent_none, absent_of, found_at, place_of}
use Rattle.linear_types.specs.Environment.{Amounts, IsAbsent}
use Rattle.linear_types.proofs.env.Env.amount.Goals as goal

pub returns-in-Some : goal.returns-in-Some
returns-in-Some c =
    let p = place_of c.self.inside.entries.items c.deref.result.now c.args.name.now c.args.name.now c.in-Some.i c.deref.ensures.value refl c.in-Some.ensures in
    found_at c.args.self.now c.self.inside.entries.items c.in-Some.i c.args.name.now c.index.result.now c.self.view_is c.self.invariant p c.index.ensures

pub returns-in-None : goal.returns-in-None
returns-in-None c =
    let h = absent_of c.self.inside.entries.items c.deref.result.now c.args.name.now c.args.name.now c.deref.ensures.value refl c.in-None.ensures in
    c.whole.ensures ∙ sym (absent_none c.args.name.now c.args.self.now (subst (λ (L : Amounts). IsAbsent c.args.name.now L) c.self.view_is h))
