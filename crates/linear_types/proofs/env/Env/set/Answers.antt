-- What is left to prove of env::Env::set.
use Rattle.std.proofs.Common.{◌≡◌, false, sym, subst, ◌∙◌}
use Rattle.fz_frac.specs.Distance.{Distance, is_le, none}
use Rattle.fz_frac.specs.Sens.{distance_of}
use Rattle.fz_ast.specs.Names.{name_of}
use Rattle.fz_ast.specs.Terms.{Name}
use Rattle.linear_types.specs.Environment.{IsSet}
use Rattle.linear_types.proofs.Entries.{absent_of, env_pushed, env_put, place_of, pushed_at, put_at, zero_is}
use Rattle.linear_types.proofs.env.Env.set.Goals as goal

pub returns-then-le-clause-set : goal.returns-then-le-clause-set
returns-then-le-clause-set c =
    let z = zero_is c.args.r (rw (← c.whole.ensures) (sym c.le.ensures ∙ c.if-le.true)) in
    subst (λ (d : Distance). IsSet c.args.self.now (name_of c.args.name) d c.remove.new.self) (sym z)
    (subst (λ (x : Name). IsSet c.args.self.now x none c.remove.new.self) c.as_bytes.ensures c.remove.ensures.removed)

pub invariant_of-self : goal.invariant_of-self
invariant_of-self c =
    let z : is_le (distance_of c.args.r) none ≡ false = rw (← c.whole.ensures) (sym c.le.ensures ∙ c.if-le.false) in
    let p = place_of c.self.inside.entries.items c.deref.result.now (name_of c.args.name) c.as_bytes-2.result.now c.in-Some.i c.deref.ensures.value c.as_bytes-2.ensures c.in-Some.ensures in
    env_put c.self.inside.entries.items c.in-Some.i (record { name = c.args.name; r = c.args.r }) c.self.invariant p z

pub invariant_of-self-in-Continue-1 : goal.invariant_of-self-in-Continue-1
invariant_of-self-in-Continue-1 c =
    let z : is_le (distance_of c.args.r) none ≡ false = rw (← c.whole.ensures) (sym c.le.ensures ∙ c.if-le.false) in
    let h = absent_of c.self.inside.entries.items c.deref.result.now (name_of c.args.name) c.as_bytes-2.result.now c.deref.ensures.value c.as_bytes-2.ensures c.in-None.ensures in
    rw c.in_ok-push-in-None.ensures.items (env_pushed c.self.inside.entries.items (record { name = c.args.name; r = c.args.r }) c.self.invariant h z)

pub returns-in-Some-clause-set : goal.returns-in-Some-clause-set
returns-in-Some-clause-set c =
    let p = place_of c.self.inside.entries.items c.deref.result.now (name_of c.args.name) c.as_bytes-2.result.now c.in-Some.i c.deref.ensures.value c.as_bytes-2.ensures c.in-Some.ensures in
    put_at c.args.self.now c.self.inside.entries.items c.in-Some.i (record { name = c.args.name; r = c.args.r }) c.self.view_is c.self.invariant p

pub returns-in_ok-push-in-None-clause-set : goal.returns-in_ok-push-in-None-clause-set
returns-in_ok-push-in-None-clause-set c =
    let h = absent_of c.self.inside.entries.items c.deref.result.now (name_of c.args.name) c.as_bytes-2.result.now c.deref.ensures.value c.as_bytes-2.ensures c.in-None.ensures in
    pushed_at c.args.self.now c.self.inside.entries.items c.push.new.self.items (record { name = c.args.name; r = c.args.r }) c.self.view_is c.in_ok-push-in-None.ensures.items h
