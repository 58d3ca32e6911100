-- What is left to prove of env::Env::plus.
use Rattle.std.proofs.Common.{refl, subst}
use Rattle.fz_frac.specs.Distance.{Distance, ◌≈◌, add}
use Rattle.fz_frac.specs.Sens.{distance_of}
use Rattle.fz_ast.specs.Names.{name_of}
use Rattle.linear_types.specs.Environment.{sum_of}
use Rattle.linear_types.proofs.Alike.{add_none}
use Rattle.linear_types.proofs.Entries.{env_of, finish_at, item_at, known, out_at, started, step}
use Rattle.linear_types.proofs.env.Env.plus.Goals as goal

pub loop-entry-init : goal.loop-entry-init
loop-entry-init c = started c.in_ok-sum.sum c.args.self.now add add_none c.in_ok-sum.ensures.same c.in_ok-sum.ensures.in_range

pub loop-entry-preserved : goal.loop-entry-preserved
loop-entry-preserved c =
    let k = known c.args.self.now c.amount.result c.as_bytes.result.now (name_of c.entry-item.result.name) c.amount.ensures c.as_bytes.ensures in
    let h = subst (λ (d : Distance). distance_of c.in_ok-r.r ≈ add d (distance_of c.entry-item.result.r)) k c.in_ok-r.ensures.exact in
    step c.loop-entry.sum c.set.new.self c.args.self.now add c.deref-entry-items.result.now c.loop-entry.entry-index c.entry-item.result c.in_ok-r.r c.loop-entry.invariant
    (env_of c.other.inside.entries.items c.deref-entry-items.result.now c.deref-entry-items.ensures.value c.other.invariant) c.loop-entry-test.true c.entry-item.is c.in_ok-set.ensures.set h

pub returns : goal.returns
returns c = finish_at c.loop-entry.sum c.args.self.now c.args.other.now add c.other.inside.entries.items c.deref-entry-items.result.now c.loop-entry.entry-index c.loop-entry.invariant c.loop-entry-test.false c.deref-entry-items.ensures.value c.other.view_is

pub returns-in_err-r : goal.returns-in_err-r
returns-in_err-r c =
    let k = known c.args.self.now c.amount.result c.as_bytes.result.now (name_of c.entry-item.result.name) c.amount.ensures c.as_bytes.ensures in
    let i = item_at c.args.other.now c.other.inside.entries.items c.deref-entry-items.result.now c.loop-entry.entry-index c.entry-item.result c.deref-entry-items.ensures.value c.other.view_is c.other.invariant c.loop-entry-test.true c.entry-item.is in
    out_at c.from_residual-in_err-r.result (sum_of c.args.self.now c.args.other.now) (name_of c.entry-item.result.name) c.from_residual-in_err-r.ensures.0 (rw (← k, ← i) (c.in_err-r.ensures.range.0 refl))
