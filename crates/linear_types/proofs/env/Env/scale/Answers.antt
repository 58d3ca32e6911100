-- What is left to prove of env::Env::scale.
use Rattle.std.proofs.Common.{[], refl}
use Rattle.fz_frac.specs.Distance.{mul}
use Rattle.fz_frac.specs.Sens.{distance_of}
use Rattle.fz_ast.specs.Names.{name_of}
use Rattle.linear_types.specs.Environment.{product_of}
use Rattle.linear_types.proofs.Alike.{mul_none}
use Rattle.linear_types.proofs.Entries.{env_of, finish_at, item_at, out_at, started_empty, step}
use Rattle.linear_types.proofs.env.Env.scale.Goals as goal

pub loop-entry-init : goal.loop-entry-init
loop-entry-init c = started_empty c.new-product.result (mul (distance_of c.args.r)) (mul_none (distance_of c.args.r)) c.new-product.ensures

pub loop-entry-preserved : goal.loop-entry-preserved
loop-entry-preserved c =
    step c.loop-entry.product c.set.new.self [] (λ _ d. mul (distance_of c.args.r) d) c.deref-entry-items.result.now c.loop-entry.entry-index c.entry-item.result c.in_ok-mul.field-0 c.loop-entry.invariant
    (env_of c.self.inside.entries.items c.deref-entry-items.result.now c.deref-entry-items.ensures.value c.self.invariant) c.loop-entry-test.true c.entry-item.is c.in_ok-set.ensures.set c.in_ok-mul.ensures.exact

pub returns : goal.returns
returns c = finish_at c.loop-entry.product [] c.args.self.now (λ _ d. mul (distance_of c.args.r) d) c.self.inside.entries.items c.deref-entry-items.result.now c.loop-entry.entry-index c.loop-entry.invariant c.loop-entry-test.false c.deref-entry-items.ensures.value c.self.view_is

pub returns-in_err-mul : goal.returns-in_err-mul
returns-in_err-mul c =
    let i = item_at c.args.self.now c.self.inside.entries.items c.deref-entry-items.result.now c.loop-entry.entry-index c.entry-item.result c.deref-entry-items.ensures.value c.self.view_is c.self.invariant c.loop-entry-test.true c.entry-item.is in
    out_at c.from_residual.result (product_of (distance_of c.args.r) c.args.self.now) (name_of c.entry-item.result.name) c.from_residual.ensures.0 (rw (← i) (c.in_err-mul.ensures.range.0 refl))
