-- What is left to prove of env::Env::join.
use Rattle.std.proofs.Common.{ap, subst, sym, ◌∙◌}
use Rattle.fz_frac.specs.Distance.{Distance, ◌≈◌, greater}
use Rattle.fz_frac.specs.Sens.{distance_of}
use Rattle.linear_types.specs.Environment.{amount_of}
use Rattle.fz_frac.proofs.Laws.{≈-refl}
use Rattle.fz_ast.specs.Names.{name_of}
use Rattle.linear_types.proofs.Alike.{greater_none}
use Rattle.linear_types.proofs.Entries.{env_of, finish_at, known, started, step}
use Rattle.linear_types.proofs.env.Env.join.Goals as goal

pub loop-entry-init : goal.loop-entry-init
loop-entry-init c = started c.in_ok-join.join c.args.self.now greater greater_none c.in_ok-join.ensures.same c.in_ok-join.ensures.in_range

pub loop-entry-preserved : goal.loop-entry-preserved
loop-entry-preserved c =
    let k = known c.args.self.now c.amount.result c.as_bytes.result.now (name_of c.entry-item.result.name) c.amount.ensures c.as_bytes.ensures in
    let h = subst (λ (d : Distance). d ≈ greater (amount_of c.args.self.now (name_of c.entry-item.result.name)) (distance_of c.entry-item.result.r)) (sym (c.max-r.ensures ∙ ap (λ (d : Distance). greater d (distance_of c.entry-item.result.r)) k)) (≈-refl _) in
    step c.loop-entry.join c.set.new.self c.args.self.now greater c.deref-entry-items.result.now c.loop-entry.entry-index c.entry-item.result c.max-r.result c.loop-entry.invariant
    (env_of c.other.inside.entries.items c.deref-entry-items.result.now c.deref-entry-items.ensures.value c.other.invariant) c.loop-entry-test.true c.entry-item.is c.in_ok-set.ensures.set h

pub returns : goal.returns
returns c = finish_at c.loop-entry.join c.args.self.now c.args.other.now greater c.other.inside.entries.items c.deref-entry-items.result.now c.loop-entry.entry-index c.loop-entry.invariant c.loop-entry-test.false c.deref-entry-items.ensures.value c.other.view_is
