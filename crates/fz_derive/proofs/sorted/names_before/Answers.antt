use Rattle.std.proofs.Common.{◌∙◌, sym, subst}
use Rattle.fz_ast.specs.Names.{name_of}
use Rattle.fz_derive.proofs.Putting.{found_kept, further_kept, past_kept}
use Rattle.fz_derive.proofs.sorted.names_before.Goals as goal

pub returns-in_default : goal.returns-in_default
returns-in_default c =
    found_kept (name_of c.args.x.now) c.args.names.now c.loop-i.i c.index-names-i.result c.loop-i-test.true c.index-names-i.is (λ k. c.in_default.not-Greater (c.byte_order.ensures ∙ k)) c.loop-i.invariant

pub loop-i-preserved : goal.loop-i-preserved
loop-i-preserved c =
    further_kept (name_of c.args.x.now) c.args.names.now c.loop-i.i c.index-names-i.result c.loop-i-test.true c.index-names-i.is (sym c.byte_order.ensures ∙ c.in-Greater.is) c.loop-i.invariant
