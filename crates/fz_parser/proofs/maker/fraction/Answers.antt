use Rattle.std.proofs.Common.{ap, ◌∙◌, subst}
use Rattle.std.specs.Prelude.{IfOk}
use Rattle.fz_frac.specs.Distance.{Fin, ◌≈◌}
use Rattle.fz_parser.specs.Parts.{FactorPart}
use Rattle.fz_parser.proofs.Makers.{fits, is_ok, lowest_is}
use Rattle.fz_parser.proofs.maker.fraction.Goals as goal

pub unwrap-fraction-requires : goal.unwrap-fraction-requires
unwrap-fraction-requires c = is_ok c.new.result _ c.new.ensures.range (fits c.positive-p.result c.positive-q.result c.positive-q.ensures.some c.positive-p.type_inv c.positive-q.type_inv)

pub returns-clause-is : goal.returns-clause-is
returns-clause-is c = λ w.
    let e : Fin c.unwrap-fraction.result.p c.unwrap-fraction.result.q ≈ Fin c.positive-p.result c.positive-q.result =
    subst (λ r. IfOk r (λ f. Fin f.p f.q ≈ Fin c.positive-p.result c.positive-q.result)) c.unwrap-fraction.ensures c.new.ensures.exact in
    ap FactorPart (lowest_is c.unwrap-fraction.result c.positive-p.result c.positive-q.result c.positive-q.ensures.some e) ∙ cc (c.positive-p.ensures.is, c.positive-q.ensures.is)
