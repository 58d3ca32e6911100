use Rattle.fz_frac.specs.Distance.{greater}
use Rattle.linear_types.specs.Sensitivities.{first, rest}
use Rattle.std.proofs.Common.{refl}
use Rattle.typing_rows.proofs.Answering.{first_by, rest_by, greater_by}
use Rattle.typing_rows.proofs.products.let_pair.Goals as goal

pub returns : goal.returns
returns c = record {
  says = λ T E D k g h.
      let o = c.args.o.now in
      let left = rest_by o.amounts.items c.deref.result.now c.rest_of-others.result.now D c.deref.ensures.value c.rest_of-others.ensures h in
      let x = first_by c.rest_of-others.result.now c.rest_of-others.result.now (rest D) c.first_of.result refl c.first_of.ensures left in
      let y = first_by o.amounts.items c.deref-2.result.now D c.first_of-2.result c.deref-2.ensures.value c.first_of-2.ensures h in
      let r = greater_by c.first_of.result c.first_of-2.result c.max-r.result (first (rest D)) (first D) c.max-r.ensures x y in
      let l = rest_by c.rest_of-others.result.now c.rest_of-others.result.now c.rest_of.result.now (rest D) refl c.rest_of.ensures left in
      c.bound.ensures T (greater (first (rest D)) (first D)) E (rest (rest D)) k r g l;
}
