use Rattle.fz_ast.specs.TypeNodes.{type_at}
use Rattle.fz_frac.specs.Distance.{greater}
use Rattle.linear_types.specs.Sensitivities.{first, rest, join, above_zero}
use Rattle.linear_types.specs.Places.{AreAlike, distances}
use Rattle.std.proofs.Common.{sym, subst, List}
use Rattle.fz_frac.specs.declared.sens.Sens.{Sens}
use Rattle.typing_rows.proofs.Answering.{first_by, rest_by, greater_by, above_by, branches_says}
use Rattle.typing_rows.proofs.branches.branches.Goals as goal

pub returns : goal.returns
returns c = record {
  says = λ F D E l g h.
      let o = c.args.o.now in
      let p = c.args.p.now in
      let a = first_by o.amounts.items c.deref.result.now D c.first_of.result c.deref.ensures.value c.first_of.ensures g in
      let b = first_by p.amounts.items c.deref-2.result.now E c.first_of-2.result c.deref-2.ensures.value c.first_of-2.ensures h in
      let r = above_by c.max.result c.above_zero-r.result (greater (first D) (first E)) c.above_zero-r.ensures (greater_by c.first_of.result c.first_of-2.result c.max.result (first D) (first E) c.max.ensures a b) in
      let d = rest_by o.amounts.items c.deref-3.result.now c.rest_of.result.now D c.deref-3.ensures.value c.rest_of.ensures g in
      let e = rest_by p.amounts.items c.deref-4.result.now c.rest_of-2.result.now E c.deref-4.ensures.value c.rest_of-2.ensures h in
      let j = subst (λ (v : List Sens). AreAlike (distances v) (join (rest D) (rest E))) (sym c.deref-5.ensures.value) (c.in_ok-amounts.ensures (rest D) (rest E) d e) in
      branches_says c.args.arena.now c.bound.result c.args.s c.args.w F (type_at c.args.arena.now o.ty) D (type_at c.args.arena.now p.ty) E c.if-not-same.ensures c.if-not-is_ground.ensures
      (c.bound.ensures c.args.arena.now (above_zero (greater (first D) (first E))) F (join (rest D) (rest E)) c.requires.o_known r l j);
}
