-- What is returned where the values of a type are compared.
use Rattle.std.proofs.Common.{◌≡◌, ◌∙◌, sym}
use Rattle.std.proofs.lemmas.Bool.{false≢true}
use Rattle.fz_ast.specs.TypeNodes.{type_at}
use Rattle.fz_frac.specs.Sens.{distance_of}
use Rattle.value_distance.proofs.Typed.{bang_returned, left_returned, not_unequal, right_returned, tensor_returned, with_returned}
use Rattle.value_distance.proofs.values.+types.Goals as goal

pub between-returns-in_ok-first-in-Tensor : goal.between-returns-in_ok-first-in-Tensor
between-returns-in_ok-first-in-Tensor t c =
    tensor_returned (type_at c.args.types.now c.args.i) (type_at c.args.types.now c.in-Tensor.a) (type_at c.args.types.now c.in-Tensor.b) c.args.v.now c.args.w.now c.in_ok-first-in-Tensor.first c.in_ok-first-in-Tensor.second c.add.result c.ok_or.result
    c.in-Tensor.ensures.form c.requires.left c.requires.right c.in_ok-first-in-Tensor.ensures c.add.ensures.exact c.add.ensures.range c.ok_or.ensures.value

pub between-returns-in_ok-first-in-With : goal.between-returns-in_ok-first-in-With
between-returns-in_ok-first-in-With t c =
    with_returned (type_at c.args.types.now c.args.i) (type_at c.args.types.now c.in-With.a) (type_at c.args.types.now c.in-With.b) c.args.v.now c.args.w.now c.in_ok-first-in-With.first c.in_ok-first-in-With.second c.max.result
    c.in-With.ensures.form c.requires.left c.requires.right c.in_ok-first-in-With.ensures c.max.ensures

pub between_banged-returns : goal.between_banged-returns
between_banged-returns t c =
    bang_returned (distance_of c.args.r) (type_at c.args.types.now c.args.a) c.args.v.now c.args.w.now _ _ c.in_ok-held.held c.times.result c.ok_or.result
    c.requires.left c.requires.right c.in_ok-inside.ensures c.in_ok-other_inside.ensures c.in_ok-held.ensures c.times.ensures.exact c.times.ensures.range c.ok_or.ensures.value

pub between_sides-returns-then-on_left : goal.between_sides-returns-then-on_left
between_sides-returns-then-on_left t c =
    let e : c.is_left-on_left.result ≡ c.is_left-other_on_left.result = not_unequal c.is_left-on_left.result c.is_left-other_on_left.result c.if-on_left-other_on_left.false in
    left_returned (type_at c.args.types.now c.args.a) (type_at c.args.types.now c.args.b) c.args.v.now c.args.w.now _ _ c.between.result
    (c.is_left-on_left.ensures.left c.if-on_left.true) (c.is_left-other_on_left.ensures.left (sym e ∙ c.if-on_left.true)) c.in_ok-side.ensures c.in_ok-other_side.ensures c.between.ensures

pub between_sides-returns : goal.between_sides-returns
between_sides-returns t c =
    let e : c.is_left-on_left.result ≡ c.is_left-other_on_left.result = not_unequal c.is_left-on_left.result c.is_left-other_on_left.result c.if-on_left-other_on_left.false in
    let f = sym c.if-on_left.false in
    right_returned (type_at c.args.types.now c.args.a) (type_at c.args.types.now c.args.b) c.args.v.now c.args.w.now _ _ c.between-else-on_left.result
    (c.is_left-on_left.ensures.right (λ h. false≢true (f ∙ h))) (c.is_left-other_on_left.ensures.right (λ h. false≢true (f ∙ e ∙ h))) c.in_ok-side.ensures c.in_ok-other_side.ensures c.between-else-on_left.ensures
