use Rattle.std.proofs.Common.{refl, inl, inr}
use Rattle.std.specs.Prelude.{codes}
use Rattle.derivation_lines.proofs.count.form_length.Goals as goal

pub returns-in-Arrow : goal.returns-in-Arrow
returns-in-Arrow c = λ T h. let k = rw c.in-Arrow.is at c.requires in rw c.in-Arrow.is (c.infix_length.ensures (codes "-o") _ _ refl (h.each c.in-Arrow.a k.0) (h.each c.in-Arrow.b k.1))

pub returns-in-Tensor : goal.returns-in-Tensor
returns-in-Tensor c = λ T h. elim c.in-Tensor.is [
  | inl e ↦ let k = rw e at c.requires in rw e (c.infix_length-in-Tensor.ensures (codes "*") _ _ refl (h.each c.in-Tensor.a k.0) (h.each c.in-Tensor.b k.1))
  | inr e ↦ elim e [
    | inl e ↦ let k = rw e at c.requires in rw e (c.infix_length-in-Tensor.ensures (codes "&") _ _ refl (h.each c.in-Tensor.a k.0) (h.each c.in-Tensor.b k.1))
    | inr e ↦ let k = rw e at c.requires in rw e (c.infix_length-in-Tensor.ensures (codes "+") _ _ refl (h.each c.in-Tensor.a k.0) (h.each c.in-Tensor.b k.1))
  ]
]
