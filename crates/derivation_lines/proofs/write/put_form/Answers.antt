use Rattle.std.proofs.Common.{refl, List, ◌++◌, append_assoc, ◌≡◌, ℕ, ap, sym, arith}
use Rattle.std.specs.Prelude.{codes}
use Rattle.fz_frac.specs.Sens.{distance_of}
use Rattle.fz_ast.specs.TypeNodes.{type_at}
use Rattle.derivation_lines.specs.Written.{amount_text, type_text}
use Rattle.derivation_lines.proofs.Pending.{writes_front}
use Rattle.derivation_lines.proofs.write.put_form.Goals as goal

pub returns-in-Tensor : goal.returns-in-Tensor
returns-in-Tensor c = λ T k h. let k' = rw c.in-Tensor.is at k in rw c.in-Tensor.is (c.put_infix.ensures T (codes "*") refl tt k' h)

pub returns-in-With : goal.returns-in-With
returns-in-With c = λ T k h. let k' = rw c.in-With.is at k in rw c.in-With.is (c.put_infix-in-With.ensures T (codes "&") refl tt k' h)

pub returns-in-Sum : goal.returns-in-Sum
returns-in-Sum c = λ T k h. let k' = rw c.in-Sum.is at k in rw c.in-Sum.is (c.put_infix-in-Sum.ensures T (codes "+") refl tt k' h)

pub returns-in-Arrow : goal.returns-in-Arrow
returns-in-Arrow c = λ T k h. let k' = rw c.in-Arrow.is at k in rw c.in-Arrow.is (c.put_infix-in-Arrow.ensures T (codes "-o") refl tt k' h)

pub returns-in_ok-push-in-Bang : goal.returns-in_ok-push-in-Bang
returns-in_ok-push-in-Bang c = λ T k h.
    let k' = rw c.in-Bang.is at k in
    let r : List ℕ = amount_text (distance_of c.in-Bang.r) in let A : List ℕ = type_text (type_at T c.in-Bang.a) in
    let e : codes "![" ++ (r ++ (codes "] " ++ A)) ≡ (codes "![" ++ (r ++ codes "] ")) ++ A = ap (λ w. codes "![" ++ w) (sym (append_assoc r (codes "] ") A)) in
    rw c.in-Bang.is (writes_front T _ (codes "![" ++ (r ++ codes "] ")) _ _ _ _ c.in-Bang.a (omega arith)
    (rw (c.in_ok-extend_from_slice-in-Bang-2.ensures.items, c.in_ok-put_amount-in-Bang.ensures, c.in_ok-extend_from_slice-in-Bang.ensures.items) (simp append_assoc))
    c.in_ok-push-in-Bang.ensures.items e k' h)

pub returns-in_ok-push-in-Bag : goal.returns-in_ok-push-in-Bag
returns-in_ok-push-in-Bag c = λ T k h.
    let k' = rw c.in-Bag.is at k in
    rw c.in-Bag.is (writes_front T _ (codes "bag ") _ _ _ _ c.in-Bag.a (omega arith) c.in_ok-extend_from_slice-in-Bag.ensures.items c.in_ok-push-in-Bag.ensures.items refl k' h)
