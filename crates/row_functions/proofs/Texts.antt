-- Functions of rows give texts, and no others, which are computed.
use Rattle.std.proofs.Common.{ap, arith, refl, subst, sym, ◌∙◌}
use Rattle.std.specs.Prelude.{List, max, ℕ, ◌≡◌, ◌≤◌}
use Rattle.fz_ast.specs.Limits.{IsText, TermLimits}
use Rattle.fz_ast.specs.Terms.{Term}
use Rattle.fz_ast.specs.Types.{BangT, TextT, Ty, UnlimitedT}
use Rattle.fz_frac.specs.Distance.{Inf}
use Rattle.linear_types.proofs.Sound.{sound}
use Rattle.linear_types.specs.Typing.{Closed}
use Rattle.metric_law.proofs.Fine.{fine}
use Rattle.metric_law.proofs.FlatTyping.{typed_flat}
use Rattle.metric_law.proofs.Heights.{applies_up, raise}
use Rattle.metric_law.proofs.Unique.{same_value}
use Rattle.metric_law.specs.Law.{typed_empty}
use Rattle.metric_law.specs.Means.{Applies, Means, MeansIn, apply, apply_fn}
use Rattle.metric_law.specs.Near.{TypedText, typed_bang, typed_text}
use Rattle.metric_values.specs.Typed.{TypedFlat}
use Rattle.metric_values.specs.Values.{BangV, Empty, Flat, TextV, Value, value_of}
use Rattle.run_values.specs.Parts.{text_in}
use Rattle.row_functions.proofs.Computed.{applies_computed, means_computed}
use Rattle.row_functions.specs.Computed.{applied, computed, given}
use Rattle.row_functions.specs.Laws.{RowFunctionsGiveTexts, TextsAreComputed, TextsAreUnique}
use Rattle.row_functions.specs.RowFunctions.{GivesText, GivesTextIn, IsRowFunction, depth_limit, row_text}

-- a derivation of a function's result has a height
some_height : {c u v : Value} → Applies Means c u v → (n : ℕ) × Applies (MeansIn n) c u v
some_height (apply h) = (h.0, apply h.1)
some_height (apply_fn h) = (h.0, apply_fn h.1)

up_to : (n m : ℕ) → n ≤ m → {c u v : Value} → Applies (MeansIn n) c u v → Applies (MeansIn m) c u v
up_to n m l h = applies_up (MeansIn n) (MeansIn m) (raise n m l) h

text_value : (v : Value) → TypedText v → (s : List ℕ) × (v ≡ TextV s) × IsText s
text_value _ (typed_text {s = s} l) = (s, refl, l)

pub gives_texts : RowFunctionsGiveTexts
gives_texts row t x l f k =
    let ok = fine tt (sound t Closed l (UnlimitedT row TextT) f.0 f.1) Empty typed_empty in
    let c = ok.has.0 in
    let m = ok.has.1 in
    let function = ok.all m.0 c m.1 in
    let a = typed_bang (typed_flat row x k) in
    let r = function.has (BangV (value_of x)) a in
    let s = text_value r.0 (function.all (BangV (value_of x)) a r.0 r.1) in
    let h = some_height (subst (λ v. Applies Means c (BangV (value_of x)) v) s.1 r.1) in
    let n = max m.0 h.0 in
    (s.0, (n, (c, raise m.0 n (omega arith) Empty t c m.1, up_to h.0 n (omega arith) h.1)), s.2)

text_inj : (s u : List ℕ) → TextV s ≡ TextV u → s ≡ u
text_inj s u e = ap text_in e

pub applies_same : (n m : ℕ) {c u v w : Value} → Applies (MeansIn n) c u v → Applies (MeansIn m) c u w → v ≡ w
applies_same n m (apply h) (apply k) = same_value n m _ _ _ _ h k
applies_same n m (apply_fn h) (apply_fn k) = same_value n m _ _ _ _ h k

pub one_text : TextsAreUnique
one_text t x s u h k =
    let e = same_value h.0 k.0 Empty t h.1.0 k.1.0 h.1.1 k.1.1 in
    text_inj s u (applies_same h.0 k.0 (subst (λ c. Applies (MeansIn h.0) c (BangV (value_of x)) (TextV s)) e h.1.2) k.1.2)

pub text_computed : TextsAreComputed
unfolding row_text
text_computed n t x s l h =
    let m = means_computed depth_limit Empty t h.0 (raise n depth_limit l Empty t h.0 h.1) in
    let a = applies_computed depth_limit h.0 (BangV (value_of x)) (TextV s) (up_to n depth_limit l h.2) in
    sym (ap text_in (a ∙ ap (λ c. given (computed depth_limit) c x) m))
