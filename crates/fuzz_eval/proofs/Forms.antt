-- Each form of node: its parts have values, what they give is what it has, and it has what they give.
use Rattle.std.proofs.Common.{◌≡◌, ℕ, ◌-◌, refl, ap, sym, subst, ◌∙◌, inl, inr, ℤ}
use Rattle.std.specs.Prelude.{Some, IsSome, map}
use Rattle.fz_frac.specs.declared.sens.Sens.{Sens}
use Rattle.fz_ast.specs.Names.{name_of, text_of}
use Rattle.fz_ast.specs.declared.name.Name.{Name}
use Rattle.fz_ast.specs.declared.name.Text.{Text}
use Rattle.fz_ast.specs.declared.span.Span.{Span}
use Rattle.fz_ast.specs.Terms.{Term}
use Rattle.fz_ast.specs.TermNodes.{form_of, term_of}
use Rattle.fz_ast.specs.Types.{Ty}
use Rattle.fz_ast.specs.declared.term.Arrow.{Arrow}
use Rattle.fz_ast.specs.declared.term.Arrow.TheVariants.{Fun, Fn}
use Rattle.fz_ast.specs.declared.term.Form.{Form}
use Rattle.fz_ast.specs.declared.term.Form.TheVariants.{Var, Num, Text as Quoted, Unit as One, Unary as Op, Times, Ranged as Bounded, Inject, Bang, Let, LetBang, If, Case, Lambda}
use Rattle.fz_ast.specs.declared.term.Ranged.{Ranged}
use Rattle.fz_ast.specs.declared.term.Ranged.TheVariants.{Sum, Clip}
use Rattle.fz_ast.specs.declared.term.Side.{Side}
use Rattle.fz_ast.specs.declared.term.Side.TheVariants.{Inl, Inr}
use Rattle.fz_ast.specs.declared.term.Unary.{Unary}
use Rattle.metric_law.specs.Means.{MeansIn, Rules, find}
use Rattle.metric_law.proofs.Unique.{same_value}
use Rattle.metric_values.specs.Values.{BagV, BangV, Bind, Env, InlV, InrV, NumF, NumV, TextV, UnitV, Value}
use Rattle.run_values.specs.Parts.{IsBangValue, IsSum, banged_in, side_in}
use Rattle.flow_values.specs.Views.{IsFunction, function_of, is_fn, is_fun}
use Rattle.fuzz_eval.specs.Steps.{Can1, CanRanged, CanTimes, Gives1, GivesRanged, GivesTimes, HasFormWithin, HasValueWithin, injected}
use Rattle.fuzz_eval.proofs.Steps.{means, rules, unary_parts, unary_whole}

function_here : (t : Term) (ty : ℕ → Ty) (part : ℕ → Term) (s : Span) (o : Arrow) (x : Name) (u : Span) (w a : ℕ) → t ≡ term_of ty part s (Lambda o x u w a) → IsFunction t
function_here t ty part s Fun x u w a e = subst IsFunction (sym e) is_fun
function_here t ty part s Fn x u w a e = subst IsFunction (sym e) is_fn

module _ (n : ℕ) (γ : Env) (t : Term) (ty : ℕ → Ty) (part : ℕ → Term) (s : Span) (f : Form) (e : t ≡ term_of ty part s f) (k : HasValueWithin n γ t) where
  -- what the node's form says of its value
  abbrev Said : Form → Type 0
  Said g = Rules (MeansIn (n - 1)) γ (form_of ty part g) k.value

  said : (g : Form) → f ≡ g → Said g
  said g h = rules n γ t ty part s f g e h k

  done : (g : Form) → f ≡ g → (v : Value) → Rules (MeansIn (n - 1)) γ (form_of ty part g) v → MeansIn n γ t v
  done g h v r = means n γ t ty part s f g e h k v r

  -- the form has a value, which is the node's
  pub form_has : (g : Form) → f ≡ g → HasFormWithin (n - 1) γ (form_of ty part g)
  form_has g h = record { value = k.value; does = said g h }

  pub form_means : (g : Form) → f ≡ g → (v : Value) → Rules (MeansIn (n - 1)) γ (form_of ty part g) v → MeansIn n γ t v
  form_means = done

  -- the part a has the value u
  abbrev pub Has : ℕ → Value → Type 0
  Has a u = MeansIn (n - 1) γ ((part a)) u

  pub var_known : (x : Name) → f ≡ Var x → IsSome (find γ (name_of x))
  var_known x h = let r = said (Var x) h in rw r refl

  pub var_means : (x : Name) → f ≡ Var x → (v : Value) → find γ (name_of x) ≡ Some v → MeansIn n γ t v
  var_means x h v r = done (Var x) h v r

  pub num_means : (z : ℤ) → f ≡ Num z → (v : Value) → v ≡ NumV z → MeansIn n γ t v
  num_means z h v r = done (Num z) h v r

  pub text_means : (q : Text) → f ≡ Quoted q → (v : Value) → v ≡ TextV (text_of q) → MeansIn n γ t v
  text_means q h v r = done (Quoted q) h v r

  pub unit_means : f ≡ One → (v : Value) → v ≡ UnitV → MeansIn n γ t v
  unit_means h v r = done One h v r

  pub unary_has : (o : Unary) (a : ℕ) → f ≡ Op o a → HasValueWithin (n - 1) γ (part a)
  unary_has o a h = let p = unary_parts (MeansIn (n - 1)) γ s o (part a) k.value (said (Op o a) h) in record { value = p.0; does = p.1 }

  pub unary_can : (o : Unary) (a : ℕ) → f ≡ Op o a → (u : Value) → Has a u → Can1 o u
  unary_can o a h u d =
      let p = unary_parts (MeansIn (n - 1)) γ s o (part a) k.value (said (Op o a) h) in
      record { value = k.value; gives = subst (λ (u : Value). Gives1 o u k.value) (same_value _ _ _ _ _ _ p.1 d) p.2 }

  pub unary_means : (o : Unary) (a : ℕ) → f ≡ Op o a → (u : Value) → Has a u → (v : Value) → Gives1 o u v → MeansIn n γ t v
  unary_means o a h u d v g = done (Op o a) h v (unary_whole (MeansIn (n - 1)) γ s o (part a) u v d g)

  pub times_has : (z : ℤ) (a : ℕ) → f ≡ Times z a → HasValueWithin (n - 1) γ (part a)
  times_has z a h = let r = said (Times z a) h in record { value = NumV r.0; does = r.1 }

  pub times_can : (z : ℤ) (a : ℕ) → f ≡ Times z a → (u : Value) → Has a u → CanTimes z u
  times_can z a h u d = let r = said (Times z a) h in record { value = k.value; gives = (r.0, same_value _ _ _ _ _ _ d r.1, r.2) }

  pub times_means : (z : ℤ) (a : ℕ) → f ≡ Times z a → (u : Value) → Has a u → (v : Value) → GivesTimes z u v → MeansIn n γ t v
  times_means z a h u d v g = done (Times z a) h v (g.0, subst (λ (u : Value). Has a u) g.1 d, g.2)

  pub ranged_has : (o : Ranged) (lo hi : ℤ) (a : ℕ) → f ≡ Bounded o lo hi a → HasValueWithin (n - 1) γ (part a)
  ranged_has Sum lo hi a h = let r = said (Bounded Sum lo hi a) h in record { value = BagV (map NumF r.0); does = r.1 }
  ranged_has Clip lo hi a h = let r = said (Bounded Clip lo hi a) h in record { value = NumV r.0; does = r.1 }

  pub ranged_can : (o : Ranged) (lo hi : ℤ) (a : ℕ) → f ≡ Bounded o lo hi a → (u : Value) → Has a u → CanRanged o lo hi u
  ranged_can Sum lo hi a h u d = let r = said (Bounded Sum lo hi a) h in record { value = k.value; gives = (r.0, same_value _ _ _ _ _ _ d r.1, r.2) }
  ranged_can Clip lo hi a h u d = let r = said (Bounded Clip lo hi a) h in record { value = k.value; gives = (r.0, same_value _ _ _ _ _ _ d r.1, r.2) }

  pub ranged_means : (o : Ranged) (lo hi : ℤ) (a : ℕ) → f ≡ Bounded o lo hi a → (u : Value) → Has a u → (v : Value) → GivesRanged o lo hi u v → MeansIn n γ t v
  ranged_means Sum lo hi a h u d v g = done (Bounded Sum lo hi a) h v (g.0, subst (λ (u : Value). Has a u) g.1 d, g.2)
  ranged_means Clip lo hi a h u d v g = done (Bounded Clip lo hi a) h v (g.0, subst (λ (u : Value). Has a u) g.1 d, g.2)

  pub inject_has : (o : Side) (u : Span) (w a : ℕ) → f ≡ Inject o u w a → HasValueWithin (n - 1) γ (part a)
  inject_has Inl u w a h = let r = said (Inject Inl u w a) h in record { value = r.0; does = r.1 }
  inject_has Inr u w a h = let r = said (Inject Inr u w a) h in record { value = r.0; does = r.1 }

  pub inject_means : (o : Side) (u : Span) (w a : ℕ) → f ≡ Inject o u w a → (x : Value) → Has a x → (v : Value) → v ≡ injected o x → MeansIn n γ t v
  inject_means Inl u w a h x d v g = done (Inject Inl u w a) h v (x, d, g)
  inject_means Inr u w a h x d v g = done (Inject Inr u w a) h v (x, d, g)

  pub bang_has : (r : Sens) (a : ℕ) → f ≡ Bang r a → HasValueWithin (n - 1) γ (part a)
  bang_has r a h = let q = said (Bang r a) h in record { value = q.0; does = q.1 }

  pub bang_means : (r : Sens) (a : ℕ) → f ≡ Bang r a → (u : Value) → Has a u → (v : Value) → v ≡ BangV u → MeansIn n γ t v
  bang_means r a h u d v g = done (Bang r a) h v (u, d, g)

  pub let_has : (x : Name) (a b : ℕ) → f ≡ Let x a b → HasValueWithin (n - 1) γ (part a)
  let_has x a b h = let r = said (Let x a b) h in record { value = r.0; does = r.1 }

  pub let_inside : (x : Name) (a b : ℕ) → f ≡ Let x a b → (u : Value) → Has a u → HasValueWithin (n - 1) (Bind (name_of x) u γ) (part b)
  let_inside x a b h u d =
      let r = said (Let x a b) h in
      record { value = k.value; does = subst (λ (u : Value). MeansIn (n - 1) (Bind (name_of x) u γ) ((part b)) k.value) (same_value _ _ _ _ _ _ r.1 d) r.2 }

  pub let_means : (x : Name) (a b : ℕ) → f ≡ Let x a b → (u : Value) → Has a u → (v : Value) → MeansIn (n - 1) (Bind (name_of x) u γ) ((part b)) v → MeansIn n γ t v
  let_means x a b h u d v g = done (Let x a b) h v (u, d, g)

  pub let_bang_has : (x : Name) (a b : ℕ) → f ≡ LetBang x a b → HasValueWithin (n - 1) γ (part a)
  let_bang_has x a b h = let r = said (LetBang x a b) h in record { value = BangV r.0; does = r.1 }

  pub let_bang_can : (x : Name) (a b : ℕ) → f ≡ LetBang x a b → (u : Value) → Has a u → IsBangValue u
  let_bang_can x a b h u d = let r = said (LetBang x a b) h in subst IsBangValue (same_value _ _ _ _ _ _ r.1 d) refl

  pub let_bang_inside : (x : Name) (a b : ℕ) → f ≡ LetBang x a b → (u w : Value) → Has a u → w ≡ banged_in u → HasValueWithin (n - 1) (Bind (name_of x) w γ) (part b)
  let_bang_inside x a b h u w d q =
      let r = said (LetBang x a b) h in
      record { value = k.value; does = subst (λ (u : Value). MeansIn (n - 1) (Bind (name_of x) u γ) ((part b)) k.value) (ap banged_in (same_value _ _ _ _ _ _ r.1 d) ∙ sym q) r.2 }

  pub let_bang_means : (x : Name) (a b : ℕ) → f ≡ LetBang x a b → (u w : Value) → Has a u → w ≡ banged_in u → (v : Value) → MeansIn (n - 1) (Bind (name_of x) w γ) ((part b)) v → MeansIn n γ t v
  let_bang_means x a b h u w d q v g = done (LetBang x a b) h v (w, subst (λ (u : Value). Has a u) (let_bang_can x a b h u d ∙ ap BangV (sym q)) d, g)

  module _ (c a b : ℕ) (h : f ≡ If c a b) where
    pub if_has : HasValueWithin (n - 1) γ (part c)
    if_has = go (said (If c a b) h)
      where
        go : Said (If c a b) → HasValueWithin (n - 1) γ (part c)
        go (inl r) = record { value = InlV UnitV; does = r.0 }
        go (inr r) = record { value = InrV UnitV; does = r.0 }

    pub if_can : (u : Value) → Has c u → IsSum u
    if_can u d = go (said (If c a b) h)
      where
        go : Said (If c a b) → IsSum u
        go (inl r) = subst IsSum (same_value _ _ _ _ _ _ r.0 d) (inl refl)
        go (inr r) = subst IsSum (same_value _ _ _ _ _ _ r.0 d) (inr refl)

    pub if_left : (u : Value) → Has c u → u ≡ InlV (side_in u) → HasValueWithin (n - 1) γ (part a)
    if_left u d q = go (said (If c a b) h)
      where
        go : Said (If c a b) → HasValueWithin (n - 1) γ (part a)
        go (inl r) = record { value = k.value; does = r.1 }
        go (inr r) = let w = same_value _ _ _ _ _ _ r.0 d in absurd (cc (w, q))

    pub if_right : (u : Value) → Has c u → u ≡ InrV (side_in u) → HasValueWithin (n - 1) γ (part b)
    if_right u d q = go (said (If c a b) h)
      where
        go : Said (If c a b) → HasValueWithin (n - 1) γ (part b)
        go (inl r) = let w = same_value _ _ _ _ _ _ r.0 d in absurd (cc (w, q))
        go (inr r) = record { value = k.value; does = r.1 }

    pub if_left_means : (u : Value) → Has c u → u ≡ InlV (side_in u) → (v : Value) → Has a v → MeansIn n γ t v
    if_left_means u d q v g = go (said (If c a b) h)
      where
        go : Said (If c a b) → MeansIn n γ t v
        go (inl r) = done (If c a b) h v (inl (r.0, g))
        go (inr r) = let w = same_value _ _ _ _ _ _ r.0 d in absurd (cc (w, q))

    pub if_right_means : (u : Value) → Has c u → u ≡ InrV (side_in u) → (v : Value) → Has b v → MeansIn n γ t v
    if_right_means u d q v g = go (said (If c a b) h)
      where
        go : Said (If c a b) → MeansIn n γ t v
        go (inl r) = let w = same_value _ _ _ _ _ _ r.0 d in absurd (cc (w, q))
        go (inr r) = done (If c a b) h v (inr (r.0, g))

  module _ (c : ℕ) (x : Name) (a : ℕ) (y : Name) (b : ℕ) (h : f ≡ Case c x a y b) where
    pub case_has : HasValueWithin (n - 1) γ (part c)
    case_has = go (said (Case c x a y b) h)
      where
        go : Said (Case c x a y b) → HasValueWithin (n - 1) γ (part c)
        go (inl r) = record { value = InlV r.0; does = r.1 }
        go (inr r) = record { value = InrV r.0; does = r.1 }

    pub case_can : (u : Value) → Has c u → IsSum u
    case_can u d = go (said (Case c x a y b) h)
      where
        go : Said (Case c x a y b) → IsSum u
        go (inl r) = subst IsSum (same_value _ _ _ _ _ _ r.1 d) (inl refl)
        go (inr r) = subst IsSum (same_value _ _ _ _ _ _ r.1 d) (inr refl)

    pub case_left : (u w : Value) → Has c u → u ≡ InlV (side_in u) → w ≡ side_in u → HasValueWithin (n - 1) (Bind (name_of x) w γ) (part a)
    case_left u w d q p = go (said (Case c x a y b) h)
      where
        go : Said (Case c x a y b) → HasValueWithin (n - 1) (Bind (name_of x) w γ) (part a)
        go (inl r) = record { value = k.value; does = subst (λ (w : Value). MeansIn (n - 1) (Bind (name_of x) w γ) ((part a)) k.value) (ap side_in (same_value _ _ _ _ _ _ r.1 d) ∙ sym p) r.2 }
        go (inr r) = let z = same_value _ _ _ _ _ _ r.1 d in absurd (cc (z, q))

    pub case_right : (u w : Value) → Has c u → u ≡ InrV (side_in u) → w ≡ side_in u → HasValueWithin (n - 1) (Bind (name_of y) w γ) (part b)
    case_right u w d q p = go (said (Case c x a y b) h)
      where
        go : Said (Case c x a y b) → HasValueWithin (n - 1) (Bind (name_of y) w γ) (part b)
        go (inl r) = let z = same_value _ _ _ _ _ _ r.1 d in absurd (cc (z, q))
        go (inr r) = record { value = k.value; does = subst (λ (w : Value). MeansIn (n - 1) (Bind (name_of y) w γ) ((part b)) k.value) (ap side_in (same_value _ _ _ _ _ _ r.1 d) ∙ sym p) r.2 }

    pub case_left_means : (u w : Value) → Has c u → u ≡ InlV (side_in u) → w ≡ side_in u → (v : Value) → MeansIn (n - 1) (Bind (name_of x) w γ) ((part a)) v → MeansIn n γ t v
    case_left_means u w d q p v g = done (Case c x a y b) h v (inl (w, subst (λ (u : Value). Has c u) (q ∙ ap InlV (sym p)) d, g))

    pub case_right_means : (u w : Value) → Has c u → u ≡ InrV (side_in u) → w ≡ side_in u → (v : Value) → MeansIn (n - 1) (Bind (name_of y) w γ) ((part b)) v → MeansIn n γ t v
    case_right_means u w d q p v g = done (Case c x a y b) h v (inr (w, subst (λ (u : Value). Has c u) (q ∙ ap InrV (sym p)) d, g))

  pub lambda_function : (o : Arrow) (x : Name) (u : Span) (w a : ℕ) → f ≡ Lambda o x u w a → IsFunction t
  lambda_function o x u w a h = function_here t ty part s o x u w a (e ∙ ap (term_of ty part s) h)

  pub lambda_means : (o : Arrow) (x : Name) (u : Span) (w a : ℕ) → f ≡ Lambda o x u w a → (v : Value) → v ≡ function_of t γ → MeansIn n γ t v
  lambda_means Fun x u w a h v g = done (Lambda Fun x u w a) h v (g ∙ ap (λ t. function_of t γ) (e ∙ ap (term_of ty part s) h))
  lambda_means Fn x u w a h v g = done (Lambda Fn x u w a) h v (g ∙ ap (λ t. function_of t γ) (e ∙ ap (term_of ty part s) h))
