-- Functions applied, and what an answer says of its value.
use Rattle.std.proofs.Common.{◌≡◌, ℕ, refl, ap, sym, subst, ◌∙◌, List}
use Rattle.std.specs.Prelude.{Bool, None, Some, [], ◌∷◌, Result, Ok, Err, IfOk, OnOk, false, true}
use Rattle.flow_values.specs.Steps.{AllGo, all_through}
use Rattle.fuzz_eval.proofs.Staged.{kept_through, maps_go, maps_through, others_through, splits_go}
use Rattle.fz_ast.specs.Terms.{Name, Term}
use Rattle.fz_ast.specs.declared.term.Arrow.{Arrow}
use Rattle.fz_ast.specs.declared.term.Arrow.TheVariants.{Fun, Fn}
use Rattle.fz_ast.specs.declared.term.Binary.{Binary}
use Rattle.fz_ast.specs.declared.term.Binary.TheVariants.{Pair, With, App, Plus, Minus, AtMost, Equal, Union, Map, Filter, Split}
use Rattle.metric_law.specs.Means.{Applies, Maps, MeansIn, Splits, apply, apply_fn}
use Rattle.metric_values.specs.Values.{BagV, BangV, Bind, Empty, Env, Flat, FnV, FunV, PairV, UnitV, Value}
use Rattle.flow_values.specs.Held.{Held}
use Rattle.run_values.specs.Parts.{IsBag, IsBangValue, IsClosure, banged_in, elements, is_fn, is_fun}
use Rattle.flow_values.specs.Founds.{rebound}
use Rattle.fuzz_eval.specs.Steps.{Can2, CanApply, Gives2, HasValueWithin, AppliesNoFunction, closure_of}
use Rattle.fuzz_eval.specs.Loops.{bound_element, function_inside}

-- an answer's value has what follows from what it has
pub if_ok : {E : Type 0} (r : Result Held E) (P Q : Value → Type 0) → IfOk r (λ h. P h.means) → ((v : Value) → P v → Q v) → IfOk r (λ h. Q h.means)
if_ok (Ok v) P Q h f = f v.means h
if_ok (Err e) P Q h f = tt

pub on_ok : {E : Type 0} (r : Result Held E) (P : Type 0) → P → OnOk r P
on_ok (Ok v) P h = h
on_ok (Err e) P h = tt

pub can_closure : {n : ℕ} {c u : Value} → CanApply n c u → IsClosure c
can_closure {n} {c} {u} h = go h.gives
  where
    go : {c u v : Value} → Applies (MeansIn n) c u v → IsClosure c
    go (apply k) = is_fun
    go (apply_fn k) = is_fn

fun_parts : (n : ℕ) {x : Name} {e : Term} {γ : Env} {u v : Value} → Applies (MeansIn n) (FunV x e γ) u v → MeansIn n (Bind x u γ) e v
fun_parts n (apply k) = k

fn_bang : (n : ℕ) {x : Name} {e : Term} {γ : Env} {u v : Value} → Applies (MeansIn n) (FnV x e γ) u v → IsBangValue u
fn_bang n (apply_fn k) = refl

fn_parts : (n : ℕ) {x : Name} {e : Term} {γ : Env} {u v : Value} → Applies (MeansIn n) (FnV x e γ) u v → MeansIn n (Bind x (banged_in u) γ) e v
fn_parts n (apply_fn k) = k

module _ (n : ℕ) (c u : Value) (o : Arrow) (x : Name) (t : Term) (γ : Env) (e : c ≡ closure_of o x t γ) where
  fun_is : o ≡ Fun → c ≡ FunV x t γ
  fun_is h = e ∙ ap (λ o. closure_of o x t γ) h

  fn_is : o ≡ Fn → c ≡ FnV x t γ
  fn_is h = e ∙ ap (λ o. closure_of o x t γ) h

  pub fun_has : o ≡ Fun → CanApply n c u → HasValueWithin n (Bind x u γ) t
  fun_has h k = record { value = k.value; does = fun_parts n (subst (λ (c : Value). Applies (MeansIn n) c u k.value) (fun_is h) k.gives) }

  pub fun_gives : o ≡ Fun → (v : Value) → MeansIn n (Bind x u γ) t v → Applies (MeansIn n) c u v
  fun_gives h v d = subst (λ (c : Value). Applies (MeansIn n) c u v) (sym (fun_is h)) (apply d)

  pub fn_can : o ≡ Fn → CanApply n c u → IsBangValue u
  fn_can h k = fn_bang n (subst (λ (c : Value). Applies (MeansIn n) c u k.value) (fn_is h) k.gives)

  pub fn_has : o ≡ Fn → CanApply n c u → (w : Value) → w ≡ banged_in u → HasValueWithin n (Bind x w γ) t
  fn_has h k w q = record { value = k.value; does = subst (λ (w : Value). MeansIn n (Bind x w γ) t k.value) (sym q) (fn_parts n (subst (λ (c : Value). Applies (MeansIn n) c u k.value) (fn_is h) k.gives)) }

  pub fn_gives : o ≡ Fn → IsBangValue u → (w : Value) → w ≡ banged_in u → (v : Value) → MeansIn n (Bind x w γ) t v → Applies (MeansIn n) c u v
  fn_gives h b w q v d =
      subst (λ (c : Value). Applies (MeansIn n) c u v) (sym (fn_is h)) (subst (λ (u : Value). Applies (MeansIn n) (FnV x t γ) u v) (sym (b ∙ ap BangV (sym q))) (apply_fn d))

not_unit : {c : Value} → IsClosure c → c ≡ UnitV → ⊥
not_unit is_fun e = absurd (cc e)
not_unit is_fn e = absurd (cc e)

-- a function over the elements of a bag, in the scope inside its own name

pub element_has : (n : ℕ) (o : Arrow) (t : Term) (x : Value) (γ : Env) → CanApply n (function_inside o γ t) (BangV x) → HasValueWithin n (rebound γ (bound_element o x)) t
element_has n o t x Empty h = absurd (not_unit (can_closure h) refl)
element_has n Fun t x (Bind y v γ) h = record { value = h.value; does = fun_parts n h.gives }
element_has n Fn t x (Bind y v γ) h = record { value = h.value; does = fn_parts n h.gives }

pub element_gives : (n : ℕ) (o : Arrow) (t : Term) (x : Value) (γ : Env) → CanApply n (function_inside o γ t) (BangV x) → (w : Value) → MeansIn n (rebound γ (bound_element o x)) t w → Applies (MeansIn n) (function_inside o γ t) (BangV x) w
element_gives n o t x Empty h w d = absurd (not_unit (can_closure h) refl)
element_gives n Fun t x (Bind y v γ) h w d = apply d
element_gives n Fn t x (Bind y v γ) h w d = apply_fn d

pub same_function : (o : Arrow) (t : Term) (γ : Env) (w : Value) → function_inside o (rebound γ w) t ≡ function_inside o γ t
same_function o t Empty w = refl
same_function o t (Bind y v γ) w = refl

-- what it gives, where it is c
pub given : (n : ℕ) (c : Value) (w x : Value) {f : Value} → f ≡ c → Applies (MeansIn n) f (BangV x) w → Applies (MeansIn n) c (BangV x) w
given n c w x e a = subst (λ (f : Value). Applies (MeansIn n) f (BangV x) w) e a

-- signs that apply a function
module _ (n : ℕ) (o : Binary) (u w : Value) (k : Can2 n o u w) where
  pub app_can : o ≡ App → CanApply n u w
  app_can h = record { value = k.value; gives = subst (λ (o : Binary). Gives2 (MeansIn n) o u w k.value) h k.gives }

  map_said : o ≡ Map → Gives2 (MeansIn n) Map u w k.value
  map_said h = subst (λ (o : Binary). Gives2 (MeansIn n) o u w k.value) h k.gives

  filter_said : o ≡ Filter → Gives2 (MeansIn n) Filter u w k.value
  filter_said h = subst (λ (o : Binary). Gives2 (MeansIn n) o u w k.value) h k.gives

  pub map_bag : o ≡ Map → IsBag w
  map_bag h = let r = map_said h in subst IsBag (sym r.2) refl

  pub map_goes : o ≡ Map → AllGo (record { function = u; left = n; keeps = None } ∷ []) (elements w)
  map_goes h = let r = map_said h in maps_go n u (elements w) r.1 (subst (λ (xs : List Flat). Maps (MeansIn n) u xs r.1) (sym (ap elements r.2)) r.3)

  pub map_gives : o ≡ Map → (v : Value) → v ≡ BagV (all_through (record { function = u; left = n; keeps = None } ∷ []) (elements w)) → Gives2 (MeansIn n) o u w v
  map_gives h v e =
      let r = map_said h in
      let m = subst (λ (xs : List Flat). Maps (MeansIn n) u xs r.1) (sym (ap elements r.2)) r.3 in
      subst (λ (o : Binary). Gives2 (MeansIn n) o u w v) (sym h) (elements w, r.1, map_bag h, m, e ∙ ap BagV (maps_through n u (elements w) r.1 m))

  pub filter_bag : o ≡ Filter → IsBag w
  filter_bag h = let r = filter_said h in subst IsBag (sym r.3) refl

  filter_splits : (h : o ≡ Filter) → Splits (MeansIn n) u (elements w) (filter_said h).1 (filter_said h).2
  filter_splits h = let r = filter_said h in subst (λ (xs : List Flat). Splits (MeansIn n) u xs r.1 r.2) (sym (ap elements r.3)) r.4

  pub filter_goes : o ≡ Filter → AllGo (record { function = u; left = n; keeps = Some true } ∷ []) (elements w)
  filter_goes h = splits_go n true u (elements w) (filter_said h).1 (filter_said h).2 (filter_splits h)

  pub filter_gives : o ≡ Filter → (v : Value) → v ≡ BagV (all_through (record { function = u; left = n; keeps = Some true } ∷ []) (elements w)) → Gives2 (MeansIn n) o u w v
  filter_gives h v e =
      let r = filter_said h in
      subst (λ (o : Binary). Gives2 (MeansIn n) o u w v) (sym h)
      (elements w, r.1, r.2, filter_bag h, filter_splits h, e ∙ ap BagV (kept_through n u (elements w) r.1 r.2 (filter_splits h)))

  split_said : o ≡ Split → Gives2 (MeansIn n) Split u w k.value
  split_said h = subst (λ (o : Binary). Gives2 (MeansIn n) o u w k.value) h k.gives

  pub split_bag : o ≡ Split → IsBag w
  split_bag h = let r = split_said h in subst IsBag (sym r.3) refl

  split_splits : (h : o ≡ Split) → Splits (MeansIn n) u (elements w) (split_said h).1 (split_said h).2
  split_splits h = let r = split_said h in subst (λ (xs : List Flat). Splits (MeansIn n) u xs r.1 r.2) (sym (ap elements r.3)) r.4

  pub split_goes : (keep : Bool) → o ≡ Split → AllGo (record { function = u; left = n; keeps = Some keep } ∷ []) (elements w)
  split_goes keep h = splits_go n keep u (elements w) (split_said h).1 (split_said h).2 (split_splits h)

  pub split_gives : o ≡ Split → (v : Value) → v ≡ PairV (BagV (all_through (record { function = u; left = n; keeps = Some true } ∷ []) (elements w))) (BagV (all_through (record { function = u; left = n; keeps = Some false } ∷ []) (elements w)))
      → Gives2 (MeansIn n) o u w v
  split_gives h v e =
      let r = split_said h in
      let p = kept_through n u (elements w) r.1 r.2 (split_splits h) in
      let q = others_through n u (elements w) r.1 r.2 (split_splits h) in
      subst (λ (o : Binary). Gives2 (MeansIn n) o u w v) (sym h)
      (elements w, r.1, r.2, split_bag h, split_splits h, e ∙ (λ i. PairV (BagV (p i)) (BagV (q i))))

  pub app_gives : o ≡ App → (v : Value) → Applies (MeansIn n) u w v → Gives2 (MeansIn n) o u w v
  app_gives h v r = subst (λ (o : Binary). Gives2 (MeansIn n) o u w v) (sym h) r

pub plain_here : (o : Binary) → (o ≡ App → ⊥) → (o ≡ Map → ⊥) → (o ≡ Filter → ⊥) → (o ≡ Split → ⊥) → AppliesNoFunction o
plain_here App a m f s = a refl
plain_here Map a m f s = m refl
plain_here Filter a m f s = f refl
plain_here Split a m f s = s refl
plain_here Pair a m f s = tt
plain_here With a m f s = tt
plain_here Plus a m f s = tt
plain_here Minus a m f s = tt
plain_here AtMost a m f s = tt
plain_here Equal a m f s = tt
plain_here Union a m f s = tt
