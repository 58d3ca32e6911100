-- What each answer for a whole program says, both ways.
use Rattle.std.proofs.Common.{ap, arith, refl, subst, sym, ◌∙◌}
use Rattle.std.proofs.lemmas.Option.{slice_get_within}
use Rattle.std.specs.Prelude.{Bool, None, Option, Some, [], cond, false, length, slice_get, suc, true, zero, ℕ, ◌<◌, ◌∷◌, ◌≡◌, ◌≢◌}
use Rattle.fz_frac.specs.Distance.{Distance, Fin, Inf}
use Rattle.fz_ast.specs.Signature.{Signature}
use Rattle.fz_ast.specs.Terms.{Name}
use Rattle.fz_ast.specs.Types.{NumT, Ty, same_type}
use Rattle.fz_ast.proofs.SameTypes.{same_type_is}
use Rattle.linear_types.proofs.Programs.{accepted}
use Rattle.linear_types.proofs.Sound.{IsTerms, faults_of_terms}
use Rattle.linear_types.specs.Laws.{AcceptedExactly, FaultsAreKept, FiniteBelow, IsFirstUnbounded, NotNumExactly, UnboundedExactly, sensitivity_at}
use Rattle.linear_types.specs.Program.{Accepted, Faulty, context_of, first_unbounded, greatest_of, is_endless, number_rule, program_rule}
use Rattle.linear_types.specs.Rule.{rule}
use Rattle.linear_types.specs.Sensitivities.{Sensitivities, first, rest}
use Rattle.linear_types.specs.Inferred.{Fault, Has, NotNum, Untyped, Unbounded, Inferred}

at_first : (D : Sensitivities) → sensitivity_at D 0 ≡ first D
at_first [] = refl
at_first (d ∷ D) = refl

at_rest : (D : Sensitivities) (i : ℕ) → sensitivity_at D (suc i) ≡ sensitivity_at (rest D) i
at_rest [] i = refl
at_rest (d ∷ D) i = refl

endless_is : (d : Distance) → is_endless d ≡ true → d ≡ Inf
endless_is (Fin p q) h = cc
endless_is Inf h = refl

finite_is : (d : Distance) → is_endless d ≡ false → d ≢ Inf
finite_is d h e = let k : is_endless d ≡ true = rw e refl in cc

-- one more table in front
more_finite : (D : Sensitivities) (n : ℕ) → first D ≢ Inf → FiniteBelow (rest D) n → FiniteBelow D (suc n)
more_finite D n h q zero l = λ e. h (sym (at_first D) ∙ e)
more_finite D n h q (suc i) l = λ e. q i (omega (arith, l)) (sym (at_rest D i) ∙ e)

less_finite : (D : Sensitivities) (n : ℕ) → FiniteBelow D (suc n) → (first D ≢ Inf) × FiniteBelow (rest D) n
less_finite D n q = (λ e. q 0 (omega arith) (at_first D ∙ e), λ i l e. q (suc i) (omega (arith, l)) (at_rest D i ∙ e))

-- a first table at inf, or none
pub data First (ts : Signature) (D : Sensitivities) (o : Option Name) : Type 0 where
  found : (x : Name) → o ≡ Some x → IsFirstUnbounded ts D x → First ts D o
  missing : o ≡ None → FiniteBelow D (length ts) → First ts D o

first_is : (ts : Signature) (D : Sensitivities) → First ts D (first_unbounded ts D)
first_is [] D = missing refl (λ i l. absurd (omega (arith, l)))
first_is (t ∷ ts) D = go (is_endless (first D)) refl (first_is ts (rest D))
  where
    go : (b : Bool) → is_endless (first D) ≡ b → First ts (rest D) (first_unbounded ts (rest D)) → First (t ∷ ts) D (cond b (Some t.name) (first_unbounded ts (rest D)))
    go true e r = found t.name refl (0, t, refl, refl, at_first D ∙ endless_is (first D) e, λ i l. absurd (omega (arith, l)))
    go false e (found x f k) = found x f (suc k.0, k.1, k.2, k.3, at_rest D k.0 ∙ k.4, more_finite D k.0 (finite_is (first D) e) k.5)
    go false e (missing f k) = missing f (more_finite D (length ts) (finite_is (first D) e) k)

-- the first is one alone
same_first : (ts : Signature) (D : Sensitivities) (x y : Name) → IsFirstUnbounded ts D x → IsFirstUnbounded ts D y → x ≡ y
same_first ts D x y h k =
    let a : h.0 < k.0 → ⊥ = λ l. k.5 h.0 l h.4 in let b : k.0 < h.0 → ⊥ = λ l. h.5 k.0 l k.4 in
    let e : h.0 ≡ k.0 = omega (arith, a, b) in
    let s : Some h.1 ≡ Some k.1 = sym h.2 ∙ ap (λ i. slice_get ts i) e ∙ k.2 in
    let t : h.1 ≡ k.1 = cc s in sym h.3 ∙ ap (λ t. t.name) t ∙ k.3

no_first : (ts : Signature) (D : Sensitivities) (x : Name) → IsFirstUnbounded ts D x → FiniteBelow D (length ts) → ⊥
no_first ts D x h q = q h.0 (slice_get_within ts h.0 h.1 h.2) h.4

none_is : (ts : Signature) (D : Sensitivities) → FiniteBelow D (length ts) → first_unbounded ts D ≡ None
none_is ts D q = go (first_is ts D)
  where
    go : First ts D (first_unbounded ts D) → first_unbounded ts D ≡ None
    go (found x f k) = absurd (no_first ts D x k q)
    go (missing f k) = f

none_finite : (ts : Signature) (D : Sensitivities) → first_unbounded ts D ≡ None → FiniteBelow D (length ts)
none_finite ts D h = go (first_is ts D)
  where
    go : First ts D (first_unbounded ts D) → FiniteBelow D (length ts)
    go (found x f k) = absurd (cc (f, h))
    go (missing f k) = k

some_is : (ts : Signature) (D : Sensitivities) (x : Name) → IsFirstUnbounded ts D x → first_unbounded ts D ≡ Some x
some_is ts D x h = go (first_is ts D)
  where
    go : First ts D (first_unbounded ts D) → first_unbounded ts D ≡ Some x
    go (found y f k) = f ∙ ap Some (same_first ts D y x k h)
    go (missing f k) = absurd (no_first ts D x h k)

some_first : (ts : Signature) (D : Sensitivities) (x : Name) → first_unbounded ts D ≡ Some x → IsFirstUnbounded ts D x
some_first ts D x h = go (first_is ts D)
  where
    go : First ts D (first_unbounded ts D) → IsFirstUnbounded ts D x
    go (found y f k) = let e : y ≡ x = cc (f, h) in subst (λ x. IsFirstUnbounded ts D x) e k
    go (missing f k) = absurd (cc (f, h))

-- the fault of the whole, by the first table at inf
unbounded_only : (A : Ty) (D : Sensitivities) (o : Option Name) (x : Name) → number_rule A D o ≡ Faulty (Unbounded x) → o ≡ Some x
unbounded_only A D (Some y) x h = cc
unbounded_only A D None x h = go (same_type A NumT) h
  where
    go : (b : Bool) → cond b (Accepted D (greatest_of D)) (Faulty (NotNum A)) ≡ Faulty (Unbounded x) → None ≡ Some x
    go true k = cc
    go false k = cc

not_num_only : (A : Ty) (D : Sensitivities) (o : Option Name) (B : Ty) → number_rule A D o ≡ Faulty (NotNum B) → (o ≡ None) × (A ≡ B) × (A ≢ NumT)
not_num_only A D (Some y) B h = cc
not_num_only A D None B h = let k = go (same_type A NumT) refl h in (refl, k.0, k.1)
  where
    go : (b : Bool) → same_type A NumT ≡ b → cond b (Accepted D (greatest_of D)) (Faulty (NotNum A)) ≡ Faulty (NotNum B) → (A ≡ B) × (A ≢ NumT)
    go true e k = cc
    go false e k = (cc, λ i. cc (e, ap (λ A. same_type A NumT) i))

faulty_is : {f g : Fault} → Faulty f ≡ Faulty g → f ≡ g
faulty_is h = cc

pub accepted_exactly : AcceptedExactly
accepted_exactly ts t D r = (
  λ h. let a = accepted ts t D r h in (a.0, none_finite ts D a.2, a.1),
  λ h. ap (λ v. program_rule ts v) h.0 ∙ ap (λ o. number_rule NumT D o) (none_is ts D h.1) ∙ ap (λ r. Accepted D r) (sym h.2),
)

pub unbounded_exactly : UnboundedExactly
unbounded_exactly ts t x = (
  λ h. go (rule (context_of ts) t) (faults_of_terms t (context_of ts)) h,
  λ h. ap (λ v. program_rule ts v) h.2 ∙ ap (λ o. number_rule h.0 h.1 o) (some_is ts h.1 x h.3),
)
  where
    go : (v : Inferred) → ((f : Fault) → v ≡ Untyped f → IsTerms f) → program_rule ts v ≡ Faulty (Unbounded x) → (A : Ty) × (D : Sensitivities) × (v ≡ Has A D) × IsFirstUnbounded ts D x
    go (Has A D) l h = (A, D, refl, some_first ts D x (unbounded_only A D (first_unbounded ts D) x h))
    go (Untyped f) l h = absurd (subst (λ f. IsTerms f) (faulty_is h) (l f refl))

pub not_num_exactly : NotNumExactly
not_num_exactly ts t A = (
  λ h. go (rule (context_of ts) t) (faults_of_terms t (context_of ts)) h,
  λ h. ap (λ v. program_rule ts v) h.1 ∙ ap (λ o. number_rule A h.0 o) (none_is ts h.0 h.2) ∙ other (same_type A NumT) refl h.0 h.3,
)
  where
    go : (v : Inferred) → ((f : Fault) → v ≡ Untyped f → IsTerms f) → program_rule ts v ≡ Faulty (NotNum A) → (D : Sensitivities) × (v ≡ Has A D) × FiniteBelow D (length ts) × (A ≢ NumT)
    go (Has B D) l h =
        let k = not_num_only B D (first_unbounded ts D) A h in
        (D, ap (λ B. Has B D) k.1, none_finite ts D k.0, λ e. k.2 (k.1 ∙ e))
    go (Untyped f) l h = absurd (subst (λ f. IsTerms f) (faulty_is h) (l f refl))

    other : (b : Bool) → same_type A NumT ≡ b → (D : Sensitivities) → A ≢ NumT → cond b (Accepted D (greatest_of D)) (Faulty (NotNum A)) ≡ Faulty (NotNum A)
    other true e D n = absurd (n (same_type_is A NumT e))
    other false e D n = refl

pub faults_are_kept : FaultsAreKept
faults_are_kept ts t f h = ap (λ v. program_rule ts v) h
