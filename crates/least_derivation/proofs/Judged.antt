-- What is written of an accepted program is judged, with the checker's number.
use Rattle.std.proofs.Common.{◌≡◌, ◌∙◌, ◌≤◌, Bool, true, false, cond, List, [], ◌∷◌, length, refl, sym, ap, arith, subst}
use Rattle.std.specs.Prelude.{bytes_eq, Some, None}
use Rattle.std.specs.Cmp.Lexicographic.{slice_cmp}
use Rattle.std.specs.List.{AllByRecursion}
use Rattle.std.specs.List.Sorted.{IsStrictlySortedBy}
use Rattle.std.specs.Ordering.{nat_cmp, ordering_reverse}
use Rattle.std.proofs.lemmas.Cmp.{nat_list_cmp_total}
use Rattle.std.specs.declared.cmp.Ordering.TheVariants.{Less}
use Rattle.std.proofs.lemmas.Slice.Eq.{bytes_eq-Decides}
use Rattle.fz_frac.proofs.Laws.{greater-least, greater-left, greater-right, none-least, ⊑-refl, ⊑-trans}
use Rattle.fz_frac.specs.Distance.{Distance, Fin, Inf, none, ◌⊑◌, ◌≈◌}
use Rattle.fz_frac.specs.Lowest.{lowest}
use Rattle.fz_ast.specs.Limits.{TermLimits}
use Rattle.fz_ast.specs.Signature.{IsSignature, Signature, table_type}
use Rattle.fz_ast.specs.Terms.{Name, Term}
use Rattle.fz_ast.specs.Types.{NumT, Ty}
use Rattle.fz_derive.proofs.Counted.{count}
use Rattle.fz_derive.proofs.Exactly.{has_no_fault}
use Rattle.fz_derive.proofs.LeastDerived.{derived}
use Rattle.fz_derive.proofs.LeastLines.{AllNamed, IsKept, least_lines}
use Rattle.fz_derive.proofs.Programs.{context_ok}
use Rattle.derivation_lines.proofs.ReadBack.{read_back}
use Rattle.fz_derive.proofs.Whole.{first_line, said_at_most}
use Rattle.fz_derive.specs.Derivable.{AreSaidNames, IsDerivable, IsNamed, inmost, outer}
use Rattle.fz_derive.specs.Judged.{are_finite, greatest_said, is_bounded, is_finite, names_of}
use Rattle.fz_derive.specs.Least.{Derived, least, lines_of}
use Rattle.derivation_lines.specs.Lines.{AreInOrder, Line, Said, amount_in, names_said}
use Rattle.derivation_rows.specs.Numbers.{Amounts, says_at, without}
use Rattle.derivation_lines.specs.Readable.{IsWord}
use Rattle.linear_types.proofs.Programs.{accepted}
use Rattle.linear_types.proofs.Scope.{within}
use Rattle.linear_types.proofs.Sound.{sound}
use Rattle.linear_types.specs.Inferred.{Has}
use Rattle.linear_types.specs.Laws.{names_in}
use Rattle.linear_types.specs.Program.{Accepted, context_of, first_unbounded, greatest_of, is_endless, sensitivity_of}
use Rattle.linear_types.specs.Rule.{rule}
use Rattle.linear_types.specs.Sensitivities.{Sensitivities, first, rest}
use Rattle.linear_types.specs.Typing.{Closed, Context, Under}
use Rattle.least_derivation.specs.Answered.{IsAccepted}
use Rattle.least_derivation.specs.Derived.{SaySame}
use Rattle.least_derivation.specs.Law.{AreWords, DerivedIsJudged}
use Rattle.least_derivation.proofs.LeastRule.{Found, rules_found}
use Rattle.least_derivation.proofs.Low.{IsLow, greatest_low, low_as}
use Rattle.least_derivation.proofs.Readable.{least_readable}
use Rattle.least_derivation.proofs.SameSaid.{same_of}

-- the tables in scope are the same
pub same_context : (ts : Signature) → context_of ts ≡ names_of ts
same_context [] = refl
same_context (t ∷ ts) = ap (Under t.name (table_type t)) (same_context ts)

named_words : (ts : Signature) → AreWords ts → AllNamed IsWord (names_of ts)
named_words [] h = tt
named_words (t ∷ ts) h = (h.0, named_words ts h.1)

-- a name's own amount is what is said of it
own_amounts : (ss : List Said) → AreInOrder ss → AllByRecursion (λ (s : Said). amount_in ss s.name ≡ s.amount) ss
unfolding IsStrictlySortedBy
own_amounts [] h = tt
own_amounts (s ∷ ss) h = (rw ((bytes_eq-Decides s.name s.name).1 refl) refl, later ss h.0 (own_amounts ss h.1))
  where
    differ : (y : Name) → slice_cmp nat_cmp s.name y ≡ Less → bytes_eq s.name y ≡ false
    differ y e = go (bytes_eq s.name y) refl
      where
        go : (b : Bool) → bytes_eq s.name y ≡ b → b ≡ false
        go true f = let i : s.name ≡ y = same_of s.name y f in let j : slice_cmp nat_cmp y y ≡ Less = subst (λ z. slice_cmp nat_cmp z y ≡ Less) i e in let k : Less ≡ ordering_reverse Less = sym j ∙ nat_list_cmp_total.antisymm y y ∙ ap ordering_reverse j in absurd (cc k)
        go false f = refl

    later : (ts : List Said) → AllByRecursion (λ z. slice_cmp nat_cmp s.name z ≡ Less) (names_said ts) → AllByRecursion (λ (t : Said). amount_in ss t.name ≡ t.amount) ts
        → AllByRecursion (λ (t : Said). cond (bytes_eq s.name t.name) s.amount (amount_in ss t.name) ≡ t.amount) ts
    later [] h k = tt
    later (t ∷ ts) h k = (rw (differ t.name h.0) k.0, later ts h.1 k.1)

-- no table is at inf
finite_alike : (a b : Distance) → a ≈ b → is_endless a ≡ false → is_finite b ≡ true
finite_alike a (Fin p q) h e = refl
finite_alike (Fin p q) Inf h e = absurd h.ge.le
finite_alike Inf Inf h e = absurd (cc e)

finite_at : (ts : Signature) (D : Sensitivities) (E : Amounts) → SaySame (names_of ts) D E → first_unbounded ts D ≡ None → (x : Name) (A : Ty) → IsNamed (names_of ts) x A → is_finite (E x) ≡ true
finite_at [] D E h n x A k = elim k [ ]
finite_at (t ∷ ts) D E h n x A (inmost e) = subst (λ z. is_finite (E z) ≡ true) (same_of t.name x e) (finite_alike (first D) (E t.name) h.0 (go (is_endless (first D)) refl n))
  where
    go : (b : Bool) → is_endless (first D) ≡ b → cond b (Some t.name) (first_unbounded ts (rest D)) ≡ None → is_endless (first D) ≡ false
    go true e k = absurd (cc k)
    go false e k = e
finite_at (t ∷ ts) D E h n x A (outer e k) = subst (λ b. is_finite (cond b none (E x)) ≡ true) e (finite_at ts (rest D) (without t.name E) h.1 (go (is_endless (first D)) n) x A k)
  where
    go : (b : Bool) → cond b (Some t.name) (first_unbounded ts (rest D)) ≡ None → first_unbounded ts (rest D) ≡ None
    go true k = absurd (cc k)
    go false k = k

all_finite : (Γ : Context) (E : Amounts) → ((x : Name) (A : Ty) → IsNamed Γ x A → is_finite (E x) ≡ true) → (ss : List Said) → AreSaidNames Γ ss → AllByRecursion (λ (s : Said). E s.name ≡ s.amount) ss → are_finite ss ≡ true
all_finite Γ E f [] h k = refl
all_finite Γ E f (s ∷ ss) h k = let e : is_finite s.amount ≡ true = subst (λ z. is_finite z ≡ true) k.0 (f s.name h.0.0 h.0.1) in let i = all_finite Γ E f ss h.1 k.1 in rw (e, i) refl

-- the greatest of both
at_greatest : (Γ : Context) (D : Sensitivities) (E : Amounts) → SaySame Γ D E → (x : Name) (A : Ty) → IsNamed Γ x A → E x ⊑ greatest_of D
at_greatest _ D E h x A (inmost {y = y} e) = subst (λ z. E z ⊑ greatest_of D) (same_of y x e) (⊑-trans (E y) (first D) (greatest_of D) h.0.ge (first_at_most D))
  where
    first_at_most : (D : Sensitivities) → first D ⊑ greatest_of D
    first_at_most [] = ⊑-refl none
    first_at_most (t ∷ D) = greater-left t (greatest_of D)
at_greatest _ D E h x A (outer {y = y} {Γ = Γ} e k) = ⊑-trans (E x) (greatest_of (rest D)) (greatest_of D) (subst (λ b. cond b none (E x) ⊑ greatest_of (rest D)) e (at_greatest Γ (rest D) (without y E) h.1 x A k)) (rest_at_most D)
  where
    rest_at_most : (D : Sensitivities) → greatest_of (rest D) ⊑ greatest_of D
    rest_at_most [] = ⊑-refl none
    rest_at_most (t ∷ D) = greater-right t (greatest_of D)

said_below : (Γ : Context) (D : Sensitivities) (E : Amounts) → SaySame Γ D E → (ss : List Said) → AreSaidNames Γ ss → AllByRecursion (λ (s : Said). E s.name ≡ s.amount) ss → greatest_said ss ⊑ greatest_of D
said_below Γ D E h [] n k = none-least (greatest_of D)
said_below Γ D E h (s ∷ ss) n k = greater-least s.amount (greatest_said ss) (greatest_of D) (subst (λ z. z ⊑ greatest_of D) k.0 (at_greatest Γ D E h s.name n.0.0 n.0.1)) (said_below Γ D E h ss n.1 k.1)

places_below : (Γ : Context) (D : Sensitivities) (E : Amounts) (m : Distance) → length D ≤ names_in Γ → SaySame Γ D E → ((x : Name) → E x ⊑ m) → greatest_of D ⊑ m
places_below Γ [] E m l h k = none-least m
places_below Closed (t ∷ D) E m l h k = absurd (omega (arith, l))
places_below (Under x A Γ) (t ∷ D) E m l h k = greater-least t (greatest_of D) m (⊑-trans t (E x) m h.0.le (k x)) (places_below Γ D (without x E) m (omega (arith, l)) h.1 (λ y. go y (bytes_eq x y)))
  where
    go : (y : Name) (b : Bool) → cond b none (E y) ⊑ m
    go y true = none-least m
    go y false = k y

low_each : (ss : List Said) → AllByRecursion (IsKept IsWord) ss → AllByRecursion (λ (s : Said). IsLow s.amount) ss
low_each [] h = tt
low_each (s ∷ ss) h = (h.0.low, low_each ss h.1)

-- an accepted program has a least derivation
pub accepted_found : (ts : Signature) (e : Term) → IsSignature ts → TermLimits e → (D : Sensitivities) (r : Distance) → sensitivity_of ts e ≡ Accepted D r → Found (names_of ts) (least (names_of ts) e) NumT D
accepted_found ts e s t D r h =
    let u : rule (names_of ts) e ≡ Has NumT D = subst (λ Δ. rule Δ e ≡ Has NumT D) (same_context ts) (accepted ts e D r h).0 in
    rules_found (names_of ts) e NumT D (context_ok ts s) t u

pub never_fails : (ts : Signature) (e : Term) → IsSignature ts → TermLimits e → IsAccepted ts e → least (names_of ts) e ≡ None → ⊥
never_fails ts e s t (D, r, h) n = let f = accepted_found ts e s t D r h in let i : None ≡ Some f.derived = sym n ∙ f.is in cc i

pub judged : DerivedIsJudged
judged ts e D r d s n t w h i =
    let Γ = names_of ts in
    let a = accepted ts e D r h in
    let u : rule Γ e ≡ Has NumT D = subst (λ Δ. rule Δ e ≡ Has NumT D) (same_context ts) a.0 in
    let g = context_ok ts s in
    let f = accepted_found ts e s t D r h in
    let j : f.derived ≡ d = cc (f.is, i) in
    let ty : d.own.ty ≡ NumT = subst (λ (c : Derived). c.own.ty ≡ NumT) j f.type in
    let same : SaySame Γ D (says_at d.own) = subst (λ (c : Derived). SaySame Γ D (says_at c.own)) j f.same in
    let scope : AreSaidNames Γ d.own.says = subst (λ (c : Derived). AreSaidNames Γ c.own.says) j f.scope in
    let p = derived Γ e d i in
    let each = least_lines IsWord Γ e d (named_words ts n) w i in
    let own = own_amounts d.own.says each.0.order in
    let finite = all_finite Γ (says_at d.own) (finite_at ts D (says_at d.own) same a.2) d.own.says scope own in
    let b : is_bounded d.own ≡ true = rw (ty, finite) refl in
    let derivable : IsDerivable ts e (lines_of d) = record { own = d.own; below = d.below; are = refl; derives = p; bounded = b } in
    let le = said_below Γ D (says_at d.own) same d.own.says scope own in
    let ge = places_below Γ D (says_at d.own) (greatest_said d.own.says) (within (sound e Γ t NumT D u)) same (λ x. said_at_most d.own.says x) in
    let number : greatest_said d.own.says ≈ greatest_of D = record { le = le; ge = ge } in
    let is : greatest_said d.own.says ≡ lowest r =
    low_as (greatest_said d.own.says) r (greatest_low d.own.says (low_each d.own.says each.0.each)) (subst (λ z. greatest_said d.own.says ≈ z) (sym a.1) number) in
    record {
      lines = lines_of d;
      are = read_back (lines_of d) (least_readable Γ e d g t (named_words ts n) w i);
      all = (count p).is;
      right = has_no_fault ts e (lines_of d) derivable;
      greatest = sym is ∙ ap (λ (l : Line). greatest_said l.says) (sym (first_line (lines_of d) d.own d.below refl));
    }
