-- Entries with distinct names: what they give a name, and what an edit changes.
use Rattle.std.proofs.Common.{◌≡◌, ℕ, zero, suc, ◌+◌, ◌<◌, ◌≤◌, refl, ap, sym, arith, cond, Bool, true, false, List, [], ◌∷◌, ◌++◌, get_or, length, take, add-one, subst, ◌∙◌}
use Rattle.std.specs.Prelude.{bytes_eq, set, Result, Ok, Err, IsErr, MatchResult}
use Rattle.std.specs.List.{remove}
use Rattle.std.proofs.lemmas.List.{take_all}
use Rattle.std.proofs.lemmas.Slice.Eq.{bytes_eq-Decides}
use Rattle.fz_frac.specs.Distance.{Distance, Fin, ◌≈◌, none, is_le}
use Rattle.fz_frac.specs.Lowest.{is_out}
use Rattle.fz_frac.specs.Sens.{distance_of}
use Rattle.fz_frac.specs.declared.sens.Sens.{Sens}
use Rattle.fz_frac.specs.declared.sens.Sens.TheVariants.{Finite, Inf as Endless}
use Rattle.fz_frac.proofs.Laws.{is_le-yes, none-least, ≈-sym}
use Rattle.fz_frac.proofs.Lowest.{same_form, gcd_one, sens_fits, endless_fits}
use Rattle.fz_ast.proofs.TermNodes.{is_name}
use Rattle.fz_ast.specs.Names.{name_of}
use Rattle.fz_ast.specs.Terms.{Name}
use Rattle.linear_types.specs.Environment.{Amounts, amount_of, IsAbsent, IsEnvironment, IsInRange, IsSet, HasEach, IsCauseFor}
use Rattle.linear_types.specs.Entries.{amounts_of, IsPlace}
use Rattle.linear_types.specs.declared.env.Entry.{Entry}
use Rattle.linear_types.specs.declared.places.EnvFault.{EnvFault}
use Rattle.linear_types.specs.declared.places.EnvFault.TheVariants.{Range, NoMemory}
use Rattle.linear_types.proofs.Alike.{is_out_alike}

-- names

same_of : (x y : Name) → bytes_eq x y ≡ true → x ≡ y
same_of x y h = (bytes_eq-Decides x y).0 h

eq_of : (x y : Name) → x ≡ y → bytes_eq x y ≡ true
eq_of x y h = (bytes_eq-Decides x y).1 h

flip : (x y : Name) → bytes_eq x y ≡ false → bytes_eq y x ≡ false
flip x y h = go (bytes_eq y x) refl
  where
    go : (t : Bool) → bytes_eq y x ≡ t → t ≡ false
    go true e = let f = eq_of x y (sym (same_of y x e)) in cc
    go false e = refl

clash : (n x y : Name) → bytes_eq n x ≡ false → bytes_eq n y ≡ true → bytes_eq x y ≡ true → ⊥
clash n x y h k l = let f = eq_of n x (same_of n y k ∙ sym (same_of x y l)) in cc

swap : (a b : Bool) (u v w : Distance) → (a ≡ true → b ≡ true → ⊥) → cond a u (cond b v w) ≡ cond b v (cond a u w)
swap true true u v w h = absurd (h refl refl)
swap true false u v w h = refl
swap false true u v w h = refl
swap false false u v w h = refl

pub named_at : (E : List Entry) (i : ℕ) (d : Entry) (x : Name) → i < length E → name_of (get_or E i d).name ≡ x → (e : Entry) → name_of (get_or E i e).name ≡ x
named_at [] i d x l h e = absurd (omega arith)
named_at (a ∷ E) zero d x l h e = h
named_at (a ∷ E) (suc i) d x l h e = named_at E i d x (omega arith) h e

pub place_at : (E : List Entry) (x : Name) (i : ℕ) (d : Entry) → i < length E → bytes_eq (name_of (get_or E i d).name) x ≡ true → IsPlace E x i
place_at E x i d l h = record { within = l; named = named_at E i d x l (same_of _ _ h) }

-- absent names

absent_at : (x : Name) (E : List Entry) (i : ℕ) (e : Entry) → i < length E → IsAbsent x (amounts_of E) → bytes_eq (name_of (get_or E i e).name) x ≡ false
absent_at x [] i e l h = absurd (omega arith)
absent_at x (a ∷ E) zero e l h = h.0
absent_at x (a ∷ E) (suc i) e l h = absent_at x E i e (omega arith) h.1

-- who is absent has another name
other : (m : Name) (E : List Entry) (i : ℕ) (x : Name) (e : Entry) → i < length E → IsAbsent m (amounts_of E) → ((e : Entry) → name_of (get_or E i e).name ≡ x) → bytes_eq m x ≡ false
other m E i x e l h n = flip x m (subst (λ (y : Name). bytes_eq y m ≡ false) (n e) (absent_at m E i e l h))

pub absent_none : (x : Name) (E : Amounts) → IsAbsent x E → amount_of E x ≡ none
absent_none x [] h = refl
absent_none x (a ∷ E) h = rw h.0 (absent_none x E h.1)

pub set_absent : (x : Name) (E : Amounts) → IsAbsent x E → IsSet E x none E
set_absent x E h y = go (bytes_eq x y) refl
  where
    go : (t : Bool) → bytes_eq x y ≡ t → amount_of E y ≡ cond t none (amount_of E y)
    go true e = subst (λ (z : Name). amount_of E z ≡ none) (same_of x y e) (absent_none x E h)
    go false e = refl

pub absent_take : (x : Name) (E : List Entry) (k : ℕ) (e : Entry) → k < length E → bytes_eq (name_of (get_or E k e).name) x ≡ false → IsAbsent x (amounts_of (take k E)) → IsAbsent x (amounts_of (take (suc k) E))
absent_take x [] k e l h a = absurd (omega arith)
absent_take x (d ∷ E) zero e l h a = (h, tt)
absent_take x (d ∷ E) (suc k) e l h a = (a.0, absent_take x E k e (omega arith) h a.1)

absent_removed : (x : Name) (E : List Entry) (i : ℕ) → IsAbsent x (amounts_of E) → IsAbsent x (amounts_of (remove E i))
absent_removed x [] zero h = tt
absent_removed x [] (suc i) h = tt
absent_removed x (a ∷ E) zero h = h.1
absent_removed x (a ∷ E) (suc i) h = (h.0, absent_removed x E i h.1)

absent_put : (x : Name) (E : List Entry) (i : ℕ) (e : Entry) → bytes_eq (name_of e.name) x ≡ false → IsAbsent x (amounts_of E) → IsAbsent x (amounts_of (set E i e))
absent_put x [] i e n h = tt
absent_put x (a ∷ E) zero e n h = (n, h.1)
absent_put x (a ∷ E) (suc i) e n h = (h.0, absent_put x E i e n h.1)

absent_pushed : (x : Name) (E : List Entry) (e : Entry) → bytes_eq (name_of e.name) x ≡ false → IsAbsent x (amounts_of E) → IsAbsent x (amounts_of (E ++ e ∷ []))
absent_pushed x [] e n h = (n, tt)
absent_pushed x (a ∷ E) e n h = (h.0, absent_pushed x E e n h.1)

-- an edit keeps an environment

pub env_removed : (E : List Entry) (i : ℕ) → IsEnvironment (amounts_of E) → IsEnvironment (amounts_of (remove E i))
env_removed [] zero k = tt
env_removed [] (suc i) k = tt
env_removed (a ∷ E) zero k = k.3
env_removed (a ∷ E) (suc i) k = (k.0, absent_removed (name_of a.name) E i k.1, k.2, env_removed E i k.3)

pub env_put : (E : List Entry) (i : ℕ) (e : Entry) → IsEnvironment (amounts_of E) → IsPlace E (name_of e.name) i → is_le (distance_of e.r) none ≡ false → IsEnvironment (amounts_of (set E i e))
env_put E i e k p z = go E i k p.within p.named
  where
    go : (E : List Entry) (i : ℕ) → IsEnvironment (amounts_of E) → i < length E → ((d : Entry) → name_of (get_or E i d).name ≡ name_of e.name) → IsEnvironment (amounts_of (set E i e))
    go [] i k l n = absurd (omega arith)
    go (a ∷ E) zero k l n = (is_name e.name, subst (λ (y : Name). IsAbsent y (amounts_of E)) (n a) k.1, z, k.3)
    go (a ∷ E) (suc i) k l n =
        let o = other (name_of a.name) E i (name_of e.name) a (omega arith) k.1 n in
        (k.0, absent_put (name_of a.name) E i e (flip (name_of a.name) (name_of e.name) o) k.1, k.2, go E i k.3 (omega arith) n)

pub env_pushed : (E : List Entry) (e : Entry) → IsEnvironment (amounts_of E) → IsAbsent (name_of e.name) (amounts_of E) → is_le (distance_of e.r) none ≡ false → IsEnvironment (amounts_of (E ++ e ∷ []))
env_pushed [] e k h z = (is_name e.name, tt, z, tt)
env_pushed (a ∷ E) e k h z = (k.0, absent_pushed (name_of a.name) E e (flip (name_of a.name) (name_of e.name) h.0) k.1, k.2, env_pushed E e k.3 h.1 z)

-- what an edit gives

front_removed : (n x y : Name) (r : Distance) (E : Amounts) → n ≡ x → IsAbsent n E → amount_of E y ≡ cond (bytes_eq x y) none (cond (bytes_eq n y) r (amount_of E y))
front_removed n x y r E e h = subst (λ (z : Name). amount_of E y ≡ cond (bytes_eq z y) none (cond (bytes_eq n y) r (amount_of E y))) e (go (bytes_eq n y) refl)
  where
    go : (t : Bool) → bytes_eq n y ≡ t → amount_of E y ≡ cond t none (cond t r (amount_of E y))
    go true k = subst (λ (z : Name). amount_of E z ≡ none) (same_of n y k) (absent_none n E h)
    go false k = refl

pub removed : (E : List Entry) (i : ℕ) (x : Name) → IsEnvironment (amounts_of E) → IsPlace E x i → IsSet (amounts_of E) x none (amounts_of (remove E i))
removed E i x k p y = go E i k p.within p.named
  where
    go : (E : List Entry) (i : ℕ) → IsEnvironment (amounts_of E) → i < length E → ((e : Entry) → name_of (get_or E i e).name ≡ x) → amount_of (amounts_of (remove E i)) y ≡ cond (bytes_eq x y) none (amount_of (amounts_of E) y)
    go [] i k l n = absurd (omega arith)
    go (e ∷ E) zero k l n = front_removed (name_of e.name) x y (distance_of e.r) (amounts_of E) (n e) k.1
    go (e ∷ E) (suc i) k l n =
        let a = other (name_of e.name) E i x e (omega arith) k.1 n in
        ap (cond (bytes_eq (name_of e.name) y) (distance_of e.r)) (go E i k.3 (omega arith) n)
        ∙ swap (bytes_eq (name_of e.name) y) (bytes_eq x y) _ _ _ (clash (name_of e.name) x y a)

front_put : (n x y : Name) (r s : Distance) (E : Amounts) → n ≡ x → cond (bytes_eq x y) s (amount_of E y) ≡ cond (bytes_eq x y) s (cond (bytes_eq n y) r (amount_of E y))
front_put n x y r s E e = subst (λ (z : Name). cond (bytes_eq z y) s (amount_of E y) ≡ cond (bytes_eq z y) s (cond (bytes_eq n y) r (amount_of E y))) e (go (bytes_eq n y))
  where
    go : (t : Bool) → cond t s (amount_of E y) ≡ cond t s (cond t r (amount_of E y))
    go true = refl
    go false = refl

pub put : (E : List Entry) (i : ℕ) (e : Entry) → IsEnvironment (amounts_of E) → IsPlace E (name_of e.name) i → IsSet (amounts_of E) (name_of e.name) (distance_of e.r) (amounts_of (set E i e))
put E i e k p y = go E i k p.within p.named
  where
    go : (E : List Entry) (i : ℕ) → IsEnvironment (amounts_of E) → i < length E → ((d : Entry) → name_of (get_or E i d).name ≡ name_of e.name) → amount_of (amounts_of (set E i e)) y ≡ cond (bytes_eq (name_of e.name) y) (distance_of e.r) (amount_of (amounts_of E) y)
    go [] i k l n = absurd (omega arith)
    go (a ∷ E) zero k l n = front_put (name_of a.name) (name_of e.name) y (distance_of a.r) (distance_of e.r) (amounts_of E) (n a)
    go (a ∷ E) (suc i) k l n =
        let o = other (name_of a.name) E i (name_of e.name) a (omega arith) k.1 n in
        ap (cond (bytes_eq (name_of a.name) y) (distance_of a.r)) (go E i k.3 (omega arith) n)
        ∙ swap (bytes_eq (name_of a.name) y) (bytes_eq (name_of e.name) y) _ _ _ (clash (name_of a.name) (name_of e.name) y o)

pub pushed : (E : List Entry) (e : Entry) → IsAbsent (name_of e.name) (amounts_of E) → IsSet (amounts_of E) (name_of e.name) (distance_of e.r) (amounts_of (E ++ e ∷ []))
pushed [] e h y = refl
pushed (a ∷ E) e h y =
    ap (cond (bytes_eq (name_of a.name) y) (distance_of a.r)) (pushed E e h.1 y)
    ∙ swap (bytes_eq (name_of a.name) y) (bytes_eq (name_of e.name) y) _ _ _ (clash (name_of a.name) (name_of e.name) y h.0)

-- the entry at a place gives its name's sensitivity
pub found : (E : List Entry) (i : ℕ) (x : Name) (e : Entry) → IsEnvironment (amounts_of E) → IsPlace E x i → distance_of (get_or E i e).r ≡ amount_of (amounts_of E) x
found E i x e k p = go E i k p.within p.named
  where
    go : (E : List Entry) (i : ℕ) → IsEnvironment (amounts_of E) → i < length E → ((d : Entry) → name_of (get_or E i d).name ≡ x) → distance_of (get_or E i e).r ≡ amount_of (amounts_of E) x
    go [] i k l n = absurd (omega arith)
    go (a ∷ E) zero k l n = let h = eq_of (name_of a.name) x (n a) in rw h refl
    go (a ∷ E) (suc i) k l n = let h = other (name_of a.name) E i x a (omega arith) k.1 n in rw h (go E i k.3 (omega arith) n)

taken : (E : List Entry) (k : ℕ) (e : Entry) (y : Name) → IsEnvironment (amounts_of E) → k < length E
    → amount_of (amounts_of (take (suc k) E)) y ≡ cond (bytes_eq (name_of (get_or E k e).name) y) (distance_of (get_or E k e).r) (amount_of (amounts_of (take k E)) y)
taken [] k e y i l = absurd (omega arith)
taken (a ∷ E) zero e y i l = refl
taken (a ∷ E) (suc k) e y i l =
    let h = flip (name_of (get_or E k e).name) (name_of a.name) (absent_at (name_of a.name) E k e (omega arith) i.1) in
    ap (cond (bytes_eq (name_of a.name) y) (distance_of a.r)) (taken E k e y i.3 (omega arith))
    ∙ swap (bytes_eq (name_of a.name) y) (bytes_eq (name_of (get_or E k e).name) y) _ _ _ (clash (name_of a.name) (name_of (get_or E k e).name) y h)

-- numbers

pub zero_is : (s : Sens) → is_le (distance_of s) none ≡ true → distance_of s ≡ none
zero_is (Finite f) h = let k = same_form f.p f.q 0 1 f.above_zero (omega arith) f.lowest (gcd_one 0) (record { le = is_le-yes (Fin f.p f.q) none h; ge = none-least _ }) in rw (k.0, k.1) refl
zero_is Endless h = absurd (cc)

either : (t : Bool) (u v : Distance) → is_out u ≡ false → is_out v ≡ false → is_out (cond t u v) ≡ false
either true u v h k = h
either false u v h k = k

pub kept_in_range : (E : List Entry) → IsInRange (amounts_of E)
kept_in_range [] x = endless_fits 0
kept_in_range (e ∷ E) x = either (bytes_eq (name_of e.name) x) (distance_of e.r) (amount_of (amounts_of E) x) (sens_fits e.r) (kept_in_range E x)

-- a loop over entries: f of what B and E give is done
pub record Done (cur B : Amounts) (f : Distance → Distance → Distance) (E : Amounts) : Type 0 where
  pub in_range : IsInRange cur
  pub alike : (y : Name) → amount_of cur y ≈ f (amount_of B y) (amount_of E y)

pub started : (cur B : Amounts) (f : Distance → Distance → Distance) → ((a : Distance) → f a none ≈ a) → cur ≡ B → IsInRange B → Done cur B f []
started cur B f g e r = subst (λ (C : Amounts). Done C B f []) (sym e) (record { in_range = r; alike = λ y. ≈-sym (g (amount_of B y)) })

pub started_empty : (cur : Amounts) (f : Distance → Distance) → f none ≈ none → cur ≡ [] → Done cur [] (λ _ d. f d) []
started_empty cur f g e = subst (λ (C : Amounts). Done C [] (λ _ d. f d) []) (sym e) (record { in_range = kept_in_range []; alike = λ y. ≈-sym g })

pub step : (cur new B : Amounts) (f : Distance → Distance → Distance) (E : List Entry) (k : ℕ) (e : Entry) (w : Sens)
    → Done cur B f (amounts_of (take k E)) → IsEnvironment (amounts_of E) → k < length E → e ≡ get_or E k e
    → IsSet cur (name_of e.name) (distance_of w) new → distance_of w ≈ f (amount_of B (name_of e.name)) (distance_of e.r)
    → Done new B f (amounts_of (take (k + 1) E))
step cur new B f E k e w d i l is s h = record { in_range = in_range; alike = λ y. rw (add-one, s y, at y) (alike y (bytes_eq (name_of e.name) y) refl) }
  where
    at : (y : Name) → amount_of (amounts_of (take (suc k) E)) y ≡ cond (bytes_eq (name_of e.name) y) (distance_of e.r) (amount_of (amounts_of (take k E)) y)
    at y = subst (λ (u : Entry). amount_of (amounts_of (take (suc k) E)) y ≡ cond (bytes_eq (name_of u.name) y) (distance_of u.r) (amount_of (amounts_of (take k E)) y)) (sym is) (taken E k e y i l)

    in_range : (y : Name) → is_out (amount_of new y) ≡ false
    in_range y = rw (s y) (either (bytes_eq (name_of e.name) y) (distance_of w) (amount_of cur y) (sens_fits w) (d.in_range y))

    alike : (y : Name) (t : Bool) → bytes_eq (name_of e.name) y ≡ t → cond t (distance_of w) (amount_of cur y) ≈ f (amount_of B y) (cond t (distance_of e.r) (amount_of (amounts_of (take k E)) y))
    alike y true g = subst (λ (z : Name). distance_of w ≈ f (amount_of B z) (distance_of e.r)) (same_of (name_of e.name) y g) h
    alike y false g = d.alike y

finish : (cur B : Amounts) (f : Distance → Distance → Distance) (E : Amounts) → Done cur B f E → HasEach cur (λ x. f (amount_of B x) (amount_of E x))
finish cur B f E d = record { in_range = λ x. sym (is_out_alike (d.alike x)) ∙ d.in_range x; alike = d.alike }

-- the same of a slice of the entries, and of a name's bytes

pub place_of : (E xs : List Entry) (x y : Name) (i : ℕ) → xs ≡ E → y ≡ x → IsPlace xs y i → IsPlace E x i
place_of E xs x y i a b p = subst (λ (L : List Entry). IsPlace L x i) a (subst (λ (z : Name). IsPlace xs z i) b p)

pub absent_of : (E xs : List Entry) (x y : Name) → xs ≡ E → y ≡ x → IsAbsent y (amounts_of xs) → IsAbsent x (amounts_of E)
absent_of E xs x y a b p = subst (λ (L : List Entry). IsAbsent x (amounts_of L)) a (subst (λ (z : Name). IsAbsent z (amounts_of xs)) b p)

pub found_at : (D : Amounts) (E : List Entry) (i : ℕ) (x : Name) (e : Entry) → amounts_of E ≡ D → IsEnvironment (amounts_of E) → IsPlace E x i → e ≡ get_or E i e → distance_of e.r ≡ amount_of D x
found_at D E i x e v k p is = ap (λ (u : Entry). distance_of u.r) is ∙ (found E i x e k p ∙ ap (λ (L : Amounts). amount_of L x) v)

pub removed_at : (D : Amounts) (E F : List Entry) (i : ℕ) (x : Name) → amounts_of E ≡ D → F ≡ remove E i → IsEnvironment (amounts_of E) → IsPlace E x i → IsSet D x none (amounts_of F)
removed_at D E F i x v f k p = subst (λ (L : Amounts). IsSet L x none (amounts_of F)) v (subst (λ (G : List Entry). IsSet (amounts_of E) x none (amounts_of G)) (sym f) (removed E i x k p))

pub put_at : (D : Amounts) (E : List Entry) (i : ℕ) (e : Entry) → amounts_of E ≡ D → IsEnvironment (amounts_of E) → IsPlace E (name_of e.name) i → IsSet D (name_of e.name) (distance_of e.r) (amounts_of (set E i e))
put_at D E i e v k p = subst (λ (L : Amounts). IsSet L (name_of e.name) (distance_of e.r) (amounts_of (set E i e))) v (put E i e k p)

pub pushed_at : (D : Amounts) (E F : List Entry) (e : Entry) → amounts_of E ≡ D → F ≡ E ++ e ∷ [] → IsAbsent (name_of e.name) (amounts_of E) → IsSet D (name_of e.name) (distance_of e.r) (amounts_of F)
pushed_at D E F e v f h = subst (λ (L : Amounts). IsSet L (name_of e.name) (distance_of e.r) (amounts_of F)) v (subst (λ (G : List Entry). IsSet (amounts_of E) (name_of e.name) (distance_of e.r) (amounts_of G)) (sym f) (pushed E e h))

pub in_range_at : (D : Amounts) (E : List Entry) → amounts_of E ≡ D → IsInRange D
in_range_at D E v = subst (λ (L : Amounts). IsInRange L) v (kept_in_range E)

pub env_of : (E xs : List Entry) → xs ≡ E → IsEnvironment (amounts_of E) → IsEnvironment (amounts_of xs)
env_of E xs a k = subst (λ (L : List Entry). IsEnvironment (amounts_of L)) (sym a) k

pub finish_at : (cur B D : Amounts) (f : Distance → Distance → Distance) (E xs : List Entry) (k : ℕ) → Done cur B f (amounts_of (take k xs)) → length xs ≤ k → xs ≡ E → amounts_of E ≡ D → HasEach cur (λ x. f (amount_of B x) (amount_of D x))
finish_at cur B D f E xs k d l a v = finish cur B f D (subst (λ (L : Amounts). Done cur B f L) (ap amounts_of (take_all k xs l) ∙ (ap amounts_of a ∙ v)) d)

-- the sensitivity of the entry that a loop is at
pub item_at : (D : Amounts) (E xs : List Entry) (i : ℕ) (e : Entry) → xs ≡ E → amounts_of E ≡ D → IsEnvironment (amounts_of E) → i < length xs → e ≡ get_or xs i e → distance_of e.r ≡ amount_of D (name_of e.name)
item_at D E xs i e a v k l is = found_at D xs i (name_of e.name) e (ap amounts_of a ∙ v) (env_of E xs a k) (record { within = l; named = named_at xs i e (name_of e.name) l (ap (λ (u : Entry). name_of u.name) (sym is)) }) is

pub known : (D : Amounts) (s : Sens) (x y : Name) → distance_of s ≡ amount_of D x → x ≡ y → distance_of s ≡ amount_of D y
known D s x y h e = h ∙ ap (amount_of D) e

pub out_at : (r : Result Amounts EnvFault) (f : Name → Distance) (x : Name) → IsErr r → is_out (f x) ≡ true → MatchResult r (λ E. HasEach E f) (λ fault. IsCauseFor fault f)
out_at (Ok E) f x e h = absurd (cc)
out_at (Err Range) f x e h = (x, h)
out_at (Err NoMemory) f x e h = tt
