-- The names in scope, sorted, and what is said of them.
use Rattle.std.proofs.Common.{◌≡◌, ℕ, ◌*◌, ◌<◌, ◌≤◌, Bool, true, false, cond, List, [], ◌∷◌, refl, sym, ap, ◌∙◌, subst, arith, inl, inr}
use Rattle.std.specs.Prelude.{◌⊎◌, ◌/◌, bytes_eq, Option, Some, None, ⊤}
use Rattle.std.specs.List.{AllByRecursion}
use Rattle.std.specs.List.Sorted.{IsStrictlySortedBy}
use Rattle.std.specs.Cmp.Lexicographic.{slice_cmp}
use Rattle.std.specs.Ordering.{nat_cmp, ordering_reverse}
use Rattle.std.specs.declared.cmp.Ordering.{Ordering}
use Rattle.std.specs.declared.cmp.Ordering.TheVariants.{Less, Equal, Greater}
use Rattle.std.proofs.lemmas.Cmp.{nat_list_cmp_total}
use Rattle.std.proofs.lemmas.Map.Lookups.{exact_bytes}
use Rattle.std.proofs.lemmas.Slice.Eq.{bytes_eq-Decides}
use Rattle.std.proofs.lemmas.Bool.{cases_Bool}
use Rattle.fz_frac.specs.Distance.{Distance, Fin, Inf, den, is_le, none, ◌⊑◌, ◌≈◌}
use Rattle.fz_frac.specs.Lowest.{lowest, gcd}
use Rattle.fz_frac.proofs.Laws.{den_of, den_pos, is_le-yes, none-least, ≈-refl}
use Rattle.fz_frac.proofs.Lowest.{Lowest, lowest as parts_of}
use Rattle.fz_ast.specs.Terms.{Name}
use Rattle.fz_ast.specs.Types.{Ty}
use Rattle.term_meanings.specs.Scopes.{Context, Closed, Under}
use Rattle.derivation_lines.specs.Lines.{AreInOrder, Said, Line, amount_in, names_said}
use Rattle.derivation_rows.specs.Numbers.{Numbers}
use Rattle.fz_derive.specs.Derivable.{AreSaidNames, IsAtMost, IsNamed, inmost, outer}
use Rattle.fz_derive.specs.Least.{put, put_before, said_first, said_of_each, sorted_names}

abbrev cmp : Name → Name → Ordering
cmp = slice_cmp nat_cmp

-- x is one of these names
abbrev pub IsAmong : Name → List Name → Type 0
IsAmong x [] = ⊥
IsAmong x (y ∷ ys) = (y ≡ x) ⊎ IsAmong x ys

-- a name put in its place

pub all_put : (P : Name → Type 0) (x : Name) (ys : List Name) → P x → AllByRecursion P ys → AllByRecursion P (put x ys)
all_put P x [] h k = (h, tt)
all_put P x (y ∷ ys) h k = go (cmp x y) (all_put P x ys h k.1)
  where
    go : (o : Ordering) → AllByRecursion P (put x ys) → AllByRecursion P (put_before o x y ys (put x ys))
    go Less i = (h, k)
    go Equal i = k
    go Greater i = (k.0, i)

all_of : (P Q : Name → Type 0) → ((y : Name) → P y → Q y) → (ys : List Name) → AllByRecursion P ys → AllByRecursion Q ys
all_of P Q f [] h = tt
all_of P Q f (y ∷ ys) h = (f y h.0, all_of P Q f ys h.1)

turned : (x y : Name) → cmp x y ≡ Greater → cmp y x ≡ Less
turned x y e = nat_list_cmp_total.antisymm y x ∙ ap ordering_reverse e

pub put_sorted : (x : Name) (ys : List Name) → IsStrictlySortedBy cmp ys → IsStrictlySortedBy cmp (put x ys)
unfolding IsStrictlySortedBy
put_sorted x [] h = (tt, tt)
put_sorted x (y ∷ ys) h = go (cmp x y) refl (put_sorted x ys h.1)
  where
    go : (o : Ordering) → cmp x y ≡ o → IsStrictlySortedBy cmp (put x ys) → IsStrictlySortedBy cmp (put_before o x y ys (put x ys))
    go Less e i = ((e, all_of (λ z. cmp y z ≡ Less) (λ z. cmp x z ≡ Less) (λ z l. nat_list_cmp_total.trans x y z e l) ys h.0), h)
    go Equal e i = h
    go Greater e i = (all_put (λ z. cmp y z ≡ Less) x ys (turned x y e) h.0, i)

pub names_sorted : (Γ : Context) → IsStrictlySortedBy cmp (sorted_names Γ)
unfolding IsStrictlySortedBy
names_sorted Closed = tt
names_sorted (Under x A Γ) = put_sorted x (sorted_names Γ) (names_sorted Γ)

among_put : (x : Name) (ys : List Name) → IsAmong x (put x ys)
among_put x [] = inl refl
among_put x (y ∷ ys) = go (cmp x y) refl (among_put x ys)
  where
    go : (o : Ordering) → cmp x y ≡ o → IsAmong x (put x ys) → IsAmong x (put_before o x y ys (put x ys))
    go Less e i = inl refl
    go Equal e i = inl (sym (exact_bytes x y e))
    go Greater e i = inr i

still_among : (x z : Name) (ys : List Name) → IsAmong z ys → IsAmong z (put x ys)
still_among x z [] h = absurd h
still_among x z (y ∷ ys) h = go (cmp x y) h (λ m. still_among x z ys m)
  where
    go : (o : Ordering) → (y ≡ z) ⊎ IsAmong z ys → (IsAmong z ys → IsAmong z (put x ys)) → IsAmong z (put_before o x y ys (put x ys))
    go Less h f = inr h
    go Equal h f = h
    go Greater (inl e) f = inl e
    go Greater (inr h) f = inr (f h)

-- a name in scope is among them, and each of them is in scope
pub among_sorted : (Γ : Context) (x : Name) (A : Ty) → IsNamed Γ x A → IsAmong x (sorted_names Γ)
among_sorted _ x A (inmost {y = y} {Γ = Γ} e) = subst (λ z. IsAmong z (put y (sorted_names Γ))) ((bytes_eq-Decides y x).0 e) (among_put y (sorted_names Γ))
among_sorted _ x A (outer {y = y} {Γ = Γ} e h) = still_among y x (sorted_names Γ) (among_sorted Γ x A h)

abbrev Named : Context → Name → Type 0
Named Γ x = (A : Ty) × IsNamed Γ x A

named_under : (y : Name) (B : Ty) (Γ : Context) (x : Name) → Named Γ x → Named (Under y B Γ) x
named_under y B Γ x h = elim (cases_Bool (bytes_eq y x)) [ inl e ↦ (B, inmost e) | inr e ↦ (h.0, outer e h.1) ]

pub sorted_named : (Γ : Context) → AllByRecursion (Named Γ) (sorted_names Γ)
sorted_named Closed = tt
sorted_named (Under y B Γ) =
    all_put (Named (Under y B Γ)) y (sorted_names Γ) (B, inmost ((bytes_eq-Decides y y).1 refl)) (all_of (Named Γ) (Named (Under y B Γ)) (named_under y B Γ) (sorted_names Γ) (sorted_named Γ))

-- what is said of each

-- a name's number, what is said of the others, and all that is said
record Says (x : Name) (o : Option Distance) (r : Option (List Said)) (ss : List Said) : Type 0 where
  pub number : Distance
  pub later : List Said
  pub is : o ≡ Some number
  pub rest : r ≡ Some later
  pub all : ss ≡ cond (is_le number none) later ((record { name = x; amount = lowest number }) ∷ later)

says : (x : Name) (o : Option Distance) (r : Option (List Said)) (ss : List Said) → said_first x o r ≡ Some ss → Says x o r ss
says x None r ss h = absurd (cc h)
says x (Some d) None ss h = absurd (cc h)
says x (Some d) (Some later) ss h = record { number = d; later = later; is = refl; rest = refl; all = sym (cc h) }

-- all that is said has what each name has
pub all_said : (P : Said → Type 0) (Q : Name → Type 0) → ((x : Name) (d : Distance) → Q x → is_le d none ≡ false → P (record { name = x; amount = lowest d }))
    → (xs : List Name) (n : Numbers) (ss : List Said) → said_of_each xs n ≡ Some ss → AllByRecursion Q xs → AllByRecursion P ss
all_said P Q f [] n ss h q = let e : [] ≡ ss = cc h in subst (AllByRecursion P) e tt
all_said P Q f (x ∷ xs) n ss h q =
    let s = says x (n x) (said_of_each xs n) ss h in
    subst (AllByRecursion P) (sym s.all) (one s.number s.later (is_le s.number none) refl (all_said P Q f xs n s.later s.rest q.1))
  where
    one : (d : Distance) (later : List Said) (b : Bool) → is_le d none ≡ b → AllByRecursion P later → AllByRecursion P (cond b later ((record { name = x; amount = lowest d }) ∷ later))
    one d later true e i = i
    one d later false e i = (f x d q.0 e, i)

pub said_named : (Γ : Context) (n : Numbers) (ss : List Said) → said_of_each (sorted_names Γ) n ≡ Some ss → AreSaidNames Γ ss
said_named Γ n ss h = go ss (all_said (λ (s : Said). Named Γ s.name) (Named Γ) (λ x d q e. q) (sorted_names Γ) n ss h (sorted_named Γ))
  where
    go : (ss : List Said) → AllByRecursion (λ (s : Said). Named Γ s.name) ss → AreSaidNames Γ ss
    go [] h = tt
    go (s ∷ ss) h = (h.0, go ss h.1)

-- in order
names_all : (P : Name → Type 0) (ss : List Said) → AllByRecursion (λ (s : Said). P s.name) ss → AllByRecursion P (names_said ss)
names_all P [] h = tt
names_all P (s ∷ ss) h = (h.0, names_all P ss h.1)

pub said_order : (xs : List Name) (n : Numbers) (ss : List Said) → said_of_each xs n ≡ Some ss → IsStrictlySortedBy cmp xs → AreInOrder ss
unfolding IsStrictlySortedBy
said_order [] n ss h q = let e : [] ≡ ss = cc h in subst AreInOrder e tt
said_order (x ∷ xs) n ss h q =
    let s = says x (n x) (said_of_each xs n) ss h in
    let above = names_all (λ z. cmp x z ≡ Less) s.later (all_said (λ (t : Said). cmp x t.name ≡ Less) (λ z. cmp x z ≡ Less) (λ y d l e. l) xs n s.later s.rest q.0) in
    subst AreInOrder (sym s.all) (one s.number s.later (is_le s.number none) above (said_order xs n s.later s.rest q.1))
  where
    one : (d : Distance) (later : List Said) (b : Bool) → AllByRecursion (λ z. cmp x z ≡ Less) (names_said later) → AreInOrder later
        → AreInOrder (cond b later ((record { name = x; amount = lowest d }) ∷ later))
    one d later true a i = i
    one d later false a i = (a, i)

-- and enough of each name

cross : (p q n d g : ℕ) → p ≡ g * n → q ≡ g * d → p * d ≡ n * q
cross p q n d g a b = rw (a, b) (omega arith)

pub lowest_same : (d : Distance) → lowest d ≈ d
lowest_same Inf = ≈-refl Inf
lowest_same (Fin p q) =
    let l = parts_of p (den q) (den_pos q) in let g = gcd p (den q) in
    let e : den (den q / g) ≡ den q / g = den_of (den q / g) l.pos_d in
    let f : p * (den q / g) ≡ (p / g) * den q = cross p (den q) (p / g) (den q / g) g l.top l.low in
    record { le = record { le = rw e (omega arith) }; ge = record { le = rw e (omega arith) } }

-- what is said of a name that is at 0
said_none : (x : Name) (xs : List Name) (n : Numbers) (ss : List Said) (v : Distance) → said_of_each xs n ≡ Some ss → n x ≡ Some v → is_le v none ≡ true → amount_in ss x ≡ none
said_none x [] n ss v h o z = let e : [] ≡ ss = cc h in subst (λ z. amount_in z x ≡ none) e refl
said_none x (y ∷ xs) n ss v h o z =
    let s = says y (n y) (said_of_each xs n) ss h in
    subst (λ w. amount_in w x ≡ none) (sym s.all) (one s.number s.later s.is (is_le s.number none) refl (bytes_eq y x) refl (said_none x xs n s.later v s.rest o z))
  where
    one : (d : Distance) (later : List Said) → n y ≡ Some d → (b : Bool) → is_le d none ≡ b → (c : Bool) → bytes_eq y x ≡ c → amount_in later x ≡ none
        → amount_in (cond b later ((record { name = y; amount = lowest d }) ∷ later)) x ≡ none
    one d later i true e c j f = f
    one d later i false e false j f = rw j f
    one d later i false e true j f = let k : y ≡ x = (bytes_eq-Decides y x).0 j in let m : Some d ≡ Some v = sym i ∙ ap n k ∙ o in let q : d ≡ v = cc m in absurd (cc (e, z, ap (λ w. is_le w none) q))

-- what is said of a name is the rule's number
pub said_same : (x : Name) (xs : List Name) (n : Numbers) (ss : List Said) (v : Distance) → said_of_each xs n ≡ Some ss → IsAmong x xs → n x ≡ Some v → amount_in ss x ≈ v
said_same x [] n ss v h m o = absurd m
said_same x (y ∷ xs) n ss v h m o =
    let s = says y (n y) (said_of_each xs n) ss h in
    subst (λ z. amount_in z x ≈ v) (sym s.all)
    (one s.number s.later s.is (is_le s.number none) refl m (λ k. said_same x xs n s.later v s.rest k o) (λ z. said_none x xs n s.later v s.rest o z) (bytes_eq y x) refl)
  where
    at_one : (d : Distance) → n y ≡ Some d → y ≡ x → d ≡ v
    at_one d i e = let m : Some d ≡ Some v = sym i ∙ ap n e ∙ o in cc m

    zero : (d : Distance) → d ≡ v → is_le d none ≡ true → (a : Distance) → a ≡ none → a ≈ v
    zero d e l a i = rw i (record { le = none-least v; ge = is_le-yes v none (subst (λ z. is_le z none ≡ true) e l) })

    one : (d : Distance) (later : List Said) → n y ≡ Some d → (b : Bool) → is_le d none ≡ b → (y ≡ x) ⊎ IsAmong x xs → (IsAmong x xs → amount_in later x ≈ v)
        → (is_le v none ≡ true → amount_in later x ≡ none) → (c : Bool) → bytes_eq y x ≡ c → amount_in (cond b later ((record { name = y; amount = lowest d }) ∷ later)) x ≈ v
    one d later i true e (inl k) f g c j = let q = at_one d i k in zero d q e (amount_in later x) (g (subst (λ z. is_le z none ≡ true) q e))
    one d later i true e (inr k) f g c j = f k
    one d later i false e k f g true j = let q = at_one d i ((bytes_eq-Decides y x).0 j) in rw j (subst (λ z. lowest d ≈ z) q (lowest_same d))
    one d later i false e (inl k) f g false j = absurd (cc (j, (bytes_eq-Decides y x).1 k))
    one d later i false e (inr k) f g false j = rw j (f k)

-- where something is said of each, each has a number
some_number : (x : Name) (xs : List Name) (n : Numbers) (ss : List Said) → said_of_each xs n ≡ Some ss → IsAmong x xs → n x ≡ None → ⊥
some_number x [] n ss h m e = m
some_number x (y ∷ xs) n ss h (inl k) e = let s = says y (n y) (said_of_each xs n) ss h in let f : Some s.number ≡ None = sym s.is ∙ ap n k ∙ e in cc f
some_number x (y ∷ xs) n ss h (inr k) e = let s = says y (n y) (said_of_each xs n) ss h in some_number x xs n s.later s.rest k e

-- and where each has one, something is said
pub said_some : (xs : List Name) (n : Numbers) → AllByRecursion (λ x. (v : Distance) × (n x ≡ Some v)) xs → (ss : List Said) × (said_of_each xs n ≡ Some ss)
said_some [] n h = ([], refl)
said_some (x ∷ xs) n h = let i = said_some xs n h.1 in let v = h.0.0 in (cond (is_le v none) i.0 ((record { name = x; amount = lowest v }) ∷ i.0), rw (h.0.1, i.1) refl)

-- so it is enough
pub said_enough : (x : Name) (xs : List Name) (n : Numbers) (ss : List Said) → said_of_each xs n ≡ Some ss → IsAmong x xs → IsAtMost (n x) (amount_in ss x)
said_enough x xs n ss h m = go (n x) refl
  where
    go : (o : Option Distance) → n x ≡ o → IsAtMost o (amount_in ss x)
    go None e = absurd (some_number x xs n ss h m e)
    go (Some v) e = (said_same x xs n ss v h m e).ge
