-- Names put in their place, and what is said of one more.
use Rattle.std.proofs.Common.{◌≡◌, ◌≢◌, ℕ, zero, suc, ◌+◌, ◌<◌, ◌≤◌, Bool, true, false, cond, List, [], ◌∷◌, ◌++◌, length, take, drop, map, get_or, refl, sym, ap, ◌∙◌, subst, arith, append_assoc, append-nil, add-one, drop-cons, length-drop, ◌-◌}
use Rattle.std.specs.Prelude.{bytes_eq, Option, Some, None, Ok, Err}
use Rattle.std.specs.Cmp.Lexicographic.{slice_cmp}
use Rattle.std.specs.Ordering.{nat_cmp, is_eq}
use Rattle.std.specs.List.{drop-map, take-map}
use Rattle.std.proofs.lemmas.List.{length-map}
use Rattle.fz_frac.proofs.Laws.{is_le-yes, le-is_le, ⊑-trans, ≈-trans}
use Rattle.fz_frac.proofs.Lowest.{sens_lowest}
use Rattle.fz_frac.specs.Distance.{Distance, is_le, none, ◌≈◌}
use Rattle.fz_frac.specs.Lowest.{lowest}
use Rattle.fz_frac.specs.Sens.{distance_of}
use Rattle.fz_frac.specs.declared.frac.Range.{Range}
use Rattle.fz_frac.specs.declared.sens.Sens.{Sens}
use Rattle.std.specs.declared.cmp.Ordering.{Ordering}
use Rattle.std.specs.declared.cmp.Ordering.TheVariants.{Less, Equal, Greater}
use Rattle.std.proofs.lemmas.List.{take_more, take_all, drop_all}
use Rattle.std.proofs.lemmas.Map.Text.{is_eq-slice_cmp}
use Rattle.std.proofs.lemmas.Slice.Eq.{bytes_eq-Decides}
use Rattle.fz_derive.specs.Least.{put, put_before, said_first, said_of_each}
use Rattle.fz_ast.specs.Names.{name_of}
use Rattle.fz_ast.specs.declared.name.Name.{Name as Kept}
use Rattle.fz_derive.specs.Putting.{AreBefore, names_in, put_here, said_above}
use Rattle.derivation_rows.specs.Numbers.{Numbers}
use Rattle.derivation_rows.specs.Placed.{AreOne, IsNumber}
use Rattle.fz_ast.specs.Terms.{Name}
use Rattle.derivation_lines.specs.Lines.{Said}

-- the names before place i are before x, and the others are to come
pub record IsAt (x : Name) (ys : List Name) (i : ℕ) : Type 0 where
  pub put : put x ys ≡ take i ys ++ put x (drop i ys)

pub at_first : (x : Name) (ys : List Name) → IsAt x ys 0
at_first x ys = record { put = refl }

before_more : (x y : Name) (ys : List Name) → slice_cmp nat_cmp x y ≡ Greater → put x (y ∷ ys) ≡ y ∷ put x ys
before_more x y ys e = ap (λ o. put_before o x y ys (put x ys)) e

pub one_further : (x : Name) (ys : List Name) (i : ℕ) (y : Name) → i < length ys → get_or ys i y ≡ y → slice_cmp nat_cmp x y ≡ Greater → IsAt x ys i → IsAt x ys (i + 1)
one_further x ys i y l g e h =
    let d : drop i ys ≡ y ∷ drop (i + 1) ys = rw (add-one, drop-cons ys i y, g) refl in
    let t : take (i + 1) ys ≡ take i ys ++ y ∷ [] = take_more ys i y l ∙ ap (λ z. take i ys ++ z ∷ []) g in
    record { put = h.put ∙ ap (λ z. take i ys ++ put x z) d ∙ ap (λ z. take i ys ++ z) (before_more x y (drop (i + 1) ys) e) ∙ sym (rw t (append_assoc (take i ys) (y ∷ []) (put x (drop (i + 1) ys)))) }

not_greater : (x y : Name) (ys : List Name) → slice_cmp nat_cmp x y ≢ Greater → put x (y ∷ ys) ≡ put_here x (y ∷ ys)
not_greater x y ys n = go (slice_cmp nat_cmp x y) refl
  where
    turned : (o : Ordering) → slice_cmp nat_cmp x y ≡ o → is_eq o ≡ bytes_eq x y
    turned o e = sym (ap is_eq e) ∙ is_eq-slice_cmp x y

    flip : bytes_eq x y ≡ bytes_eq y x
    flip = both (bytes_eq x y) (bytes_eq y x) refl refl
      where
        both : (b c : Bool) → bytes_eq x y ≡ b → bytes_eq y x ≡ c → b ≡ c
        both true true e f = refl
        both false false e f = refl
        both true false e f = absurd (cc (f, (bytes_eq-Decides y x).1 (sym ((bytes_eq-Decides x y).0 e))))
        both false true e f = absurd (cc (e, (bytes_eq-Decides x y).1 (sym ((bytes_eq-Decides y x).0 f))))

    go : (o : Ordering) → slice_cmp nat_cmp x y ≡ o → put_before o x y ys (put x ys) ≡ cond (bytes_eq y x) (y ∷ ys) (x ∷ y ∷ ys)
    go Less e = let h : bytes_eq y x ≡ false = sym (turned Less e ∙ flip) in rw h refl
    go Equal e = let h : bytes_eq y x ≡ true = sym (turned Equal e ∙ flip) in rw h refl
    go Greater e = absurd (n e)

pub found_place : (x : Name) (ys : List Name) (i : ℕ) (y : Name) → i < length ys → get_or ys i y ≡ y → slice_cmp nat_cmp x y ≢ Greater → IsAt x ys i → AreBefore x ys i
found_place x ys i y l g e h =
    let d : drop i ys ≡ y ∷ drop (i + 1) ys = rw (add-one, drop-cons ys i y, g) refl in
    record { within = omega arith; put = h.put ∙ ap (λ z. take i ys ++ z) (ap (put x) d ∙ not_greater x y (drop (i + 1) ys) e ∙ ap (put_here x) (sym d)) }

pub past_all : (x : Name) (ys : List Name) (i : ℕ) → i ≡ length ys → IsAt x ys i → AreBefore x ys i
past_all x ys i e h =
    let d : drop i ys ≡ [] = drop_all i ys (omega arith) in
    record { within = omega arith; put = h.put ∙ ap (λ z. take i ys ++ z) (ap (put x) d ∙ ap (put_here x) (sym d)) }

-- what was said so far, and then what else is
abbrev pub said_behind : List Said → Option (List Said) → Option (List Said)
said_behind ss None = None
said_behind ss (Some ts) = Some (ss ++ ts)

-- a name's own place in the names as the code has them
pub name_at : (names : List Kept) (i : ℕ) (n : Kept) → i < length names → get_or (names_in names) i (name_of n) ≡ name_of (get_or names i n)
name_at [] i n l = absurd (omega (arith, l))
name_at (m ∷ names) zero n l = refl
name_at (m ∷ names) (suc i) n l = name_at names i n (omega (arith, l))

pub found_kept : (x : Name) (names : List Kept) (i : ℕ) (n : Kept) → i < length names → n ≡ get_or names i n → (slice_cmp nat_cmp x (name_of n) ≡ Greater → ⊥) → IsAt x (names_in names) i → AreBefore x (names_in names) i
found_kept x names i n l e g h = found_place x (names_in names) i (name_of n) (let k = length-map names name_of in omega (arith, k)) (name_at names i n l ∙ ap name_of (sym e)) g h

pub further_kept : (x : Name) (names : List Kept) (i : ℕ) (n : Kept) → i < length names → n ≡ get_or names i n → slice_cmp nat_cmp x (name_of n) ≡ Greater → IsAt x (names_in names) i → IsAt x (names_in names) (i + 1)
further_kept x names i n l e g h = one_further x (names_in names) i (name_of n) (let k = length-map names name_of in omega (arith, k)) (name_at names i n l ∙ ap name_of (sym e)) g h

pub past_kept : (x : Name) (names : List Kept) → IsAt x (names_in names) (length names) → AreBefore x (names_in names) (length names)
past_kept x names h = past_all x (names_in names) (length names) (sym (length-map names name_of)) h

pub put_kept : (x : Name) (names out new : List Kept) (n : ℕ) → AreBefore x (names_in names) n → out ≡ take n names → names_in new ≡ names_in out ++ put_here x (names_in (take (length names - n) (drop n names))) → names_in new ≡ put x (names_in names)
put_kept x names out new n h e f =
    let t : names_in (take n names) ≡ take n (names_in names) = sym (take-map name_of n names) in
    let r : take (length names - n) (drop n names) ≡ drop n names = take_all (length names - n) (drop n names) (let k = length-drop n names in omega (arith, k)) in
    let d : names_in (take (length names - n) (drop n names)) ≡ drop n (names_in names) = ap names_in r ∙ sym (drop-map name_of n names) in
    f ∙ ap (λ z. names_in z ++ put_here x (names_in (take (length names - n) (drop n names)))) e ∙ ap (λ z. z ++ put_here x (names_in (take (length names - n) (drop n names)))) t ∙ ap (λ z. take n (names_in names) ++ put_here x z) d ∙ sym h.put

-- the code's number, or that there is none, is the row's
held_number : (s : Sens) (o p : Option Distance) → IsNumber (Ok s) o → AreOne o p → (d : Distance) × (p ≡ Some d) × (distance_of s ≈ d)
held_number s (Some a) (Some b) h k = (b, refl, ≈-trans h k)
held_number s (Some a) None h k = absurd k
held_number s None p h k = absurd h

no_number : (e : Range) (o p : Option Distance) → IsNumber (Err e) o → AreOne o p → p ≡ None
no_number e (Some a) p h k = absurd h
no_number e None None h k = refl
no_number e None (Some b) h k = absurd k

drop_at : (names : List Kept) (i : ℕ) (m : Kept) → i < length names → m ≡ get_or names i m → drop i (names_in names) ≡ name_of m ∷ drop (i + 1) (names_in names)
drop_at names i m l e =
    let g : get_or (names_in names) i (name_of m) ≡ name_of m = name_at names i m l ∙ ap name_of (sym e) in
    let k : i < length (names_in names) = let q = length-map names name_of in omega (arith, q) in
    rw (add-one, drop-cons (names_in names) i (name_of m), g) refl

-- what is said of one name more
pub said_further : (names : List Kept) (i : ℕ) (m : Kept) (n : Numbers) (before after : List Said) (s : Sens) (o : Option Distance) → i < length names → m ≡ get_or names i m
    → IsNumber (Ok s) o → AreOne o (n (name_of m)) → after ≡ before ++ said_above (name_of m) (distance_of s)
    → said_of_each (names_in names) n ≡ said_behind before (said_of_each (drop i (names_in names)) n)
    → said_of_each (names_in names) n ≡ said_behind after (said_of_each (drop (i + 1) (names_in names)) n)
said_further names i m n before after s o l e h k a q =
    let x = name_of m in
    let later = said_of_each (drop (i + 1) (names_in names)) n in
    let v = held_number s o (n x) h k in
    let low : lowest v.0 ≡ distance_of s = sym (sens_lowest s v.0 v.2) in
    let zero : is_le v.0 none ≡ is_le (distance_of s) none = same_zero v.0 (distance_of s) v.2 in
    q ∙ ap (λ z. said_behind before (said_of_each z n)) (drop_at names i m l e) ∙ one (n x) v.0 v.1 (distance_of s) low (is_le v.0 none) refl (sym zero) later
    ∙ ap (λ z. said_behind z later) (sym a)
  where
    same_zero : (a b : Distance) → b ≈ a → is_le a none ≡ is_le b none
    same_zero a b h = two (is_le a none) (is_le b none) refl refl
      where
        two : (t u : Bool) → is_le a none ≡ t → is_le b none ≡ u → t ≡ u
        two true true i j = refl
        two false false i j = refl
        two true false i j = absurd (cc (j, le-is_le b none (⊑-trans b a none h.le (is_le-yes a none i))))
        two false true i j = absurd (cc (i, le-is_le a none (⊑-trans a b none h.ge (is_le-yes b none j))))

    one : (p : Option Distance) (d : Distance) → p ≡ Some d → (w : Distance) → lowest d ≡ w → (t : Bool) → is_le d none ≡ t → is_le w none ≡ is_le d none → (r : Option (List Said))
        → said_behind before (said_first (name_of m) p r) ≡ said_behind (before ++ said_above (name_of m) w) r
    one p d e w f t i j None = rw e refl
    one p d e w f true i j (Some ss) = rw (e, j, i) (ap (λ z. Some (z ++ ss)) (sym (append-nil before)))
    one p d e w f false i j (Some ss) = rw (e, j, i, f) (ap Some (sym (append_assoc before ((record { name = name_of m; amount = w }) ∷ []) ss)))

-- and where one has no number, nothing is said
pub said_nothing : (names : List Kept) (i : ℕ) (m : Kept) (n : Numbers) (before : List Said) (e' : Range) (o : Option Distance) → i < length names → m ≡ get_or names i m
    → IsNumber (Err e') o → AreOne o (n (name_of m))
    → said_of_each (names_in names) n ≡ said_behind before (said_of_each (drop i (names_in names)) n)
    → said_of_each (names_in names) n ≡ None
said_nothing names i m n before e' o l e h k q =
    q ∙ ap (λ z. said_behind before (said_of_each z n)) (drop_at names i m l e) ∙ ap (λ p. said_behind before (said_first (name_of m) p (said_of_each (drop (i + 1) (names_in names)) n))) (no_number e' o (n (name_of m)) h k)

-- of all names
pub said_all : (names : List Kept) (i : ℕ) (n : Numbers) (before : List Said) → length names ≤ i → said_of_each (names_in names) n ≡ said_behind before (said_of_each (drop i (names_in names)) n)
    → said_of_each (names_in names) n ≡ Some before
said_all names i n before l q =
    let d : drop i (names_in names) ≡ [] = drop_all i (names_in names) (let k = length-map names name_of in omega (arith, k, l)) in
    q ∙ ap (λ z. said_behind before (said_of_each z n)) d ∙ ap Some (append-nil before)
