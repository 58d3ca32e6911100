-- How groups grow row by row, and that a part of a table is its rows with a text.
use Rattle.std.proofs.Common.{◌≡◌, ◌+◌, ◌<◌, ◌∙◌, ℕ, zero, suc, Bool, true, false, List, [], ◌∷◌, ◌++◌, ap, arith, drop, append_assoc, append-nil, get_or, length, map, set, take, Some, None, Result, Ok, Err, Bor, refl, subst, sym, add-one}
use Rattle.std.specs.Prelude.{bytes_eq, nat_lt, position, if◌then◌else◌, ⊤}
use Rattle.std.specs.List.{AllByRecursion, IsDistinct, list_any, position_or_len}
use Rattle.std.proofs.lemmas.List.Quantifiers.{position-Some}
use Rattle.std.specs.Result.{IfOk, is_ok}
use Rattle.std.proofs.Math.Seq.{take-suc}
use Rattle.std.proofs.lemmas.List.{drop_more, get_or-map, length-map}
use Rattle.std.proofs.lemmas.Slice.Eq.{bytes_eq-Decides}
use Rattle.metric_values.specs.Cells.{cell_at, row_at}
use Rattle.metric_values.specs.Values.{Flat, NumF, TextF, UnitF, PairF, InlF, InrF, BangF}
use Rattle.table_store.specs.Groups.{has_text, rows_with, rows_with_from, texts_of}
use Rattle.table_store.specs.Lookup.{IsKey}

flip : (a b : List ℕ) → bytes_eq b a ≡ false → bytes_eq a b ≡ false
flip a b h = by (bytes_eq a b) refl
  where
    by : (t : Bool) → bytes_eq a b ≡ t → t ≡ false
    by true e = let same : a ≡ b = (bytes_eq-Decides a b).0 e in let back : bytes_eq b a ≡ true = (bytes_eq-Decides b a).1 (sym same) in cc
    by false e = refl

-- a cell that is one key is no other
cell_is : (text : List ℕ) (cell : Flat) → has_text text cell ≡ true → (other : List ℕ) → has_text other cell ≡ bytes_eq text other
cell_is text (TextF s) h other = let same : s ≡ text = (bytes_eq-Decides s text).0 h in rw same refl
cell_is text (NumF z) h other = cc h
cell_is text UnitF h other = cc h
cell_is text (PairF a b) h other = cc h
cell_is text (InlF a) h other = cc h
cell_is text (InrF a) h other = cc h
cell_is text (BangF a) h other = cc h

others : (cell : Flat) (k : Bor (List ℕ)) (keys : List (Bor (List ℕ))) → has_text k.now cell ≡ true
    → AllByRecursion (λ y. bytes_eq k.now y ≡ false) (texts_of keys)
    → AllByRecursion (λ key. has_text key.now cell ≡ false) keys
others cell k [] is differ = tt
others cell k (l ∷ keys) is differ = (cell_is k.now cell is l.now ∙ differ.0, others cell k keys is differ.1)

another : (cell : Flat) (k : Bor (List ℕ)) (keys : List (Bor (List ℕ))) (j : ℕ) (e : Bor (List ℕ))
    → AllByRecursion (λ y. bytes_eq k.now y ≡ false) (texts_of keys) → j < length keys
    → has_text (get_or keys j e).now cell ≡ true → has_text k.now cell ≡ false
another cell k [] j e differ l is = absurd (omega arith)
another cell k (m ∷ keys) zero e differ l is = cell_is m.now cell is k.now ∙ flip m.now k.now differ.0
another cell k (m ∷ keys) (suc j) e differ l is = another cell k keys j e differ.1 (omega arith) is

-- where no element passes, none is found
position-none : {X : Type 0} (p : X → Bool) (xs : List X) → position p xs ≡ None → AllByRecursion (λ x. p x ≡ false) xs
position-none p [] e = tt
position-none p (x ∷ xs) e = by (p x) refl (position-none p xs) e
  where
    later : (b : Bool) → nat_lt (position_or_len p xs) (length xs) ≡ b → p x ≡ false → position p (x ∷ xs) ≡ None → position p xs ≡ None
    later true t q h =
        let there : nat_lt (1 + position_or_len p xs) (suc (length xs)) ≡ true = grind arith in
        let found : position p (x ∷ xs) ≡ Some (1 + position_or_len p xs) = rw (q, there) refl in
        cc
    later false t q h = rw t refl

    by : (t : Bool) → p x ≡ t → (position p xs ≡ None → AllByRecursion (λ x. p x ≡ false) xs) → position p (x ∷ xs) ≡ None
        → (p x ≡ false) × AllByRecursion (λ x. p x ≡ false) xs
    by true t next h =
        let first : nat_lt 0 (suc (length xs)) ≡ true = grind arith in
        let found : position p (x ∷ xs) ≡ Some 0 = rw (t, first) refl in
        cc
    by false t next h = (t, next (later (nat_lt (position_or_len p xs) (length xs)) refl t h))

pub position-nowhere : {X : Type 0} (xs : List X) → position (λ x. false) xs ≡ None
position-nowhere xs = let none : nat_lt (position_or_len (λ x. false) xs) (length xs) ≡ false = grind (arith, past xs) in rw none refl
  where
    past : {X : Type 0} (xs : List X) → position_or_len (λ x. false) xs ≡ length xs
    past [] = refl
    past (x ∷ xs) = omega (arith, past xs)

-- keys that were put into a set one after the other are none of them there before
missing : (keys : List (Bor (List ℕ))) (i : ℕ) (d : Bor (List ℕ)) → IsDistinct bytes_eq (texts_of keys) → i < length keys
    → list_any (λ k. bytes_eq (get_or keys i d).now k.now) (take i keys) ≡ false
unfolding IsDistinct
missing [] i d distinct l = absurd (omega arith)
missing (k ∷ keys) zero d distinct l = refl
missing (k ∷ keys) (suc i) d distinct l =
    let first : bytes_eq (get_or keys i d).now k.now ≡ false = differs k keys i d distinct.0 (omega arith) in
    rw (first, missing keys i d distinct.1 (omega arith)) refl
  where
    differs : (k : Bor (List ℕ)) (keys : List (Bor (List ℕ))) (i : ℕ) (d : Bor (List ℕ)) → AllByRecursion (λ y. bytes_eq k.now y ≡ false) (texts_of keys)
        → i < length keys
        → bytes_eq (get_or keys i d).now k.now ≡ false
    differs k [] i d differ l = absurd (omega arith)
    differs k (m ∷ keys) zero d differ l = flip m.now k.now differ.0
    differs k (m ∷ keys) (suc i) d differ l = differs k keys i d differ.1 (omega arith)

if_good : {A E : Type 0} (r : Result A E) {P : Type 0} → is_ok r ≡ true → IfOk r (λ x. P) → P
if_good (Ok x) e h = h
if_good (Err y) e h = cc e

pub one_more_key : (keys old new : List (Bor (List ℕ))) (i : ℕ) (d : Bor (List ℕ)) → IsDistinct bytes_eq (texts_of keys) → i < length keys → old ≡ take i keys
    → {A E : Type 0} (r : Result A E) → is_ok r ≡ true
    → IfOk r (λ x. new ≡ (if list_any (λ k. bytes_eq (get_or keys i d).now k.now) old then old else old ++ get_or keys i d ∷ [])) → new ≡ take (i + 1) keys
one_more_key keys old new i d distinct l so_far r good e =
    let fresh : list_any (λ k. bytes_eq (get_or keys i d).now k.now) old ≡ false =
    ap (list_any (λ k. bytes_eq (get_or keys i d).now k.now)) so_far ∙ missing keys i d distinct l in
    if_good r good e ∙ rw fresh refl ∙ ap (λ (ks : List (Bor (List ℕ))). ks ++ get_or keys i d ∷ []) so_far
    ∙ sym (take-suc keys i d l) ∙ ap (λ (n : ℕ). take n keys) (sym (add-one i))

first_place : (keys : List (Bor (List ℕ))) (text : List ℕ) (i : ℕ) → IsDistinct bytes_eq (texts_of keys) → IsKey i text (texts_of keys)
    → position_or_len (λ key. has_text key.now (TextF text)) keys ≡ i
unfolding IsDistinct
first_place [] text i distinct key = absurd (omega (arith, key.0))
first_place (k ∷ keys) text zero distinct key =
    let here : bytes_eq text k.now ≡ true = (bytes_eq-Decides text k.now).1 (sym key.1) in
    rw here refl
first_place (k ∷ keys) text (suc i) distinct key =
    let low : i < length keys = omega (arith, key.0, length-map keys (λ (key : Bor (List ℕ)). key.now)) in
    let same : get_or (texts_of keys) i [] ≡ (get_or keys i k).now = get_or-map (λ (key : Bor (List ℕ)). key.now) keys i k [] low in
    let there : bytes_eq text (get_or keys i k).now ≡ true = (bytes_eq-Decides text (get_or keys i k).now).1 (sym key.1 ∙ same) in
    let other : has_text k.now (TextF text) ≡ false = another (TextF text) k keys i k distinct.0 low there in
    let rest = first_place keys text i distinct.1 (omega (arith, key.0), key.1) in
    rw other (omega (arith, rest))

-- of distinct keys the one that is a text stands first
pub first_key : (keys : List (Bor (List ℕ))) (text : List ℕ) (i : ℕ) → IsDistinct bytes_eq (texts_of keys) → IsKey i text (texts_of keys)
    → position (λ key. has_text key.now (TextF text)) keys ≡ Some i
first_key keys text i distinct key =
    let low : nat_lt i (length keys) ≡ true = grind (arith, key.0, length-map keys (λ (key : Bor (List ℕ)). key.now)) in
    rw (first_place keys text i distinct key, low) refl

-- groups that have the rows with each key before a row, where these rows are left
module _ {G : Type 0} (items : G → List ℕ) (column : ℕ) (all : List Flat) where
  abbrev pub HaveBefore : (row : ℕ) → List Flat → List G → List (Bor (List ℕ)) → Type 0
  HaveBefore row rest [] [] = ⊤
  HaveBefore row rest (g ∷ groups) (k ∷ keys) = (items g ++ rows_with_from row column k.now rest ≡ rows_with column k.now all) × HaveBefore row rest groups keys
  HaveBefore row rest groups keys = ⊥

  pub have_none : (groups : List G) (keys : List (Bor (List ℕ))) → length groups ≡ length keys
      → ((k : ℕ) (d : G) → k < length groups → items (get_or groups k d) ≡ [])
      → HaveBefore 0 all groups keys
  have_none [] [] e h = tt
  have_none [] (k ∷ keys) e h = absurd (omega (arith, e))
  have_none (g ∷ groups) [] e h = absurd (omega (arith, e))
  have_none (g ∷ groups) (k ∷ keys) e h =
      (rw (h 0 g (omega arith)) refl, have_none groups keys (omega (arith, e)) (λ i d l. h (suc i) d (omega arith)))

  pub have_all : (row : ℕ) (groups : List G) (keys : List (Bor (List ℕ))) → HaveBefore row [] groups keys
      → map items groups ≡ map (λ key. rows_with column key all) (texts_of keys)
  have_all row [] [] h = refl
  have_all row [] (k ∷ keys) h = absurd h
  have_all row (g ∷ groups) [] h = absurd h
  have_all row (g ∷ groups) (k ∷ keys) h =
      let first : items g ≡ rows_with column k.now all = sym (append-nil (items g)) ∙ h.0 in
      let rest = have_all row groups keys h.1 in
      λ i. first i ∷ rest i

  -- the next row is in no group
  have_missed : (row : ℕ) (x : Flat) (rest : List Flat) (groups : List G) (keys : List (Bor (List ℕ))) → HaveBefore row (x ∷ rest) groups keys
      → AllByRecursion (λ key. has_text key.now (cell_at column x) ≡ false) keys → HaveBefore (row + 1) rest groups keys
  have_missed row x rest [] [] h none = tt
  have_missed row x rest [] (k ∷ keys) h none = absurd h
  have_missed row x rest (g ∷ groups) [] h none = absurd h
  have_missed row x rest (g ∷ groups) (k ∷ keys) h none = (rw none.0 at h.0, have_missed row x rest groups keys h.1 none.1)

  -- or in the group of one key
  have_found : (row : ℕ) (x : Flat) (rest : List Flat) (groups : List G) (keys : List (Bor (List ℕ))) (j : ℕ) (b d : G) (e : Bor (List ℕ))
      → HaveBefore row (x ∷ rest) groups keys
      → IsDistinct bytes_eq (texts_of keys) → j < length keys → has_text (get_or keys j e).now (cell_at column x) ≡ true
      → items b ≡ items (get_or groups j d) ++ row ∷ []
      → HaveBefore (row + 1) rest (set groups j b) keys
  unfolding IsDistinct
  have_found row x rest [] [] j b d e h distinct l is more = absurd (omega arith)
  have_found row x rest [] (k ∷ keys) j b d e h distinct l is more = absurd h
  have_found row x rest (g ∷ groups) [] j b d e h distinct l is more = absurd h
  have_found row x rest (g ∷ groups) (k ∷ keys) zero b d e h distinct l is more = (
    ap (λ (xs : List ℕ). xs ++ rows_with_from (row + 1) column k.now rest) more
        ∙ append_assoc (items g) (row ∷ []) (rows_with_from (row + 1) column k.now rest) ∙ (rw is at h.0),
    have_missed row x rest groups keys h.1 (others (cell_at column x) k keys is distinct.0),
  )
  have_found row x rest (g ∷ groups) (k ∷ keys) (suc j) b d e h distinct l is more =
      let other = another (cell_at column x) k keys j e distinct.0 (omega arith) is in
      (rw other at h.0, have_found row x rest groups keys j b d e h.1 distinct.1 (omega arith) is more)

  -- the row of a number, whose key was sought
  module _ (row : ℕ) (groups : List G) (keys : List (Bor (List ℕ))) (cell : Flat) (before : HaveBefore row (drop row all) groups keys)
      (there : row < length all)
      (is : cell ≡ cell_at column (row_at all row)) where
    next : HaveBefore row (row_at all row ∷ drop (row + 1) all) groups keys
    next = subst (λ (rest : List Flat). HaveBefore row rest groups keys) (drop_more all row UnitF there) before

    pub row_missed : position (λ key. has_text key.now cell) keys ≡ None → HaveBefore (row + 1) (drop (row + 1) all) groups keys
    row_missed e =
        have_missed row (row_at all row) (drop (row + 1) all) groups keys next
        (subst (λ (x : Flat). AllByRecursion (λ key. has_text key.now x ≡ false) keys) is (position-none (λ key. has_text key.now cell) keys e))

    pub row_found : (j : ℕ) (b d : G) → position (λ key. has_text key.now cell) keys ≡ Some j → IsDistinct bytes_eq (texts_of keys)
        → items b ≡ items (get_or groups j d) ++ row ∷ []
        → HaveBefore (row + 1) (drop (row + 1) all) (set groups j b) keys
    row_found j b d e distinct more =
        let none : Bor (List ℕ) = record { ref_ptr = (0, 0); now = [] } in
        let at = position-Some (λ key. has_text key.now cell) keys j none e in
        have_found row (row_at all row) (drop (row + 1) all) groups keys j b d none next distinct at.0
        (ap (λ (x : Flat). has_text (get_or keys j none).now x) (sym is) ∙ at.1) more
