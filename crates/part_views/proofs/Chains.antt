-- Chains of row numbers: what a walk over rows from the last to the first leaves is each part's rows.
use Rattle.std.proofs.Common.{◌≡◌, ◌<◌, ◌≤◌, ◌+◌, ◌-◌, ◌++◌, ◌∙◌, Bor, Result, Ok, Err, ℕ, zero, suc, Bool, true, false, Option, Some, None, List, [], ◌∷◌, append_assoc, append-nil, drop, get_or, length, set, take, refl, ap, sym, subst, arith}
use Rattle.std.specs.Prelude.{bytes_eq, filter, nat_eq, nat_lt, not, position, if◌then◌else◌, ⊤}
use Rattle.std.specs.List.{All, IsDistinct, list_any, position_or_len}
use Rattle.std.specs.Result.{IfOk, is_ok}
use Rattle.std.proofs.lemmas.List.Folds.{list_any_none}
use Rattle.std.proofs.lemmas.List.{drop_more, get_or-map, get_or-take, length-take, take_more, get_or-set_other, get_or-set_same, get_or_default, length-append, length-map}
use Rattle.std.proofs.lemmas.List.Quantifiers.{position-Some}
use Rattle.std.proofs.lemmas.List.Elements.{All-cons, All-nil}
use Rattle.std.proofs.lemmas.Map.Keys.{apart_from_distinct}
use Rattle.std.proofs.lemmas.Slice.Eq.{bytes_eq-Decides}
use Rattle.std.proofs.Math.Seq.{get_or-append_seam}
use Rattle.metric_values.specs.Cells.{chosen_of, row_at}
use Rattle.metric_values.specs.Values.{Flat, TextF, UnitF}
use Rattle.table_store.specs.Groups.{has_text, texts_of}
use Rattle.part_views.specs.Cuts.{Class, class_of, rows_of_class}
use Rattle.part_views.specs.MadeParts.{AreChains, Follows, IsNumberOf, chain_from, followed, parts_by, parts_chained}

-- ---- the numbers of rows that pass a test

-- the rows are numbered from one on
abbrev pub numbers_from : (row : ℕ) → (test : Flat → Bool) → List Flat → List ℕ
numbers_from row test [] = []
numbers_from row test (x ∷ rows) = if test x then row ∷ numbers_from (row + 1) test rows else numbers_from (row + 1) test rows

abbrev Above : ℕ → List ℕ → Type 0
Above row [] = ⊤
Above row (r ∷ rs) = (row < r) × Above row rs

numbers_above : (m n : ℕ) (test : Flat → Bool) (rows : List Flat) → m < n → Above m (numbers_from n test rows)
numbers_above m n test [] low = tt
numbers_above m n test (x ∷ rows) low = by (test x) (numbers_above m (n + 1) test rows (omega arith))
  where
    by : (b : Bool) → Above m (numbers_from (n + 1) test rows) → Above m (if b then n ∷ numbers_from (n + 1) test rows else numbers_from (n + 1) test rows)
    by true more = (low, more)
    by false more = more

numbers_there : (n end : ℕ) (test : Flat → Bool) (rows : List Flat) → n + length rows ≤ end → All (λ i. i < end) (numbers_from n test rows)
numbers_there n end test [] h = All-nil (λ i. i < end)
numbers_there n end test (x ∷ rows) h = by (test x) (numbers_there (n + 1) end test rows (omega arith))
  where
    by : (b : Bool) → All (λ i. i < end) (numbers_from (n + 1) test rows)
        → All (λ i. i < end) (if b then n ∷ numbers_from (n + 1) test rows else numbers_from (n + 1) test rows)
    by true more = All-cons (λ i. i < end) n _ (omega arith) more
    by false more = more

numbers_few : (n : ℕ) (test : Flat → Bool) (rows : List Flat) → length (numbers_from n test rows) ≤ length rows
numbers_few n test [] = omega arith
numbers_few n test (x ∷ rows) = by (test x) (numbers_few (n + 1) test rows)
  where
    by : (b : Bool) → length (numbers_from (n + 1) test rows) ≤ length rows
        → length (if b then n ∷ numbers_from (n + 1) test rows else numbers_from (n + 1) test rows) ≤ suc (length rows)
    by true more = omega (arith, more)
    by false more = omega (arith, more)

chosen_behind : (before rows : List Flat) (test : Flat → Bool) → chosen_of (before ++ rows) (numbers_from (length before) test rows) ≡ filter test rows
chosen_behind before [] test = refl
chosen_behind before (x ∷ rows) test =
    by (test x)
    (ap (λ (all : List Flat). chosen_of all (numbers_from (length before + 1) test rows)) (sym (append_assoc before (x ∷ []) rows))
    ∙ ap (λ (n : ℕ). chosen_of ((before ++ x ∷ []) ++ rows) (numbers_from n test rows)) (sym (length-append before (x ∷ [])))
    ∙ chosen_behind (before ++ x ∷ []) rows test)
  where
    by : (b : Bool) → chosen_of (before ++ x ∷ rows) (numbers_from (length before + 1) test rows) ≡ filter test rows
        → chosen_of (before ++ x ∷ rows) (if b then length before ∷ numbers_from (length before + 1) test rows else numbers_from (length before + 1) test rows)
        ≡ (if b then x ∷ filter test rows else filter test rows)
    by true more = let here = get_or-append_seam before x rows UnitF in λ i. here i ∷ more i
    by false more = more

-- ---- chains

-- a row that a chain doesn't lead through may be written
follows_on : (next : List ℕ) (row v place : ℕ) (rows : List ℕ) → Above row rows → Follows next place rows → Follows (set next row v) place rows
follows_on next row v place [] above f = f
follows_on next row v place (r ∷ rs) above f =
    let stays : get_or (set next row v) r 0 ≡ get_or next r 0 = get_or-set_other next row r v 0 (λ same. omega (arith, same, above.0)) in
    (f.0, subst (λ (p : ℕ). Follows (set next row v) p rs) (sym stays) (follows_on next row v (get_or next r 0) rs above.1 f.1))

followed_is : (next : List ℕ) (steps place : ℕ) (rows : List ℕ) → length rows ≤ steps → Follows next place rows → followed next steps place ≡ rows
followed_is next zero place [] few f = refl
followed_is next (suc n) place [] few f = rw f refl
followed_is next zero place (r ∷ rs) few f = absurd (omega (arith, few))
followed_is next (suc n) place (r ∷ rs) few f =
    ap (λ (p : ℕ). followed next (suc n) p) f.0 ∙ ap (λ (ns : List ℕ). r ∷ ns) (followed_is next n (get_or next r 0) rs (omega (arith, few)) f.1)

-- ---- a walk over rows

module _ (class : Class) (table : List Flat) (keys : List (List ℕ)) where
  abbrev pub of_number : ℕ → Flat → Bool
  of_number k row = has_text (get_or keys k []) (class_of class row)

  -- the rows from one on are chained, each to the next one of its part
  abbrev pub HasChained : (row : ℕ) → (first next : List ℕ) → Type 0
  HasChained row first next = (k : ℕ) → k < length keys → Follows next (get_or first k 0) (numbers_from row (of_number k) (drop row table))

  pub none_chained : (first next : List ℕ) → length first ≡ length keys → All (λ place. place ≡ 0) first → HasChained (length table) first next
  none_chained first next many zeros k low =
      rw (drop_past table) (zeros k 0 (omega (arith, low, many)))
    where
      drop_past : (xs : List Flat) → drop (length xs) xs ≡ []
      drop_past [] = refl
      drop_past (x ∷ xs) = drop_past xs

  module _ (row : ℕ) (first next : List ℕ) (chained : HasChained (row + 1) first next) (there : row < length table) where
    rest : drop row table ≡ row_at table row ∷ drop (row + 1) table
    rest = drop_more table row UnitF there

    stays : (k : ℕ) → k < length keys → of_number k (row_at table row) ≡ false
        → Follows next (get_or first k 0) (numbers_from row (of_number k) (drop row table))
    stays k low isnt = rw (rest, isnt) (chained k low)

    -- the row is of no part
    pub row_passed : ((k : ℕ) → k < length keys → of_number k (row_at table row) ≡ false) → HasChained row first next
    row_passed none k low = stays k low (none k low)

    -- it is of one part
    pub row_chained : (part : ℕ) → part < length keys → length first ≡ length keys → length table ≤ length next
        → of_number part (row_at table row) ≡ true
        → ((k : ℕ) → k < length keys → (k ≡ part → ⊥) → of_number k (row_at table row) ≡ false)
        → HasChained row (set first part (row + 1)) (set next row (get_or first part 0))
    row_chained part among many room is others k low = by (nat_eq k part) refl
      where
        v : ℕ
        v = get_or first part 0

        numbers : List ℕ
        numbers = numbers_from (row + 1) (of_number k) (drop (row + 1) table)

        on : Follows (set next row v) (get_or first k 0) numbers
        on = follows_on next row v (get_or first k 0) numbers (numbers_above row (row + 1) (of_number k) (drop (row + 1) table) (omega arith)) (chained k low)

        by : (b : Bool) → nat_eq k part ≡ b
            → Follows (set next row v) (get_or (set first part (row + 1)) k 0) (numbers_from row (of_number k) (drop row table))
        by true e =
            let same : k ≡ part = grind arith in
            let begins : get_or (set first part (row + 1)) k 0 ≡ suc row =
            ap (λ (i : ℕ). get_or (set first part (row + 1)) i 0) same ∙ get_or-set_same first part (row + 1) 0 (omega (arith, among, many))
            ∙ omega arith in
            let next_is : get_or (set next row v) row 0 ≡ get_or first k 0 =
            get_or-set_same next row v 0 (omega (arith, there, room)) ∙ ap (λ (i : ℕ). get_or first i 0) (sym same) in
            let test : of_number k (row_at table row) ≡ true = ap (λ (i : ℕ). of_number i (row_at table row)) same ∙ is in
            rw (rest, test) (begins, subst (λ (p : ℕ). Follows (set next row v) p numbers) (sym next_is) on)
        by false e =
            let differ : k ≡ part → ⊥ = λ same. grind (arith, same, e) in
            let begins : get_or (set first part (row + 1)) k 0 ≡ get_or first k 0 = get_or-set_other first part k (row + 1) 0 differ in
            rw (rest, others k low differ, begins) on

  -- ---- what the walk leaves

  module _ (first next : List ℕ) (many : length first ≡ length keys) (room : length table ≤ length next) (chained : HasChained 0 first next) where
    abbrev numbers_of : ℕ → List ℕ
    numbers_of k = numbers_from 0 (of_number k) table

    chain_is : (k d : ℕ) → k < length first → chain_from next (get_or first k d) ≡ numbers_of k
    chain_is k d low =
        let few : length (numbers_of k) ≤ length table = numbers_few 0 (of_number k) table in
        ap (chain_from next) (get_or_default first k d 0 low)
        ∙ followed_is next (length next) (get_or first k 0) (numbers_of k) (omega (arith, few, room)) (chained k (omega (arith, low, many)))

    pub are_chains : AreChains table first next
    are_chains = record {
      room = room;
      ends = λ k d low. rw (chain_is k d low) (subst (λ (p : ℕ). Follows next p (numbers_of k)) (sym (get_or_default first k d 0 low)) (chained k (omega (arith, low, many))));
      there = λ k d low. rw (chain_is k d low) (numbers_there 0 (length table) (of_number k) table (omega arith));
    }

    part_is : (k : ℕ) → k < length keys → chosen_of table (chain_from next (get_or first k 0)) ≡ rows_of_class class (Some (get_or keys k [])) table
    part_is k low = ap (chosen_of table) (chain_is k 0 (omega (arith, low, many))) ∙ chosen_behind [] table (of_number k)

  pub same_parts : (next first : List ℕ) (ks : List (List ℕ)) → length first ≡ length ks
      → ((k : ℕ) → k < length ks → chosen_of table (chain_from next (get_or first k 0)) ≡ rows_of_class class (Some (get_or ks k [])) table)
      → parts_chained table first next ≡ parts_by class ks table
  same_parts next [] [] many is = refl
  same_parts next [] (k ∷ ks) many is = absurd (omega (arith, many))
  same_parts next (p ∷ first) [] many is = absurd (omega (arith, many))
  same_parts next (p ∷ first) (k ∷ ks) many is =
      let here : chosen_of table (chain_from next p) ≡ rows_of_class class (Some k) table = is 0 (omega arith) in
      let more = same_parts next first ks (omega (arith, many)) (λ i low. is (suc i) (omega arith)) in
      λ i. (here i ∷ []) ∷ more i

  pub parts_are : (first next : List ℕ) → length first ≡ length keys → length table ≤ length next → HasChained 0 first next
      → parts_chained table first next ≡ parts_by class keys table
  parts_are first next many room chained = same_parts next first keys many (part_is first next many room chained)

-- ---- keys

-- a row whose class is this text is of the part of its key, and of no other
pub of_its_key : (class : Class) (keys : List (List ℕ)) (row : Flat) (text : List ℕ) (number : ℕ) → class_of class row ≡ TextF text
    → (number < length keys) × (get_or keys number [] ≡ text) → has_text (get_or keys number []) (class_of class row) ≡ true
of_its_key class keys row text number is found = rw is ((bytes_eq-Decides text (get_or keys number [])).1 (sym found.1))

pub of_no_other : (class : Class) (keys : List (List ℕ)) (row : Flat) (text : List ℕ) (number : ℕ) → class_of class row ≡ TextF text
    → (number < length keys) × (get_or keys number [] ≡ text) → IsDistinct bytes_eq keys
    → (k : ℕ) → k < length keys → (k ≡ number → ⊥) → has_text (get_or keys k []) (class_of class row) ≡ false
of_no_other class keys row text number is found distinct k low differ = rw is (by (bytes_eq text (get_or keys k [])) refl)
  where
    clash : bytes_eq text (get_or keys k []) ≡ true → ⊥
    clash e =
        let same : get_or keys number [] ≡ get_or keys k [] = found.1 ∙ (bytes_eq-Decides text (get_or keys k [])).0 e in
        let before : number < k → ⊥ = λ b.
        let apart : bytes_eq (get_or keys number []) (get_or keys k []) ≡ false = apart_from_distinct bytes_eq keys number k [] distinct b low in
        let equal = (bytes_eq-Decides (get_or keys number []) (get_or keys k [])).1 same in absurd cc in
        let after : k < number → ⊥ = λ b.
        let apart : bytes_eq (get_or keys k []) (get_or keys number []) ≡ false = apart_from_distinct bytes_eq keys k number [] distinct b found.0 in
        let equal = (bytes_eq-Decides (get_or keys k []) (get_or keys number [])).1 (sym same) in absurd cc in
        differ (omega (arith, before, after))

    by : (b : Bool) → bytes_eq text (get_or keys k []) ≡ b → b ≡ false
    by true e = absurd (clash e)
    by false e = refl

pub of_no_key : (class : Class) (keys : List (List ℕ)) (row : Flat) (text : List ℕ) → class_of class row ≡ TextF text
    → All (λ key. bytes_eq text key ≡ false) keys → (k : ℕ) → k < length keys → has_text (get_or keys k []) (class_of class row) ≡ false
of_no_key class keys row text is none k low = rw is (none k [] low)

-- ---- one row of the walk

module _ (class : Class) (table : List Flat) (keys : List (List ℕ)) (at : ℕ) (first next : List ℕ) (more : 0 < at) (few : at ≤ length table)
    (parts : length first ≡ length keys) (room : length table ≤ length next) (chained : HasChained class table keys at first next) (text : List ℕ)
    (is : class_of class (row_at table (at - 1)) ≡ TextF text) where
  before : HasChained class table keys (at - 1 + 1) first next
  before = let same : at ≡ at - 1 + 1 = omega arith in subst (λ (n : ℕ). HasChained class table keys n first next) same chained

  pub row_found : (part v : ℕ) → (part < length keys) × (get_or keys part [] ≡ text) → IsDistinct bytes_eq keys → v ≡ get_or first part v
      → HasChained class table keys (at - 1) (set first part (at - 1 + 1)) (set next (at - 1) v)
  row_found part v found distinct read =
      let row = row_at table (at - 1) in
      let value : v ≡ get_or first part 0 = read ∙ get_or_default first part v 0 (omega (arith, found.0, parts)) in
      subst (λ (n : ℕ). HasChained class table keys (at - 1) (set first part (at - 1 + 1)) (set next (at - 1) n)) (sym value)
      (row_chained class table keys (at - 1) first next before (omega arith) part found.0 parts room (of_its_key class keys row text part is found)
      (of_no_other class keys row text part is found distinct))

  pub row_missed : All (λ key. bytes_eq text key ≡ false) keys → HasChained class table keys (at - 1) first next
  row_missed none = row_passed class table keys (at - 1) first next before (omega arith) (of_no_key class keys (row_at table (at - 1)) text is none)

passes_none : {X : Type 0} (p : X → Bool) (xs : List X) → length xs ≤ position_or_len p xs → (k : ℕ) (d : X) → k < length xs → p (get_or xs k d) ≡ false
passes_none p [] past k d low = absurd (omega (arith, low))
passes_none p (x ∷ xs) past k d low = by (p x) refl (λ rest j there. passes_none p xs rest j d there) (either (p x) past) k low
  where
    either : (b : Bool) → suc (length xs) ≤ (if not b then 1 + position_or_len p xs else 0) → suc (length xs) ≤ (if b then 0 else 1 + position_or_len p xs)
    either true h = h
    either false h = h

    by : (b : Bool) → p x ≡ b → (length xs ≤ position_or_len p xs → (j : ℕ) → j < length xs → p (get_or xs j d) ≡ false)
        → suc (length xs) ≤ (if b then 0 else 1 + position_or_len p xs) → (k : ℕ) → k < suc (length xs) → p (get_or (x ∷ xs) k d) ≡ false
    by true e more past k low = absurd (omega (arith, past))
    by false e more past zero low = e
    by false e more past (suc k) low = more (omega (arith, past)) k (omega (arith, low))

found_none : {X : Type 0} (p : X → Bool) (xs : List X) → position p xs ≡ None → length xs ≤ position_or_len p xs
found_none p xs e = by (nat_lt (position_or_len p xs) (length xs)) refl
  where
    by : (b : Bool) → nat_lt (position_or_len p xs) (length xs) ≡ b → length xs ≤ position_or_len p xs
    by true h = let found : position p xs ≡ Some (position_or_len p xs) = rw h refl in absurd cc
    by false h = grind arith

pub number_found : (borrowed : List (Bor (List ℕ))) (keys : List (List ℕ)) (text : List ℕ) (number : Option ℕ) → texts_of borrowed ≡ keys
    → position (λ key. bytes_eq text key.now) borrowed ≡ number → IsNumberOf keys text number
number_found borrowed keys text (Some i) are is =
    let none : Bor (List ℕ) = record { ref_ptr = (0, 0); now = [] } in
    let at = position-Some (λ key. bytes_eq text key.now) borrowed i none is in
    let low : i < length keys = omega (arith, at.0, length-map borrowed (λ (key : Bor (List ℕ)). key.now), ap (λ (ks : List (List ℕ)). length ks) are) in
    let key : get_or keys i [] ≡ (get_or borrowed i none).now =
    ap (λ (ks : List (List ℕ)). get_or ks i []) (sym are) ∙ get_or-map (λ (key : Bor (List ℕ)). key.now) borrowed i none [] at.0 in
    (low, key ∙ sym ((bytes_eq-Decides text (get_or borrowed i none).now).0 at.1))
number_found borrowed keys text None are is =
    let none : Bor (List ℕ) = record { ref_ptr = (0, 0); now = [] } in
    subst (All (λ (key : List ℕ). bytes_eq text key ≡ false)) are
    (λ k d low.
    let there : k < length borrowed = omega (arith, low, length-map borrowed (λ (key : Bor (List ℕ)). key.now)) in
    rw (get_or-map (λ (key : Bor (List ℕ)). key.now) borrowed k none d there)
    (passes_none (λ (key : Bor (List ℕ)). bytes_eq text key.now) borrowed (found_none (λ (key : Bor (List ℕ)). bytes_eq text key.now) borrowed is) k none there))

flip : (a b : List ℕ) → bytes_eq b a ≡ false → bytes_eq a b ≡ false
flip a b h = by (bytes_eq a b) refl
  where
    by : (t : Bool) → bytes_eq a b ≡ t → t ≡ false
    by true e = let back : bytes_eq b a ≡ true = (bytes_eq-Decides b a).1 (sym ((bytes_eq-Decides a b).0 e)) in absurd cc
    by false e = refl

-- keys that were put into a set one after the other are none of them there before
missing : (keys : List (Bor (List ℕ))) (i : ℕ) (d : Bor (List ℕ)) → IsDistinct bytes_eq (texts_of keys) → i < length keys
    → list_any (λ k. bytes_eq (get_or keys i d).now k.now) (take i keys) ≡ false
missing keys i d distinct low =
    let now : Bor (List ℕ) → List ℕ = λ key. key.now in
    list_any_none (λ k. bytes_eq (get_or keys i d).now k.now) (take i keys)
    (λ j e there.
    let before : j < i = omega (arith, there, length-take i keys) in
    let apart : bytes_eq (get_or (texts_of keys) j []) (get_or (texts_of keys) i []) ≡ false =
    apart_from_distinct bytes_eq (texts_of keys) j i [] distinct before (omega (arith, low, length-map keys now)) in
    let first : get_or (texts_of keys) j [] ≡ (get_or keys j e).now = get_or-map now keys j e [] (omega (arith, before, low)) in
    let second : get_or (texts_of keys) i [] ≡ (get_or keys i d).now = get_or-map now keys i d [] low in
    rw (get_or-take i keys j e before) (flip (get_or keys i d).now (get_or keys j e).now (rw (first, second) at apart)))

if_good : {A E : Type 0} (r : Result A E) {P : Type 0} → is_ok r ≡ true → IfOk r (λ x. P) → P
if_good (Ok x) e h = h
if_good (Err y) e h = cc e

pub one_more_key : (keys old new : List (Bor (List ℕ))) (i : ℕ) (d : Bor (List ℕ)) → IsDistinct bytes_eq (texts_of keys) → i < length keys → old ≡ take i keys
    → {A E : Type 0} (r : Result A E) → is_ok r ≡ true
    → IfOk r (λ x. new ≡ (if list_any (λ k. bytes_eq (get_or keys i d).now k.now) old then old else old ++ get_or keys i d ∷ [])) → new ≡ take (i + 1) keys
one_more_key keys old new i d distinct low so_far r good is =
    let fresh : list_any (λ k. bytes_eq (get_or keys i d).now k.now) old ≡ false =
    ap (list_any (λ k. bytes_eq (get_or keys i d).now k.now)) so_far ∙ missing keys i d distinct low in
    if_good r good is ∙ rw fresh refl ∙ ap (λ (ks : List (Bor (List ℕ))). ks ++ get_or keys i d ∷ []) so_far ∙ sym (take_more keys i d low)

-- ---- reading a chain

module _ (next : List ℕ) (place : ℕ) (numbers : List ℕ) where
  abbrev pub Left : ℕ → Type 0
  Left at = (rest : List ℕ) × (numbers ++ rest ≡ chain_from next place) × Follows next at rest

  pub chain_all : (at : ℕ) → Left at → at ≤ 0 → numbers ≡ chain_from next place
  chain_all at (([], is, follows)) end = sym (append-nil numbers) ∙ is
  chain_all at ((r ∷ rest, is, follows)) end = absurd (omega (arith, end, follows.0))

  pub chain_there : (at : ℕ) → Left at → 0 < at → All (λ row. row < length next) (chain_from next place) → at - 1 < length next
  chain_there at (([], is, follows)) more there = absurd (omega (arith, more, follows))
  chain_there at ((r ∷ rest, is, follows)) more there =
      let among : length numbers < length (chain_from next place) =
      omega (arith, ap (λ (ns : List ℕ). length ns) is, length-append numbers (r ∷ rest)) in
      let row : get_or (chain_from next place) (length numbers) 0 ≡ r =
      ap (λ (ns : List ℕ). get_or ns (length numbers) 0) (sym is) ∙ get_or-append_seam numbers r rest 0 in
      omega (arith, there (length numbers) 0 among, row, follows.0)

  pub chain_more : (at : ℕ) → Left at → 0 < at → (pushed : List ℕ) → pushed ≡ numbers ++ (at - 1) ∷ []
      → (rest : List ℕ) × (pushed ++ rest ≡ chain_from next place) × Follows next (get_or next (at - 1) 0) rest
  chain_more at (([], is, follows)) more pushed push = absurd (omega (arith, more, follows))
  chain_more at ((r ∷ rest, is, follows)) more pushed push =
      let row : at - 1 ≡ r = omega (arith, follows.0) in
      (rest, ap (λ (ns : List ℕ). ns ++ rest) (push ∙ ap (λ (n : ℕ). numbers ++ n ∷ []) row) ∙ append_assoc numbers (r ∷ []) rest ∙ is, rw row follows.1)
