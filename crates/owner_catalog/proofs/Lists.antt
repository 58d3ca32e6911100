-- Items of a list, read one after another.
use Rattle.std.proofs.Common.{◌≡◌, ◌≤◌, ◌<◌, ◌+◌, ◌⊎◌, inl, inr, add-one, ◌||◌, not, if◌then◌else◌, ℕ, Bool, true, false, List, [], ◌∷◌, ◌++◌, map, length, Result, Ok, Err, bytes_eq, refl, sym, ap, ◌∙◌, drop, get_or}
use Rattle.std.proofs.Math.Seq.{drop-cons}
use Rattle.std.proofs.lemmas.Cmp.{nat_list_eq_equiv}
use Rattle.std.proofs.lemmas.List.{map-append, drop_all}
use Rattle.std.proofs.lemmas.Map.Keys.{IsDistinct-push}
use Rattle.std.specs.List.{AllByRecursion, list_any, IsDistinct}
use Rattle.serde_json.specs.Data.{Data}
use Rattle.serde_json.specs.View.{view}
use Rattle.serde_json.specs.declared.value.Value.{Value}
use Rattle.owner_catalog.specs.Plain.{HasNoFloat}
use Rattle.owner_catalog.specs.Fault.{counted_in, items_from, list_in}
use Rattle.owner_catalog.specs.declared.fault.CatalogFault.{CatalogFault}
use Rattle.owner_catalog.specs.declared.fault.CatalogFault.TheVariants.{Bad, NoMemory}
use Rattle.owner_catalog.specs.declared.fault.FaultKind.TheVariants.{Double}
use Rattle.owner_catalog.specs.declared.fault.Place.{Place}

module _ {A : Type 0} (name : A → List ℕ) (at : ℕ → Place) (read : ℕ → Data → Result A CatalogFault) (before : List A) where
  pub items_done : items_from name at read before [] ≡ Ok before
  unfolding items_from
  items_done = refl

  -- an item that is read, and repeats none before it
  pub items_step : (d : Data) (ds : List Data) (x : A) → read (length before) d ≡ Ok x → list_any (λ y. bytes_eq (name x) (name y)) before ≡ false
      → items_from name at read before (d ∷ ds) ≡ items_from name at read (before ++ x ∷ []) ds
  unfolding items_from
  items_step d ds x is other = rw is (rw other refl)

  pub items_double : (d : Data) (ds : List Data) (x : A) → read (length before) d ≡ Ok x → list_any (λ y. bytes_eq (name x) (name y)) before ≡ true
      → items_from name at read before (d ∷ ds) ≡ Err (Bad Double (at (length before)))
  unfolding items_from
  items_double d ds x is same = rw is (rw same refl)

  pub items_fault : (d : Data) (ds : List Data) (f : CatalogFault) → read (length before) d ≡ Err f → items_from name at read before (d ∷ ds) ≡ Err f
  unfolding items_from
  items_fault d ds f is = rw is refl

-- the loop's start: the items are counted
pub list_start : {A : Type 0} (least most : ℕ) (whole : Place) (name : A → List ℕ) (at : ℕ → Place) (read : ℕ → Data
    → Result A CatalogFault) (d : Data) (ds : List Data)
    → counted_in least most whole d ≡ Ok ds → list_in least most whole name at read d ≡ items_from name at read [] ds
unfolding list_in
list_start least most whole name at read d ds is = rw is refl

-- the next of some values, before the rest
next_value : (vs : List Value) (i : ℕ) (v : Value) → i < length vs → v ≡ get_or vs i v → drop i vs ≡ v ∷ drop (i + 1) vs
next_value vs i v low is = rw (drop-cons vs i v low) (rw (sym is) (rw (add-one i) refl))

pub plain_rest : (vs : List Value) (i : ℕ) (v : Value) → i < length vs → v ≡ get_or vs i v → (AllByRecursion HasNoFloat (drop i vs)
    → AllByRecursion HasNoFloat vs) → HasNoFloat v
    → AllByRecursion HasNoFloat (drop (i + 1) vs) → AllByRecursion HasNoFloat vs
plain_rest vs i v low is all plain rest = all (rw (next_value vs i v low is) (plain, rest))

pub distinct_none : {A : Type 0} (e : A → A → Bool) → IsDistinct e []
unfolding IsDistinct
distinct_none e = tt

pub list_any-map : {A B : Type 0} (test : B → Bool) (f : A → B) (xs : List A) → list_any test (map f xs) ≡ list_any (λ x. test (f x)) xs
list_any-map test f [] = refl
list_any-map test f (x ∷ xs) = ap (λ b. test (f x) || b) (list_any-map test f xs)

-- one more, of another name than all before it
pub distinct_more : {A : Type 0} (name : A → List ℕ) (before : List A) (x : A) → IsDistinct bytes_eq (map name before)
    → list_any (λ y. bytes_eq (name x) (name y)) before ≡ false → IsDistinct bytes_eq (map name (before ++ x ∷ []))
distinct_more name before x h other =
    rw (map-append name before (x ∷ [])) (IsDistinct-push nat_list_eq_equiv (map name before) (name x) h (list_any-map (bytes_eq (name x)) name before ∙ other))

-- a name was met before where it was not added to the names
pub met : {A : Type 0} (name : A → List ℕ) (before : List A) (names : List (List ℕ)) (n m : List ℕ) (added : Bool) → added ≡ not (list_any (bytes_eq n) names)
    → names ≡ map name before → n ≡ m → list_any (λ y. bytes_eq m (name y)) before ≡ not added
met name before names n m added asks same text =
    sym (list_any-map (bytes_eq m) name before) ∙ ap (list_any (bytes_eq m)) (sym same) ∙ ap (λ k. list_any (bytes_eq k) names) (sym text)
    ∙ twice (list_any (bytes_eq n) names) ∙ ap not (sym asks)
  where
    twice : (b : Bool) → b ≡ not (not b)
    twice true = refl
    twice false = refl

-- the names after one more
pub named_more : {A : Type 0} (name : A → List ℕ) (before : List A) (x : A) (old new : List (List ℕ)) (n : List ℕ) (added : Bool)
    → new ≡ (if added then old ++ n ∷ [] else old) → added ≡ true → old ≡ map name before → n ≡ name x → new ≡ map name (before ++ x ∷ [])
named_more name before x old new n true adds fresh same text =
    adds ∙ ap (λ ns. ns ++ n ∷ []) same ∙ ap (λ m. map name before ++ m ∷ []) text ∙ sym (map-append name before (x ∷ []))
named_more name before x old new n false adds fresh same text = cc fresh

-- One turn of the loop, of which R is the answer, at value v of number i.
module _ {A : Type 0} (name : A → List ℕ) (at : ℕ → Place) (read : ℕ → Data → Result A CatalogFault) (before : List A) (R : Result (List A) CatalogFault)
    (vs : List Value) (i : ℕ) (v : Value) (low : i < length vs) (is : v ≡ get_or vs i v) (number : ℕ) (counts : number ≡ length before)
    (same : R ≡ items_from name at read before (map view (drop i vs))) where
  turn : R ≡ items_from name at read before (view v ∷ map view (drop (i + 1) vs))
  turn = same ∙ ap (items_from name at read before) (ap (map view) (next_value vs i v low is))

  pub turn_fails : (f : CatalogFault) → (f ≡ NoMemory) ⊎ (read number (view v) ≡ Err f) → (f ≡ NoMemory) ⊎ (R ≡ Err f)
  turn_fails f (inl none) = inl none
  turn_fails f (inr fault) = inr (turn ∙ items_fault name at read before _ _ f (rw (sym counts) fault))

  pub turn_repeats : (x : A) → read number (view v) ≡ Ok x → list_any (λ y. bytes_eq (name x) (name y)) before ≡ true → R ≡ Err (Bad Double (at number))
  turn_repeats x reads twice = turn ∙ items_double name at read before _ _ x (rw (sym counts) reads) twice ∙ ap (λ n. Err (Bad Double (at n))) (sym counts)

  pub turn_adds : (x : A) → read number (view v) ≡ Ok x → list_any (λ y. bytes_eq (name x) (name y)) before ≡ false
      → R ≡ items_from name at read (before ++ x ∷ []) (map view (drop (i + 1) vs))
  turn_adds x reads other = turn ∙ items_step name at read before _ _ x (rw (sym counts) reads) other

-- the loop's end
pub turns_end : {A : Type 0} (name : A → List ℕ) (at : ℕ → Place) (read : ℕ → Data → Result A CatalogFault) (before : List A) (R : Result (List A) CatalogFault)
    (vs : List Value) (i : ℕ) → length vs ≤ i → R ≡ items_from name at read before (map view (drop i vs)) → R ≡ Ok before
turns_end name at read before R vs i high same =
    same ∙ ap (λ ds. items_from name at read before (map view ds)) (drop_all i vs high) ∙ items_done name at read before
