-- what lines were told is the owner's records, in some order
use Rattle.std.proofs.Common.{◌≡◌, ℕ, suc, ◌+◌, ◌≤◌, ◌==◌, Bool, true, false, List, [], ◌∷◌, ◌++◌, length, take, drop, slice_get, Some, refl, sym, ◌∙◌, ap, subst, arith, ne_eqb, eq-eqb}
use Rattle.std.specs.Prelude.{if◌then◌else◌, sum_by, IsPermutation, All}
use Rattle.std.specs.List.{enumerate_from}
use Rattle.std.proofs.lemmas.List.{take-append-drop}
use Rattle.std.proofs.lemmas.List.Elements.{All-append, All-cons, All-head, All-nil, All-tail}
use Rattle.std.proofs.lemmas.List.Sorted.{All-permutation, IsPermutation-append_left, IsPermutation-cons, IsPermutation-refl, IsPermutation-to_front, IsPermutation-trans, sum_by-IsPermutation}
use Rattle.std.proofs.lemmas.List.Sums.{sum_by-cons}
use mathlib.Core.Logic.{inl, inr, dite}
use native.Mathlib.Decide.{ℕ_discrete}
use Rattle.journal_records.specs.declared.records.Record.{Record}
use Rattle.owner_desk.specs.Answers.{Has}
use Rattle.owner_desk.specs.Passes.{Told, told_behind}
use Rattle.owner_house.specs.House.{House}
use Rattle.owner_house.specs.Owner.{Owner}
use Rattle.successive_runs.specs.SessionCore.Exchanges.{Exchange, is_of, told_of}
use Rattle.successive_runs.specs.SessionCore.Gathered.{AreGathered}
use Rattle.successive_runs.specs.SessionCore.Turns.{meant_at}
use Rattle.query_server.proofs.SessionLaws.Listed.{slice_behind}
use Rattle.query_server.proofs.SessionLaws.Once.{told_once}
use Rattle.query_server.proofs.SessionLaws.Places.{prefix_take}

-- how often a place is told
abbrev at_place : ℕ → Told → ℕ
at_place p z = if z.0 == p then 1 else 0

its_own : (p : ℕ) (z : Told) → z.0 ≡ p → at_place p z ≡ 1
its_own p z is = rw (eq-eqb z.0 p is) refl

another : (p : ℕ) (z : Told) → (z.0 ≡ p → ⊥) → at_place p z ≡ 0
another p z other = rw (ne_eqb z.0 p other) refl

-- one of a list that is told at a place, and the others
record IsTakenOut (p : ℕ) (zs : List Told) : Type 0 where
  pub one : Told
  pub rest : List Told
  pub place : one.0 ≡ p
  pub same : IsPermutation zs (one ∷ rest)

front : (z x : Told) (rest : List Told) → IsPermutation (z ∷ x ∷ rest) (x ∷ z ∷ rest)
front z x rest = IsPermutation-append_left rest (z ∷ x ∷ []) (x ∷ z ∷ []) (IsPermutation-to_front (z ∷ []) x)

take_out : (p : ℕ) (zs : List Told) → 1 ≤ sum_by (at_place p) zs → IsTakenOut p zs
take_out p [] le = absurd (omega (arith, le))
take_out p (z ∷ zs) le = dite (ℕ_discrete z.0 p)
    (λ e. record { one = z; rest = zs; place = e; same = IsPermutation-refl (z ∷ zs) })
    (λ other.
    let t = take_out p zs (omega (arith, le, another p z other, sum_by-cons (at_place p) z zs)) in
    record {
      one = t.one;
      rest = z ∷ t.rest;
      place = t.place;
      same = IsPermutation-trans (z ∷ zs) (z ∷ t.one ∷ t.rest) (t.one ∷ z ∷ t.rest) (IsPermutation-cons z zs (t.one ∷ t.rest) t.same) (front z t.one t.rest);
    })

module _ (records : List Record) where
  abbrev pub StandsAt : Told → Type 0
  StandsAt z = slice_get records z.0 ≡ Some z.1

  in_order : (k : ℕ) (rs : List Record) (zs : List Told) → ((j : ℕ) (r : Record) → slice_get rs j ≡ Some r → slice_get records (k + j) ≡ Some r) → All StandsAt zs
      → ((weight : Told → ℕ) → sum_by weight zs ≡ sum_by weight (enumerate_from k rs)) → IsPermutation zs (enumerate_from k rs)
  in_order k [] [] there stand weighs = IsPermutation-refl []
  in_order k [] (z ∷ zs) there stand weighs = absurd (omega (arith, weighs (λ y. 1), sum_by-cons (λ (y : Told). 1) z zs))
  in_order k (r ∷ rs) zs there stand weighs =
      let t = take_out k zs (omega (arith, weighs (at_place k), sum_by-cons (at_place k) (k, r) (enumerate_from (k + 1) rs), its_own k (k, r) refl)) in
      let all : All StandsAt (t.one ∷ t.rest) = All-permutation StandsAt zs (t.one ∷ t.rest) t.same stand in
      let here : slice_get records k ≡ Some r = let same : k + 0 ≡ k = omega arith in ap (λ (j : ℕ). slice_get records j) (sym same) ∙ there 0 r refl in
      let both : Some t.one.1 ≡ Some r = sym (All-head StandsAt t.one t.rest all) ∙ ap (λ (j : ℕ). slice_get records j) t.place ∙ here in
      let value : t.one.1 ≡ r = cc (both) in
      let first : t.one ≡ (k, r) = ap (λ (j : ℕ). (j, t.one.1)) t.place ∙ ap (λ (w : Record). (k, w)) value in
      let rest : IsPermutation t.rest (enumerate_from (k + 1) rs) =
      in_order (k + 1) rs t.rest
      (λ j s at. let same : k + 1 + j ≡ k + suc j = omega arith in ap (λ (i : ℕ). slice_get records i) same ∙ there (suc j) s at)
      (All-tail StandsAt t.one t.rest all)
      (λ weight.
      let one : weight t.one ≡ weight (k, r) = ap weight first in
      omega (arith, weighs weight, sum_by-IsPermutation weight zs (t.one ∷ t.rest) t.same, sum_by-cons weight t.one t.rest, sum_by-cons weight (k, r) (enumerate_from (k + 1) rs), one)) in
      IsPermutation-trans zs (t.one ∷ t.rest) ((k, r) ∷ enumerate_from (k + 1) rs) t.same
      (subst (λ (z : Told). IsPermutation (t.one ∷ t.rest) (z ∷ enumerate_from (k + 1) rs)) first (IsPermutation-cons t.one t.rest (enumerate_from (k + 1) rs) rest))

  all_of : (zs : List Told) → ((z : Told) → Has z zs → StandsAt z) → All StandsAt zs
  all_of [] each = All-nil StandsAt
  all_of (z ∷ zs) each = All-cons StandsAt z zs (each z (inl refl)) (all_of zs (λ y has. each y (inr has)))

  told_stand : (house : House) (o : ℕ) (xs : List Exchange) → ((j : ℕ) (x : Exchange) → slice_get xs j ≡ Some x → is_of o (meant_at house x.turn) ≡ true → All StandsAt x.told) → All StandsAt (told_of house o xs)
  told_stand house o [] each = All-nil StandsAt
  told_stand house o (x ∷ xs) each =
      All-append StandsAt (if is_of o (meant_at house x.turn) then x.told else []) (told_of house o xs) (either (is_of o (meant_at house x.turn)) refl) (told_stand house o xs (λ j y at ours. each (suc j) y at ours))
    where
      either : (b : Bool) → is_of o (meant_at house x.turn) ≡ b → All StandsAt (if b then x.told else [])
      either true ours = each 0 x refl ours
      either false others = All-nil StandsAt

pub some_order : (house : House) (draws : ℕ → ℕ → ℕ → ℕ) (count : ℕ) (crew : ℕ → ℕ) (o : ℕ) (owner : Owner) (found : List Record) (xs : List Exchange) (records : List Record) → slice_get house.owners o ≡ Some owner
    → AreGathered house draws count crew o found xs records → IsPermutation (told_of house o xs) (told_behind found records)
some_order house draws count crew o owner found xs records here all =
    let once = told_once house draws count crew o owner found xs records here all in
    let first : take (length found) records ≡ found = prefix_take found records all.begins in
    let size : length (take (length found) records) ≡ length found = ap length first in
    let whole : take (length found) records ++ drop (length found) records ≡ records = take-append-drop (length found) records in
    in_order records (length found) (drop (length found) records) (told_of house o xs)
    (λ j r at.
    ap (λ (k : ℕ). slice_get records (k + j)) (sym size) ∙ ap (λ (w : List Record). slice_get w (length (take (length found) records) + j)) (sym whole)
    ∙ slice_behind (take (length found) records) (drop (length found) records) j ∙ at)
    (told_stand records house o xs (λ j x at ours. all_of records x.told (λ z has. (once.stand z.0 z.1 j (record { x = x; stands = at; ours = ours; has = has })).1))) all.once
