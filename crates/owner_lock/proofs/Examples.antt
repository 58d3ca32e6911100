-- What passes know and what jobs owe, at worked sheets, on both sides of each choice.
use Rattle.std.proofs.Common.{◌≡◌, ℕ, zero, suc, ◌+◌, ◌%◌, ◌≤◌, ◌⊎◌, Bool, true, false, List, [], ◌∷◌, ◌++◌, length, get_or, refl, sym, ap, ◌∙◌, inl, inr, arith, Option, Some, slice_get}
use mathlib.Core.Option.{some}
use Rattle.std.specs.Bool.{if◌then◌else◌}
use Rattle.atomic_table.specs.Table.{State, opening}
use Rattle.owner_lock.specs.declared.stands.StandsFor.{Ghosts}
use Rattle.owner_lock.specs.declared.view.View.{View}
use Rattle.owner_lock.specs.Entries.{Ascends, Has, longer, merged}
use Rattle.owner_lock.specs.Known.{Known, given_half, joined, kept_half, known_first, whole_share}
use Rattle.owner_lock.specs.Jobs.{ClosesOwn, ComesBack, Knows, Meets, Owes}
use Rattle.owner_lock.specs.Views.{first_view, known_by, settled, both}
use Rattle.owner_lock.specs.History.{InPhase, OneHistory, Phase, held, home, homes_in, lock_word}
use Rattle.owner_lock.proofs.Keeps.{at_home}

-- A sheet has notes and room for three, and may be shut. A note of n + 10 closes one of n.
record Sheet : Type 0 where
  notes : List ℕ
  shut : Bool

abbrev sheets : Ghosts Sheet ℕ ℕ
sheets = record {
  history = λ s. s.notes;
  shut = λ s. s.shut;
  fixed = λ s. 3;
  legal = λ room notes. length notes ≤ room;
  closes = λ later earlier. later ≡ earlier + 10;
}

abbrev sheet : List ℕ → Sheet
sheet notes = record { notes = notes; shut = false }

abbrev shut : List ℕ → Sheet
shut notes = record { notes = notes; shut = true }

-- a pass on a sheet that had the note 5 at first
abbrev knows : (seen : List ℕ) → (own : List (ℕ × ℕ)) → (share : ℕ) → Bool → Known ℕ ℕ
knows seen own share is_shut = record { fixed = Some 3; base = 5 ∷ []; seen = seen; own = own; share = share; shut = is_shut }

-- ---- entries by position

by_position : merged {E = ℕ} ((1, 6) ∷ (4, 9) ∷ []) ((2, 7) ∷ (3, 8) ∷ (5, 10) ∷ []) ≡ (1, 6) ∷ (2, 7) ∷ (3, 8) ∷ (4, 9) ∷ (5, 10) ∷ []
by_position = refl

with_none : merged {E = ℕ} [] ((2, 7) ∷ []) ≡ (2, 7) ∷ []
with_none = refl

the_second_is_longer : longer {E = ℕ} (5 ∷ []) (5 ∷ 6 ∷ []) ≡ 5 ∷ 6 ∷ []
the_second_is_longer = refl

the_first_is_longer : longer {E = ℕ} (5 ∷ 6 ∷ []) (5 ∷ []) ≡ 5 ∷ 6 ∷ []
the_first_is_longer = refl

ascends : Ascends {E = ℕ} 0 ((1, 6) ∷ (4, 9) ∷ [])
ascends = (omega arith, (omega arith, tt))

not_twice_at_one_place : Ascends {E = ℕ} 0 ((1, 6) ∷ (1, 7) ∷ []) → ⊥
not_twice_at_one_place h = let two : 2 ≤ 1 = h.1.0 in omega (arith, two)

-- ---- shares

first : known_first sheets (sheet (5 ∷ [])) ≡ knows (5 ∷ []) [] 4294967296 false
first = refl

-- an odd share: the smaller half is given
kept : kept_half (knows (5 ∷ 6 ∷ []) ((1, 6) ∷ []) 7 true) ≡ knows (5 ∷ 6 ∷ []) ((1, 6) ∷ []) 4 true
kept = refl

given : given_half (knows (5 ∷ 6 ∷ []) ((1, 6) ∷ []) 7 true) ≡ knows (5 ∷ 6 ∷ []) [] 3 true
given = refl

-- What was split and comes together again is whole.
whole_again : joined (kept_half (known_first sheets (sheet (5 ∷ [])))) (given_half (known_first sheets (sheet (5 ∷ [])))) ≡ known_first sheets (sheet (5 ∷ []))
whole_again = refl

-- A pass knows what either knew: the longer of what was seen, both's own, and that the state is shut.
together : joined (knows (5 ∷ 6 ∷ []) ((1, 6) ∷ []) 4 false) (knows (5 ∷ 6 ∷ 7 ∷ []) ((2, 7) ∷ []) 3 true)
    ≡ knows (5 ∷ 6 ∷ 7 ∷ []) ((1, 6) ∷ (2, 7) ∷ []) 7 true
together = refl

-- In the table what the other had seen is kept beside, until the look.
settled_is_joined : {E F : Type 0} (v w : View E F) → known_by (settled (both v w)) ≡ joined (known_by v) (known_by w)
settled_is_joined v w = refl

first_is_known : {T E F : Type 0} (k : Ghosts T E F) (x : T) → known_by (first_view k x) ≡ known_first k x
first_is_known k x = refl

-- ---- what a job may rely on

none_behind : (p : ℕ) (d : ℕ) → 1 ≤ p → slice_get (5 ∷ []) p ≡ Some d → ⊥
none_behind zero d le e = omega (arith, le)
none_behind (suc p) d le e = cc

meets_alone : Meets sheets (knows (5 ∷ []) [] 1 false) (sheet (5 ∷ []))
meets_alone = record {
  fixed = refl;
  legal = omega arith;
  begins = ([], refl);
  later = ([], refl);
  shut = λ e. e;
  own = λ p e h. absurd h;
  pairs = λ p q d e le lt at there c. absurd (none_behind p d le at);
}

-- never a sheet without what was there at first, or was seen
not_without_the_first : Meets sheets (knows [] [] 1 false) (sheet []) → ⊥
not_without_the_first h = let no : 5 ∷ h.begins.0 ≡ [] = h.begins.1 in cc

not_without_the_seen : Meets sheets (knows (5 ∷ 6 ∷ []) [] 1 false) (sheet (5 ∷ [])) → ⊥
not_without_the_seen h = let no : 5 ∷ 6 ∷ h.later.0 ≡ 5 ∷ [] = h.later.1 in cc

-- nor without its own entry in its place
not_with_anothers_note : Meets sheets (knows (5 ∷ []) ((1, 6) ∷ []) 1 false) (sheet (5 ∷ 7 ∷ [])) → ⊥
not_with_anothers_note h = let at : ◌≡◌ {A = Option ℕ} (Some 7) (Some 6) = (h.own 1 6 (inl refl)).1 in cc

-- nor open, where it was shut
not_open_again : Meets sheets (knows (5 ∷ []) [] 1 true) (sheet (5 ∷ [])) → ⊥
not_open_again h = let no : false ≡ true = h.shut refl in cc

-- nor with more than is legal
not_more_than_legal : Meets sheets (knows (5 ∷ []) [] 1 false) (sheet (5 ∷ 6 ∷ 7 ∷ 8 ∷ [])) → ⊥
not_more_than_legal h = let room : 4 ≤ 3 = h.legal in omega (arith, room)

-- What closes a pass's own is its own: nobody else has closed it.
not_closed_by_another : Meets sheets (knows (5 ∷ []) ((1, 6) ∷ []) 1 false) (sheet (5 ∷ 6 ∷ 16 ∷ [])) → ⊥
not_closed_by_another h = none ((h.pairs 1 2 6 16 (omega arith) (omega arith) refl refl refl).0 (inl refl))
  where
    none : Has {A = ℕ × ℕ} (2, 16) ((1, 6) ∷ []) → ⊥
    none (inl e) = let no : 2 ≡ 1 = ap (λ (z : ℕ × ℕ). z.0) e in omega (arith, no)
    none (inr e) = e

-- ---- what a job owes

abbrev Adds : Known ℕ ℕ → (xs ys : List ℕ) → Type 0
Adds v xs ys = (ys ≡ xs) ⊎ ((e : ℕ) × (ys ≡ xs ++ e ∷ []) × ClosesOwn sheets v xs e)

adds_one : Owes sheets (knows (5 ∷ []) [] 1 false) (sheet (5 ∷ [])) (sheet (5 ∷ 6 ∷ []))
adds_one = record { fixed = refl; legal = omega arith; shut = λ e. e; adds = inr (6, refl, λ p d le at c. absurd (none_behind p d le at)) }

adds_none : Owes sheets (knows (5 ∷ []) [] 1 false) (sheet (5 ∷ [])) (shut (5 ∷ []))
adds_none = record { fixed = refl; legal = omega arith; shut = λ e. refl; adds = inl refl }

not_two : Owes sheets (knows (5 ∷ []) [] 1 false) (sheet (5 ∷ [])) (sheet (5 ∷ 6 ∷ 7 ∷ [])) → ⊥
not_two h = by h.adds
  where
    by : Adds (knows (5 ∷ []) [] 1 false) (5 ∷ []) (5 ∷ 6 ∷ 7 ∷ []) → ⊥
    by (inl e) = cc
    by (inr (e, more, own)) = cc

not_taken_out : Owes sheets (knows (5 ∷ []) [] 1 false) (sheet (5 ∷ [])) (sheet []) → ⊥
not_taken_out h = by h.adds
  where
    by : Adds (knows (5 ∷ []) [] 1 false) (5 ∷ []) [] → ⊥
    by (inl e) = cc
    by (inr (e, more, own)) = cc

not_opened : Owes sheets (knows (5 ∷ []) [] 1 true) (shut (5 ∷ [])) (sheet (5 ∷ [])) → ⊥
not_opened h = let no : false ≡ true = h.shut refl in cc

-- The note 6 at place 1 is another's, so 16 may not be added; were it the pass's own, it might.
not_anothers : Owes sheets (knows (5 ∷ []) [] 1 false) (sheet (5 ∷ 6 ∷ [])) (sheet (5 ∷ 6 ∷ 16 ∷ [])) → ⊥
not_anothers h = by h.adds
  where
    by : Adds (knows (5 ∷ []) [] 1 false) (5 ∷ 6 ∷ []) (5 ∷ 6 ∷ 16 ∷ []) → ⊥
    by (inl same) = cc
    by (inr (e, more, own)) = let sixteen : 16 ≡ e = cc in own 1 6 (omega arith) refl (sym sixteen)

-- ---- a hold that nobody else comes between

abbrev Owns : (xs ys : List ℕ) → (before after : List (ℕ × ℕ)) → Type 0
Owns xs ys before after = ((ys ≡ xs) × (after ≡ before)) ⊎ ((e : ℕ) × (ys ≡ xs ++ e ∷ []) × (after ≡ before ++ (length xs, e) ∷ []))

knows_it : Knows sheets (knows (5 ∷ []) [] 1 false) (sheet (5 ∷ [])) (sheet (5 ∷ 6 ∷ [])) (knows (5 ∷ 6 ∷ []) ((1, 6) ∷ []) 1 false)
knows_it = record { fixed = refl; base = refl; share = refl; seen = refl; shut = refl; own = inr (6, refl, refl) }

not_forgotten : Knows sheets (knows (5 ∷ []) [] 1 false) (sheet (5 ∷ [])) (sheet (5 ∷ 6 ∷ [])) (knows (5 ∷ 6 ∷ []) [] 1 false) → ⊥
not_forgotten h = by h.own
  where
    by : Owns (5 ∷ []) (5 ∷ 6 ∷ []) [] [] → ⊥
    by (inl (same, own)) = cc
    by (inr (e, more, own)) = cc

not_at_another_place : Knows sheets (knows (5 ∷ []) [] 1 false) (sheet (5 ∷ [])) (sheet (5 ∷ 6 ∷ [])) (knows (5 ∷ 6 ∷ []) ((2, 6) ∷ []) 1 false) → ⊥
not_at_another_place h = by h.own
  where
    place : List (ℕ × ℕ) → ℕ
    place [] = 0
    place (z ∷ zs) = z.0

    by : Owns (5 ∷ []) (5 ∷ 6 ∷ []) [] ((2, 6) ∷ []) → ⊥
    by (inl (same, own)) = cc
    by (inr (e, more, own)) = let no : 2 ≡ 1 = ap place own in omega (arith, no)

-- ---- the state as it comes back

not_with_more : ComesBack sheets (knows (5 ∷ 6 ∷ []) ((1, 6) ∷ []) whole_share false) (sheet (5 ∷ 6 ∷ 7 ∷ [])) → ⊥
not_with_more h = let no : ◌≡◌ {A = List ℕ} (5 ∷ 6 ∷ 7 ∷ []) (5 ∷ 6 ∷ []) = h.all in cc

-- ---- the history of a table

-- Nobody has a share twice.
abbrev twice : State Sheet (View ℕ ℕ)
twice = record {
  words = 1 ∷ 0 ∷ [];
  homes = some (sheet (5 ∷ [])) ∷ [];
  views = first_view sheets (sheet (5 ∷ [])) ∷ first_view sheets (sheet (5 ∷ [])) ∷ [];
}

not_a_share_twice : OneHistory sheets twice → ⊥
not_a_share_twice h = let two : 8589934592 ≡ whole_share = h.shares in omega (arith, two)

-- Of a sheet at home with one note the count is 1.
abbrev miscounted : State Sheet (View ℕ ℕ)
miscounted = record { words = 2 ∷ 0 ∷ []; homes = some (sheet (5 ∷ [])) ∷ []; views = first_view sheets (sheet (5 ∷ [])) ∷ [] }

not_another_count : OneHistory sheets miscounted → ⊥
not_another_count h = by h.phase h.homes h.placed
  where
    counted : length h.history ≡ 2
    counted = sym (ap (λ ws. get_or ws 0 0) h.words)

    by : (p : Phase Sheet) → some (sheet (5 ∷ [])) ∷ [] ≡ homes_in sheets p → InPhase sheets h.fixed h.history miscounted.views p → ⊥
    by (home x) at is =
        let here : sheet (5 ∷ []) ≡ x = cc in
        let one : 5 ∷ [] ≡ h.history = ap (λ (s : Sheet). s.notes) here ∙ is.0 in
        omega (arith, ap length one, counted)
    by (held j b) at is = cc

-- Of a sheet at home word 1 doesn't say that a seat has the turn, whoever is counted above that.
abbrev taken_at_home : State Sheet (View ℕ ℕ)
taken_at_home = record { words = 1 ∷ 9 ∷ []; homes = some (sheet (5 ∷ [])) ∷ []; views = first_view sheets (sheet (5 ∷ [])) ∷ [] }

not_taken_at_home : OneHistory sheets taken_at_home → ⊥
not_taken_at_home h = by h.phase h.homes h.says
  where
    nine : h.word ≡ 9
    nine = sym (ap (λ ws. get_or ws 1 0) h.words)

    by : (p : Phase Sheet) → some (sheet (5 ∷ [])) ∷ [] ≡ homes_in sheets p → h.word % 4 ≡ lock_word sheets p → ⊥
    by (home x) at says =
        let here : sheet (5 ∷ []) ≡ x = cc in
        let open_one : h.word % 4 ≡ 0 = says ∙ ap (λ (s : Sheet). if s.shut then 2 else 0) (sym here) in
        omega (arith, open_one, nine)
    by (held j b) at says = cc

-- A caller may be counted there, that is to sleep or has slept.
counted_at_home : OneHistory sheets (opening (1 ∷ 8 ∷ []) (sheet (5 ∷ []) ∷ []) (first_view sheets (sheet (5 ∷ []))))
counted_at_home = at_home sheets (sheet (5 ∷ [])) 8 refl (omega arith)
