-- Lists cut at a byte: lines at LF, words at a space, an epsilon at the point.
use Rattle.std.proofs.Common.{◌≡◌, ◌≢◌, ℕ, ◌+◌, ◌-◌, ◌<◌, ◌≤◌, true, false, cond, eqb, List, [], ◌∷◌, ◌++◌, length, get_or, take, drop, All, map, refl, sym, ap, ◌∙◌, arith, ◌⊎◌, inl, inr}
use Rattle.std.specs.List.{AllByRecursion}
use Rattle.std.proofs.lemmas.List.Elements.{All-from_get_or, recursion_from_All, All-from_recursion}
use Rattle.std.proofs.lemmas.Bool.{eq-eqb, eqb-true, ne_eqb, cases_eq}
use Rattle.std.proofs.lemmas.List.{drop_more, get_or-take, length-take-le, take-append-drop, take_more}
use Rattle.std.proofs.Math.Seq.{take-length}
use Rattle.memchr.specs.Find.{Nowhere, Passes, is_byte}
use Rattle.wire_lines.specs.Lines.{cr, lf, without_cr, pieces_of, lines_of}

-- what `memchr` finds: the list is cut at that place, and the byte stands nowhere before it; or it stands nowhere
module _ (byte : ℕ) (xs : List ℕ) where
  pub cut_here : (at : ℕ) → at < length xs → Passes (is_byte byte) xs at → xs ≡ take at xs ++ byte ∷ drop (at + 1) xs
  cut_here at within here =
      sym (take-append-drop at xs) ∙ ap (λ ys. take at xs ++ ys) (drop_more xs at 0 within ∙ ap (λ b. b ∷ drop (at + 1) xs) (eqb-true (get_or xs at 0) byte here))

  pub apart_before : (at : ℕ) → at ≤ length xs → Nowhere (Passes (is_byte byte) xs) 0 at → All (λ b. b ≢ byte) (take at xs)
  apart_before at within nowhere = All-from_get_or (λ b. b ≢ byte) (take at xs) 0 (λ i lt same.
      let low : i < at = omega (arith, lt, length-take-le at xs within) in
      nowhere i (omega arith) low (eq-eqb (get_or xs i 0) byte (sym (get_or-take at xs i 0 low) ∙ same)))

  pub apart : Nowhere (Passes (is_byte byte) xs) 0 (length xs) → All (λ b. b ≢ byte) xs
  apart nowhere = All-from_get_or (λ b. b ≢ byte) xs 0 (λ i lt same. nowhere i (omega arith) lt (eq-eqb (get_or xs i 0) byte same))

-- one CR at the end goes
without_cr-push : (xs : List ℕ) (b : ℕ) → without_cr (xs ++ b ∷ []) ≡ cond (eqb b cr) xs (xs ++ b ∷ [])
without_cr-push [] b = refl
without_cr-push (x ∷ []) b = elim (eqb b cr) as (λ t. x ∷ cond t [] (b ∷ []) ≡ cond t (x ∷ []) (x ∷ b ∷ [])) [ true ↦ refl | false ↦ refl ]
without_cr-push (x ∷ y ∷ xs) b =
    ap (λ ys. x ∷ ys) (without_cr-push (y ∷ xs) b)
    ∙ elim (eqb b cr) as (λ t. x ∷ cond t (y ∷ xs) (y ∷ (xs ++ b ∷ [])) ≡ cond t (x ∷ y ∷ xs) (x ∷ y ∷ (xs ++ b ∷ []))) [ true ↦ refl | false ↦ refl ]

pub without_cr_is : (xs : List ℕ) → 0 < length xs → without_cr xs ≡ cond (eqb (get_or xs (length xs - 1) 0) cr) (take (length xs - 1) xs) xs
without_cr_is xs some =
    let i : ℕ = length xs - 1 in
    let within : i < length xs = omega arith in
    let end : i + 1 ≡ length xs = omega arith in
    let whole : xs ≡ take i xs ++ get_or xs i 0 ∷ [] = sym (take-length xs) ∙ ap (λ n. take n xs) (sym end) ∙ take_more xs i 0 within in
    ap without_cr whole ∙ without_cr-push (take i xs) (get_or xs i 0) ∙ ap (λ ys. cond (eqb (get_or xs i 0) cr) (take i xs) ys) (sym whole)

pub without_cr_empty : (xs : List ℕ) → length xs ≡ 0 → without_cr xs ≡ xs
without_cr_empty [] h = refl
without_cr_empty (x ∷ xs) h = absurd (omega arith)

-- where no LF stands, the bytes are one piece
pub pieces_of_none : (xs : List ℕ) → AllByRecursion (λ b. b ≢ lf) xs → 0 < length xs → pieces_of xs ≡ xs ∷ []
pieces_of_none [] h some = absurd (omega arith)
pieces_of_none (x ∷ []) h some = rw (ne_eqb x lf h.0) refl
pieces_of_none (x ∷ y ∷ xs) h some = rw (ne_eqb x lf h.0, pieces_of_none (y ∷ xs) h.1 (omega arith)) refl

-- the first piece ends at the first LF
pub pieces_of_at : (xs ys : List ℕ) → AllByRecursion (λ b. b ≢ lf) xs → pieces_of (xs ++ lf ∷ ys) ≡ xs ∷ pieces_of ys
pieces_of_at [] ys h = refl
pieces_of_at (x ∷ xs) ys h = rw (ne_eqb x lf h.0, pieces_of_at xs ys h.1) refl

no_lf : (xs : List ℕ) → All (λ b. b ≢ lf) xs → AllByRecursion (λ b. b ≢ lf) xs
no_lf xs h = recursion_from_All _ xs h

-- the first line of a script, where an LF ends it
pub first_line : (script front after line : List ℕ) → script ≡ front ++ lf ∷ after → All (λ b. b ≢ lf) front → line ≡ without_cr front → lines_of script ≡ line ∷ lines_of after
unfolding lines_of
first_line script front after line cut apart trimmed =
    ap (λ bytes. map without_cr (pieces_of bytes)) cut ∙ ap (map without_cr) (pieces_of_at front after (no_lf front apart)) ∙ ap (λ l. l ∷ map without_cr (pieces_of after)) (sym trimmed)

-- and where none does
pub last_line : (script line : List ℕ) → 0 < length script → All (λ b. b ≢ lf) script → line ≡ without_cr script → lines_of script ≡ line ∷ lines_of []
unfolding lines_of
last_line script line some apart trimmed =
    ap (map without_cr) (pieces_of_none script (no_lf script apart) some) ∙ ap (λ l. l ∷ []) (sym trimmed)

pub no_lines : (script : List ℕ) → length script ≡ 0 → lines_of script ≡ []
unfolding lines_of
no_lines [] h = refl
no_lines (x ∷ xs) h = absurd (omega arith)

-- a list with the byte in it has a first one
pub cut_cases : (byte : ℕ) (xs : List ℕ) → All (λ b. b ≢ byte) xs ⊎ ((front after : List ℕ) × All (λ b. b ≢ byte) front × (xs ≡ front ++ byte ∷ after))
cut_cases byte xs = elim (cut_by_recursion byte xs) [ inl h ↦ inl (All-from_recursion _ xs h) | inr (front, after, h, e) ↦ inr (front, after, All-from_recursion _ front h, e) ]
  where
    cut_by_recursion : (byte : ℕ) (xs : List ℕ) → AllByRecursion (λ b. b ≢ byte) xs ⊎ ((front after : List ℕ) × AllByRecursion (λ b. b ≢ byte) front × (xs ≡ front ++ byte ∷ after))
    cut_by_recursion byte [] = inl tt
    cut_by_recursion byte (x ∷ xs) = elim (cases_eq x byte) [
      | inl e ↦ inr ([], xs, tt, ap (λ b. b ∷ xs) e)
      | inr ne ↦ elim (cut_by_recursion byte xs) [
        | inl h ↦ inl (ne, h)
        | inr (front, after, h, e) ↦ inr (x ∷ front, after, (ne, h), ap (λ ys. x ∷ ys) e)
      ]
    ]
