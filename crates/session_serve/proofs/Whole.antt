-- lines of bytes that are put behind whole lines
use Rattle.std.proofs.Common.{◌≡◌, ◌≢◌, ℕ, ◌+◌, ◌<◌, ◌≤◌, eqb, cond, Bool, true, false, List, [], ◌∷◌, ◌++◌, length, map, refl, sym, ◌∙◌, ap, arith, inl, inr}
use Rattle.std.specs.List.{onto_first}
use Rattle.std.proofs.lemmas.List.{map-append}
use Rattle.wire_lines.specs.Lines.{lf, cr, without_cr, pieces_of, lines_of}
use Rattle.wire_lines.proofs.Cuts.{pieces_of_none, pieces_of_at}
use Rattle.session_core.proofs.Exchanges.{all_append}
use Rattle.session_serve.specs.Session.{AreWhole, HasNoEnd}

onto_append : (b : ℕ) (xs ys : List (List ℕ)) → 0 < length xs → onto_first b (xs ++ ys) ≡ onto_first b xs ++ ys
onto_append b [] ys h = absurd (omega arith)
onto_append b (x ∷ xs) ys h = refl

onto_some : (b : ℕ) (xs : List (List ℕ)) → 0 < length (onto_first b xs)
onto_some b [] = omega arith
onto_some b (x ∷ xs) = omega arith

some_piece : (front : List ℕ) → 0 < length (pieces_of (front ++ lf ∷ []))
some_piece [] = omega arith
some_piece (b ∷ front) =
    elim (eqb b lf) as (λ t. 0 < length (cond t ([] ∷ pieces_of (front ++ lf ∷ [])) (onto_first b (pieces_of (front ++ lf ∷ []))))) [
      | true ↦ omega arith
      | false ↦ onto_some b (pieces_of (front ++ lf ∷ []))
    ]

pieces_whole : (front more : List ℕ) → pieces_of ((front ++ lf ∷ []) ++ more) ≡ pieces_of (front ++ lf ∷ []) ++ pieces_of more
pieces_whole [] more = refl
pieces_whole (b ∷ front) more =
    elim (eqb b lf) as (λ t. cond t ([] ∷ pieces_of ((front ++ lf ∷ []) ++ more)) (onto_first b (pieces_of ((front ++ lf ∷ []) ++ more)))
    ≡ cond t ([] ∷ pieces_of (front ++ lf ∷ [])) (onto_first b (pieces_of (front ++ lf ∷ []))) ++ pieces_of more) [
      | true ↦ ap (λ (ps : List (List ℕ)). [] ∷ ps) (pieces_whole front more)
      | false ↦ ap (onto_first b) (pieces_whole front more) ∙ onto_append b (pieces_of (front ++ lf ∷ [])) (pieces_of more) (some_piece front)
    ]

-- Behind whole lines the lines go on.
pub lines_whole : (bytes more : List ℕ) → AreWhole bytes → lines_of (bytes ++ more) ≡ lines_of bytes ++ lines_of more
unfolding lines_of
lines_whole bytes more (inl none) =
    ap (λ (bs : List ℕ). map without_cr (pieces_of (bs ++ more))) none ∙ sym (ap (λ (bs : List ℕ). map without_cr (pieces_of bs) ++ map without_cr (pieces_of more)) none)
lines_whole bytes more (inr (front, is)) =
    ap (λ (bs : List ℕ). map without_cr (pieces_of (bs ++ more))) is
    ∙ ap (map without_cr) (pieces_whole front more)
    ∙ map-append without_cr (pieces_of (front ++ lf ∷ [])) (pieces_of more)
    ∙ sym (ap (λ (bs : List ℕ). map without_cr (pieces_of bs) ++ map without_cr (pieces_of more)) is)

-- a line that ends with an LF, and one that ends with the input
pub line_ended : (raw : List ℕ) → HasNoEnd raw → lines_of (raw ++ lf ∷ []) ≡ without_cr raw ∷ []
unfolding lines_of
line_ended raw unended = ap (map without_cr) (pieces_of_at raw [] unended)

pub line_at_end : (raw : List ℕ) → HasNoEnd raw → 0 < length raw → lines_of raw ≡ without_cr raw ∷ []
unfolding lines_of
line_at_end raw unended some = ap (map without_cr) (pieces_of_none raw unended some)

pub no_end_push : (raw : List ℕ) (b : ℕ) → HasNoEnd raw → b ≢ lf → HasNoEnd (raw ++ b ∷ [])
no_end_push raw b unended other = all_append (λ (c : ℕ). c ≢ lf) raw (b ∷ []) unended (other, tt)

pub no_lines_yet : lines_of [] ≡ []
unfolding lines_of
no_lines_yet = refl

-- how long a line is whose bytes are many
abbrev pub total : List (List ℕ) → ℕ
total [] = 0
total (p ∷ ps) = length p + 1 + total ps

onto_total : (b : ℕ) (ps : List (List ℕ)) → 1 + total ps ≤ total (onto_first b ps)
onto_total b [] = omega arith
onto_total b (p ∷ ps) = omega arith

all_pieces : (bytes : List ℕ) → length bytes ≤ total (pieces_of bytes)
all_pieces [] = omega arith
all_pieces (b ∷ bytes) =
    let rest = all_pieces bytes in
    let onto = onto_total b (pieces_of bytes) in
    elim (eqb b lf) as (λ t. length (b ∷ bytes) ≤ total (cond t ([] ∷ pieces_of bytes) (onto_first b (pieces_of bytes)))) [
      | true ↦ omega (arith, rest)
      | false ↦ omega (arith, rest, onto)
    ]

cr_one : (p : List ℕ) → length p ≤ length (without_cr p) + 1
cr_one [] = omega arith
cr_one (b ∷ []) = elim (eqb b cr) as (λ t. 1 ≤ length (cond t [] (b ∷ [])) + 1) [ true ↦ omega arith | false ↦ omega arith ]
cr_one (b ∷ c ∷ bytes) = let rest = cr_one (c ∷ bytes) in omega (arith, rest)

abbrev pub first_of : List (List ℕ) → List ℕ
first_of [] = []
first_of (line ∷ lines) = line

one_total : (ps : List (List ℕ)) (text : List ℕ) → map without_cr ps ≡ text ∷ [] → total ps ≤ length text + 2
one_total [] text is = absurd (omega (arith, ap length is))
one_total (p ∷ []) text is =
    let same : length (without_cr p) ≡ length text = ap (λ (xs : List (List ℕ)). length (first_of xs)) is in
    omega (arith, cr_one p, same)
one_total (p ∷ q ∷ ps) text is = absurd (omega (arith, ap length is))

-- Of one line's bytes at most two are no bytes of its text.
pub one_line_long : (raw text : List ℕ) → lines_of raw ≡ text ∷ [] → length raw ≤ length text + 2
unfolding lines_of
one_line_long raw text is = let all = all_pieces raw in let one = one_total (pieces_of raw) text is in omega (arith, all, one)
