-- what is kept of a line, and its text
use Rattle.std.proofs.Common.{◌≡◌, ℕ, ◌+◌, ◌<◌, ◌≤◌, Bool, true, false, List, [], ◌∷◌, ◌++◌, length, get_or, refl, sym, ◌∙◌, ap, subst, arith, length-append}
use Rattle.std.specs.Prelude.{MatchBool}
use Rattle.wire_lines.specs.Lines.{lines_of}
use Rattle.wire_lines.specs.Request.{line_limit}
use Rattle.session_serve.specs.Code.{Keeps, line_room}
use Rattle.session_serve.specs.declared.line.Line.{Line}
use Rattle.session_serve.proofs.Whole.{first_of, one_line_long}

abbrev pub KeepsBy : Bool → List ℕ → List ℕ → Type 0
KeepsBy long kept raw = MatchBool long (line_room < length raw) (kept ≡ raw)

-- one byte more, where there is room
pub keeps_more : (long : Bool) (kept raw : List ℕ) (b : ℕ) → KeepsBy long kept raw → KeepsBy long (kept ++ b ∷ []) (raw ++ b ∷ [])
keeps_more true kept raw b h = omega (arith, h, length-append raw (b ∷ []))
keeps_more false kept raw b h = ap (λ (bs : List ℕ). bs ++ b ∷ []) h

-- .. and where there is none
pub keeps_no_more : (long : Bool) (kept raw : List ℕ) (b : ℕ) → line_room ≤ length kept → KeepsBy long kept raw → line_room < length (raw ++ b ∷ [])
keeps_no_more true kept raw b full h = omega (arith, h, length-append raw (b ∷ []))
keeps_no_more false kept raw b full h = omega (arith, full, ap length h, length-append raw (b ∷ []))

-- A line that wasn't kept is over the limit.
pub long_text : (long : Bool) (kept raw text : List ℕ) → long ≡ true → KeepsBy long kept raw → lines_of raw ≡ text ∷ [] → line_limit < length text
long_text true kept raw text is h one = let most = one_line_long raw text one in omega (arith, h, most)
long_text false kept raw text is h one = absurd cc

-- The text of a line that was kept.
pub kept_text : (long : Bool) (kept raw text line : List ℕ) (rest : List (List ℕ)) → long ≡ false → KeepsBy long kept raw → lines_of raw ≡ text ∷ [] → lines_of kept ≡ line ∷ rest
    → line ≡ text
kept_text true kept raw text line rest is h one cut = absurd cc
kept_text false kept raw text line rest is h one cut = ap first_of (sym cut ∙ ap lines_of h ∙ one)

pub kept_no_text : (long : Bool) (kept raw text : List ℕ) → long ≡ false → KeepsBy long kept raw → lines_of raw ≡ text ∷ [] → lines_of kept ≡ [] → ⊥
kept_no_text true kept raw text is h one none = absurd cc
kept_no_text false kept raw text is h one none = omega (arith, ap length (sym none ∙ ap lines_of h ∙ one))
