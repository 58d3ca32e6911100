-- A script is cut into lines, and a line into words.
use Rattle.std.specs.Prelude.{ℕ, ◌==◌, if◌then◌else◌, List, [], ◌∷◌, map}
use Rattle.std.specs.List.{onto_first, slice_split, join_with_byte}

-- LF ends a line, and one CR may stand before it
abbrev pub lf : ℕ
lf = 10

abbrev pub cr : ℕ
cr = 13

-- without one CR at the end
abbrev pub without_cr : List ℕ → List ℕ
without_cr [] = []
without_cr (b ∷ []) = if b == cr then [] else b ∷ []
without_cr (b ∷ c ∷ bytes) = b ∷ without_cr (c ∷ bytes)

abbrev pub space : ℕ
space = 32

-- what stands before each LF, and what stands after the last one where that has a byte
abbrev pub pieces_of : List ℕ → List (List ℕ)
pieces_of [] = []
pieces_of (b ∷ bytes) = if b == lf then [] ∷ pieces_of bytes else onto_first b (pieces_of bytes)

-- The lines of a script. A last line needs no LF, and one that is a lone CR is an empty line.
unfoldable pub lines_of : List ℕ → List (List ℕ)
lines_of script = map without_cr (pieces_of script)

-- The words of a line, parted by one space each: two spaces in a row have an empty word between them,
-- and the empty line has one empty word.
abbrev pub words_of : List ℕ → List (List ℕ)
words_of line = slice_split (λ b. b == space) line

-- words with one space between each two
abbrev pub joined : List (List ℕ) → List ℕ
joined words = join_with_byte space words
