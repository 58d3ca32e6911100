-- Bytes and what they are judged to be, at worked examples.
use Rattle.std.proofs.Common.{ap, arith, inl, inr, refl, subst, sym, ◌∙◌}
use Rattle.std.proofs.lemmas.List.{append_assoc}
use Rattle.std.specs.Cmp.Lexicographic.{slice_cmp}
use Rattle.std.specs.Fmt.{digits}
use Rattle.std.specs.List.{AllByRecursion, slice_split}
use Rattle.std.specs.List.Sorted.{IsStrictlySortedBy}
use Rattle.std.specs.Prelude.{List, [], ◌∷◌, ◌++◌, ◌==◌, ◌≡◌, ℕ, None, Some, bytes_eq, codes, false, true}
use Rattle.fz_frac.specs.Distance.{Distance, Fin, one}
use Rattle.fz_frac.specs.Lowest.{gcd, gcd_in, is_out}
use Rattle.fz_ast.specs.Limits.{IsBang}
use Rattle.fz_ast.specs.Types.{BagT, NumT, Ty}
use Rattle.fz_lexer.specs.Bytes.{is_digit, is_letter, is_name_byte}
use Rattle.fz_lexer.specs.Words.{spelling}
use Rattle.fz_lexer.specs.declared.token.Word.{Word}
use Rattle.fz_lexer.specs.declared.token.Word.TheVariants.{Fun, Fn, Let, In, Case, Of, Inl, Inr, If, Then, Else, Fst, Snd, True, False, Num, Text}
use Rattle.fz_lexer.specs.declared.token.Word.TheVariants.{Unit as UnitWord, Bool as BoolWord, Bag, Inf, Size, Sum, Clip, Least, Greatest, Map, Filter, Split, Union, Do, Release, At}
use Rattle.fz_parser.proofs.Limits.{sensitivity_limits}
use Rattle.fz_derive.proofs.ExampleLines.{line, line_two, quiet, says, x, y}
use Rattle.fz_derive.proofs.ExamplesOfPrograms.{bag_line, one_table, orders, people, size_of_people}
use Rattle.derivation_lines.proofs.ReadBack.{read_back}
use Rattle.fz_derive.specs.Judged.{IsJudged, IsMisjudged, IsWrongAt, fault_of}
use Rattle.derivation_lines.specs.Lines.{Line, line_at}
use Rattle.derivation_lines.specs.Readable.{IsReadable, IsSayable, IsWord}
use Rattle.derivation_lines.specs.Texts.{AreLines, BeginWith, IsFaultyLine, IsLineText, IsSaidText, NoLine, bar, line_feed}
use Rattle.derivation_lines.specs.Written.{derivation_text}

-- the name of a table is a word of its own

differs : (word : Word) → bytes_eq (codes "people") (spelling word) ≡ false
unfolding spelling
differs Fun = refl
differs Fn = refl
differs Let = refl
differs In = refl
differs Case = refl
differs Of = refl
differs Inl = refl
differs Inr = refl
differs If = refl
differs Then = refl
differs Else = refl
differs Fst = refl
differs Snd = refl
differs True = refl
differs False = refl
differs Num = refl
differs Text = refl
differs UnitWord = refl
differs BoolWord = refl
differs Bag = refl
differs Inf = refl
differs Size = refl
differs Sum = refl
differs Clip = refl
differs Least = refl
differs Greatest = refl
differs Map = refl
differs Filter = refl
differs Split = refl
differs Union = refl
differs Do = refl
differs Release = refl
differs At = refl

no_reserved_word : (word : Word) → codes "people" ≡ spelling word → ⊥
no_reserved_word word same =
    let e : bytes_eq (codes "people") (codes "people") ≡ false = subst (λ w. bytes_eq (codes "people") w ≡ false) (sym same) (differs word) in
    cc

people_word : IsWord people
unfolding is_letter is_digit is_name_byte
people_word = record { first = refl; every = refl; ends = refl; short = omega arith; is = inr (no_reserved_word, refl) }

at_people : (A : Ty) (k : ℕ) → IsBang (Fin k 1) → AllByRecursion IsSayable (line A people (Fin k 1)).says
at_people A k b = (record { name = people_word; amount = b }, tt)

of_people : (k : ℕ) → IsBang (Fin k 1) → IsReadable (line NumT people (Fin k 1))
unfolding IsStrictlySortedBy
of_people k b = record { limits = tt; each = at_people NumT k b; order = (tt, tt) }

one_bang : IsBang (Fin 1 1)
unfolding gcd gcd_in
one_bang = (omega arith, omega arith, omega arith, omega arith, refl)

two_bang : IsBang (Fin 2 1)
unfolding gcd gcd_in
two_bang = (omega arith, omega arith, omega arith, omega arith, refl)

bag_readable : IsReadable bag_line
unfolding IsStrictlySortedBy
bag_readable = record { limits = tt; each = at_people (BagT NumT) 1 one_bang; order = (tt, tt) }

num_readable : IsReadable (quiet NumT)
unfolding IsStrictlySortedBy
num_readable = record { limits = tt; each = tt; order = tt }

reads : (lines : List Line) → AllByRecursion IsReadable lines → AreLines (derivation_text lines) lines
reads = read_back

abbrev num_line : Line
num_line = line NumT people one

two_lines : AreLines (codes "num | people 1\nbag num | people 1\n") (num_line ∷ bag_line ∷ [])
unfolding digits
two_lines = reads (num_line ∷ bag_line ∷ []) (of_people 1 one_bang, (bag_readable, tt))

-- the whole derivation, and one that says more at first
judged : IsJudged one_table size_of_people (codes "num | people 1\nbag num | people 1\n") (Fin 1 1)
unfolding line_at
judged = record { lines = num_line ∷ bag_line ∷ []; are = two_lines; all = refl; right = refl; greatest = refl }

judged_with_more : IsJudged one_table size_of_people (codes "num | people 2\nbag num | people 1\n") (Fin 2 1)
unfolding digits line_at
judged_with_more =
    let L : List Line = line NumT people (Fin 2 1) ∷ bag_line ∷ [] in
    record { lines = L; are = reads L (of_people 2 two_bang, (bag_readable, tt)); all = refl; right = refl; greatest = refl }

-- a first line that says nothing
wrong_first : IsMisjudged one_table size_of_people (codes "num\nbag num | people 1\n") 0
unfolding digits line_at
wrong_first = let L : List Line = quiet NumT ∷ bag_line ∷ [] in inr (record { lines = L; are = reads L (num_readable, (bag_readable, tt)); all = refl; wrong = refl })

-- bytes in which no line is ended

no_end : (w v : List ℕ) → [] ≡ w ++ line_feed ∷ v → ⊥
no_end [] v h = cc
no_end (b ∷ w) v h = cc

no_line_in_none : NoLine []
no_line_in_none text more l h k p = no_end text more h

-- no bytes at all: line 0 is missing
empty : IsMisjudged one_table size_of_people [] 0
empty = inl ([], [], refl, refl, inl (omega arith, no_line_in_none))

-- the second line is gone: line 1 is missing
second_gone : IsMisjudged one_table size_of_people (codes "num | people 1\n") 1
unfolding digits
second_gone =
    let r = reads (num_line ∷ []) (of_people 1 one_bang, tt) in inl (num_line ∷ [], [], r, refl, inl (omega arith, no_line_in_none))

with_rest : (lines : List Line) (bytes rest more : List ℕ) → BeginWith bytes lines rest → BeginWith (bytes ++ more) lines (rest ++ more)
with_rest [] bytes rest more h = ap (λ w. w ++ more) h
with_rest (l ∷ lines) bytes rest more h =
    (h.0, h.1 ++ more, ap (λ w. w ++ more) h.2 ∙ append_assoc h.0 (line_feed ∷ h.1) more, h.3, h.4, with_rest lines h.1 rest more h.5)

-- one line too many, or bytes behind the last LF: line 2 of two is at fault
too_many : (more : List ℕ) → (more ≡ [] → ⊥) → IsMisjudged one_table size_of_people (codes "num | people 1\nbag num | people 1\n" ++ more) 2
too_many more some = inl (num_line ∷ bag_line ∷ [], more, behind, refl, inr (refl, some))
  where
    behind : BeginWith (codes "num | people 1\nbag num | people 1\n" ++ more) (num_line ∷ bag_line ∷ []) more
    behind = with_rest (num_line ∷ bag_line ∷ []) (codes "num | people 1\nbag num | people 1\n") [] more two_lines

-- what a text can't say

twice : (text : List ℕ) (A : Ty) (c d : Distance) → IsLineText text (line_two A x c x d) → ⊥
unfolding IsStrictlySortedBy
twice text A c d h = let k = h.order.0.0 in cc k

out_of_order : (text : List ℕ) (A : Ty) (c d : Distance) → IsLineText text (line_two A y c x d) → ⊥
unfolding IsStrictlySortedBy
out_of_order text A c d h = let k = h.order.0.0 in cc k

of_bang : (text : List ℕ) (v : List ℕ) (d : Distance) → IsSaidText text (says v d) → IsBang d
of_bang text v d h = sensitivity_limits h.1 d h.4

at_none : (text : List ℕ) → IsSaidText text (says x (Fin 0 1)) → ⊥
at_none text h = let b = of_bang text x (Fin 0 1) h in omega (arith, b.0)

too_wide : (text : List ℕ) → IsSaidText text (says x (Fin 4294967296 1)) → ⊥
too_wide text h = let b = of_bang text x (Fin 4294967296 1) h in omega (arith, b.1)

not_lowest : (text : List ℕ) → IsSaidText text (says x (Fin 2 4)) → ⊥
unfolding gcd gcd_in
not_lowest text h = let b = of_bang text x (Fin 2 4) h in let c : 2 ≡ 1 = b.4 in omega (arith, c)

-- the pieces of a text stand between bars
pieces :
    (slice_split (λ b. b == bar) (codes "num | x 1") ≡ codes "num " ∷ codes " x 1" ∷ [])
    × (slice_split (λ b. b == bar) (codes "num") ≡ codes "num" ∷ [])
    × (slice_split (λ b. b == bar) (codes "num|") ≡ codes "num" ∷ [] ∷ [])
    × (slice_split (λ b. b == bar) (codes "| x 1 || y 2") ≡ [] ∷ codes " x 1 " ∷ [] ∷ codes " y 2" ∷ [])
    × (slice_split (λ b. b == bar) [] ≡ [] ∷ [])
pieces = (refl, refl, refl, refl, refl)
