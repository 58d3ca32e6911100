-- Texts of releases at worked examples, from the written rules.
use Rattle.std.proofs.Common.{◌≡◌, ℕ, pos, negsuc, true, false, List, [], ◌∷◌, codes, refl, arith, ◌^◌}
use Rattle.std.specs.Fmt.{digits}
use Rattle.std.specs.Prelude.{ℤ}
use Rattle.fz_ast.specs.Bare.{nowhere}
use Rattle.fz_ast.specs.Terms.{at, VarE}
use Rattle.fz_ast.specs.Types.{NumT}
use Rattle.fz_lexer.specs.declared.token.Kind.TheVariants.{Name, Number, Reserved, Punctuation}
use Rattle.fz_lexer.specs.declared.token.Sign.TheVariants.{Is, Minus}
use Rattle.fz_lexer.specs.declared.token.Token.{Token}
use Rattle.fz_lexer.specs.declared.token.Word.TheVariants.{At, Do, In, Let, Release, Size}
use Rattle.fz_lexer.specs.Bytes.{is_digit}
use Rattle.fz_parser.specs.Parts.{TermPart, TypePart}
use Rattle.release_texts.specs.Bared.{bare_part, bare_tokens, bare_what}
use Rattle.release_texts.specs.Fronts.{AreDigitsOf, Spells, below, plain}
use Rattle.release_texts.specs.Releases.{let_in}
use Rattle.release_texts.specs.Slices.{Stands}
use Rattle.release_texts.specs.Texts.{Earlier, least_answers, lets, names_of, release_text, widest_text}
use Rattle.release_texts.specs.Words.{AreOthers}

abbrev earlier : List ℕ → ℤ → Earlier
earlier x v = record { name = x; answer = v }

-- Bytes.
-- the first release has nothing in front, and its blanks stay
first : release_text [] (codes " size people ") ≡ codes " size people "
first = refl

second : release_text (earlier (codes "x") (pos 5) ∷ []) (codes " size people ") ≡ codes "let x = 5 in  size people "
unfolding digits
second = refl

third : release_text (earlier (codes "x") (pos 5) ∷ earlier (codes "y") (negsuc 2) ∷ []) (codes " x + y ") ≡ codes "let x = 5 in let y = -3 in  x + y "
unfolding digits
third = refl

nothing_counted : release_text (earlier (codes "x") (pos 0) ∷ []) (codes " x ") ≡ codes "let x = 0 in  x "
unfolding digits
nothing_counted = refl

-- an answer at the limits of numbers, and beyond them
greatest : release_text (earlier (codes "x") (pos 1125899906842624) ∷ []) (codes " x ") ≡ codes "let x = 1125899906842624 in  x "
unfolding digits
greatest = refl

over_greatest : release_text (earlier (codes "x") (pos 1125899906842625) ∷ []) (codes " x ") ≡ codes "let x = 1125899906842624 in  x "
unfolding digits
over_greatest = refl

least : release_text (earlier (codes "x") (negsuc 1125899906842623) ∷ []) (codes " x ") ≡ codes "let x = -1125899906842624 in  x "
unfolding digits
least = refl

under_least : release_text (earlier (codes "x") (negsuc 1125899906842624) ∷ []) (codes " x ") ≡ codes "let x = -1125899906842624 in  x "
unfolding digits
under_least = refl

-- the text of the last of eight
eighth : release_text (earlier (codes "a") (pos 1) ∷ earlier (codes "b") (pos 2) ∷ earlier (codes "c") (pos 3) ∷ earlier (codes "d") (pos 4) ∷ earlier (codes "e") (pos 5) ∷ earlier (codes "f") (pos 6) ∷ earlier (codes "g") (pos 7) ∷ []) (codes " g")
    ≡ codes "let a = 1 in let b = 2 in let c = 3 in let d = 4 in let e = 5 in let f = 6 in let g = 7 in  g"
unfolding digits
eighth = refl

-- one name twice: the later stands nearer to the release
name_twice : release_text (earlier (codes "x") (pos 1) ∷ earlier (codes "x") (pos 2) ∷ []) (codes " x ") ≡ codes "let x = 1 in let x = 2 in  x "
unfolding digits
name_twice = refl

-- the widest texts
widest_first : widest_text [] (codes " size people ") ≡ codes " size people "
widest_first = refl

widest_third : widest_text (codes "x" ∷ codes "y" ∷ []) (codes " x + y ") ≡ codes "let x = -1125899906842624 in let y = -1125899906842624 in  x + y "
widest_third = refl

names : names_of (earlier (codes "x") (pos 5) ∷ earlier (codes "y") (negsuc 2) ∷ []) ≡ codes "x" ∷ codes "y" ∷ []
names = refl

least_ones : least_answers (earlier (codes "x") (pos 5) ∷ []) ≡ earlier (codes "x") (negsuc 1125899906842623) ∷ []
least_ones = refl

-- Tokens.
abbrev stands_at : ℕ → ℕ → Token → Token
stands_at from to t = record { kind = t.kind; span = record { from = from; to = to } }

abbrev name : List ℕ → Token
name x = record { kind = Name x; span = nowhere }

abbrev number : ℕ → Token
number n = record { kind = Number n; span = nowhere }

abbrev reserved_let : Token
reserved_let = record { kind = Reserved Let; span = nowhere }

abbrev reserved_in : Token
reserved_in = record { kind = Reserved In; span = nowhere }

abbrev is : Token
is = record { kind = Punctuation Is; span = nowhere }

abbrev minus : Token
minus = record { kind = Punctuation Minus; span = nowhere }

let_five : let_in (codes "x") (pos 5) (name (codes "x") ∷ []) ≡ reserved_let ∷ name (codes "x") ∷ is ∷ number 5 ∷ reserved_in ∷ name (codes "x") ∷ []
let_five = refl

let_minus_three : let_in (codes "x") (negsuc 2) [] ≡ reserved_let ∷ name (codes "x") ∷ is ∷ minus ∷ number 3 ∷ reserved_in ∷ []
let_minus_three = refl

two_lets : lets (earlier (codes "x") (pos 1125899906842625) ∷ earlier (codes "y") (negsuc 2) ∷ []) [] ≡ let_in (codes "x") (pos 1125899906842624) (let_in (codes "y") (negsuc 2) [])
two_lets = refl

where_it_stood : bare_tokens (stands_at 3 8 (name (codes "x")) ∷ stands_at 9 11 reserved_in ∷ []) ≡ name (codes "x") ∷ reserved_in ∷ []
where_it_stood = refl

bare_type : bare_what (TypePart (record { from = 1; to = 4 }) NumT) ≡ TypePart nowhere NumT
bare_type = refl

bare_term : bare_part (record { from = 7; what = TermPart (at (record { from = 7; to = 8 }) (VarE (codes "x"))) }) ≡ record { from = 0; what = TermPart (at nowhere (VarE (codes "x"))) }
bare_term = refl

-- the words of a block, alone and among others
word_do : AreOthers (record { kind = Reserved Do; span = nowhere } ∷ []) ≡ false
word_do = refl

word_release : AreOthers (name (codes "x") ∷ record { kind = Reserved Release; span = nowhere } ∷ []) ≡ false
word_release = refl

word_at : AreOthers (name (codes "x") ∷ record { kind = Reserved At; span = nowhere } ∷ number 1 ∷ []) ≡ false
word_at = refl

other_words : AreOthers (reserved_let ∷ name (codes "at_") ∷ is ∷ number 1 ∷ reserved_in ∷ record { kind = Reserved Size; span = nowhere } ∷ []) ≡ true
other_words = refl

-- Numbers: a zero in front is read, too, and 2^50 is the greatest.
five : Spells (pos 5) (codes "005")
unfolding is_digit
five = plain (record { some = refl; every = refl; value = refl; small = omega arith })

minus_three : Spells (negsuc 2) (codes "-3")
unfolding is_digit
minus_three = below (record { some = refl; every = refl; value = refl; small = omega arith })

greatest_spelled : AreDigitsOf (codes "1125899906842624") (2 ^ 50)
unfolding is_digit
greatest_spelled = record { some = refl; every = refl; value = refl; small = omega arith }

too_great : AreDigitsOf (codes "1125899906842625") 1125899906842625 → ⊥
too_great h = let s = h.small in omega (arith, s)

-- `size people` of `release size people at 1`, with the blanks on both sides
slice : Stands (codes "release size people at 1") 7 20 (codes " size people ")
slice = record { front = codes "release"; back = codes "at 1"; whole = refl; begins = refl; ends = refl }
