-- What it is for tokens to be a term, a type or a sensitivity: each item of a rule's body stands for a part of the text, and the text is cut.
use Rattle.std.specs.Prelude.{◌≡◌, ℕ, zero, suc, ◌^◌, ◌<◌, ◌≤◌, List, [], ◌∷◌, ◌++◌, get_or, length}
use Rattle.fz_ast.specs.declared.span.Span.{Span}
use Rattle.fz_ast.specs.Limits.{greatest_number}
use Rattle.fz_frac.specs.Distance.{Distance}
use Rattle.fz_ast.specs.Types.{Ty}
use Rattle.fz_ast.specs.Terms.{Term}
use Rattle.fz_lexer.specs.declared.token.Token.{Token}
use Rattle.fz_lexer.specs.declared.token.Kind.{Kind}
use Rattle.fz_lexer.specs.declared.token.Kind.TheVariants.{Name, Number, Text, Reserved, Punctuation}
use Rattle.fz_parser.specs.declared.grammar.Terminal.{Terminal}
use Rattle.fz_parser.specs.declared.grammar.Terminal.TheVariants.{Named, Numeral, Positive, Quoted, Keyword, Symbol}
use Rattle.fz_parser.specs.declared.grammar.Item.{Item}
use Rattle.fz_parser.specs.declared.grammar.Item.TheVariants.{Take, Read, Make}
use Rattle.fz_parser.specs.declared.grammar.Phrase.{Phrase}
use Rattle.fz_parser.specs.declared.grammar.Phrase.TheVariants.{Expression, Sensitivity, AnyType}
use Rattle.fz_parser.specs.Table.{Rule, rules, rule_count}
use Rattle.fz_parser.specs.Parts.{State, What, FactorPart, TypePart, TermPart, shift, build}

-- a token of this kind may stand there; one outside the limits of names, numbers and texts stands nowhere
abbrev pub Fits : Terminal → Kind → Type 0
Fits Named (Name x) = length x ≤ 32
Fits Numeral (Number n) = n ≤ greatest_number
Fits Positive (Number n) = (0 < n) × (n < 2 ^ 32)
Fits Quoted (Text x) = length x ≤ 64
Fits (Keyword w) (Reserved v) = w ≡ v
Fits (Symbol s) (Punctuation t) = s ≡ t
Fits _ _ = ⊥

abbrev no_rule : Rule
no_rule = record { head = Expression; body = [] }

unfoldable pub head : ℕ → Phrase
head p = (get_or rules p no_rule).head

unfoldable pub body : ℕ → List Item
body p = (get_or rules p no_rule).body

-- what an item stands for, given what a list of items stands for one level below: from the state s to the state r
abbrev pub StandsFor : (List Item → List Token → State → State → Type 0) → Item → List Token → State → State → Type 0
StandsFor D (Take k) w s r = (t : Token) × (w ≡ t ∷ []) × Fits k t.kind × (r ≡ shift k t s)
StandsFor D (Make a) w s r = (w ≡ []) × (r ≡ build a s)
StandsFor D (Read a) w s r = (p : ℕ) × (p < rule_count) × (head p ≡ a) × D (body p) w s r

-- the items of a list, one after another
abbrev pub InTurn : (List Item → List Token → State → State → Type 0) → List Item → List Token → State → State → Type 0
InTurn D [] w s r = (w ≡ []) × (r ≡ s)
InTurn D (i ∷ σ) w s r = (u : List Token) × (v : List Token) × (m : State) × (w ≡ u ++ v) × StandsFor D i u s m × InTurn D σ v m r

-- by derivations of height at most n
abbrev pub DerivesIn : ℕ → List Item → List Token → State → State → Type 0
DerivesIn zero σ w s r = ⊥
DerivesIn (suc n) σ w s r = InTurn (DerivesIn n) σ w s r

abbrev pub Derives : List Item → List Token → State → State → Type 0
Derives σ w s r = (n : ℕ) × DerivesIn n σ w s r

-- no token yet, and no part
abbrev pub empty : State
empty = record { last = record { from = 0; to = 0 }; parts = [] }

-- one part, which is all that was read
abbrev pub alone : Span → ℕ → What → State
alone last from x = record { last = last; parts = record { from = from; what = x } ∷ [] }

-- the tokens are the phrase, and make this part
abbrev pub IsPhrase : Phrase → List Token → What → Type 0
IsPhrase goal ts x = (last : Span) × (from : ℕ) × Derives (Read goal ∷ []) ts empty (alone last from x)

-- one part, which is the term
abbrev pub only : Span → ℕ → Term → State
only last from e = alone last from (TermPart e)

-- the tokens are the term
unfoldable pub IsTerm : List Token → Term → Type 0
IsTerm ts e = IsPhrase Expression ts (TermPart e)

-- the tokens are the type, whatever its span is
unfoldable pub IsTypeOf : List Token → Ty → Type 0
IsTypeOf ts T = (span : Span) × IsPhrase AnyType ts (TypePart span T)

-- the tokens are the sensitivity
unfoldable pub IsSensitivityOf : List Token → Distance → Type 0
IsSensitivityOf ts d = IsPhrase Sensitivity ts (FactorPart d)
