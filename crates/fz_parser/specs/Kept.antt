-- What the code's entries stand for.
use Rattle.std.specs.Prelude.{◌≡◌, ℕ, ◌^◌, ◌<◌, ◌≤◌, List, [], ◌∷◌, reverse, Option, Some, None, ⊤}
use Rattle.fz_frac.specs.Sens.{distance_of}
use Rattle.fz_ast.specs.Parts.{Parts}
use Rattle.fz_ast.specs.Names.{name_of, text_of}
use Rattle.fz_ast.specs.TypeNodes.{type_at}
use Rattle.fz_ast.specs.TermNodes.{term_at}
use Rattle.fz_ast.specs.Limits.{IsNumber, IsBang, greatest_number}
use Rattle.std.specs.Prelude.{length}
use Rattle.fz_lexer.specs.declared.token.Token.{Token}
use Rattle.fz_parser.specs.declared.grammar.Terminal.{Terminal}
use Rattle.fz_parser.specs.declared.reader.Held.{Held}
use Rattle.fz_parser.specs.declared.reader.Held.TheVariants.{Begun, Name, Number, Positive, Text, Integer, Factor, Written, Term as HeldTerm}
use Rattle.fz_parser.specs.declared.reader.Entry.{Entry}
use Rattle.fz_parser.specs.declared.reader.Reader.{Reader}
use Rattle.fz_parser.specs.declared.grammar.Phrase.{Phrase}
use Rattle.fz_parser.specs.Grammar.{alone, IsPhrase}
use Rattle.fz_parser.specs.Parts.{StackPart, What, BegunPart, NamePart, NumberPart, PositivePart, TextPart, IntegerPart}
use Rattle.fz_parser.specs.Parts.{FactorPart, TypePart, TermPart, State, part, sort_of, token_parts}
use Rattle.fz_parser.specs.Tests.{phrase_gives}

abbrev pub what_of : Parts → Held → What
what_of N Begun = BegunPart
what_of N (Name x) = NamePart (name_of x)
what_of N (Number n) = NumberPart n
what_of N (Positive n) = PositivePart n
what_of N (Text t) = TextPart (text_of t)
what_of N (Integer z) = IntegerPart z
what_of N (Factor r) = FactorPart (distance_of r)
what_of N (Written u i) = TypePart u (type_at N.types i)
what_of N (HeldTerm i) = TermPart (term_at N.terms i)

abbrev pub parts_in : Parts → List Entry → List StackPart
parts_in N [] = []
parts_in N (x ∷ xs) = record { from = x.from; what = what_of N x.held } ∷ parts_in N xs

unfoldable pub state_of : Reader → State
state_of r = record { last = r.last; parts = parts_in r.nodes (reverse r.entries.items) }

-- it is within the limits, and its node is there
abbrev pub IsHeld : Parts → Held → Type 0
IsHeld N Begun = ⊤
IsHeld N (Name x) = ⊤
IsHeld N (Number n) = n ≤ greatest_number
IsHeld N (Positive n) = (0 < n) × (n < 2 ^ 32)
IsHeld N (Text t) = ⊤
IsHeld N (Integer z) = IsNumber z
IsHeld N (Factor r) = IsBang (distance_of r)
IsHeld N (Written u i) = i < length N.types
IsHeld N (HeldTerm i) = i < length N.terms

abbrev pub AllHeld : Parts → List Entry → Type 0
AllHeld N [] = ⊤
AllHeld N (x ∷ xs) = IsHeld N x.held × AllHeld N xs

-- the entries are in order
pub record IsInOrder (r : Reader) : Type 0 where
  pub held : AllHeld r.nodes (reverse r.entries.items)

-- what is kept of a token
abbrev pub IsValue : Terminal → Token → Option Held → Type 0
IsValue k t None = token_parts k t ≡ []
IsValue k t (Some h) = (N : Parts) → IsHeld N h × (token_parts k t ≡ (record { from = t.span.from; what = what_of N h }) ∷ [])

-- the sort of part i, 0 being the last one
abbrev pub sort_at : ℕ → State → ℕ
sort_at i s = sort_of (part i s).what

-- nodes were added, and what they hold is this; the parts are as before
pub record Makes (old new : Reader) (held : Held) (what : What) : Type 0 where
  pub kept : IsInOrder new
  pub entries : new.entries.items ≡ old.entries.items
  pub state : state_of new ≡ state_of old
  pub known : IsHeld new.nodes held
  pub is : what_of new.nodes held ≡ what

-- the tokens are the goal, which is the one part that was read
abbrev pub IsReadAs : Phrase → List Token → Reader → Type 0
IsReadAs goal ts r = (from : ℕ) × (x : What) × (state_of r ≡ alone r.last from x) × IsInOrder r × IsPhrase goal ts x × (sort_of x ≡ phrase_gives goal)
