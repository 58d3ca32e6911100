-- What holds at each step of the reading.
use Rattle.std.specs.Prelude.{◌≡◌, ℕ, ◌<◌, List, [], ◌∷◌, ◌++◌, true, ⊤}
use Rattle.fz_lexer.specs.declared.token.Token.{Token}
use Rattle.fz_parser.specs.declared.grammar.Item.{Item}
use Rattle.fz_parser.specs.declared.grammar.Item.TheVariants.{Take, Read, Make}
use Rattle.fz_parser.specs.declared.grammar.Phrase.{Phrase}
use Rattle.fz_parser.specs.declared.grammar.Top.{Top}
use Rattle.fz_parser.specs.declared.grammar.Top.TheVariants.{Empty, Wants, DeadEnd}
use Rattle.fz_parser.specs.Parts.{StackPart, State, sort_of}
use Rattle.fz_parser.specs.Grammar.{empty}
use Rattle.fz_parser.specs.Classes.{class}
use Rattle.fz_parser.specs.Reads.{Reads}
use Rattle.fz_parser.specs.Tests.{follows, starts, phrase_takes, phrase_gives, fine, sorts_after}

abbrev pub sorts_of : List StackPart → List ℕ
sorts_of [] = []
sorts_of (p ∷ ps) = sort_of p.what ∷ sorts_of ps

abbrev pub sorts : State → List ℕ
sorts s = sorts_of s.parts

-- what may come after the phrase a is among what may follow it
abbrev pub Follows : Phrase → List Item → Type 0
Follows a σ = (c : ℕ) → c < 64 → starts σ c ≡ true → follows a c ≡ true

abbrev pub Good : List Item → Type 0
Good [] = ⊤
Good (Take k ∷ σ) = Good σ
Good (Make a ∷ σ) = Good σ
Good (Read a ∷ σ) = Follows a σ × Good σ

-- the class of the first token, 0 at the end
abbrev pub front : List Token → ℕ
front [] = 0
front (t ∷ w) = class t

-- the items find their parts, and leave one, of the sort that the goal gives
pub record Level (goal : Phrase) (σ : List Item) (h : List ℕ) : Type 0 where
  pub enough : fine σ h ≡ true
  pub one : sorts_after σ h ≡ phrase_gives goal ∷ []

abbrev pub START : Phrase → List Item
START goal = Read goal ∷ []

-- the goal may be read by itself: it takes no part, and the end may follow it
pub record IsGoal (goal : Phrase) : Type 0 where
  pub takes : phrase_takes goal ≡ []
  pub ends : follows goal 0 ≡ true

-- the items are in order
pub record Sound (goal : Phrase) (σ : List Item) (s : State) : Type 0 where
  pub good : Good σ
  pub level : Level goal σ (sorts s)

-- what was read and then v is the goal exactly where the items stand for v, for each v that begins like the rest
pub record At (goal : Phrase) (read rest : List Token) (σ : List Item) (s : State) : Type 0 where
  pub down : (v : List Token) (r : State) → front v ≡ front rest → Reads (START goal) (read ++ v) empty r → Reads σ v s r
  pub up : (v : List Token) (r : State) → front v ≡ front rest → Reads σ v s r → Reads (START goal) (read ++ v) empty r
  pub viable : (v : List Token) × (r : State) × Reads (START goal) (read ++ v) empty r

-- nothing that begins like the rest goes on to the goal
pub record IsDeadEnd (goal : Phrase) (read rest : List Token) : Type 0 where
  pub viable : (v : List Token) × (r : State) × Reads (START goal) (read ++ v) empty r
  pub never : (v : List Token) (r : State) → front v ≡ front rest → Reads (START goal) (read ++ v) empty r → ⊥

abbrev pub ComesTo : Phrase → Top → List Token → List Token → List Item → State → Type 0
ComesTo goal Empty read rest σ s = At goal read rest [] s
ComesTo goal (Wants k) read rest σ s = At goal read rest (Take k ∷ σ) s
ComesTo goal DeadEnd read rest σ s = IsDeadEnd goal read rest

-- the items are in order where a token is wanted
abbrev pub AreInOrder : Phrase → Top → List Item → State → Type 0
AreInOrder goal Empty σ s = Sound goal [] s
AreInOrder goal (Wants k) σ s = Sound goal (Take k ∷ σ) s
AreInOrder goal DeadEnd σ s = ⊤
