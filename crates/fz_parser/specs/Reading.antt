-- What reading answers.
use Rattle.std.specs.Prelude.{◌≡◌, ℕ, ◌+◌, ◌<◌, ◌≤◌, List, ◌++◌, length, take, ◌⊎◌, ⊤}
use Rattle.fz_frac.specs.Distance.{Distance}
use Rattle.fz_ast.specs.Types.{Ty}
use Rattle.fz_ast.specs.Terms.{Term}
use Rattle.fz_ast.specs.Depth.{depth}
use Rattle.fz_lexer.specs.declared.token.Token.{Token}
use Rattle.fz_parser.specs.declared.fault.ParseFault.{ParseFault}
use Rattle.fz_parser.specs.declared.fault.ParseFault.TheVariants.{Stuck, TooNested, NoMemory}
use Rattle.fz_parser.specs.Grammar.{IsTerm, IsTypeOf, IsSensitivityOf}

-- a term's tree, types included, is at most so deep
abbrev pub deepest : ℕ
deepest = 64

-- the tokens are this term, which is within the limit on nesting
pub record IsParsed (ts : List Token) (e : Term) : Type 0 where
  pub term : IsTerm ts e
  pub nesting : depth e ≤ deepest

-- something begins with these tokens
abbrev pub Begins : (A : Type 0) → (List Token → A → Type 0) → List Token → Type 0
Begins A Is ts = (more : List Token) × (x : A) × Is (ts ++ more) x

-- the tokens are none; one begins with those before k, and none with token k too
pub record IsStuckAs (A : Type 0) (Is : List Token → A → Type 0) (ts : List Token) (k : ℕ) : Type 0 where
  pub within : k ≤ length ts
  pub before : Begins A Is (take k ts)
  pub not_with : k < length ts → Begins A Is (take (k + 1) ts) → ⊥
  pub none : (x : A) → Is ts x → ⊥

-- what a fault says where nesting has no limit
abbrev pub ExplainsAs : (A : Type 0) → (List Token → A → Type 0) → List Token → ParseFault → Type 0
ExplainsAs A Is ts (Stuck k) = IsStuckAs A Is ts k
ExplainsAs A Is ts (TooNested d) = ⊥
ExplainsAs A Is ts NoMemory = ⊤

-- of terms, whose nesting has one
abbrev pub IsStuck : List Token → ℕ → Type 0
IsStuck ts k = IsStuckAs Term IsTerm ts k

abbrev pub ExplainsParse : List Token → ParseFault → Type 0
ExplainsParse ts (Stuck k) = IsStuck ts k
ExplainsParse ts (TooNested d) = (deepest < d) × (e : Term) × IsTerm ts e × (depth e ≡ d)
ExplainsParse ts NoMemory = ⊤

-- the tokens are a term within the limit, or have a fault other than want of memory
abbrev pub IsParsedOrFaulty : List Token → Type 0
IsParsedOrFaulty ts = ((e : Term) × IsParsed ts e) ⊎ ((fault : ParseFault) × (fault ≡ NoMemory → ⊥) × ExplainsParse ts fault)

-- of types
abbrev pub IsStuckType : List Token → ℕ → Type 0
IsStuckType ts k = IsStuckAs Ty IsTypeOf ts k

abbrev pub ExplainsType : List Token → ParseFault → Type 0
ExplainsType ts fault = ExplainsAs Ty IsTypeOf ts fault

-- the tokens are a type, or are stuck somewhere
abbrev pub IsTypeOrStuck : List Token → Type 0
IsTypeOrStuck ts = ((T : Ty) × IsTypeOf ts T) ⊎ ((k : ℕ) × IsStuckType ts k)

-- of sensitivities
abbrev pub IsStuckSensitivity : List Token → ℕ → Type 0
IsStuckSensitivity ts k = IsStuckAs Distance IsSensitivityOf ts k

abbrev pub ExplainsSensitivity : List Token → ParseFault → Type 0
ExplainsSensitivity ts fault = ExplainsAs Distance IsSensitivityOf ts fault

abbrev pub IsSensitivityOrStuck : List Token → Type 0
IsSensitivityOrStuck ts = ((d : Distance) × IsSensitivityOf ts d) ⊎ ((k : ℕ) × IsStuckSensitivity ts k)
