-- What can be written so that it reads back.
use Rattle.std.specs.Prelude.{List, []}
use Rattle.std.specs.List.{AllByRecursion}
use Rattle.fz_ast.specs.Terms.{Name}
use Rattle.fz_ast.specs.Limits.{IsBang, TypeLimits}
use Rattle.fz_lexer.specs.declared.token.Kind.TheVariants.{Name as NameKind}
use Rattle.fz_lexer.specs.Tokens.{IsNameToken}
use Rattle.derivation_lines.specs.Lines.{Said, Line, AreInOrder}
use Rattle.derivation_lines.specs.Texts.{AreLines}
use Rattle.derivation_lines.specs.Written.{derivation_text}

-- a name as the language has it
abbrev pub IsWord : Name → Type 0
IsWord x = IsNameToken x [] (NameKind x)

-- a name of the language, and an amount above 0 that a sensitivity can be
pub record IsSayable (s : Said) : Type 0 where
  pub name : IsWord s.name
  pub amount : IsBang s.amount

-- what a line has that reads back: its type's bang numbers are above 0, and its names stand in byte order
pub record IsReadable (l : Line) : Type 0 where
  pub limits : TypeLimits l.ty
  pub each : AllByRecursion IsSayable l.says
  pub order : AreInOrder l.says

-- what is written is read back
abbrev pub WrittenReadsBack : Type 0
WrittenReadsBack = (lines : List Line) → AllByRecursion IsReadable lines → AreLines (derivation_text lines) lines
