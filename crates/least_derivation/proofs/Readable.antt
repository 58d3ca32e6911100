-- The lines of a least derivation can be read back.
use Rattle.std.proofs.Common.{◌≡◌, List, [], ◌∷◌}
use Rattle.std.specs.Prelude.{Some}
use Rattle.std.specs.List.{AllByRecursion}
use Rattle.fz_ast.specs.Limits.{TermLimits}
use Rattle.fz_ast.specs.Terms.{Term}
use Rattle.term_meanings.specs.Scopes.{AllTypes, Context}
use Rattle.fz_derive.specs.Least.{Derived, least, lines_of}
use Rattle.derivation_lines.specs.Lines.{Line, Said}
use Rattle.derivation_lines.specs.Readable.{IsReadable, IsSayable, IsWord}
use Rattle.fz_derive.specs.Names.{EveryName}
use Rattle.fz_derive.proofs.LeastLines.{AllNamed, IsKept, IsLeastLine, least_lines}
use Rattle.least_derivation.proofs.Limited.{Fits, IsLimited, least_limited}
use Rattle.least_derivation.proofs.Low.{low_bang}

sayable : (ss : List Said) → AllByRecursion (IsKept IsWord) ss → AllByRecursion Fits ss → AllByRecursion IsSayable ss
sayable [] h k = tt
sayable (s ∷ ss) h k = (record { name = h.0.name; amount = low_bang s.amount h.0.low h.0.above k.0 }, sayable ss h.1 k.1)

readable : (lines : List Line) → AllByRecursion (IsLeastLine IsWord) lines → AllByRecursion IsLimited lines → AllByRecursion IsReadable lines
readable [] h k = tt
readable (l ∷ lines) h k = (record { limits = k.0.limits; each = sayable l.says h.0.each k.0.each; order = h.0.order }, readable lines h.1 k.1)

pub least_readable : (Γ : Context) (e : Term) (d : Derived) → AllTypes Γ → TermLimits e → AllNamed IsWord Γ → EveryName IsWord e → least Γ e ≡ Some d → AllByRecursion IsReadable (lines_of d)
least_readable Γ e d g t n w h = readable (lines_of d) (least_lines IsWord Γ e d n w h) (least_limited Γ e d g t h)
