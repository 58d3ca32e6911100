-- What holds of types and sensitivities that are read by themselves.
use Rattle.std.proofs.Common.{◌≡◌, ℕ, List, [], sym, ap}
use Rattle.fz_frac.specs.Distance.{Distance}
use Rattle.fz_ast.specs.Types.{Ty}
use Rattle.fz_ast.specs.Limits.{IsBang, TypeLimits}
use Rattle.fz_lexer.specs.declared.token.Token.{Token}
use Rattle.fz_parser.specs.Parts.{FactorPart, TypePart, in_factor, in_type}
use Rattle.fz_parser.specs.Grammar.{IsTypeOf, IsSensitivityOf}
use Rattle.fz_parser.specs.Reading.{IsStuckType, IsStuckSensitivity}
use Rattle.fz_parser.specs.Printer.{written_factor, written_type, kinds_of, type_kinds, factor_kinds}
use Rattle.fz_parser.proofs.Machine.{one_what, type_goal, sensitivity_goal}
use Rattle.fz_parser.proofs.Laws.{stuck_once}
use Rattle.fz_parser.proofs.Printing.{type_reads_back, sensitivity_reads_back}
use Rattle.fz_parser.proofs.Spans.{moved_type, moved_sensitivity}

pub one_type : (ts : List Token) (T other : Ty) → IsTypeOf ts T → IsTypeOf ts other → other ≡ T
unfolding IsTypeOf
one_type ts T other h k = ap in_type (one_what type_goal ts (TypePart k.0 other) (TypePart h.0 T) k.1 h.1)

pub one_sensitivity : (ts : List Token) (d other : Distance) → IsSensitivityOf ts d → IsSensitivityOf ts other → other ≡ d
unfolding IsSensitivityOf
one_sensitivity ts d other h k = ap in_factor (one_what sensitivity_goal ts (FactorPart other) (FactorPart d) k h)

pub one_type_place : (ts : List Token) (k other : ℕ) → IsStuckType ts k → IsStuckType ts other → other ≡ k
one_type_place = stuck_once Ty IsTypeOf

pub one_sensitivity_place : (ts : List Token) (k other : ℕ) → IsStuckSensitivity ts k → IsStuckSensitivity ts other → other ≡ k
one_sensitivity_place = stuck_once Distance IsSensitivityOf

pub written_types_read_back : (ts : List Token) (T : Ty) → TypeLimits T → kinds_of ts ≡ type_kinds T → IsTypeOf ts T
written_types_read_back ts T h e = moved_type (written_type T []) ts T (sym e) (type_reads_back T h)

pub written_sensitivities_read_back : (ts : List Token) (d : Distance) → IsBang d → kinds_of ts ≡ factor_kinds d → IsSensitivityOf ts d
written_sensitivities_read_back ts d h e = moved_sensitivity (written_factor d []) ts d (sym e) (sensitivity_reads_back d h)
