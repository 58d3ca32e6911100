use Rattle.std.proofs.Common.{subst}
use Rattle.typing_rows.specs.Says.{IsFaultOf}
use Rattle.typing_rows.specs.declared.clause.RowFault.{RowFault}
use Rattle.typing_rows.specs.declared.clause.RowFault.TheVariants.{Unbound, Mismatch, NotGround, NotFlat, TooSensitive, Range}
use Rattle.sensitivity_check.proofs.Programs.{fault_found}
use Rattle.sensitivity_check.proofs.checker.with_types.Goals as goal

pub returns-in-Unbound : goal.returns-in-Unbound
returns-in-Unbound c = λ ts v h. (fault_found c.args.arena (Unbound c.in-Unbound.span) v (λ q. cc) (subst (λ (r : RowFault). IsFaultOf c.args.arena r v) c.in-Unbound.is h))

pub returns-in-NotGround : goal.returns-in-NotGround
returns-in-NotGround c = λ ts v h. (fault_found c.args.arena (NotGround c.in-NotGround.span) v (λ q. cc) (subst (λ (r : RowFault). IsFaultOf c.args.arena r v) c.in-NotGround.is h))

pub returns-in-NotFlat : goal.returns-in-NotFlat
returns-in-NotFlat c = λ ts v h. (fault_found c.args.arena (NotFlat c.in-NotFlat.span) v (λ q. cc) (subst (λ (r : RowFault). IsFaultOf c.args.arena r v) c.in-NotFlat.is h))

pub returns-in-Range : goal.returns-in-Range
returns-in-Range c = λ ts v h. (fault_found c.args.arena (Range c.in-Range.span) v (λ q. cc) (subst (λ (r : RowFault). IsFaultOf c.args.arena r v) c.in-Range.is h))

pub returns-in-TooSensitive : goal.returns-in-TooSensitive
returns-in-TooSensitive c = λ ts v h. (fault_found c.args.arena (TooSensitive c.in-TooSensitive.span c.in-TooSensitive.name c.in-TooSensitive.r) v (λ q. cc) (subst (λ (r : RowFault). IsFaultOf c.args.arena r v) c.in-TooSensitive.is h))

pub returns-in-Mismatch : goal.returns-in-Mismatch
returns-in-Mismatch c = λ ts v h. rw c.into_types.ensures (fault_found c.args.arena (Mismatch c.in-Mismatch.span c.in-Mismatch.found c.in-Mismatch.wanted) v (λ q. cc) (subst (λ (r : RowFault). IsFaultOf c.args.arena r v) c.in-Mismatch.is h))
