use Rattle.fz_derive.proofs.Counted.{count}
use Rattle.fz_derive.proofs.Exactly.{has_no_fault, is_derived}
use Rattle.fz_derive.proofs.laws.faultless_is_derivable.Goals as goal

pub returns-clause-exact : goal.returns-clause-exact
returns-clause-exact c = λ ts e lines n. (is_derived ts e lines n, has_no_fault ts e lines)

pub returns-clause-lines : goal.returns-clause-lines
returns-clause-lines c = λ Γ e lines p. (count p).is
