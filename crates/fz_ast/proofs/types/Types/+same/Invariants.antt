-- What decreases in types::Types::same.
use Rattle.fz_ast.proofs.types.Types.+same.Given as goal

abbrev pub decreases-same : goal.decreases-same
decreases-same l = l.i
