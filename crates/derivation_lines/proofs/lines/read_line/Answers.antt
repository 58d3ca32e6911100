use Rattle.derivation_lines.proofs.Pieces.{passed, explained, no_line_type}
use Rattle.derivation_lines.proofs.lines.read_line.Goals as goal

pub returns-in_err-ty-clause-fault : goal.returns-in_err-ty-clause-fault
returns-in_err-ty-clause-fault c =
    passed _ c.from_residual.result _ c.from_residual.ensures.1 (λ form. no_line_type _ _ _ c.split_piece.ensures.pieces (explained _ _ c.in_err-ty.ensures.fault form))
