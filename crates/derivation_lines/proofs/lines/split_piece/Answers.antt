use Rattle.std.proofs.Common.{◌∷◌, ap, arith, length, length-append}
use Rattle.derivation_lines.specs.Texts.{bar}
use Rattle.derivation_lines.proofs.Pieces.{pieces_cut, pieces_one}
use Rattle.derivation_lines.proofs.lines.split_piece.Goals as goal

pub returns-in-Some-clause-pieces : goal.returns-in-Some-clause-pieces
returns-in-Some-clause-pieces c = pieces_cut c.args.text.now c.in-Some.piece.now c.in-Some.rest.now c.in-Some.ensures.first c.in-Some.ensures.cut

pub returns-in-Some-clause-piece : goal.returns-in-Some-clause-piece
returns-in-Some-clause-piece c = let e = ap length c.in-Some.ensures.cut in let l = length-append c.in-Some.piece.now (bar ∷ c.in-Some.rest.now) in omega (arith, e, l)

pub returns-in-Some-clause-rest : goal.returns-in-Some-clause-rest
returns-in-Some-clause-rest c = let e = ap length c.in-Some.ensures.cut in let l = length-append c.in-Some.piece.now (bar ∷ c.in-Some.rest.now) in omega (arith, e, l)

pub returns-in-None-clause-pieces : goal.returns-in-None-clause-pieces
returns-in-None-clause-pieces c = pieces_one c.args.text.now c.in-None.ensures.none

pub returns-in-None-clause-piece : goal.returns-in-None-clause-piece
returns-in-None-clause-piece c = omega arith

pub returns-in-None-clause-rest : goal.returns-in-None-clause-rest
returns-in-None-clause-rest c = tt
