use Rattle.std.proofs.Common.{◌≡◌, ◌+◌, ◌-◌, ◌∷◌, ◌++◌, length, take, drop, ap, arith, sym, ◌∙◌, length-drop}
use Rattle.std.proofs.lemmas.List.{take_all}
use Rattle.derivation_lines.proofs.Pieces.{cut_here, lacks_all, lacks_before, passed_over}
use Rattle.derivation_lines.proofs.lines.cut_at.Goals as goal

pub returns-in_err-at-clause-none : goal.returns-in_err-at-clause-none
returns-in_err-at-clause-none c = passed_over _ c.from_residual.result (lacks_all c.args.byte c.args.bytes.now c.in_err-at.ensures)

pub returns-clause-cut : goal.returns-clause-cut
returns-clause-cut c =
    let bytes = c.args.bytes.now in let at = c.in_ok-at.at in let found = c.in_ok-at.ensures in
    let rest : take (length bytes - (at + 1)) (drop (at + 1) bytes) ≡ drop (at + 1) bytes =
    take_all (length bytes - (at + 1)) (drop (at + 1) bytes) (let l = length-drop (at + 1) bytes in omega (arith, l)) in
    cut_here c.args.byte bytes at found.0.high found.1 ∙ ap (λ w. take at bytes ++ c.args.byte ∷ w) (sym rest)

pub returns-clause-first : goal.returns-clause-first
returns-clause-first c =
    let found = c.in_ok-at.ensures in let h = found.0.high in
    lacks_before c.args.byte c.args.bytes.now c.in_ok-at.at (omega (arith, h)) found.0.before
