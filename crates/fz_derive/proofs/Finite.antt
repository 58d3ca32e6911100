-- The greatest number is finite exactly where each is.
use Rattle.std.proofs.Common.{◌≡◌, refl, sym, ap, ◌∙◌, Bool, true, false, cond, List, [], ◌∷◌}
use Rattle.std.specs.Prelude.{◌&&◌}
use Rattle.fz_frac.specs.Distance.{Distance, Fin, Inf, greater, is_le}
use Rattle.fz_ast.specs.Types.{NumT, same_type}
use Rattle.fz_derive.specs.Judged.{are_finite, greatest_said, is_bounded, is_finite}
use Rattle.derivation_lines.specs.Lines.{Line, Said}

greater_finite : (a b : Distance) → is_finite (greater a b) ≡ is_finite a && is_finite b
greater_finite (Fin p q) (Fin r s) = pick (is_le (Fin p q) (Fin r s))
  where
    pick : (t : Bool) → is_finite (cond t (Fin r s) (Fin p q)) ≡ true
    pick true = refl
    pick false = refl
greater_finite (Fin p q) Inf = refl
greater_finite Inf (Fin r s) = refl
greater_finite Inf Inf = refl

greatest_finite : (ss : List Said) → is_finite (greatest_said ss) ≡ are_finite ss
greatest_finite [] = refl
greatest_finite (s ∷ ss) = greater_finite s.amount (greatest_said ss) ∙ ap (λ b. is_finite s.amount && b) (greatest_finite ss)

-- a number whose greatest is this one is bounded exactly where that is finite
pub bounded_by : (l : Line) (d : Distance) → true ≡ same_type l.ty NumT → d ≡ greatest_said l.says → is_bounded l ≡ is_finite d
bounded_by l d h e = rw (← h, e) (sym (greatest_finite l.says))
