use Rattle.std.proofs.Common.{◌≡◌, ℕ, ◌<◌, ◌++◌, List, get_or}
use Rattle.fz_lexer.specs.declared.token.Sign.TheVariants.{LeftParenthesis}
use Rattle.fz_lexer.specs.declared.sign.TheConstants.{SIGNS}
use Rattle.fz_lexer.specs.Signs.{SpellsSign}
use Rattle.fz_lexer.proofs.sign.sign_at.Given as goal

abbrev pub invariant-loop-i : goal.invariant-loop-i
invariant-loop-i l = (k : ℕ) → k < l.i → (text after : List ℕ) → l.bytes ≡ text ++ after → SpellsSign (get_or SIGNS k LeftParenthesis) text after → ⊥
