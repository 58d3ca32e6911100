use Rattle.std.proofs.Common.{◌≡◌, ℕ, ◌<◌, get_or}
use Rattle.fz_lexer.specs.declared.token.Word.TheVariants.{Fun}
use Rattle.fz_lexer.specs.declared.word.TheConstants.{WORDS}
use Rattle.fz_lexer.specs.Words.{spelling}
use Rattle.fz_lexer.proofs.word.reserved.Given as goal

abbrev pub invariant-loop-i : goal.invariant-loop-i
invariant-loop-i l = (k : ℕ) → k < l.i → l.text ≡ spelling (get_or WORDS k Fun) → ⊥
