use Rattle.std.proofs.Common.{ℕ, ◌∙◌, arith, sym, ap, get_or, inl, inr}
use Rattle.std.proofs.lemmas.Bool.{cases_eq}
use Rattle.fz_lexer.specs.declared.token.Word.TheVariants.{Fun}
use Rattle.fz_lexer.specs.declared.word.TheConstants.{WORDS}
use Rattle.fz_lexer.specs.Words.{spelling}
use Rattle.fz_lexer.proofs.Spellings.{word_at, word_below, word_place}
use Rattle.fz_lexer.proofs.word.reserved.Goals as goal

pub loop-i-preserved : goal.loop-i-preserved
loop-i-preserved c = λ k l e. elim (cases_eq k c.loop-i.i) [
  | inl q ↦ absurd (cc (c.if-is_same.ensures.1 (e ∙ ap (λ (n : ℕ). spelling (get_or WORDS n Fun)) q ∙ sym c.spelling.ensures)))
  | inr d ↦ c.loop-i.invariant k (omega arith) e
]

pub returns-clause-none : goal.returns-clause-none
returns-clause-none c = λ w e. let l = word_below w in c.loop-i.invariant (word_place w) (omega arith) (e ∙ ap spelling (sym (word_at w)))
