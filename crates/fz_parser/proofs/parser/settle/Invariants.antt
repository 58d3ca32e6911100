use Rattle.std.proofs.Common.{◌≡◌, reverse, List}
use Rattle.fz_lexer.specs.declared.token.Token.{Token}
use Rattle.fz_parser.specs.declared.grammar.Phrase.{Phrase}
use Rattle.fz_parser.specs.Tests.{lead}
use Rattle.fz_parser.specs.Steps.{front, Sound, At}
use Rattle.fz_parser.specs.Kept.{state_of, IsInOrder}
use Rattle.fz_parser.proofs.parser.settle.Given as goal

abbrev pub invariant-loop-item : goal.invariant-loop-item
invariant-loop-item l = record {
  kept : IsInOrder l.reader;
  sound : (goal : Phrase) → Sound goal (reverse l.initial.stack.items) (state_of l.initial.reader) → Sound goal (reverse l.stack.items) (state_of l.reader);
  at : (goal : Phrase) (read rest : List Token) → front rest ≡ l.class → Sound goal (reverse l.initial.stack.items) (state_of l.initial.reader) →
      At goal read rest (reverse l.initial.stack.items) (state_of l.initial.reader) → At goal read rest (reverse l.stack.items) (state_of l.reader);
}

abbrev pub decreases-loop-item : goal.decreases-loop-item
decreases-loop-item l = lead (reverse l.stack.items)
