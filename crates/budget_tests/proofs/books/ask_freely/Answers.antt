use Rattle.std.proofs.Common.{refl, arith}
use Rattle.std.proofs.lemmas.Nat.Gcd.{IsGcd-from_zero, IsGcd-from_mod}
use Rattle.journal_records.proofs.Shapes.{digest-replicate}
use Rattle.budget_tests.proofs.books.ask_freely.Goals as goal

pub reserve-requires : goal.reserve-requires
reserve-requires g c = record {
  analyst = c.spent-spent.ensures.book.sound.entry.some_analyst;
  view = tt;
  terms = record { above = omega arith; most = omega arith; positive = omega arith; lowest = IsGcd-from_mod 0 1 1 (IsGcd-from_zero 1 0 refl) };
  digest = digest-replicate 0 (omega arith);
}
