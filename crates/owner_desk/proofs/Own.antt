-- what was added to a book stands behind the records found
use Rattle.std.proofs.Common.{◌≡◌, ℕ, ◌+◌, ◌≤◌, List, [], ◌∷◌, ◌++◌, length, refl, sym, ap, ◌∙◌, arith, length-append}
use Rattle.std.specs.List.{enumerate_from}
use Rattle.journal_records.specs.declared.records.Record.{Record}
use Rattle.budget_ledger.specs.Account.{Account}
use Rattle.owner_desk.specs.Passes.{IsSole, records_told}

pub records_numbered : (n : ℕ) (xs : List Record) → records_told (enumerate_from n xs) ≡ xs
records_numbered n [] = refl
records_numbered n (x ∷ xs) = ap (λ rest. x ∷ rest) (records_numbered (n + 1) xs)

module _ (opened now : Account) (sole : IsSole opened now) where
  found-begins : opened.ledger.found ++ sole.gone.went.begins.0 ≡ now.ledger.records
  found-begins = ap (λ (rs : List Record). rs ++ sole.gone.went.begins.0) (sym sole.fresh.found) ∙ sole.gone.went.begins.1

  pub found-le : length opened.ledger.found ≤ length now.ledger.records
  found-le = omega (arith, length-append opened.ledger.found sole.gone.went.begins.0, ap length found-begins)
