-- passes of which half is given to a second worker
use Rattle.std.proofs.Common.{◌≡◌, ℕ, zero, suc, ◌≤◌, List, [], ◌∷◌, map, refl, ◌∙◌, ap, arith}
use Rattle.std.specs.List.{All}
use Rattle.std.proofs.lemmas.List.{length-map}
use Rattle.owner_lock.specs.Known.{whole_share}
use Rattle.budget_ledger.specs.Account.{Account}
use Rattle.owner_desk.specs.Passes.{Pass}
use Rattle.owner_house.specs.House.{House}
use Rattle.session_core.specs.Bundles.{handed_on}
use Rattle.session_core.specs.Code.{ArePasses, pass_at}

-- A whole share has two halves.
pub may_split : (shares : List ℕ) → All (λ s. s ≡ whole_share) shares → All (λ s. 2 ≤ s) shares
may_split shares whole = λ k d less. omega (arith, whole k d less)

opened_as : (passes : List Pass) (o : ℕ) → (pass_at (map handed_on passes) o).opened ≡ (pass_at passes o).opened
opened_as [] o = refl
opened_as (p ∷ passes) zero = refl
opened_as (p ∷ passes) (suc o) = opened_as passes o

-- What is handed on are passes of the same house.
pub passes_handed : (house : House) (passes : List Pass) → ArePasses house passes → ArePasses house (map handed_on passes)
passes_handed house passes are = record {
  each_has = length-map passes handed_on ∙ are.each_has;
  entries = λ o owner there. ap (λ (a : Account). a.ledger.entry) (opened_as passes o) ∙ are.entries o owner there;
}
