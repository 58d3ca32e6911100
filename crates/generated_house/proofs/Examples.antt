-- Worked examples, computed.
use Rattle.std.proofs.Common.{◌≡◌, ◌++◌, [], ◌∷◌, slice_get, Some, None, false, refl, codes}
use Rattle.std.specs.Prelude.{pos, replicate}
use Rattle.journal_records.specs.declared.records.Outcome.TheVariants.{Exhausted}
use Rattle.budget_core.specs.Cost.{comes_back}
use Rattle.generated_house.specs.Sizes.{budget_for, capacity_for, paid_of}
use Rattle.generated_house.specs.Key.{key_of_seed, seed_bytes}
use Rattle.generated_house.specs.House.{entry_for, house_for, numbers_below, the_owner, versions_held}
use Rattle.generated_house.specs.Script.{ask_text, script_of}

-- half of the asks are paid for, rounded up
halves : (paid_of 1 ≡ 1) × (paid_of 2 ≡ 1) × (paid_of 3 ≡ 2) × (paid_of 100000 ≡ 50000)
halves = (refl, refl, refl, refl)

budgets : (budget_for 1 ≡ 1000000) × (budget_for 2 ≡ 1000000) × (budget_for 3 ≡ 2000000) × (capacity_for 1 ≡ 2)
budgets = (refl, refl, refl, refl)

-- the one owner's journal is of version 2, by the house and by its entry
versions : versions_held ≡ 2 ∷ replicate 63 3
versions = refl

owners : (slice_get (house_for 7 3).owners 0 ≡ Some (the_owner 7 3)) × ((the_owner 7 3).entry ≡ entry_for 3)
owners = (refl, refl)

entry : entry_for 3 ≡ record { budget = 2000000; capacity = 6; analysts = 1; keys = []; version = 2; limits = None ∷ [] }
entry = refl

-- so what an exhausted number was charged stays
stays : comes_back (entry_for 3) (Some Exhausted) ≡ false
stays = refl

-- the least seed, the greatest, and one whose bytes differ
seeds : (seed_bytes 0 ≡ replicate 4 0) × (seed_bytes 4294967295 ≡ replicate 4 255) × (seed_bytes 16909060 ≡ 1 ∷ 2 ∷ 3 ∷ 4 ∷ [])
seeds = (refl, refl, refl)

keys : (key_of_seed 0 ≡ replicate 32 0) × (key_of_seed 4294967295 ≡ replicate 32 255)
keys = (refl, refl)

numbers : numbers_below 7 4 ≡ pos 7 ∷ pos 38 ∷ pos 69 ∷ pos 0 ∷ []
unfolding numbers_below
numbers = refl

-- one ask; ten asks fill a block; and the eleventh begins another
one : script_of 1 ≡ codes "hello ann\nask gen 1 size people\nbye\n"
one = refl

ten : script_of 10 ≡ codes "hello ann\n" ++ (ask_text ++ (ask_text ++ (ask_text ++ (ask_text ++ (ask_text ++ (ask_text ++ (ask_text ++ (ask_text ++ (ask_text ++ (ask_text ++ codes "bye\n"))))))))))
ten = refl

eleven : script_of 11 ≡ script_of 10 ++ codes "hello ann\nask gen 1 size people\nbye\n"
eleven = refl
