-- The generated catalog is lawful, and the rows are those of its table.
use Rattle.std.proofs.Common.{◌≡◌, ℕ, zero, suc, ◌+◌, ◌*◌, ◌%◌, ◌≤◌, [], ◌∷◌, ◌++◌, length, map, refl, sym, ◌∙◌, ap, subst, arith, codes, length-append}
use Rattle.std.specs.Prelude.{ℤ, pos}
use Rattle.std.specs.List.{All, IsDistinct}
use Rattle.std.proofs.lemmas.List.{length-map, map-append}
use Rattle.std.proofs.lemmas.List.Elements.{All-append}
use Rattle.fz_ast.specs.declared.row.Column.TheVariants.{Num}
use Rattle.fz_ast.specs.Rows.{row_type}
use Rattle.fz_ast.specs.Types.{NumT}
use Rattle.fz_lexer.specs.Bytes.{is_digit, is_letter, is_name_byte}
use Rattle.fz_lexer.specs.Words.{spelling}
use Rattle.metric_values.specs.Tables.{IsDataset}
use Rattle.metric_values.specs.Typed.{TypedFlat}
use Rattle.metric_values.specs.Values.{NumF}
use Rattle.budget_core.specs.Entries.{IsEntry}
use Rattle.owner_catalog.specs.Entries.{Catalog, owner_signature}
use Rattle.owner_catalog.specs.Forms.{is_catalog_name, is_file_byte, is_file_name, is_reserved, is_table_name}
use Rattle.owner_catalog.specs.Lawful.{HasLimitsFor, HasName, IsCatalog, IsCatalogName, IsOwner, IsTableEntry}
use Rattle.generated_house.specs.Sizes.{budget_for, capacity_for, most_asks, paid_of, row_count}
use Rattle.generated_house.specs.House.{catalog_for, entry_for, numbers_below, owner_for, people, rows_of_seed}

one_in : {X : Type 0} → (P : X → Type 0) (x : X) → P x → All P (x ∷ [])
one_in P x holds zero d less = holds
one_in P x holds (suc k) d less = absurd (omega (arith, less))

some_paid : (asks : ℕ) → 1 ≤ asks → 1 ≤ paid_of asks
some_paid asks some = omega (arith, some)

few_paid : (asks : ℕ) → asks ≤ most_asks → paid_of asks ≤ 50000
few_paid asks few = omega (arith, few)

people_lawful : IsTableEntry people
unfolding is_catalog_name is_table_name is_reserved is_file_name is_file_byte is_letter is_digit is_name_byte spelling IsDistinct
people_lawful = record {
  name = refl;
  file = refl;
  columns = record { some = omega arith; few = omega arith; distinct = (tt, tt) };
  names = one_in HasName (record { name = codes "number"; kind = Num }) refl;
}

owner_lawful : (asks : ℕ) → 1 ≤ asks → asks ≤ most_asks → IsOwner (owner_for asks)
unfolding is_catalog_name is_letter is_digit is_name_byte IsDistinct
owner_lawful asks some few = record {
  name = refl;
  least_budget = omega (arith, some_paid asks some);
  most_budget = omega (arith, few_paid asks few);
  least_capacity = omega (arith, some);
  most_capacity = omega (arith, few);
  some_tables = omega arith;
  few_tables = omega arith;
  tables = one_in IsTableEntry people people_lawful;
  distinct_tables = (tt, tt);
  few_partitions = omega arith;
  partitions = λ k d less. absurd (omega (arith, less));
  distinct_partitions = tt;
  few_limits = omega arith;
  limits = λ k d less. absurd (omega (arith, less));
  distinct_limits = tt;
}

pub lawful : (asks : ℕ) → 1 ≤ asks → asks ≤ most_asks → IsCatalog (catalog_for asks)
unfolding is_catalog_name is_letter is_digit is_name_byte IsDistinct
lawful asks some few = record {
  some_analysts = omega arith;
  few_analysts = omega arith;
  analysts = one_in IsCatalogName (codes "ann") refl;
  distinct_analysts = (tt, tt);
  some_owners = omega arith;
  few_owners = omega arith;
  owners = one_in IsOwner (owner_for asks) (owner_lawful asks some few);
  limits = one_in (HasLimitsFor (codes "ann" ∷ [])) (owner_for asks) (λ k d less. absurd (omega (arith, less)));
  distinct_owners = (tt, tt);
}

-- the same by whatever names budget and capacity have
abbrev pub catalog_with : (budget capacity : ℕ) → Catalog
catalog_with budget capacity = record {
  analysts = codes "ann" ∷ [];
  owners = record { name = codes "gen"; budget = budget; capacity = capacity; tables = people ∷ []; partitions = []; limits = []; text = [] } ∷ [];
  text = [];
}

pub lawful_with : (asks budget capacity : ℕ) → 1 ≤ asks → asks ≤ most_asks → budget ≡ budget_for asks → capacity ≡ capacity_for asks → IsCatalog (catalog_with budget capacity)
lawful_with asks budget capacity some few budget_is capacity_is =
    subst (λ (b : ℕ). IsCatalog (catalog_with b capacity)) (sym budget_is) (subst (λ (c : ℕ). IsCatalog (catalog_with (budget_for asks) c)) (sym capacity_is) (lawful asks some few))

-- the owner's entry is within its limits, in any version
pub entry_lawful : (asks version : ℕ) → 1 ≤ asks → asks ≤ most_asks → IsEntry (record (entry_for asks) { version = version })
entry_lawful asks version some few = record {
  some_budget = omega (arith, some_paid asks some);
  budget = omega (arith, few_paid asks few);
  some_room = omega (arith, some);
  capacity = omega (arith, few);
  some_analyst = omega arith;
  analysts = omega arith;
  partitions = omega arith;
  keys = λ k d less. absurd (omega (arith, less));
  limits = omega arith;
}

-- the rows grow number by number
pub numbers_none : (seed : ℕ) → numbers_below seed 0 ≡ []
unfolding numbers_below
numbers_none seed = refl

numbers_next : (seed n : ℕ) → numbers_below seed n ++ pos ((seed + 31 * n) % 100) ∷ [] ≡ numbers_below seed (suc n)
unfolding numbers_below
numbers_next seed n = refl

pub numbers_more : (seed n : ℕ) → numbers_below seed n ++ pos ((seed + 31 * n) % 100) ∷ [] ≡ numbers_below seed (n + 1)
numbers_more seed n = let next : suc n ≡ n + 1 = omega arith in numbers_next seed n ∙ ap (numbers_below seed) next

pub rows_are : row_count ≡ 1000
unfolding row_count
rows_are = refl

small : (n : ℕ) → TypedFlat NumT (NumF (pos (n % 100)))
small n = grind arith

typed_below : (seed n : ℕ) → All (TypedFlat NumT) (map NumF (numbers_below seed n))
unfolding numbers_below
typed_below seed zero = λ k d less. absurd (omega (arith, less))
typed_below seed (suc n) =
    let z : ℤ = pos ((seed + 31 * n) % 100) in
    subst (All (TypedFlat NumT)) (sym (map-append NumF (numbers_below seed n) (z ∷ [])))
    (All-append (TypedFlat NumT) (map NumF (numbers_below seed n)) (NumF z ∷ []) (typed_below seed n) (one_in (TypedFlat NumT) (NumF z) (small (seed + 31 * n))))

pub rows_typed : (seed asks : ℕ) → IsDataset (owner_signature (owner_for asks)) (rows_of_seed seed ∷ [])
unfolding row_type
rows_typed seed asks = (typed_below seed row_count, tt)

numbers_long : (seed n : ℕ) → length (numbers_below seed n) ≡ n
unfolding numbers_below
numbers_long seed zero = refl
numbers_long seed (suc n) = omega (arith, length-append (numbers_below seed n) (pos ((seed + 31 * n) % 100) ∷ []), numbers_long seed n)

pub rows_long : (seed : ℕ) → length (rows_of_seed seed) ≡ row_count
rows_long seed = length-map (numbers_below seed row_count) NumF ∙ numbers_long seed row_count
