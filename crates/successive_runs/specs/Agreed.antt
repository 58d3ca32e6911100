-- What a grant and a run make of the same files.
use Rattle.std.specs.Prelude.{◌≡◌, ℕ, ◌<◌}
use Rattle.catalog_loading.specs.Loaded.{KeyedHouse, KeyedOwner, entry_in as house_entry, header_in as house_header, its_name, owner_name_at, owners_in}
use Rattle.query_server.specs.Grant.{entry_in, header_in}

-- The owner of a grant is one of a house, under the house's key: in each version it has the entry and the header that its journal has
-- in the house.
pub record IsOwnerOfHouse (one : KeyedOwner) (house : KeyedHouse) : Type 0 where
  pub known : one.number < owners_in house.loading
  pub name : its_name one ≡ owner_name_at house.loading one.number
  pub key : one.key ≡ house.key
  pub entry : (version : ℕ) → entry_in one version ≡ house_entry house.loading one.number version
  pub header : (version : ℕ) → header_in one version ≡ house_header house.loading house.key one.number version
