-- Limits of analysts, worked out by hand from the rules.
use Rattle.std.proofs.Common.{◌≡◌, ◌+◌, ◌^◌, ◌/◌, ◌%◌, ℕ, List, [], ◌∷◌, ◌++◌, map, replicate, Option, Some, None, Result, Ok, codes, refl}
use Rattle.std.specs.List.{range_with_len}
use Rattle.serde_json.specs.Data.{Data}
use Rattle.fz_ast.specs.declared.row.Column.TheVariants.{Num}
use Rattle.owner_catalog.specs.declared.fault.CatalogFault.{CatalogFault}
use Rattle.owner_catalog.specs.declared.fault.FaultKind.TheVariants.{Kind, Missing, Unknown, Count, Range, Double, NoSuch}
use Rattle.owner_catalog.specs.declared.fault.Member.TheVariants as at
use Rattle.owner_catalog.specs.Entries.{LimitEntry, OwnerEntry, Catalog, limit_for, owner_entry_at}
use Rattle.owner_catalog.specs.Fault.{◌>>=◌, bad, place}
use Rattle.owner_catalog.specs.Catalog.{catalog_in_file, json_in, limit_in, owner_in}
use Rattle.owner_catalog.proofs.OnLiterals.{on_literals}

-- what a text is, read as some part of a catalog
abbrev read_as : {A : Type 0} → (Data → Result A CatalogFault) → List ℕ → Result A CatalogFault
read_as part bytes = json_in bytes >>= part

abbrev analysts : List (List ℕ)
analysts = codes "ann" ∷ codes "bob" ∷ []

abbrev a_limit : (analyst : List ℕ) (budget : ℕ) → LimitEntry
a_limit analyst budget = record { analyst = analyst; budget = budget }

-- ---- a limit: limit 1 of owner 3

-- members may stand in any order
limit : read_as (limit_in 3 analysts 1) (codes "{\"budget\":1,\"analyst\":\"bob\"}") ≡ Ok (a_limit (codes "bob") 1)
unfolding on_literals
limit = refl

limit_kind : read_as (limit_in 3 analysts 1) (codes "[\"bob\",1]") ≡ bad Kind (place at.Limit 3 1 0)
unfolding on_literals
limit_kind = refl

-- what is missing counts before what is unknown, the analyst first
limit_missing : read_as (limit_in 3 analysts 1) (codes "{\"a\":0}") ≡ bad Missing (place at.LimitAnalyst 3 1 0)
unfolding on_literals
limit_missing = refl

limit_without_budget : read_as (limit_in 3 analysts 1) (codes "{\"a\":0,\"analyst\":7}") ≡ bad Missing (place at.LimitBudget 3 1 0)
unfolding on_literals
limit_without_budget = refl

-- what is unknown counts before the members
limit_unknown : read_as (limit_in 3 analysts 1) (codes "{\"limit\":0,\"analyst\":7,\"budget\":0}") ≡ bad (Unknown (codes "limit")) (place at.Limit 3 1 0)
unfolding on_literals
limit_unknown = refl

-- the analyst counts before the budget
limit_analyst_kind : read_as (limit_in 3 analysts 1) (codes "{\"analyst\":1,\"budget\":0}") ≡ bad Kind (place at.LimitAnalyst 3 1 0)
unfolding on_literals
limit_analyst_kind = refl

limit_for_nobody : read_as (limit_in 3 analysts 1) (codes "{\"analyst\":\"eve\",\"budget\":0}") ≡ bad NoSuch (place at.LimitAnalyst 3 1 0)
unfolding on_literals
limit_for_nobody = refl

-- a name is known whole and by its case
limit_for_a_part : read_as (limit_in 3 analysts 1) (codes "{\"analyst\":\"an\",\"budget\":1}") ≡ bad NoSuch (place at.LimitAnalyst 3 1 0)
unfolding on_literals
limit_for_a_part = refl

limit_for_a_capital : read_as (limit_in 3 analysts 1) (codes "{\"analyst\":\"Ann\",\"budget\":1}") ≡ bad NoSuch (place at.LimitAnalyst 3 1 0)
unfolding on_literals
limit_for_a_capital = refl

limit_of_nothing : read_as (limit_in 3 analysts 1) (codes "{\"analyst\":\"ann\",\"budget\":0}") ≡ bad Range (place at.LimitBudget 3 1 0)
unfolding on_literals
limit_of_nothing = refl

limit_most : read_as (limit_in 3 analysts 1) (codes "{\"analyst\":\"ann\",\"budget\":1000000000000000000}") ≡ Ok (a_limit (codes "ann") (10 ^ 18))
unfolding on_literals
limit_most = refl

limit_over : read_as (limit_in 3 analysts 1) (codes "{\"analyst\":\"ann\",\"budget\":1000000000000000001}") ≡ bad Range (place at.LimitBudget 3 1 0)
unfolding on_literals
limit_over = refl

limit_text : read_as (limit_in 3 analysts 1) (codes "{\"analyst\":\"ann\",\"budget\":\"1\"}") ≡ bad Kind (place at.LimitBudget 3 1 0)
unfolding on_literals
limit_text = refl

-- ---- an owner with limits: owner 3

-- before the partitions, which are to follow, stand these members
abbrev owner_from : (before partitions : List ℕ) → List ℕ
owner_from before partitions =
    codes "{" ++ before ++ codes "\"name\":\"o\",\"budget\":1,\"capacity\":2,\"tables\":[{\"name\":\"t\",\"file\":\"f\",\"columns\":[{\"name\":\"a\",\"type\":\"num\"}]}],"
    ++ codes "\"partitions\":" ++ partitions ++ codes "}"

abbrev with_limits : (limits : List ℕ) → List ℕ
with_limits limits = owner_from (codes "\"limits\":" ++ limits ++ codes ",") (codes "[]")

abbrev an_owner : List LimitEntry → (limits_text : List ℕ) → OwnerEntry
an_owner limits limits_text = record {
  name = codes "o";
  budget = 1;
  capacity = 2;
  tables = record { name = codes "t"; file = codes "f"; columns = record { name = codes "a"; kind = Num } ∷ [] } ∷ [];
  partitions = [];
  limits = limits;
  text = codes "{\"budget\":1,\"capacity\":2," ++ limits_text ++ codes "\"name\":\"o\",\"partitions\":[],\"tables\":[{\"columns\":[{\"name\":\"a\","
      ++ codes "\"type\":\"num\"}],\"file\":\"f\",\"name\":\"t\"}]}";
}

-- Left out, they are none, and the text has no word of them. An empty list is none, too, but the text has it, and so has the digest.
limits_left_out : read_as (owner_in analysts 3) (owner_from [] (codes "[]")) ≡ Ok (an_owner [] [])
unfolding on_literals
limits_left_out = refl

no_limits : read_as (owner_in analysts 3) (with_limits (codes "[]")) ≡ Ok (an_owner [] (codes "\"limits\":[],"))
unfolding on_literals
no_limits = refl

-- in their own order, whatever the analysts' is
two_limits : read_as (owner_in analysts 3) (with_limits (codes "[{\"analyst\":\"bob\",\"budget\":5},{\"budget\":7,\"analyst\":\"ann\"}]"))
    ≡ Ok (an_owner (a_limit (codes "bob") 5 ∷ a_limit (codes "ann") 7 ∷ [])
    (codes "\"limits\":[{\"analyst\":\"bob\",\"budget\":5},{\"analyst\":\"ann\",\"budget\":7}],"))
unfolding on_literals
two_limits = refl

limits_kind : read_as (owner_in analysts 3) (with_limits (codes "{}")) ≡ bad Kind (place at.Limits 3 0 0)
unfolding on_literals
limits_kind = refl

-- a member that is there isn't left out, whatever it is
limits_null : read_as (owner_in analysts 3) (with_limits (codes "null")) ≡ bad Kind (place at.Limits 3 0 0)
unfolding on_literals
limits_null = refl

-- they are judged last, though they stand first
limits_last : read_as (owner_in analysts 3) (owner_from (codes "\"limits\":7,") (codes "7")) ≡ bad Kind (place at.Partitions 3 0 0)
unfolding on_literals
limits_last = refl

-- what an owner may not lack is missing as before
missing_beside_limits : read_as (owner_in analysts 3) (codes "{\"limits\":7,\"name\":7,\"budget\":7,\"capacity\":7,\"tables\":7}")
    ≡ bad Missing (place at.Partitions 3 0 0)
unfolding on_literals
missing_beside_limits = refl

-- a member of another name is none
limits_misnamed : read_as (owner_in analysts 3) (owner_from (codes "\"limit\":[],") (codes "7")) ≡ bad (Unknown (codes "limit")) (place at.Owner 3 0 0)
unfolding on_literals
limits_misnamed = refl

limit_fault : read_as (owner_in analysts 3) (with_limits (codes "[{\"analyst\":\"bob\",\"budget\":5},{\"analyst\":\"eve\",\"budget\":5},7]"))
    ≡ bad NoSuch (place at.LimitAnalyst 3 1 0)
unfolding on_literals
limit_fault = refl

limit_double : read_as (owner_in analysts 3) (with_limits (codes "[{\"analyst\":\"bob\",\"budget\":5},{\"analyst\":\"bob\",\"budget\":6},7]"))
    ≡ bad Double (place at.Limit 3 1 0)
unfolding on_literals
limit_double = refl

-- after its own faults
limit_own_first : read_as (owner_in analysts 3) (with_limits (codes "[{\"analyst\":\"bob\",\"budget\":5},{\"analyst\":\"bob\",\"budget\":0}]"))
    ≡ bad Range (place at.LimitBudget 3 1 0)
unfolding on_literals
limit_own_first = refl

-- ---- how many

abbrev between_commas : List (List ℕ) → List ℕ
between_commas [] = []
between_commas (x ∷ []) = x
between_commas (x ∷ y ∷ ys) = x ++ codes "," ++ between_commas (y ∷ ys)

-- so many names of two letters: AA, AB, .., AZ, BA, ..
abbrev names : ℕ → List (List ℕ)
names n = map (λ k. (65 + k / 26) ∷ (65 + k % 26) ∷ []) (range_with_len 0 n)

abbrev limit_text_of : List ℕ → List ℕ
limit_text_of name = codes "{\"analyst\":\"" ++ name ++ codes "\",\"budget\":9}"

limits_of_64 : read_as (λ d. owner_in (names 64) 3 d >>= λ (owner : OwnerEntry). Ok owner.limits)
    (with_limits (codes "[" ++ between_commas (map limit_text_of (names 64)) ++ codes "]")) ≡ Ok (map (λ name. a_limit name 9) (names 64))
unfolding on_literals
limits_of_64 = refl

-- the count comes before the items
limits_65 : read_as (owner_in analysts 3) (with_limits (codes "[" ++ between_commas (replicate 65 (codes "7")) ++ codes "]")) ≡ bad Count (place at.Limits 3 0 0)
unfolding on_literals
limits_65 = refl

limits_64 : read_as (owner_in analysts 3) (with_limits (codes "[" ++ between_commas (replicate 64 (codes "7")) ++ codes "]")) ≡ bad Kind (place at.Limit 3 0 0)
unfolding on_literals
limits_64 = refl

-- ---- a whole file: the analysts are its own, and each owner has limits of its own

abbrev second_owner : (limits : List ℕ) → List ℕ
second_owner limits =
    codes "{\"name\":\"q\",\"budget\":1,\"capacity\":2,\"tables\":[{\"name\":\"t\",\"file\":\"f\",\"columns\":[{\"name\":\"a\",\"type\":\"num\"}]}],"
    ++ codes "\"partitions\":[],\"limits\":" ++ limits ++ codes "}"

abbrev two_owners : (first second : List ℕ) → List ℕ
two_owners first second =
    codes "{\"owners\":[" ++ with_limits first ++ codes "," ++ second_owner second ++ codes "],\"analysts\":[\"ann\",\"bob\"]}"

abbrev shares_in : Catalog → List (Option ℕ)
shares_in catalog =
    limit_for (owner_entry_at catalog 0) (codes "ann") ∷ limit_for (owner_entry_at catalog 0) (codes "bob")
    ∷ limit_for (owner_entry_at catalog 1) (codes "ann") ∷ limit_for (owner_entry_at catalog 1) (codes "bob") ∷ []

limits_by_owner : (catalog_in_file (two_owners (codes "[{\"analyst\":\"ann\",\"budget\":5}]") (codes "[{\"analyst\":\"bob\",\"budget\":6},{\"analyst\":\"ann\",\"budget\":7}]"))
    >>= λ catalog. Ok (shares_in catalog)) ≡ Ok (Some 5 ∷ None ∷ Some 7 ∷ Some 6 ∷ [])
unfolding on_literals
limits_by_owner = refl

limit_of_second : catalog_in_file (two_owners (codes "[]") (codes "[{\"analyst\":\"cat\",\"budget\":6}]")) ≡ bad NoSuch (place at.LimitAnalyst 1 0 0)
unfolding on_literals
limit_of_second = refl
