-- The column of a partition is one of its table's.
use Rattle.std.proofs.Common.{◌≡◌, ◌<◌, ℕ, List, [], map, length, get_or, sym, subst, arith}
use Rattle.std.specs.List.{All}
use Rattle.std.proofs.lemmas.List.{get_or-map}
use Rattle.std.proofs.lemmas.Option.{slice_get_within}
use Rattle.owner_catalog.specs.Entries.{TableEntry, PartitionEntry, OwnerEntry, table_columns}
use Rattle.owner_catalog.specs.Lawful.{IsTableEntry, IsPartition, IsOwner}

few_columns : (tables : List TableEntry) (t c : ℕ) → All IsTableEntry tables → t < length tables → c < length (get_or (map table_columns tables) t []) → c < 16
few_columns tables t c lawful there low =
    let table : TableEntry = record { name = []; file = []; columns = [] } in
    let columns = get_or-map table_columns tables t table [] there in
    let few = (lawful t table there).columns.few in
    omega (arith, rw columns at low, few)

-- an owner's partition keeps the rules
pub partition_lawful : (owner : OwnerEntry) (p : ℕ) (partition : PartitionEntry) → IsOwner owner → p < length owner.partitions
    → partition ≡ get_or owner.partitions p partition → IsPartition owner.tables partition
partition_lawful owner p partition lawful low is = subst (IsPartition owner.tables) (sym is) (lawful.partitions p partition low)

-- and goes by one of the first columns
pub column_fits : (tables : List TableEntry) (partition : PartitionEntry) → All IsTableEntry tables → IsPartition tables partition → partition.column < 16
column_fits tables partition lawful of = few_columns tables _ _ lawful of.table (slice_get_within _ _ _ of.there)
