-- The members of each object of a catalog.
use Rattle.std.specs.Prelude.{ℕ, Bool, true, false, List, [], ◌∷◌, codes}
use Rattle.owner_catalog.specs.declared.fault.Member.{Member}
use Rattle.owner_catalog.specs.declared.fault.Member.TheVariants.{Catalog, Analysts, Analyst, Owners, Owner, OwnerName, Budget, Capacity, Tables}
use Rattle.owner_catalog.specs.declared.fault.Member.TheVariants.{Table, TableName, File, Columns, Column, ColumnName, ColumnType, Partitions}
use Rattle.owner_catalog.specs.declared.fault.Member.TheVariants.{Partition, PartitionName, PartitionTable, PartitionColumn, Keys, Key}
use Rattle.owner_catalog.specs.declared.fault.Member.TheVariants.{Limits, Limit, LimitAnalyst, LimitBudget}

abbrev pub catalog_members : List Member
catalog_members = Analysts ∷ Owners ∷ []

abbrev pub owner_members : List Member
owner_members = OwnerName ∷ Budget ∷ Capacity ∷ Tables ∷ Partitions ∷ Limits ∷ []

abbrev pub table_members : List Member
table_members = TableName ∷ File ∷ Columns ∷ []

abbrev pub column_members : List Member
column_members = ColumnName ∷ ColumnType ∷ []

abbrev pub partition_members : List Member
partition_members = PartitionName ∷ PartitionTable ∷ PartitionColumn ∷ Keys ∷ []

abbrev pub limit_members : List Member
limit_members = LimitAnalyst ∷ LimitBudget ∷ []

-- the members that an object may lack
abbrev pub may_lack : Member → Bool
may_lack Limits = true
may_lack m = false

-- the name that a member has in its object; the whole, and an item of a list, have none
unfoldable pub member_name : Member → List ℕ
member_name Catalog = []
member_name Analysts = codes "analysts"
member_name Analyst = []
member_name Owners = codes "owners"
member_name Owner = []
member_name OwnerName = codes "name"
member_name Budget = codes "budget"
member_name Capacity = codes "capacity"
member_name Tables = codes "tables"
member_name Table = []
member_name TableName = codes "name"
member_name File = codes "file"
member_name Columns = codes "columns"
member_name Column = []
member_name ColumnName = codes "name"
member_name ColumnType = codes "type"
member_name Partitions = codes "partitions"
member_name Partition = []
member_name PartitionName = codes "name"
member_name PartitionTable = codes "table"
member_name PartitionColumn = codes "column"
member_name Keys = codes "keys"
member_name Key = []
member_name Limits = codes "limits"
member_name Limit = []
member_name LimitAnalyst = codes "analyst"
member_name LimitBudget = codes "budget"
