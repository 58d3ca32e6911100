-- What a charge is for.
use Rattle.std.specs.Prelude.{ℕ, ◌<◌, Bool, true, false, ◌==◌, ◌&&◌, ⊤}
use Rattle.partition_charge.specs.declared.view.View.{View}
use Rattle.partition_charge.specs.declared.view.View.TheVariants.{Whole, Part}

-- An owner has at most so many partitions, and a partition so many parts.
abbrev pub partition_limit : ℕ
partition_limit = 8

abbrev pub part_limit : ℕ
part_limit = 4000

-- A view names its partition by a number below this, whatever an owner may have.
abbrev pub partition_range : ℕ
partition_range = 8

-- the numbers of a view are within their ranges
abbrev pub IsView : View → Type 0
IsView Whole = ⊤
IsView (Part partition part) = (partition < partition_range) × (part < part_limit)

-- the part's number is below n, where it is a part
abbrev pub IsPartBelow : ℕ → View → Type 0
IsPartBelow n Whole = ⊤
IsPartBelow n (Part partition part) = part < n

abbrev pub same_view : View → View → Bool
same_view Whole Whole = true
same_view (Part p j) (Part r k) = (p == r) && (j == k)
same_view Whole (Part p j) = false
same_view (Part p j) Whole = false
