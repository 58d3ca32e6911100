-- What the heights say of whole programs over tables.
use Rattle.std.proofs.Common.{arith, refl, subst}
use Rattle.std.specs.Prelude.{Bool, [], cond, false, suc, true, zero, ℕ, ◌-◌, ◌∷◌, ◌≡◌, ◌≤◌}
use Rattle.fz_ast.specs.Signature.{Signature, table_type}
use Rattle.fz_ast.specs.Types.{NumT}
use Rattle.linear_types.specs.Program.{context_of}
use Rattle.metric_law.proofs.FlatTyping.{typed_ground}
use Rattle.metric_law.proofs.Programs.{context_ok, typed_program}
use Rattle.metric_values.specs.Tables.{Dataset, IsDataset, rows_of}
use Rattle.metric_values.specs.Values.{BagV}
use Rattle.shape_law.proofs.Fits.{FitsEnv, fits_also, fits_ground, fits_nothing}
use Rattle.shape_law.proofs.Runs.{num_run, run}
use Rattle.shape_law.proofs.Kept.{walk_keeps}
use Rattle.shape_law.proofs.Reaches.{low_walk}
use Rattle.shape_law.proofs.Widths.{narrow_walk, tables_narrow}
use Rattle.shape_law.specs.Law.{Planned, PlansAreWithinLimits, ShapedProgramsRun, WalksHaveHeights}
use Rattle.shape_law.specs.Walk.{Shaped, Stops, Tally, TooManyWalks, WalkOutcome, depth_limit, start, told, turn_limit, walk}
use Rattle.shape_law.specs.ShapeIn.{ShapeIn}
use Rattle.shape_law.specs.Shapes.{Shape, table_shapes}

-- a table's rows fit its shape
tables_fit : (ts : Signature) (X : Dataset) → IsDataset ts X → FitsEnv (table_shapes ts) (context_of ts) (rows_of ts X)
tables_fit [] [] h = fits_nothing
tables_fit [] (xs ∷ X) h = absurd h
tables_fit (t ∷ ts) [] h = absurd h
tables_fit (t ∷ ts) (xs ∷ X) h = fits_also (fits_ground tt (typed_ground (table_type t) (BagV xs) h.0)) (tables_fit ts X h.1)

pub planned : Planned
planned ts t D r s l a n p h X k =
    let z = num_run (run n (context_of ts) (context_ok ts s) t NumT D (typed_program ts t D r l a) (table_shapes ts) (rows_of ts X) p (tables_fit ts X k) h) in
    record { number = z.0; does = z.1 }

from_first : (m : ℕ) → suc m - 1 ≡ m
from_first m = omega arith

pub heights : WalksHaveHeights
heights left σ t s k h = go left h
  where
    go : (left : ℕ) → walk left 1 σ t start ≡ Shaped s k → ShapeIn k.depth σ t s × (k.depth ≤ left) × (k.turns ≤ turn_limit)
    go zero h = cc
    go (suc n) h =
        let r = walk_keeps (suc n) (suc n) 1 (omega arith) σ t s start k h in
        (subst (λ c. ShapeIn c σ t s) (from_first k.depth) (r.holds k.depth (omega arith)), omega (arith, r.later.shallow), omega (arith, r.later.short))

-- a program that has a plan is a walk that stops nowhere, and doesn't take too many walks
pub told_is : (o : WalkOutcome) (s : Shape) (k : Tally) → told o ≡ Shaped s k → (o ≡ Shaped s k) × (k.too_many ≡ false)
told_is (Shaped r j) s k h = go j.too_many refl h
  where
    go : (b : Bool) → j.too_many ≡ b → cond b TooManyWalks (Shaped r j) ≡ Shaped s k → (Shaped r j ≡ Shaped s k) × (k.too_many ≡ false)
    go true e h = absurd (cc h)
    go false e h = (h, cc (h, e))
told_is (Stops x) s k h = absurd (cc h)
told_is TooManyWalks s k h = absurd (cc h)

pub shaped : ShapedProgramsRun
shaped ts t D r l a p s k h =
    planned ts t D r l a p k.depth s (heights depth_limit (table_shapes ts) t s k (told_is (walk depth_limit 1 (table_shapes ts) t start) s k h).0).0

pub depth_limit_is : depth_limit ≡ 128
unfolding depth_limit
depth_limit_is = refl

pub within_limits : PlansAreWithinLimits
within_limits ts t s k is =
    let h = (told_is (walk depth_limit 1 (table_shapes ts) t start) s k is).0 in
    let w = heights depth_limit (table_shapes ts) t s k h in
    record { deep = w.1; long = w.2; wide = (narrow_walk depth_limit 1 (table_shapes ts) t s start k (tables_narrow ts) (omega arith) h).1; shallow = low_walk depth_limit 1 (omega (arith, depth_limit_is)) (table_shapes ts) t s start k (omega arith) h }
