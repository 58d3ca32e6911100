-- Rows with a number of their own.
use Rattle.std.proofs.Common.{◌≡◌, ◌<◌, refl, arith, length, false, List, subst, sym, to_z, of_z, w64}
use Rattle.std.specs.Prelude.{Option, Some, ℤ}
use Rattle.std.proofs.lemmas.Int.{ints}
use Rattle.fz_frac.specs.Distance.{Distance, quotient, ◌≈◌}
use Rattle.fz_frac.specs.Lowest.{is_out}
use Rattle.fz_frac.specs.Sens.{distance_of}
use Rattle.fz_frac.specs.declared.sens.Sens.{Sens}
use Rattle.fz_ast.specs.Limits.{IsNumber}
use Rattle.fz_ast.specs.Names.{name_of}
use Rattle.fz_ast.specs.Types.{Ty, BangT}
use Rattle.fz_ast.specs.TypeNodes.{type_at}
use Rattle.fz_ast.specs.declared.name.Name.{Name}
use Rattle.fz_ast.specs.declared.types.TypeForm.TheVariants.{Num}
use Rattle.derivation_lines.specs.Lines.{Line}
use Rattle.derivation_rows.specs.Placed.{said_at}
use Rattle.derivation_rows.specs.Numbers.{without}
use Rattle.derivation_rows.specs.Rows.{let_bang_row, scaled_row, unbanged}
use Rattle.derivation_rows.specs.Ruled.{IsRow, part_line}
use Rattle.derivation_rows.specs.declared.numbers.Numbers.TheVariants.{Let, Scaled}
use Rattle.derivation_rows.specs.declared.row.Part.{Part}
use Rattle.derivation_rows.specs.declared.row.Row.{Row as Ruled}
use Rattle.derivation_rows.specs.declared.shape.Shape.TheVariants.{Known, Of}
use Rattle.derivation_rows.proofs.Amounts.{bound_alike, product_alike}

-- a number as the code holds it
pub held : (z : ℤ) → IsNumber z → to_z w64 (of_z w64 z) ≡ z
held z h = omega (arith, ints)

pub held_number : (z : ℤ) → IsNumber z → IsNumber (to_z w64 (of_z w64 z))
held_number z h = subst IsNumber (sym (held z h)) h

-- r is the row's number d
pub scaled : (T : List Ty) (L : List Line) (e : Part) (r : Sens) (d : Distance) (q : Option Ruled) → q ≡ Some (record { shape = Of Num; numbers = Scaled r e.at })
    → (is_out d ≡ false) × (distance_of r ≈ d) → IsRow T L q (scaled_row d (part_line T L e))
scaled T L e r d q f h = rw (f, h.0) (record { known = (tt, tt); ty = refl; numbers = λ x. product_alike (distance_of r) d h.1 (said_at L e.at x) })

-- k is x in b over the bang's number d
pub unbanged_says : (T : List Ty) (L : List Line) (x : Name) (e b : Part) (k : Sens) (d : Distance) (q : Option Ruled) → b.ty < length T
    → q ≡ Some (record { shape = Known b.ty; numbers = Let k e.at x b.at }) → (is_out d ≡ false) × (distance_of k ≈ d) → IsRow T L q (unbanged (name_of x) d (part_line T L e) (part_line T L b))
unbanged_says T L x e b k d q l f h =
    rw (f, h.0) (record { known = l; ty = refl; numbers = λ y. bound_alike (distance_of k) d h.1 (said_at L e.at y) (without (name_of x) (said_at L b.at) y) })

pub let_bang_says : (T : List Ty) (L : List Line) (x : Name) (e b : Part) (r : Distance) (A : Ty) (q : Option Ruled) → type_at T e.ty ≡ BangT r A
    → IsRow T L q (unbanged (name_of x) (quotient (said_at L b.at (name_of x)) r) (part_line T L e) (part_line T L b)) → IsRow T L q (let_bang_row (name_of x) (part_line T L e) (part_line T L b))
let_bang_says T L x e b r A q t h = rw t h
