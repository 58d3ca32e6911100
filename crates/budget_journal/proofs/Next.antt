-- The area behind one that isn't the last.
use Rattle.std.proofs.Common.{◌≡◌, ℕ, suc, ◌+◌, ◌*◌, ◌^◌, ◌<◌, ◌≤◌, min, subst, arith}
use Rattle.budget_journal.specs.declared.form.Form.{Form}
use Rattle.budget_journal.specs.declared.form.Form.TheVariants.{One, Many}
use Rattle.budget_journal.specs.Areas.{area_slots, area_begin, IsArea}
use Rattle.budget_journal.proofs.Geometry.{next-area, slots-double, few}

-- it has twice as many slots, up to the capacity,
pub next_slots : (form : Form) (capacity area slots : ℕ) → slots ≡ area_slots form capacity area → slots < capacity
    → area_slots form capacity (area + 1) ≡ min (2 * slots) capacity
next_slots One capacity area slots is fewer = absurd (omega (arith, is, fewer))
next_slots Many capacity area slots is fewer =
    let next : suc area ≡ area + 1 = omega arith in
    subst (λ (n : ℕ). area_slots Many capacity n ≡ min (2 * slots) capacity) next (omega (arith, slots-double capacity area, is))

-- begins where that one ends,
pub next_begin : (form : Form) (capacity area begin slots : ℕ) → begin ≡ area_begin form capacity area → slots ≡ area_slots form capacity area
    → area_begin form capacity (area + 1) ≡ begin + 64 * slots
next_begin form capacity area begin slots here is =
    let next : suc area ≡ area + 1 = omega arith in
    subst (λ (n : ℕ). area_begin form capacity n ≡ begin + 64 * slots) next (omega (arith, here, is))

-- and is there, with a small number.
pub next_there : (form : Form) (capacity area slots : ℕ) → IsArea form capacity area → slots ≡ area_slots form capacity area → slots < capacity
    → IsArea form capacity (area + 1)
next_there form capacity area slots there is fewer =
    let next : suc area ≡ area + 1 = omega arith in
    subst (λ (n : ℕ). IsArea form capacity n) next (next-area form capacity area there (omega (arith, is, fewer)))

pub next_few : (form : Form) (capacity area slots : ℕ) → capacity < 2 ^ 32 → IsArea form capacity area → slots ≡ area_slots form capacity area
    → slots < capacity → area + 1 ≤ 26
next_few form capacity area slots small there is fewer =
    few form capacity (area + 1) small (next_there form capacity area slots there is fewer)
