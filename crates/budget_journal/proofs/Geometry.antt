-- Where areas lie.
use Rattle.std.proofs.Common.{◌≡◌, ℕ, zero, suc, ◌+◌, ◌*◌, ◌^◌, ◌<◌, ◌≤◌, min, refl, subst, arith, ⊎_elim}
use Rattle.std.proofs.lemmas.Bool.{cases_lt}
use Rattle.std.proofs.lemmas.Nat.{pow-add, pow_below}
use Rattle.budget_journal.specs.declared.form.Form.{Form}
use Rattle.budget_journal.specs.declared.form.Form.TheVariants.{One, Many}
use Rattle.budget_journal.specs.Areas.{area_slots, area_begin, IsArea, IsLastArea, file_size}

pub pow_doubles : (n : ℕ) → 2 ^ suc n ≡ 2 * 2 ^ n
pow_doubles n = let one_more : 1 + n ≡ suc n = omega arith in subst (λ (k : ℕ). 2 ^ k ≡ 2 * 2 ^ n) one_more (pow-add 2 1 n)

pub pow_le : (i j : ℕ) → i ≤ j → 2 ^ i ≤ 2 ^ j
pow_le i j le = ⊎_elim
    (λ lt. let more = pow_below i j lt in omega (arith, more))
    (λ back. let same : i ≡ j = omega arith in subst (λ (k : ℕ). 2 ^ i ≤ 2 ^ k) same (omega arith))
    (cases_lt i j)

module _ (form : Form) where
  pub begin-low : (capacity area : ℕ) → 128 ≤ area_begin form capacity area
  begin-low capacity zero = omega arith
  begin-low capacity (suc area) = omega (arith, begin-low capacity area)

  -- an area ends where a later one begins, or before it
  pub apart : (capacity area later : ℕ) → area < later → area_begin form capacity area + 64 * area_slots form capacity area ≤ area_begin form capacity later
  apart capacity area zero lt = absurd (omega arith)
  apart capacity area (suc later) lt = ⊎_elim
      (λ before. omega (arith, apart capacity area later before))
      (λ back. let same : area ≡ later = omega arith in
      subst (λ (n : ℕ). area_begin form capacity area + 64 * area_slots form capacity area ≤ area_begin form capacity (suc n)) same (omega arith))
      (cases_lt area later)

  pub earlier-area : (capacity area earlier : ℕ) → earlier ≤ area → IsArea form capacity area → IsArea form capacity earlier
  earlier-area capacity area earlier le is n lt = is n (omega arith)

  pub next-area : (capacity area : ℕ) → IsArea form capacity area → area_slots form capacity area < capacity → IsArea form capacity (suc area)
  next-area capacity area is fewer n lt = ⊎_elim
      (λ before. is n before)
      (λ back. let same : area ≡ n = omega arith in subst (λ (k : ℕ). area_slots form capacity k < capacity) same fewer)
      (cases_lt n area)

  pub one-last : (capacity area other : ℕ) → IsLastArea form capacity area → IsLastArea form capacity other → area ≡ other
  one-last capacity area other a b = ⊎_elim
      (λ before. let fewer = b.0 area before in let all = a.1 in absurd (omega (arith, fewer, all)))
      (λ back. ⊎_elim
      (λ behind. let fewer = a.0 other behind in let all = b.1 in absurd (omega (arith, fewer, all)))
      (λ le. omega arith)
      (cases_lt other area))
      (cases_lt area other)

-- an area that isn't the last one is whole, and of version 2
pub grows : (form : Form) (capacity area : ℕ) → area_slots form capacity area < capacity → form ≡ Many
grows One capacity area fewer = absurd (omega (arith, fewer))
grows Many capacity area fewer = refl

pub whole-area : (capacity area : ℕ) → area_slots Many capacity area < capacity → area_slots Many capacity area ≡ 64 * 2 ^ area
whole-area capacity area fewer = omega (arith, fewer)

-- each earlier one has fewer slots too
pub area-by : (capacity area : ℕ) → area_slots Many capacity area < capacity → IsArea Many capacity (suc area)
area-by capacity area fewer n lt = omega (arith, pow_le n area (omega arith), fewer)

pub slots-double : (capacity area : ℕ) → area_slots Many capacity (suc area) ≡ min (2 * area_slots Many capacity area) capacity
slots-double capacity area = omega (arith, pow_doubles area)

pub begins : (capacity area : ℕ) → IsArea Many capacity area → area_begin Many capacity area + 4096 ≡ 128 + 4096 * 2 ^ area
begins capacity zero is = refl
begins capacity (suc area) is =
    let whole = whole-area capacity area (is area (omega arith)) in
    let before = begins capacity area (earlier-area Many capacity (suc area) area (omega arith) is) in
    let doubles = pow_doubles area in
    omega (arith, whole, before, doubles)

pub few : (form : Form) (capacity area : ℕ) → capacity < 2 ^ 32 → IsArea form capacity area → area ≤ 26
few One capacity area small is = ⊎_elim
    (λ some. let fewer : capacity < capacity = is 0 some in absurd (omega (arith, fewer)))
    (λ none. omega arith)
    (cases_lt 0 area)
few Many capacity area small is = ⊎_elim
    (λ many. let fewer : min (64 * 2 ^ 26) capacity < capacity = is 26 many in absurd (omega (arith, fewer, small)))
    (λ le. le)
    (cases_lt 26 area)

-- ---- how long the file is

pub end-within : (form : Form) (end n : ℕ) → n ≡ file_size form end n → end ≤ n
end-within One end n is = omega (arith, is)
end-within Many end n is = omega (arith, is)

pub size-whole : (form : Form) (end n : ℕ) → end ≤ n → n ≤ file_size form end n → n ≡ file_size form end n
size-whole One end n le short = omega (arith, le, short)
size-whole Many end n le short = omega (arith, le)
