-- What is left of a limit, where more is waited.
use Rattle.std.proofs.Common.{◌≡◌, ℕ, ◌+◌, ◌-◌, arith}

pub all-left : (limit : ℕ) → limit ≡ limit - 0
all-left limit = omega arith

pub less-left : (limit waited took before now : ℕ) → before ≡ limit - waited → now ≡ before - took → now ≡ limit - (took + waited)
less-left limit waited took before now was is = omega (arith, was, is)
