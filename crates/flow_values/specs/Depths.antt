-- How deep what a run makes can be held. It decides nothing while a program runs: by it alone is proved that walks within walks end.
use Rattle.std.specs.Prelude.{◌+◌, max, suc, zero, ℕ}

-- what a value that has a derivation of at most this height is held deeper than the names that it is made of. It doesn't unfold by itself.
unfoldable pub added : ℕ → ℕ
added zero = 0
added (suc n) = added n + added n + 16

-- a bag behind one more stage: f is how deep what its function's names stand for is held, d how deep the bag is, l the stage's height. Its
-- elements are never held as deep.
abbrev pub stage_deep : ℕ → ℕ → ℕ → ℕ
stage_deep f d l = max f d + added l + 4
