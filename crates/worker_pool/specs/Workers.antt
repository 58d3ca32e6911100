-- How many workers there may be.
use Rattle.std.specs.Prelude.{ℕ}

-- the most workers of a run, a service or a generated run
abbrev pub worker_limit : ℕ
worker_limit = 16
