-- The laws of the model.
use Rattle.std.specs.Prelude.{ℕ, ◌≤◌, List}
use Rattle.outside_disks.specs.Disks.{Step, Trace, moment, after, seen_of, IsImageOf, WasImageOf}

-- What reads give is one of the files that a stop now may leave.
abbrev pub ReadsAreAnImage : Type 0
ReadsAreAnImage = (t : Trace) → IsImageOf t (seen_of t)

-- A stop now is one at some moment since any earlier one.
abbrev pub NowIsAMoment : Type 0
NowIsAMoment = (since : ℕ) (t : Trace) (c : List ℕ) → IsImageOf t c → WasImageOf since t c

-- Since now there is only now.
abbrev pub SinceNowIsNow : Type 0
SinceNowIsNow = (t : Trace) (c : List ℕ) → WasImageOf (moment t) t c → IsImageOf t c

-- What a stop may have left, it may have left still after one more step.
abbrev pub MomentsStay : Type 0
MomentsStay = (since : ℕ) (t : Trace) (step : Step) (c : List ℕ) → since ≤ moment t → WasImageOf since t c → WasImageOf since (after step t) c
