-- The plans of worked programs.
use Rattle.std.proofs.Common.{refl}
use Rattle.metric_law.specs.Worked.{span, counted, filtered_and_mapped}
use Rattle.shape_law.specs.Shapes.{Wide}
use Rattle.shape_law.specs.Walk.{TooWide, depth_limit}
use Rattle.shape_law.specs.Worked.{PassesLimit, Plans, WalksTooMuch, doubled, doubled_and_nested, nested, nested_and_doubled, united}

pub counted_plan : Plans counted 2 2 1 1 2
unfolding depth_limit
counted_plan = (Wide 0 0 0, refl)

pub filtered_plan : Plans filtered_and_mapped 12 5 1 1 4
unfolding depth_limit
filtered_plan = (Wide 0 0 0, refl)

pub six_plan : Plans (doubled 6) 26 8 64 1 8
unfolding depth_limit
six_plan = (Wide 0 0 0, refl)

pub seven_plan : PassesLimit (doubled 7) (TooWide (span 0 1) 128)
unfolding depth_limit
seven_plan = refl

pub six_nested_plan : Plans (nested 6) 38 9 1 64 14
unfolding depth_limit
six_nested_plan = (Wide 0 0 0, refl)

pub seven_nested_plan : WalksTooMuch (nested 7)
unfolding depth_limit
seven_nested_plan = refl

pub three_united_plan : Plans (united 3) 32 8 2 41 10
unfolding depth_limit
three_united_plan = (Wide 0 0 0, refl)

pub four_united_plan : WalksTooMuch (united 4)
unfolding depth_limit
four_united_plan = refl

pub wide_behind : PassesLimit (nested_and_doubled 7 7) (TooWide (span 0 1) 128)
unfolding depth_limit
wide_behind = refl

pub wide_before : PassesLimit (doubled_and_nested 7 7) (TooWide (span 0 1) 128)
unfolding depth_limit
wide_before = refl

pub walks_before : WalksTooMuch (nested_and_doubled 7 6)
unfolding depth_limit
walks_before = refl

pub walks_behind : WalksTooMuch (doubled_and_nested 6 7)
unfolding depth_limit
walks_behind = refl
