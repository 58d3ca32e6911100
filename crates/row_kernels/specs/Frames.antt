-- Frames as a list.
use Rattle.std.specs.Prelude.{List, [], ◌∷◌}
use Rattle.row_kernels.specs.declared.frames.Frame.{Frame}
use Rattle.row_kernels.specs.declared.frames.Link.{Link}
use Rattle.row_kernels.specs.declared.frames.Link.TheVariants.{End, More}

-- the innermost first
abbrev pub frames_of : Link → List Frame
frames_of End = []
frames_of (More p) = p.value.frame ∷ p.value.outside
