use Rattle.std.proofs.Common.{ap, rules, subst, sym, ◌∙◌}
use Rattle.fz_ast.specs.Names.{name_of}
use Rattle.row_kernels.specs.Frames.{frames_of}
use Rattle.row_kernels.specs.Lanes.{IsSameAt}
use Rattle.row_kernels.specs.declared.frames.Joint.{Joint}
use Rattle.row_kernels.proofs.Given.{named_here}
use Rattle.row_kernels.proofs.frames.+named.Goals as goal

pub returns-then-eq : goal.returns-then-eq
returns-then-eq t c =
    let j = c.in-More.joint.value in
    named_here c.args.frames.now j.frame j.outside c.args.outer.now.means (name_of c.args.name.now) c.args.len c.in_ok-copy.field-0 (sym c.frames.view_is ∙ ap frames_of c.in-More.is) c.requires (search rules)
    (subst (λ (k : Joint). IsSameAt c.in_ok-copy.field-0 k.frame.lanes) c.deref-then-eq.ensures c.in_ok-copy.ensures)
