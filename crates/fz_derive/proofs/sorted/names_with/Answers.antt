use Rattle.std.proofs.Common.{◌∙◌, ◌++◌, List, ap, take}
use Rattle.fz_ast.specs.Names.{name_of}
use Rattle.fz_ast.specs.declared.name.Name.{Name}
use Rattle.fz_derive.proofs.Putting.{put_kept}
use Rattle.fz_derive.proofs.sorted.names_with.Goals as goal

pub returns : goal.returns
returns c =
    put_kept (name_of c.args.x) c.args.names.now c.extend_from_slice.new.self.items c.put_here.new.out.items c.names_before-at.result c.names_before-at.ensures (c.in_ok-extend_from_slice.ensures.items ∙ ap (λ (z : List Name). z ++ take c.names_before-at.result c.args.names.now) c.new-out.ensures.items)
    c.in_ok-put_here.ensures
