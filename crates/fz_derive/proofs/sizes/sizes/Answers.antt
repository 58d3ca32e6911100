use Rattle.std.proofs.Common.{ℕ, length, subst, sym, ◌∙◌}
use Rattle.fz_ast.specs.TermNodes.{IsKnown}
use Rattle.fz_derive.proofs.sizes.sizes.Goals as goal

pub size_of-size-requires : goal.size_of-size-requires
size_of-size-requires c =
    let T = c.args.nodes.now.types in
    (length T, subst (λ (n : ℕ). IsKnown (length T) n c.node.result.now.form) (c.len-i.ensures ∙ sym c.deref.ensures.len) c.node.ensures.known)
