use Rattle.std.proofs.Common.{rules}
use Rattle.std.specs.Cmp.Lexicographic.{slice_cmp}
use Rattle.std.specs.Ordering.{nat_cmp}
use Rattle.std.proofs.lemmas.Fn.{always_returns_same}
use Rattle.fz_ast.specs.Names.{name_of}
use Rattle.derivation_lines.specs.declared.line.Said.{Said}
use Rattle.derivation_lines.proofs.Says.{halved}
use Rattle.derivation_lines.proofs.line.Line.place_of.Goals as goal

-- the closure compares a said name with this one
pub returns : goal.returns
returns c =
    let facts = c.binary_search_by.ensures in
    let by_name = facts.position (λ (s : Said). slice_cmp nat_cmp (name_of s.name) (name_of c.args.name.now))
    (always_returns_same _ _ _ (λ a r g called. search rules)) in
    rw (← c.deref.ensures.value) (halved _ _ _ (rw c.deref.ensures.value c.args.self.now.order) facts.bound by_name)
