-- What the walk over a term's nodes needs, and what it looks at.
use Rattle.std.specs.Prelude.{ℕ, ◌≤◌, ◌<◌, List, length, Option, Some, cond}
use Rattle.fz_ast.specs.TermNodes.{term_at}
use Rattle.fz_ast.specs.Types.{Ty}
use Rattle.term_meanings.specs.Scopes.{Context}
use Rattle.derivation_rows.specs.Faults.{fault_in}
use Rattle.fz_derive.specs.Judged.{is_bounded}
use Rattle.derivation_lines.specs.Lines.{line_at}
use Rattle.derivation_rows.specs.Nodes.{nodes_of}
use Rattle.derivation_rows.specs.Scoped.{context_in}
use Rattle.derivation_rows.specs.Viewed.{IsView, lines_seen}
use Rattle.fz_derive.specs.Walked.{AreSizes, most_counted}
use Rattle.derivation_rows.specs.declared.scope.Bound.{Bound}
use Rattle.fz_derive.specs.declared.walk.Walk.{Walk}

pub record IsWalk (w : Walk) : Type 0 where
  pub view : IsView w.view
  pub sizes : AreSizes w.view.nodes.now.terms w.sizes.now
  pub known : length w.sizes.now ≤ length w.view.nodes.now.terms
  pub few : length w.view.lines.now < most_counted

-- the names in scope
abbrev pub names_seen : Walk → List Bound → Context
names_seen w scope = context_in w.view.arena.now scope

-- how many nodes term number i has
abbrev pub nodes_seen : Walk → ℕ → ℕ
nodes_seen w i = nodes_of (term_at w.view.nodes.now.terms i)

-- the least fault of term number i, whose lines begin with line k
abbrev pub fault_seen : Walk → Context → ℕ → ℕ → Option ℕ
fault_seen w Γ i k = fault_in (lines_seen w.view) Γ (term_at w.view.nodes.now.terms i) k

-- the type of line k
abbrev pub type_seen : Walk → ℕ → Ty
type_seen w k = (line_at (lines_seen w.view) k).ty

-- and that of a whole program, which must be bounded
abbrev pub program_fault : Walk → Context → ℕ → Option ℕ
program_fault w Γ i = cond (is_bounded (line_at (lines_seen w.view) 0)) (fault_seen w Γ i 0) (Some 0)
