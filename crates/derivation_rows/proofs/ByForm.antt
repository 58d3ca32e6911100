-- What is known of a node's form, at the form that it is, and the row of its parts' lines.
use Rattle.std.proofs.Common.{◌≡◌, ℕ, List, length, Option}
use Rattle.fz_ast.specs.Parts.{Parts}
use Rattle.fz_ast.specs.TermNodes.{FormLimits, IsKnown}
use Rattle.fz_ast.specs.TypeNodes.{type_at}
use Rattle.fz_ast.specs.Types.{Ty}
use Rattle.fz_ast.specs.declared.term.Form.{Form}
use Rattle.derivation_lines.specs.Lines.{Line, line_at}
use Rattle.derivation_lines.specs.declared.line.Line.{Line as Kept}
use Rattle.derivation_rows.specs.Formed.{ArePlaced, form_row}
use Rattle.derivation_rows.specs.Rows.{Row}
use Rattle.derivation_rows.specs.Ruled.{IsRow}
use Rattle.derivation_rows.specs.Scoped.{context_in}
use Rattle.derivation_rows.specs.Viewed.{lines_seen}
use Rattle.derivation_rows.specs.declared.row.Row.{Row as Ruled}
use Rattle.derivation_rows.specs.declared.rows.Places.{Places}
use Rattle.derivation_rows.specs.declared.rows.View.{View}
use Rattle.derivation_rows.specs.declared.scope.Bound.{Bound}

pub placed : (ls : List Kept) (p : Places) {f g : Form} → f ≡ g → ArePlaced (length ls) f p → ArePlaced (length ls) g p
placed ls p e h = rw e at h

pub known_as : (N : Parts) {f g : Form} → f ≡ g → IsKnown (length N.types) (length N.terms) f → IsKnown (length N.types) (length N.terms) g
known_as N e h = rw e at h

pub limits_as : {f g : Form} → f ≡ g → FormLimits f → FormLimits g
limits_as e h = rw e at h

pub as_form : (v : View) (bs : List Bound) (p : Places) (q : Option Ruled) {f g : Form} → f ≡ g
    → IsRow v.arena.now (lines_seen v) q (form_row (type_at v.nodes.now.types) (context_in v.arena.now bs) g
    (line_at (lines_seen v) p.first) (line_at (lines_seen v) p.second) (line_at (lines_seen v) p.third))
    → IsRow v.arena.now (lines_seen v) q (form_row (type_at v.nodes.now.types) (context_in v.arena.now bs) f
    (line_at (lines_seen v) p.first) (line_at (lines_seen v) p.second) (line_at (lines_seen v) p.third))
as_form v bs p q e h = rw e h

pub by_type : (T : List Ty) (L : List Line) (row : Ty → Option Row) (q : Option Ruled) {A B : Ty} → A ≡ B → IsRow T L q (row A) → IsRow T L q (row B)
by_type T L row q e h = rw e at h

pub by_one : (T : List Ty) (L : List Line) (row : Line → Option Row) (q : Option Ruled) {a b : Line} → a ≡ b → IsRow T L q (row a) → IsRow T L q (row b)
by_one T L row q e h = rw e at h

pub by_two : (T : List Ty) (L : List Line) (row : Line → Line → Option Row) (q : Option Ruled) {a b c d : Line} → a ≡ b → c ≡ d → IsRow T L q (row a c) → IsRow T L q (row b d)
by_two T L row q e f h = rw (e, f) at h

pub by_three : (T : List Ty) (L : List Line) (row : Line → Line → Line → Option Row) (q : Option Ruled) {a b c d i j : Line} → a ≡ b → c ≡ d → i ≡ j
    → IsRow T L q (row a c i) → IsRow T L q (row b d j)
by_three T L row q e f g h = rw (e, f, g) at h
