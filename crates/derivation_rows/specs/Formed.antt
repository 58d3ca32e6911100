-- The row of each form that a program's nodes have: ty(i) is the written type number i, and a, b and c are the parts' lines, as many as it has.
use Rattle.std.specs.Prelude.{ℕ, ◌<◌, Option, ⊤}
use Rattle.fz_frac.specs.Sens.{distance_of}
use Rattle.fz_ast.specs.Names.{name_of}
use Rattle.fz_ast.specs.Types.{Ty, NumT, TextT, UnitT}
use Rattle.fz_ast.specs.declared.term.Form.{Form}
use Rattle.fz_ast.specs.declared.term.Form.TheVariants.{Var, Num, Text, Unit as One, Unary as Op, Binary as Op2, Times, Ranged as Bounded}
use Rattle.fz_ast.specs.declared.term.Form.TheVariants.{Inject, Bang, Let, LetBang, LetPair, If, Case, Lambda}
use Rattle.term_meanings.specs.Scopes.{Context}
use Rattle.derivation_rows.specs.Groups.{unary_row, binary_row, ranged_row, inject_row, lambda_row}
use Rattle.derivation_lines.specs.Lines.{Line}
use Rattle.derivation_rows.specs.Rows.{Row, var_row, type_in, leaf_row, times_row, bang_row, let_row, let_bang_row, let_pair_row, if_row, case_row}
use Rattle.derivation_rows.specs.declared.rows.Places.{Places}

abbrev pub form_row : (ℕ → Ty) → Context → Form → Line → Line → Line → Option Row
form_row ty Γ (Var x) a b c = var_row (name_of x) (type_in Γ (name_of x))
form_row ty Γ (Num z) a b c = leaf_row NumT
form_row ty Γ (Text t) a b c = leaf_row TextT
form_row ty Γ One a b c = leaf_row UnitT
form_row ty Γ (Op o d) a b c = unary_row o a
form_row ty Γ (Op2 o d e) a b c = binary_row o a b
form_row ty Γ (Times k d) a b c = times_row k a
form_row ty Γ (Bounded o lo hi d) a b c = ranged_row o lo hi a
form_row ty Γ (Inject o u t d) a b c = inject_row o (ty t) a
form_row ty Γ (Bang r d) a b c = bang_row (distance_of r) a
form_row ty Γ (Let x d e) a b c = let_row (name_of x) a b
form_row ty Γ (LetBang x d e) a b c = let_bang_row (name_of x) a b
form_row ty Γ (LetPair x y d e) a b c = let_pair_row (name_of x) (name_of y) a b
form_row ty Γ (If d e f) a b c = if_row a b c
form_row ty Γ (Case d x e y f) a b c = case_row (name_of x) (name_of y) a b c
form_row ty Γ (Lambda o x u t d) a b c = lambda_row o (name_of x) (ty t) a

-- the places of as many lines as it has parts are below n
abbrev pub ArePlaced : ℕ → Form → Places → Type 0
ArePlaced n (Var x) p = ⊤
ArePlaced n (Num z) p = ⊤
ArePlaced n (Text t) p = ⊤
ArePlaced n One p = ⊤
ArePlaced n (Op o d) p = p.first < n
ArePlaced n (Op2 o d e) p = (p.first < n) × (p.second < n)
ArePlaced n (Times k d) p = p.first < n
ArePlaced n (Bounded o lo hi d) p = p.first < n
ArePlaced n (Inject o u t d) p = p.first < n
ArePlaced n (Bang r d) p = p.first < n
ArePlaced n (Let x d e) p = (p.first < n) × (p.second < n)
ArePlaced n (LetBang x d e) p = (p.first < n) × (p.second < n)
ArePlaced n (LetPair x y d e) p = (p.first < n) × (p.second < n)
ArePlaced n (If d e f) p = (p.first < n) × (p.second < n) × (p.third < n)
ArePlaced n (Case d x e y f) p = (p.first < n) × (p.second < n) × (p.third < n)
ArePlaced n (Lambda o x u t d) p = p.first < n
