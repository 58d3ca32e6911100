-- What a derivation is judged to be: the greatest of what its first line says, or the least line at fault.
use Rattle.std.specs.Prelude.{◌≡◌, Bool, true, false, cond, ◌&&◌, not, ℕ, List, [], ◌∷◌, length, Option, Some, None, ◌⊎◌}
use Rattle.fz_frac.specs.Distance.{Distance, Fin, Inf, none, greater}
use Rattle.fz_ast.specs.Signature.{Signature, table_type}
use Rattle.fz_ast.specs.Terms.{Term}
use Rattle.fz_ast.specs.Types.{NumT, same_type}
use Rattle.term_meanings.specs.Scopes.{Context, Closed, Under}
use Rattle.derivation_lines.specs.Lines.{Said, Line, line_at}
use Rattle.derivation_rows.specs.Nodes.{nodes_of}
use Rattle.derivation_rows.specs.Faults.{fault_in}
use Rattle.derivation_lines.specs.Texts.{AreLines, IsFaultyLine}

-- the tables are the names in scope
abbrev pub names_of : Signature → Context
names_of [] = Closed
names_of (t ∷ ts) = Under t.name (table_type t) (names_of ts)

abbrev pub is_finite : Distance → Bool
is_finite (Fin p q) = true
is_finite Inf = false

-- each amount is finite
abbrev pub are_finite : List Said → Bool
are_finite [] = true
are_finite (s ∷ ss) = is_finite s.amount && are_finite ss

-- a program is a number, and at inf in no table
abbrev pub is_bounded : Line → Bool
is_bounded l = same_type l.ty NumT && are_finite l.says

-- the greatest of what is said, and 0 where nothing is
abbrev pub greatest_said : List Said → Distance
greatest_said [] = none
greatest_said (s ∷ ss) = greater s.amount (greatest_said ss)

-- the least line whose node's rule fails; node 0's rule is also that a program is bounded
abbrev pub fault_of : Signature → Term → List Line → Option ℕ
fault_of ts e L = cond (is_bounded (line_at L 0)) (fault_in L (names_of ts) e 0) (Some 0)

-- the bytes are a line for each node, no node's rule fails, and r is the greatest of what node 0 says
pub record IsJudged (ts : Signature) (e : Term) (bytes : List ℕ) (r : Distance) : Type 0 where
  pub lines : List Line
  pub are : AreLines bytes lines
  pub all : length lines ≡ nodes_of e
  pub right : fault_of ts e lines ≡ None
  pub greatest : r ≡ greatest_said (line_at lines 0).says

-- the bytes are a line for each node, and k is the least whose rule fails
pub record IsWrongAt (ts : Signature) (e : Term) (bytes : List ℕ) (k : ℕ) : Type 0 where
  pub lines : List Line
  pub are : AreLines bytes lines
  pub all : length lines ≡ nodes_of e
  pub wrong : fault_of ts e lines ≡ Some k

-- k is the least line at fault: faults of lines come before faults of rules, wherever they stand
abbrev pub IsMisjudged : Signature → Term → List ℕ → ℕ → Type 0
IsMisjudged ts e bytes k = IsFaultyLine bytes (nodes_of e) k ⊎ IsWrongAt ts e bytes k
