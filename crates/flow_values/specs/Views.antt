-- What the code's values and scopes stand for.
use Rattle.std.specs.Prelude.{◌≡◌, ◌<◌, ◌+◌, ◌++◌, ℕ, suc, max, Bool, IsTrue, List, Option, [], ◌∷◌, length, ⊤}
use Rattle.fz_ast.specs.Names.{name_of, text_of}
use Rattle.fz_ast.specs.Terms.{FnE, FunE, Name, Term, at}
use Rattle.fz_ast.specs.TermNodes.{term_at}
use Rattle.fz_ast.specs.Types.{Ty}
use Rattle.fz_ast.specs.declared.span.Span.{Span}
use Rattle.metric_values.specs.Values.{Flat, TextF, Value, NumV, TextV, UnitV, PairV, InlV, InrV, BangV, BagV, FunV, FnV, Env, Empty, Bind, truth, value_of}
use Rattle.metric_values.specs.Cells.{cell_at, columns_in, from_column, row_at}
use Rattle.run_values.specs.Parts.{IsPair, first_in, second_in}
use Rattle.flow_values.specs.Depths.{stage_deep}
use Rattle.flow_values.specs.Held.{Held, HeldChain, HeldScope}
use Rattle.flow_values.specs.Steps.{AllGo, AreAllMaps, Step, all_through}
use Rattle.flow_values.specs.declared.value.Closure.{Closure}
use Rattle.flow_values.specs.declared.value.End.{End}
use Rattle.flow_values.specs.declared.value.End.TheVariants.{Rows, After}
use Rattle.flow_values.specs.declared.value.Form.{Form}
use Rattle.flow_values.specs.declared.value.Form.TheVariants.{Num, Text, Unit as One, Truth, Pair, Inl, Inr, Bang, Row, Cell, Bag, Fun}
use Rattle.flow_values.specs.declared.value.Joint.{Joint}
use Rattle.flow_values.specs.declared.value.Link.{Link}
use Rattle.flow_values.specs.declared.value.Link.TheVariants.{End as NoName, More, Halves, Element, Opened}
use Rattle.flow_values.specs.declared.value.Stage.{Stage}
use Rattle.flow_values.specs.declared.value.Strand.{Strand}

-- the bytes of a text
abbrev pub text_bytes : Flat → List ℕ
text_bytes (TextF s) = s
text_bytes x = []

-- the table has a text at this row and column
pub record IsTextCell (rows : List Flat) (i k : ℕ) : Type 0 where
  pub row : i < length rows
  pub column : k < columns_in (row_at rows i)
  pub text : cell_at k (row_at rows i) ≡ TextF (text_bytes (cell_at k (row_at rows i)))

-- the row has a column behind this one
pub record IsRowPart (rows : List Flat) (i k : ℕ) : Type 0 where
  pub row : i < length rows
  pub column : suc k < columns_in (row_at rows i)

-- a function with what its names stand for
abbrev pub function_of : Term → Env → Value
function_of (at s (FunE x u t e)) γ = FunV x e γ
function_of (at s (FnE x u t e)) γ = FnV x e γ
function_of t γ = FnV [] t γ

pub data IsFunction : Term → Type 0 where
  is_fun : {s : Span} {x : Name} {u : Span} {t : Ty} {e : Term} → IsFunction (at s (FunE x u t e))
  is_fn : {s : Span} {x : Name} {u : Span} {t : Ty} {e : Term} → IsFunction (at s (FnE x u t e))

abbrev pub closure_value : Closure → Value
closure_value c = function_of (term_at c.nodes.value.terms c.lambda) c.scope.means

-- a closure's node is a function's
pub record IsKnown (c : Closure) : Type 0 where
  pub known : c.lambda < length c.nodes.value.terms
  pub function : IsFunction (term_at c.nodes.value.terms c.lambda)

abbrev pub step_by : Closure → ℕ → Option Bool → Step
step_by c l k = record { function = closure_value c; left = l; keeps = k }

abbrev pub step_of : Stage → Step
step_of s = step_by s.function.value s.left s.keeps

abbrev pub steps_of : List Stage → List Step
steps_of [] = []
steps_of (s ∷ ss) = step_of s ∷ steps_of ss

abbrev pub AllKnown : List Stage → Type 0
AllKnown [] = ⊤
AllKnown (s ∷ ss) = IsKnown s.function.value × AllKnown ss

-- how deep a bag is held behind these stages, that is held d deep before them
abbrev pub stages_deep : ℕ → List Stage → ℕ
stages_deep d [] = d
stages_deep d (s ∷ ss) = stages_deep (stage_deep s.function.value.scope.deep d s.left) ss

-- the steps before, and one more
abbrev pub joint_steps : Joint → List Step
joint_steps j = j.before.steps ++ step_by j.function.value j.left j.keeps ∷ []

abbrev pub end_view : End → HeldChain
end_view Rows = record { steps = []; deep = 0 }
end_view (After p) =
    record {
      steps = joint_steps p.value;
      deep = stage_deep p.value.function.value.scope.deep p.value.before.deep p.value.left;
    }

-- its node is a function, and where it says so, no step leaves elements out
pub record IsJoint (j : Joint) : Type 0 where
  pub known : IsKnown j.function.value
  pub maps : IsTrue j.maps → AreAllMaps (joint_steps j)

abbrev pub IsChainEnd : End → Type 0
IsChainEnd Rows = ⊤
IsChainEnd (After p) = IsJoint p.value

-- the elements of all strands
abbrev pub flow_of : List Strand → List Flat
flow_of [] = []
flow_of (s ∷ ss) = all_through s.chain.steps s.table.value ++ flow_of ss

-- for each row the functions of the stages give something
abbrev pub IsFlow : List Strand → Type 0
IsFlow [] = ⊤
IsFlow (s ∷ ss) = AllGo s.chain.steps s.table.value × IsFlow ss

abbrev pub strands_deep : List Strand → ℕ
strands_deep [] = 0
strands_deep (s ∷ ss) = max s.chain.deep (strands_deep ss)

-- without anything inside that is deep
abbrev pub flat_held : Value → Held
flat_held v = record { means = v; deep = 0 }

abbrev pub form_view : Form → Held
form_view (Num z) = flat_held (NumV z)
form_view (Text s) = flat_held (TextV (text_of s.value))
form_view One = flat_held UnitV
form_view (Truth b) = flat_held (truth b)
form_view (Pair p) = record { means = PairV p.value.first.means p.value.second.means; deep = suc (max p.value.first.deep p.value.second.deep) }
form_view (Inl p) = record { means = InlV p.value.means; deep = suc p.value.deep }
form_view (Inr p) = record { means = InrV p.value.means; deep = suc p.value.deep }
form_view (Bang p) = record { means = BangV p.value.means; deep = suc p.value.deep }
form_view (Row k i t) = flat_held (PairV (value_of (cell_at k (row_at t.value i))) (value_of (from_column (suc k) (row_at t.value i))))
form_view (Cell k i t) = flat_held (TextV (text_bytes (cell_at k (row_at t.value i))))
form_view (Bag p) = record { means = BagV (flow_of p.value.strands.items); deep = suc (strands_deep p.value.strands.items) }
form_view (Fun p) = record { means = closure_value p.value; deep = suc p.value.scope.deep }

-- parts of tables are there, a closure's node is a function, and a bag can be walked
abbrev pub IsValueForm : Form → Type 0
IsValueForm (Row k i t) = IsRowPart t.value i k
IsValueForm (Cell k i t) = IsTextCell t.value i k
IsValueForm (Bag p) = IsFlow p.value.strands.items
IsValueForm (Fun p) = IsKnown p.value
IsValueForm form = ⊤

-- a name is two deeper than what it stands for and the names outside, so that two names are deeper than the pair of what they stand for.
-- Several names in one frame are as deep as if each had its own
abbrev pub scope_deep : ℕ → ℕ → ℕ
scope_deep v s = suc (suc (max v s))

abbrev pub link_view : Link → HeldScope
link_view NoName = record { means = Empty; deep = 0 }
link_view (More p) =
    record { means = Bind (name_of p.value.name) p.value.value.means p.value.outer.means; deep = scope_deep p.value.value.deep p.value.outer.deep }
link_view (Halves p) =
    record {
      means = Bind (name_of p.value.second) (second_in p.value.pair.means) (Bind (name_of p.value.first) (first_in p.value.pair.means) p.value.outer.means);
      deep = scope_deep p.value.pair.deep p.value.outer.deep + 2;
    }
link_view (Element p) =
    record { means = Bind (name_of p.value.name) p.value.value.means p.value.outer.means; deep = scope_deep p.value.value.deep p.value.outer.deep }
link_view (Opened p) =
    record {
      means =
          Bind (name_of p.value.second) (second_in p.value.value.means)
          (Bind (name_of p.value.first) (first_in p.value.value.means) (Bind (name_of p.value.name) p.value.value.means p.value.outer.means));
      deep = scope_deep p.value.value.deep p.value.outer.deep + 4;
    }

-- two names are for the halves of a pair
abbrev pub IsScopeLink : Link → Type 0
IsScopeLink (Halves p) = IsPair p.value.pair.means
IsScopeLink (Opened p) = IsPair p.value.value.means
IsScopeLink link = ⊤

-- the value is this function
pub record IsClosureAt (c : Closure) (v : Value) : Type 0 where
  pub is : v ≡ closure_value c
  pub known : IsKnown c
