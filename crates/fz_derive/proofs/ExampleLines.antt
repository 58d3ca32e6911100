-- Short terms and lines for worked examples.
use Rattle.std.specs.Prelude.{ℕ, ◌*◌, ◌-◌, List, [], ◌∷◌, Option, codes, pos}
use Rattle.fz_ast.specs.Terms.{AppE, BangE, CaseE, ClipE, EqE, FilterE, FnE, FstE, FunE, GreatestE, IfE, InlE, InrE, LeE, LeastE, LetBangE, LetE, LetPairE, MapE, MinusE, Name, NumE, PairE, PlusE, SizeE, SndE, SplitE, SumE, Term, TermForm, TextE, TimesE, UnionE, UnitE, VarE, WithE, at}
use Rattle.fz_ast.specs.Types.{NumT, Ty}
use Rattle.fz_ast.specs.Bare.{nowhere}
use Rattle.fz_frac.specs.Distance.{Distance, Fin}
use Rattle.term_meanings.specs.Scopes.{Closed, Context, Under}
use Rattle.derivation_rows.specs.Faults.{fault_in}
use Rattle.derivation_lines.specs.Lines.{Line, Said}

abbrev pub n : Name
n = codes "n"

abbrev pub x : Name
x = codes "x"

abbrev pub y : Name
y = codes "y"

-- x in scope, and a number n outside of it
abbrev pub given : Ty → Context
given A = Under x A (Under n NumT Closed)

-- x, y and n in scope
abbrev pub given_two : Ty → Ty → Context
given_two A B = Under x A (Under y B (Under n NumT Closed))

abbrev pub term : TermForm → Term
term f = at nowhere f

abbrev pub var : Name → Term
var v = term (VarE v)

abbrev pub number : Term
number = term (NumE (pos 7))

abbrev pub says : Name → Distance → Said
says v d = record { name = v; amount = d }

-- a line that says nothing, one that says one name, and one that says two
abbrev pub quiet : Ty → Line
quiet A = record { ty = A; says = [] }

abbrev pub line : Ty → Name → Distance → Line
line A v d = record { ty = A; says = says v d ∷ [] }

abbrev pub line_two : Ty → Name → Distance → Name → Distance → Line
line_two A v d w e = record { ty = A; says = says v d ∷ says w e ∷ [] }

-- the least line at fault of a term's lines
abbrev pub fault : Context → TermForm → List Line → Option ℕ
fault Γ f L = fault_in L Γ (term f) 0

-- a little less than k
abbrev pub below : ℕ → Distance
below k = Fin (1000 * k - 1) 1000
