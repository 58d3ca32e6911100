-- Short terms for worked examples: the parts of a term stand at spans 1, 2 and 3, a written type at 4, and the whole at 0.
use Rattle.std.specs.Prelude.{ℕ, codes, pos, ◌+◌}
use Rattle.fz_ast.specs.Terms.{Name, NumE, Term, TermForm, TextE, TimesE, VarE, at}
use Rattle.fz_ast.specs.Types.{NumT, Ty}
use Rattle.fz_ast.specs.declared.span.Span.{Span}
use Rattle.fz_frac.specs.Distance.{Distance, Fin}
use Rattle.linear_types.specs.Typing.{Closed, Context, Under}

abbrev pub x : Name
x = codes "x"

abbrev pub y : Name
y = codes "y"

abbrev pub n : Name
n = codes "n"

-- x in scope
abbrev pub given : Ty → Context
given A = Under x A Closed

-- x in scope, and a number n after it
abbrev pub given_and_n : Ty → Context
given_and_n A = Under x A (Under n NumT Closed)

abbrev pub span : ℕ → Span
span k = record { from = k; to = k + 1 }

abbrev pub whole : TermForm → Term
whole f = at (span 0) f

abbrev pub part : ℕ → TermForm → Term
part k f = at (span k) f

abbrev pub var : ℕ → Name → Term
var k v = part k (VarE v)

-- a name that is in no scope
abbrev pub missing : ℕ → Term
missing k = var k (codes "z")

abbrev pub a_number : ℕ → Term
a_number k = part k (NumE (pos 7))

abbrev pub a_text : ℕ → Term
a_text k = part k (TextE (codes "a"))

-- m * v
abbrev pub times : ℕ → ℕ → Name → Term
times k m v = part k (TimesE (pos m) (var 9 v))

abbrev pub whole_number : ℕ → Distance
whole_number m = Fin m 1
