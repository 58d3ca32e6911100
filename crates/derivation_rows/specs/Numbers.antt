-- A rule's number at one name. There is none where a product, quotient or sum of it is out of range.
use Rattle.std.specs.Prelude.{cond, Option, Some, None, bytes_eq}
use Rattle.fz_frac.specs.Distance.{Distance, Inf, none, one, add, mul, greater}
use Rattle.fz_frac.specs.Lowest.{is_out}
use Rattle.fz_ast.specs.Terms.{Name}
use Rattle.derivation_lines.specs.Lines.{Line, amount_in}

-- a number for each name, as lines say them
abbrev pub Amounts : Type 0
Amounts = Name → Distance

-- a number for each name, as a rule makes them
abbrev pub Numbers : Type 0
Numbers = Name → Option Distance

abbrev pub says_at : Line → Amounts
says_at l = amount_in l.says

-- without the name x, which is bound here
abbrev pub without : Name → Amounts → Amounts
without x D y = cond (bytes_eq x y) none (D y)

-- the greater of two at each name
abbrev pub greater_at : Amounts → Amounts → Amounts
greater_at D E x = greater (D x) (E x)

-- a number, where it is in range
abbrev pub ranged : Distance → Option Distance
ranged d = cond (is_out d) None (Some d)

-- a + b
abbrev pub sum_of : Distance → Distance → Option Distance
sum_of a b = ranged (add a b)

-- r a
abbrev pub product_of : Distance → Distance → Option Distance
product_of r a = ranged (mul r a)

abbrev pub with_number : Option Distance → (Distance → Option Distance) → Option Distance
with_number None f = None
with_number (Some d) f = f d

-- 0
abbrev pub nothing : Numbers
nothing x = Some none

-- 1 at y
abbrev pub named : Name → Numbers
named y x = Some (cond (bytes_eq y x) one none)

-- D
abbrev pub same_as : Amounts → Numbers
same_as D x = Some (D x)

-- D + E
abbrev pub sums : Amounts → Amounts → Numbers
sums D E x = sum_of (D x) (E x)

-- r D
abbrev pub products : Distance → Amounts → Numbers
products r D x = product_of r (D x)

-- D + r E
abbrev pub bound_sums : Amounts → Distance → Amounts → Numbers
bound_sums D r E x = with_number (product_of r (E x)) (λ p. sum_of (D x) p)

-- inf D + E
abbrev pub endless_sums : Amounts → Amounts → Numbers
endless_sums D E x = with_number (product_of Inf (D x)) (λ p. sum_of p (E x))

-- inf D + inf E
abbrev pub endless_both : Amounts → Amounts → Numbers
endless_both D E x = with_number (product_of Inf (D x)) (λ p. with_number (product_of Inf (E x)) (λ q. sum_of p q))
