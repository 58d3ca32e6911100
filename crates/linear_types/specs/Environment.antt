-- Environments: a sensitivity for each name, a name at 0 being an absent one.
use Rattle.std.specs.Prelude.{◌≡◌, true, false, cond, List, [], ◌∷◌, bytes_eq, ⊤, refl}
use Rattle.std.specs.Coded.{Coded, code_by, coded_list, coded×, coded_ℕ}
use denote.Struct.Codes.{itself}
use base.Stored.{Gv}
use Rattle.fz_frac.specs.Distance.{Distance, none, add, mul, greater, is_le, ◌≈◌}
use Rattle.fz_frac.specs.Lowest.{is_out}
use Rattle.fz_ast.specs.Codes.{distance_to, distance_from, distance_back}
use Rattle.fz_ast.specs.Limits.{IsName}
use Rattle.fz_ast.specs.Terms.{Name}
use Rattle.linear_types.specs.declared.places.EnvFault.{EnvFault}
use Rattle.linear_types.specs.declared.places.EnvFault.TheVariants.{Range, NoMemory}

pub record Amount : Type 0 where
  pub name : Name
  pub r : Distance

abbrev pub Amounts : Type 0
Amounts = List Amount

-- the sensitivity to x
abbrev pub amount_of : Amounts → Name → Distance
amount_of [] x = none
amount_of (a ∷ E) x = cond (bytes_eq a.name x) a.r (amount_of E x)

abbrev pub IsAbsent : Name → Amounts → Type 0
IsAbsent x [] = ⊤
IsAbsent x (a ∷ E) = (bytes_eq a.name x ≡ false) × IsAbsent x E

-- names are short and distinct, and none is at 0
abbrev pub IsEnvironment : Amounts → Type 0
IsEnvironment [] = ⊤
IsEnvironment (a ∷ E) = IsName a.name × IsAbsent a.name E × (is_le a.r none ≡ false) × IsEnvironment E

-- E has r at x, and elsewhere what D has
abbrev pub IsSet : Amounts → Name → Distance → Amounts → Type 0
IsSet D x r E = (y : Name) → amount_of E y ≡ cond (bytes_eq x y) r (amount_of D y)

-- each name's number is in range
abbrev pub IsInRange : Amounts → Type 0
IsInRange E = (x : Name) → is_out (amount_of E x) ≡ false

-- D + E
abbrev pub sum_of : Amounts → Amounts → Name → Distance
sum_of D E x = add (amount_of D x) (amount_of E x)

-- max(D, E)
abbrev pub greater_of : Amounts → Amounts → Name → Distance
greater_of D E x = greater (amount_of D x) (amount_of E x)

-- r E
abbrev pub product_of : Distance → Amounts → Name → Distance
product_of r E x = mul r (amount_of E x)

-- E has at each name the number that f gives, which is in range
pub record HasEach (E : Amounts) (f : Name → Distance) : Type 0 where
  pub in_range : (x : Name) → is_out (f x) ≡ false
  pub alike : (x : Name) → amount_of E x ≈ f x

-- why there is no such E: the number of some name is out of range, or memory is wanted
abbrev pub IsCauseFor : EnvFault → (Name → Distance) → Type 0
IsCauseFor Range f = (x : Name) × (is_out (f x) ≡ true)
IsCauseFor NoMemory f = ⊤

abbrev pub distance_code : Coded Distance
distance_code = code_by Gv itself distance_to distance_from distance_back

abbrev pub amounts_code : Coded Amounts
amounts_code = coded_list (code_by (Name × Distance) (coded× (coded_list coded_ℕ) distance_code) (λ a. (a.name, a.r))
    (λ p. record { name = p.0; r = p.1 }) (λ _. refl))
