-- Names in scope, one by one.
use Rattle.std.proofs.Common.{◌≡◌, ℕ, zero, suc, ◌<◌, ◌≤◌, refl, arith, true, false, List, [], ◌∷◌, ◌++◌, length, take, get_or}
use Rattle.std.specs.Prelude.{replicate, bytes_eq, Ok, Err}
use Rattle.fz_frac.specs.Distance.{none, one}
use Rattle.fz_ast.proofs.Arenas.{grows_at, grows_length}
use Rattle.fz_ast.specs.Names.{name_of}
use Rattle.fz_ast.specs.Terms.{Name}
use Rattle.fz_ast.specs.Types.{Ty}
use Rattle.fz_ast.specs.TypeNodes.{type_at}
use Rattle.fz_ast.specs.Arena.{Grows}
use Rattle.fz_ast.specs.declared.span.Span.{Span}
use Rattle.linear_types.proofs.Alike.{alike_refl}
use Rattle.linear_types.specs.Places.{distances}
use Rattle.linear_types.specs.Rule.{var_rule}
use Rattle.linear_types.specs.Typing.{Under}
use Rattle.linear_types.specs.Inferred.{Has, Untyped, Unbound}
use Rattle.typing_rows.specs.Says.{Says}
use Rattle.sensitivity_check.specs.Scope.{context_in, AllInScope, HasKnownTypes, IsUnbound, IsInnermost}
use Rattle.typing_rows.specs.declared.clause.Judged.{Judged}
use Rattle.typing_rows.specs.declared.clause.RowFault.TheVariants.{Unbound as NotBound}
use Rattle.sensitivity_check.specs.declared.scope.Bound.{Bound}

pub unbound_take : (x : Name) (bs : List Bound) (i : ℕ) (b : Bound) → i < length bs → bytes_eq (name_of (get_or bs i b).name) x ≡ false → IsUnbound x (take i bs) → IsUnbound x (take (suc i) bs)
unbound_take x [] i b l e h = tt
unbound_take x (c ∷ bs) zero b l e h = (e, tt)
unbound_take x (c ∷ bs) (suc i) b l e h = (h.0, unbound_take x bs i b (omega (arith, l)) e h.1)

pub innermost_at : (x : Name) (bs : List Bound) (i : ℕ) (b : Bound) → i < length bs → bytes_eq (name_of (get_or bs i b).name) x ≡ true → IsUnbound x (take i bs) → IsInnermost x bs i
innermost_at x [] i b l e h = absurd (omega (arith, l))
innermost_at x (c ∷ bs) zero b l e h = e
innermost_at x (c ∷ bs) (suc i) b l e h = (h.0, innermost_at x bs i b (omega (arith, l)) e h.1)

pub var_unbound : (s : Span) (T : List Ty) (bs : List Bound) (x : Name) → IsUnbound x bs → var_rule s (context_in T bs) x ≡ Untyped (Unbound s)
var_unbound s T [] x h = refl
var_unbound s T (b ∷ bs) x h = rw (h.0, var_unbound s T bs x h.1) refl

pub var_bound : (s : Span) (T : List Ty) (bs : List Bound) (x : Name) (i : ℕ) (d : Bound) → IsInnermost x bs i → var_rule s (context_in T bs) x ≡ Has (type_at T (get_or bs i d).ty) (replicate i none ++ one ∷ [])
var_bound s T [] x i d h = absurd h
var_bound s T (b ∷ bs) x zero d h = rw h refl
var_bound s T (b ∷ bs) x (suc i) d h = rw (h.0, var_bound s T bs x i d h.1) refl

pub innermost_below : (x : Name) (bs : List Bound) (i : ℕ) → IsInnermost x bs i → i < length bs
innermost_below x [] i h = absurd h
innermost_below x (b ∷ bs) zero h = omega arith
innermost_below x (b ∷ bs) (suc i) h = let k = innermost_below x bs i h.1 in omega arith

pub in_scope_at : (T : List Ty) (bs : List Bound) (i : ℕ) (d : Bound) → AllInScope T bs → i < length bs → (get_or bs i d).ty < length T
in_scope_at T [] i d h l = absurd (omega (arith, l))
in_scope_at T (b ∷ bs) zero d h l = h.0
in_scope_at T (b ∷ bs) (suc i) d h l = in_scope_at T bs i d h.1 (omega (arith, l))

all_grow : (T U : List Ty) → length T ≤ length U → (bs : List Bound) → AllInScope T bs → AllInScope U bs
all_grow T U g [] h = tt
all_grow T U g (b ∷ bs) h = (let k = h.0 in omega arith, all_grow T U g bs h.1)

pub scope_grows : (T U : List Ty) (bs : List Bound) → Grows T U → HasKnownTypes T bs → HasKnownTypes U bs
scope_grows T U bs g h = record { all = all_grow T U (grows_length T U g) bs h.all }

context_same : (T U : List Ty) (bs : List Bound) → Grows T U → AllInScope T bs → context_in U bs ≡ context_in T bs
context_same T U [] g h = refl
context_same T U (b ∷ bs) g h = let e = grows_at T U b.ty h.0 g in let f = context_same T U bs g h.1 in rw (e, f) refl

-- the same names in a larger arena
pub context_grows : (T U : List Ty) (bs : List Bound) → Grows T U → HasKnownTypes T bs → context_in U bs ≡ context_in T bs
context_grows T U bs g h = context_same T U bs g h.all

pub scope_under : (T : List Ty) (bs cs : List Bound) (b : Bound) → cs ≡ b ∷ bs → b.ty < length T → HasKnownTypes T bs → HasKnownTypes T cs
scope_under T bs cs b e k h = rw e (record { all = (k, h.all) })

-- what looking a name up answers
pub says_unbound : (s : Span) (T : List Ty) (bs : List Bound) (x : Name) → IsUnbound x bs → Says T (Err (NotBound s)) (var_rule s (context_in T bs) x)
says_unbound s T bs x h = rw (var_unbound s T bs x h) refl

pub says_bound : (s : Span) (T : List Ty) (bs : List Bound) (x : Name) (i : ℕ) (d : Bound) (j : Judged) → HasKnownTypes T bs → IsInnermost x bs i → j.ty ≡ (get_or bs i d).ty → distances j.amounts.items ≡ replicate i none ++ one ∷ []
    → Says T (Ok j) (var_rule s (context_in T bs) x)
says_bound s T bs x i d j k h t e =
    rw (var_bound s T bs x i d h) (record { known = rw t (in_scope_at T bs i d k.all (innermost_below x bs i h)); is = rw t refl; alike = rw e (alike_refl (replicate i none ++ one ∷ [])) })

-- the scope inside one more name, in a larger arena
pub context_under : (T U : List Ty) (bs cs : List Bound) (b : Bound) → Grows T U → HasKnownTypes T bs → cs ≡ b ∷ bs → context_in U cs ≡ Under (name_of b.name) (type_at U b.ty) (context_in T bs)
context_under T U bs cs b g h e = let k = context_grows T U bs g h in rw (e, k) refl
