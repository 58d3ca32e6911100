-- Tables in scope, one by one.
use Rattle.std.proofs.Common.{◌≡◌, ℕ, ◌+◌, ◌<◌, ◌≤◌, arith, refl, ap, ◌∙◌, List, [], ◌∷◌, ◌++◌, length, take, Some}
use Rattle.std.specs.Prelude.{slice_get}
use Rattle.std.proofs.lemmas.List.{take_more}
use Rattle.std.proofs.lemmas.Option.{slice_get_within, get_or_from_slice_get}
use Rattle.fz_ast.specs.Names.{name_of}
use Rattle.fz_ast.specs.Signature.{IsSignature, Signature, TableType, table_type}
use Rattle.fz_ast.specs.Tables.{table_of}
use Rattle.fz_ast.specs.declared.sig.TableType.{TableType as Table}
use Rattle.fz_ast.specs.Types.{Ty}
use Rattle.fz_ast.specs.TypeNodes.{type_at}
use Rattle.fz_ast.specs.Arena.{Grows}
use Rattle.term_meanings.specs.Scopes.{Context, Closed, Under}
use Rattle.derivation_lines.specs.Interned.{IsNumberOf}
use Rattle.fz_derive.specs.Judged.{names_of}
use Rattle.derivation_rows.specs.Scoped.{context_in, AllInScope, HasKnownTypes}
use Rattle.derivation_rows.specs.declared.scope.Bound.{Bound}
use Rattle.derivation_rows.proofs.Scopes.{scope_grows, context_grows}

-- the names of Δ outside those of Γ
inside : Context → Context → Context
inside Closed Δ = Δ
inside (Under x A Γ) Δ = Under x A (inside Γ Δ)

context_push : (T : List Ty) (bs : List Bound) (b : Bound) → context_in T (bs ++ b ∷ []) ≡ inside (context_in T bs) (Under (name_of b.name) (type_at T b.ty) Closed)
unfolding inside
context_push T [] b = refl
context_push T (c ∷ bs) b = ap (Under (name_of c.name) (type_at T c.ty)) (context_push T bs b)

names_push : (ts : Signature) (t : TableType) → names_of (ts ++ t ∷ []) ≡ inside (names_of ts) (Under t.name (table_type t) Closed)
unfolding inside
names_push [] t = refl
names_push (u ∷ ts) t = ap (Under u.name (table_type u)) (names_push ts t)

all_push : (T : List Ty) (bs : List Bound) (b : Bound) → AllInScope T bs → b.ty < length T → AllInScope T (bs ++ b ∷ [])
all_push T [] b h l = (l, tt)
all_push T (c ∷ bs) b h l = (h.0, all_push T bs b h.1 l)

-- the first tables are the names in scope
pub record AreTables (T : List Ty) (scope : List Bound) (ts : Signature) : Type 0 where
  pub scoped : HasKnownTypes T scope
  pub are : context_in T scope ≡ names_of ts

pub no_tables : (T : List Ty) → AreTables T [] []
no_tables T = record { scoped = record { all = tt }; are = refl }

pub one_table_more : (T U : List Ty) (scope : List Bound) (ts : Signature) (i : ℕ) (b : Bound) (t : Table) → Grows T U → slice_get ts i ≡ Some (table_of t) → b.name ≡ t.name → IsNumberOf U b.ty (table_type (table_of t))
    → AreTables T scope (take i ts) → AreTables U (scope ++ b ∷ []) (take (i + 1) ts)
one_table_more T U scope ts i b t g e n k h =
    let f : take (i + 1) ts ≡ take i ts ++ table_of t ∷ [] = take_more ts i (table_of t) (slice_get_within ts i (table_of t) e) ∙ ap (λ u. take i ts ++ u ∷ []) (get_or_from_slice_get ts i (table_of t) (table_of t) e) in
    let s = context_grows T U scope g h.scoped ∙ h.are in
    record {
      scoped = record { all = all_push U scope b (scope_grows T U scope g h.scoped).all k.known };
      are = rw (f, context_push U scope b, names_push (take i ts) (table_of t), s, n, k.is) refl;
    }

-- what any table tells of the signature holds of an empty one too
pub signed : (ts : Signature) (i : ℕ) → (0 < i → IsSignature ts) → length ts ≤ i → IsSignature ts
signed [] i h l = tt
signed (t ∷ ts) i h l = h (omega (arith, l))
