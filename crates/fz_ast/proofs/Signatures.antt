-- Tables of distinct names.
use Rattle.std.proofs.Common.{◌≡◌, ℕ, zero, suc, ◌+◌, ◌<◌, refl, sym, arith, Bool, true, false, List, [], ◌∷◌, ◌++◌, length, get_or, take, subst, add-one}
use Rattle.std.specs.Prelude.{bytes_eq}
use Rattle.std.specs.Bool.{Decides}
use Rattle.std.proofs.lemmas.Slice.Eq.{bytes_eq-Decides}
use Rattle.std.proofs.lemmas.List.{map-append}
use Rattle.fz_ast.proofs.TermNodes.{is_name}
use Rattle.fz_ast.specs.Types.{is_flat, formed, WellFormed}
use Rattle.fz_ast.specs.Limits.{IsName, TypeLimits}
use Rattle.fz_ast.specs.Names.{name_of}
use Rattle.fz_ast.specs.Terms.{Name}
use Rattle.fz_ast.specs.Signature.{TableType as Table, Signature, IsFresh, IsSignature}
use Rattle.fz_ast.specs.Tables.{table_of, signature_of}
use Rattle.fz_ast.specs.declared.sig.TableType.{TableType}

bytes_eq_sym : (xs ys : List ℕ) → bytes_eq xs ys ≡ false → bytes_eq ys xs ≡ false
bytes_eq_sym xs ys h = go (bytes_eq ys xs) (bytes_eq-Decides ys xs) (bytes_eq xs ys) (bytes_eq-Decides xs ys) h
  where
    go : (a : Bool) → Decides a (ys ≡ xs) → (b : Bool) → Decides b (xs ≡ ys) → b ≡ false → a ≡ false
    go true d true e h = h
    go true d false e h = sym (e.1 (sym (d.0 refl)))
    go false d b e h = refl

fresh_push : (x : Name) (S : Signature) (t : Table) → IsFresh x S → bytes_eq t.name x ≡ false → IsFresh x (S ++ t ∷ [])
fresh_push x [] t h e = (e, tt)
fresh_push x (s ∷ S) t h e = (h.0, fresh_push x S t h.1 e)

pub signature_push : (S : Signature) (t : Table) → IsSignature S → IsName t.name → IsFresh t.name S → is_flat t.row ≡ true → formed t.row ≡ WellFormed → TypeLimits t.row → IsSignature (S ++ t ∷ [])
signature_push [] t h n f a b c = (n, tt, a, b, c, tt)
signature_push (s ∷ S) t h n f a b c = (h.0, fresh_push s.name S t h.1 (bytes_eq_sym s.name t.name f.0), h.2, h.3, h.4, signature_push S t h.5 n f.1 a b c)

-- the first n tables of a list
pub fresh_take : (x : Name) (ts : List TableType) (n : ℕ) (t : TableType) → n < length ts → IsFresh x (signature_of (take n ts)) → bytes_eq (name_of (get_or ts n t).name) x ≡ false → IsFresh x (signature_of (take (suc n) ts))
fresh_take x [] n t l h e = absurd (omega arith)
fresh_take x (s ∷ ts) zero t l h e = (e, tt)
fresh_take x (s ∷ ts) (suc n) t l h e = (h.0, fresh_take x ts n t (omega arith) h.1 e)

pub fresh_at : (x : Name) (ts : List TableType) (n : ℕ) (t : TableType) → n < length ts → IsFresh x (signature_of ts) → bytes_eq (name_of (get_or ts n t).name) x ≡ false
fresh_at x [] n t l h = absurd (omega arith)
fresh_at x (s ∷ ts) zero t l h = h.0
fresh_at x (s ∷ ts) (suc n) t l h = fresh_at x ts n t (omega arith) h.1

pub signature_pushed : (S : Signature) (ts us : List TableType) (u : TableType) → signature_of ts ≡ S → us ≡ ts ++ u ∷ [] → IsSignature (signature_of ts) → IsFresh (name_of u.name) S → is_flat u.row ≡ true → formed u.row ≡ WellFormed → TypeLimits u.row → IsSignature (signature_of us)
signature_pushed S ts us u v e h f a b c = rw (e, map-append table_of ts (u ∷ [])) (signature_push (signature_of ts) (table_of u) h (is_name u.name) (rw (← v) at f) a b c)

pub taken_at : (x : Name) (S : Signature) (ts xs : List TableType) (n : ℕ) (t : TableType) → xs ≡ ts → signature_of ts ≡ S → n < length xs → t ≡ get_or xs n t → bytes_eq (name_of t.name) x ≡ true → IsFresh x S → ⊥
taken_at x S ts xs n t a v l e h f =
    let i : bytes_eq (name_of (get_or xs n t).name) x ≡ true = subst (λ (u : TableType). bytes_eq (name_of u.name) x ≡ true) e h in
    let g : IsFresh x (signature_of xs) = rw (a, v) f in
    let j = fresh_at x xs n t l g in
    cc

pub kept_at : (x : Name) (xs : List TableType) (n : ℕ) (t : TableType) → n < length xs → t ≡ get_or xs n t → bytes_eq (name_of t.name) x ≡ false → IsFresh x (signature_of (take n xs)) → IsFresh x (signature_of (take (n + 1) xs))
kept_at x xs n t l e h f = rw add-one (fresh_take x xs n t l f (subst (λ (u : TableType). bytes_eq (name_of u.name) x ≡ false) e h))
