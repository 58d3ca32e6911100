-- The headers of the owners' journals, in order.
use Rattle.std.proofs.Common.{◌≡◌, ◌<◌, ◌≤◌, ◌+◌, ◌-◌, ◌∙◌, ℕ, Bool, true, false, Vec, Global, List, [], ◌∷◌, ◌++◌, length, get_or, nat_lt, inl, inr, refl, sym, ap, subst, arith}
use Rattle.std.specs.Prelude.{map}
use Rattle.std.proofs.Math.Nat.{eq-or-lt_of_le}
use Rattle.std.proofs.lemmas.Bool.{ltb-true, ltb-false}
use Rattle.std.proofs.lemmas.List.{get_or_past, get_or_append_left, get_or-append_right, length-map}
use Rattle.std.specs.List.{All}
use Rattle.std.proofs.lemmas.List.Elements.{All-get_or, All-from_get_or}
use Rattle.journal_records.specs.Encoding.{IsHeader}
use Rattle.journal_records.specs.declared.records.Header.{Header}
use Rattle.owner_catalog.specs.Catalog.{Catalog, IsCatalog}
use Rattle.owner_catalog.specs.Entries.{owner_entry_at}
use Rattle.owner_catalog.specs.Lawful.{IsOwner}

-- each owner has tables, so it has the SHA-256 of their files
pub has_hashes : (catalog : Catalog) (hashes : List (Vec (List ℕ) Global)) (o : ℕ) → IsCatalog catalog → o < length catalog.owners
    → length (get_or (map (λ (v : Vec (List ℕ) Global). v.items) hashes) o []) ≡ length (owner_entry_at catalog o).tables → o < length hashes
has_hashes catalog hashes o legal within hashed = go (nat_lt o (length hashes)) refl
  where
    items : List (List (List ℕ))
    items = map (λ (v : Vec (List ℕ) Global). v.items) hashes

    go : (b : Bool) → nat_lt o (length hashes) ≡ b → o < length hashes
    go true e = ltb-true _ _ e
    go false e =
        let past : length items ≤ o = subst (λ (n : ℕ). n ≤ o) (sym (length-map hashes (λ (v : Vec (List ℕ) Global). v.items))) (ltb-false _ _ e) in
        let none : length (get_or items o []) ≡ 0 = ap (λ (xs : List (List ℕ)). length xs) (get_or_past items o [] past) in
        let some : 1 ≤ length (owner_entry_at catalog o).tables = (All-get_or IsOwner catalog.owners o _ within legal.owners).some_tables in
        absurd (omega (arith, none, some, hashed))

-- one header more
pub next_header : (f : ℕ → Header) (xs : List Header) (x : Header) (n : ℕ) → length xs ≡ n → ((o : ℕ) (d : Header) → o < n → get_or xs o d ≡ f o) → x ≡ f n
    → (o : ℕ) (d : Header) → o < n + 1 → get_or (xs ++ x ∷ []) o d ≡ f o
next_header f xs x n counted before is o d less =
    let most : o ≤ n = omega (arith, less) in
    elim (eq-or-lt_of_le most) as (λ w. get_or (xs ++ x ∷ []) o d ≡ f o) [
      | inl same ↦
          let none : o - n ≡ 0 = omega (arith, same) in
          get_or-append_right xs (x ∷ []) n o d counted (omega (arith, same)) ∙ ap (λ (k : ℕ). get_or (x ∷ []) k d) none ∙ is ∙ ap f (sym same)
      | inr below ↦ get_or_append_left xs (x ∷ []) d o (omega (arith, below, counted)) ∙ before o d below
    ]

pub one_valid : (h : Header) → IsHeader h → All IsHeader (h ∷ [])
one_valid h valid = All-from_get_or IsHeader (h ∷ []) h (λ i less.
    let first : i ≡ 0 = omega (arith, less) in
    subst (λ (k : ℕ). IsHeader (get_or (h ∷ []) k h)) (sym first) valid)
