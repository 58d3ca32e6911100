-- A header against the columns' names, field by field.
use Rattle.std.proofs.Common.{◌≡◌, ◌<◌, ◌∙◌, ◌+◌, ℕ, zero, suc, Bool, true, false, List, [], ◌∷◌, ap, arith, drop, get_or, length, map, nat_eq, Option, Some, None, Bor, refl, sym, add-one}
use Rattle.std.specs.Prelude.{◌&&◌, not, option_map}
use Rattle.std.specs.Option.{option_eq}
use Rattle.std.specs.Cmp.Lexicographic.{pointwise}
use Rattle.csv.specs.Records.{field_at}
use Rattle.table_store.specs.Schema.{NamedColumn, column_name}

not_not : (b : Bool) → not (not b) ≡ b
not_not true = refl
not_not false = refl

-- whether fields are names
abbrev pub are_names : List (List ℕ) → List NamedColumn → Bool
are_names fields schema = pointwise (pointwise nat_eq) fields (map column_name schema)

names_from : (fields : List (List ℕ)) (schema : List NamedColumn) (i : ℕ) (d : NamedColumn) → i < length fields → i < length schema
    → are_names (drop i fields) (drop i schema) ≡ (pointwise nat_eq (get_or fields i []) (get_or schema i d).name && are_names (drop (suc i) fields)
    (drop (suc i) schema))
names_from [] schema i d h k = absurd (omega arith)
names_from (f ∷ fields) [] i d h k = absurd (omega arith)
names_from (f ∷ fields) (c ∷ schema) zero d h k = refl
names_from (f ∷ fields) (c ∷ schema) (suc i) d h k = names_from fields schema i d (omega arith) (omega arith)

-- what a test of a field against a name says
field_is : (fields : List (List ℕ)) (i : ℕ) (o : Option (Bor (List ℕ))) (name : Bor (List ℕ)) → i < length fields
    → option_map (λ s. s.now) o ≡ field_at fields i
    → option_eq (λ x y. pointwise nat_eq x.now y.now) o (Some name) ≡ pointwise nat_eq (get_or fields i []) name.now
unfolding field_at
field_is [] i o name h e = absurd (omega arith)
field_is (f ∷ fields) zero None name h e = cc e
field_is (f ∷ fields) zero (Some s) name h e = let same : s.now ≡ f = cc in ap (λ (x : List ℕ). pointwise nat_eq x name.now) same
field_is (f ∷ fields) (suc i) o name h e = field_is fields i o name (omega arith) e

-- a field that was tested against its name, and what that says of the header from it on
module _ (fields : List (List ℕ)) (schema : List NamedColumn) (i : ℕ) (d : NamedColumn) (h : i < length fields) (k : i < length schema)
    (o : Option (Bor (List ℕ))) (name : Bor (List ℕ)) (field : option_map (λ s. s.now) o ≡ field_at fields i) (named : name.now ≡ (get_or schema i d).name)
    (differs : Bool) (test : differs ≡ not (option_eq (λ x y. pointwise nat_eq x.now y.now) o (Some name))) where
  tested : not differs ≡ pointwise nat_eq (get_or fields i []) (get_or schema i d).name
  tested = ap not test ∙ not_not _ ∙ field_is fields i o name h field ∙ ap (pointwise nat_eq (get_or fields i [])) named

  pub names_differ : differs ≡ true → are_names (drop i fields) (drop i schema) ≡ false
  names_differ e =
      let other : pointwise nat_eq (get_or fields i []) (get_or schema i d).name ≡ false = sym tested ∙ ap not e in
      names_from fields schema i d h k ∙ rw other refl

  pub names_agree : differs ≡ false → are_names (drop i fields) (drop i schema) ≡ are_names (drop (i + 1) fields) (drop (i + 1) schema)
  names_agree e =
      let same : pointwise nat_eq (get_or fields i []) (get_or schema i d).name ≡ true = sym tested ∙ ap not e in
      names_from fields schema i d h k ∙ rw (same, add-one) refl
