-- The columns of people are a schema.
use Rattle.std.proofs.Common.{◌≡◌, ◌∙◌, ◌++◌, List, [], ◌∷◌, ap, arith, codes, refl, subst, sym}
use Rattle.std.specs.List.{IsDistinct}
use Rattle.table_store.specs.Schema.{IsSchema, NamedColumn}
use Rattle.data_tests.proofs.csv_tables.people.Goals as goal

three_names : (a b c : NamedColumn) → a.name ≡ codes "name" → b.name ≡ codes "age" → c.name ≡ codes "town" → IsSchema (a ∷ b ∷ c ∷ [])
unfolding IsDistinct
three_names a b c x y z = record { some = omega arith; few = omega arith; distinct = rw (x, y, z) ((refl, (refl, tt)), ((refl, tt), (tt, tt))) }

pub new-requires : goal.new-requires
new-requires c =
    let one : c.push.new.self.items ≡ c.in_ok-column.field-0 ∷ [] =
    c.in_ok-push.ensures.items ∙ ap (λ (xs : List NamedColumn). xs ++ c.in_ok-column.field-0 ∷ []) c.new-columns.ensures.items in
    let two = c.in_ok-push-2.ensures.items ∙ ap (λ (xs : List NamedColumn). xs ++ c.in_ok-column-2.field-0 ∷ []) one in
    let three = c.in_ok-push-3.ensures.items ∙ ap (λ (xs : List NamedColumn). xs ++ c.in_ok-column-3.field-0 ∷ []) two in
    subst IsSchema (sym three)
    (three_names c.in_ok-column.field-0 c.in_ok-column-2.field-0 c.in_ok-column-3.field-0 c.in_ok-column.ensures c.in_ok-column-2.ensures
    c.in_ok-column-3.ensures)
