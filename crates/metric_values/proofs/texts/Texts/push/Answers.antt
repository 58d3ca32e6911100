use Rattle.std.proofs.Common.{length, ap, ◌∙◌, sym, subst, arith, ◌≡◌, ◌+◌, ◌++◌, [], ◌∷◌}
use Rattle.std.proofs.lemmas.List.{length-append}
use Rattle.metric_values.specs.Cells.{Rise, texts_from}
use Rattle.metric_values.proofs.TextPlaces.{rise_more, texts_more}
use Rattle.metric_values.proofs.texts.Texts.push.Goals as goal

module _ (c : goal.In_default-push) where
  bytes_are : c.extend_from_slice.new.self.items ≡ c.self.inside.bytes.items ++ c.args.text.now
  bytes_are = c.in_default-extend_from_slice.ensures.items

  end_is : c.in-Ok.end ≡ length c.self.inside.bytes.items + length c.args.text.now
  end_is = omega (arith, c.in-Ok.ensures, c.len-before.ensures, c.self.inside.bytes.ok.0)

  ends_are : c.push.new.self.items ≡ c.self.inside.ends.items ++ (length c.self.inside.bytes.items + length c.args.text.now) ∷ []
  ends_are = c.in_default-push.ensures.items ∙ ap (λ n. c.self.inside.ends.items ++ n ∷ []) end_is

  bytes_long : length c.extend_from_slice.new.self.items ≡ length c.self.inside.bytes.items + length c.args.text.now
  bytes_long = ap length bytes_are ∙ length-append c.self.inside.bytes.items c.args.text.now

pub invariant_of-self-in_default-push : goal.invariant_of-self-in_default-push
invariant_of-self-in_default-push c =
    let old = length c.self.inside.bytes.items in
    let all = old + length c.args.text.now in
    subst (λ n. Rise 0 n c.push.new.self.items) (sym (bytes_long c)) (subst (λ ends. Rise 0 all ends) (sym (ends_are c)) (rise_more 0 old all c.self.inside.ends.items c.self.invariant (omega arith)))

pub returns-clause-pushed : goal.returns-clause-pushed
returns-clause-pushed c =
    let moved : texts_from 0 c.extend_from_slice.new.self.items c.push.new.self.items ≡ texts_from 0 (c.self.inside.bytes.items ++ c.args.text.now) (c.self.inside.ends.items ++ (length c.self.inside.bytes.items + length c.args.text.now) ∷ []) = λ i. texts_from 0 (bytes_are c i) (ends_are c i) in
    moved ∙ texts_more 0 c.self.inside.bytes.items c.args.text.now c.self.inside.ends.items c.self.invariant ∙ ap (λ xs. xs ++ c.args.text.now ∷ []) c.self.view_is
