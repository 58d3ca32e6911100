use Rattle.std.proofs.Common.{◌≡◌, ℕ, ◌<◌, max, List, length, get_or, rules, ap, sym, ◌∙◌, arith, ⊎_elim}
use Rattle.std.proofs.lemmas.Bool.{cases_eq}
use Rattle.partition_charge.specs.declared.parts.PartSum.{PartSum}
use Rattle.partition_charge.specs.Parts.{lowered, part_at}
use Rattle.partition_charge.proofs.Sums.{no_sum, lowered-at, all-lowered, part-enough}
use Rattle.partition_charge.proofs.parts.Parts.greatest_without.Goals as goal

pub without-requires : goal.without-requires
without-requires c is =
    let within : c.loop-kept.kept-index < length c.args.self.now.sums.items
    = omega (arith, c.loop-kept-test.true, ap (length {A = PartSum}) c.deref-kept-items.ensures.value) in
    let read = ap (λ (xs : List PartSum). get_or xs c.loop-kept.kept-index no_sum) c.deref-kept-items.ensures.value in
    let enough = part-enough c.args.self.now.sums.items c.requires.ordered c.args.part c.args.amount c.requires.enough c.loop-kept.kept-index within
    (sym (ap (λ (x : PartSum). x.part) read) ∙ is) in
    omega (arith, enough, ap (λ (x : PartSum). x.sum) read)

pub loop-kept-preserved : goal.loop-kept-preserved
loop-kept-preserved c =
    let here : c.without.result ≡ lowered c.args.part c.args.amount (get_or c.args.self.now.sums.items c.loop-kept.kept-index no_sum) = search rules in
    let top : c.max-greatest.result ≡ max c.loop-kept.greatest c.without.result = search rules in
    record {
      most = λ k lt. ⊎_elim
          (λ is. omega (arith, top, here, ap (λ (n : ℕ). lowered c.args.part c.args.amount (get_or c.args.self.now.sums.items n no_sum)) is))
          (λ isnt. omega (arith, top, c.loop-kept.invariant.most k (omega arith)))
          (cases_eq k c.loop-kept.kept-index);
      least = λ bound each. omega (
        arith,
        top,
        here,
        c.loop-kept.invariant.least bound each,
        each (part_at c.args.self.now.sums.items c.loop-kept.kept-index),
        lowered-at c.args.self.now.sums.items c.requires.ordered c.args.part c.args.amount c.loop-kept.kept-index
            (omega (arith, c.loop-kept-test.true, ap (length {A = PartSum}) c.deref-kept-items.ensures.value)),
      );
    }

pub returns-clause-most : goal.returns-clause-most
returns-clause-most c =
    all-lowered c.args.self.now.sums.items c.requires.ordered c.args.part c.args.amount c.loop-kept.greatest
    (λ place within. c.loop-kept.invariant.most place (omega (arith, c.loop-kept-test.false, ap (length {A = PartSum}) c.deref-kept-items.ensures.value)))

pub returns-clause-least : goal.returns-clause-least
returns-clause-least c = c.loop-kept.invariant.least
