use Rattle.std.proofs.Common.{◌≡◌, ℕ, ◌+◌, ◌≤◌, length, vec_capacity, arith, refl, subst}
use Rattle.partition_charge.specs.declared.parts.Parts.{Parts}
use Rattle.partition_charge.specs.declared.view.View.{View}
use Rattle.partition_charge.specs.declared.view.View.TheVariants.{Whole, Part}
use Rattle.partition_charge.specs.Parts.{AreBelow}
use Rattle.partition_charge.specs.Views.{IsPartBelow}
use Rattle.partition_charge.proofs.Charges.{part-within, view-within}
use Rattle.partition_charge.proofs.Standing.{sums-found, sums-at, stands-whole, stands-part, each-changed}
use Rattle.partition_charge.proofs.costs.Costs.add.Goals as goal

pub add-requires-clause-fits : goal.add-requires-clause-fits
add-requires-clause-fits c =
    let room = c.requires.room in
    let within = view-within room.0 c.args.view c.args.amount c.in-Part.partition c.in-Part.part c.requires.view c.in-Part.is in
    let at = sums-at c.args.self.now room.0 c.in-Part.partition c.index_mut.result.now room.1 within.0 c.index_mut.ensures.value in
    omega (
      arith,
      at.sums c.in-Part.part,
      room.2,
      part-within room.0 c.args.view c.args.amount c.in-Part.partition c.in-Part.part c.requires.view c.in-Part.is,
    )

whole-else : (v : View) → ((p j : ℕ) → v ≡ Part p j → ⊥) → v ≡ Whole
whole-else Whole isnt = refl
whole-else (Part p j) isnt = absurd (isnt p j refl)

pub returns-in-Part-clause-totals : goal.returns-in-Part-clause-totals
returns-in-Part-clause-totals c charges stands =
    let within = view-within charges c.args.view c.args.amount c.in-Part.partition c.in-Part.part c.requires.view c.in-Part.is in
    let at = sums-at c.args.self.now charges c.in-Part.partition c.index_mut.result.now stands within.0 c.index_mut.ensures.value in
    stands-part c.args.self.now charges c.args.view c.args.amount c.after-self.result stands (c.after-self.ensures charges stands)
    c.in-Part.partition c.in-Part.part c.index_mut.result.now c.add.new.self _ c.in-Part.is refl at c.add.ensures.put c.add.ensures.greatest

pub returns-in-Part-clause-places : goal.returns-in-Part-clause-places
returns-in-Part-clause-places c n has =
    let room = c.requires.room in
    let within = view-within room.0 c.args.view c.args.amount c.in-Part.partition c.in-Part.part c.requires.view c.in-Part.is in
    let found = sums-found c.args.self.now room.0 c.in-Part.partition c.index_mut.result.now room.1 within.0 c.index_mut.ensures.value in
    each-changed (λ (parts : Parts). length parts.sums.items + (n + 1) ≤ vec_capacity parts.sums) (λ (parts : Parts). length parts.sums.items + n ≤ vec_capacity parts.sums)
    c.args.self.now.partitions.items c.in-Part.partition c.index_mut.result.now c.add.new.self found
    (λ broad. omega (arith, broad, c.add.ensures.put.count, c.add.ensures.put.room)) (λ parts broad. omega (arith, broad)) has

pub returns-in-Part-clause-below : goal.returns-in-Part-clause-below
returns-in-Part-clause-below c n below has =
    let room = c.requires.room in
    let within = view-within room.0 c.args.view c.args.amount c.in-Part.partition c.in-Part.part c.requires.view c.in-Part.is in
    let found = sums-found c.args.self.now room.0 c.in-Part.partition c.index_mut.result.now room.1 within.0 c.index_mut.ensures.value in
    let low = subst (IsPartBelow n) c.in-Part.is below in
    each-changed (λ (parts : Parts). AreBelow n parts.sums.items × (n ≤ vec_capacity parts.sums)) (λ (parts : Parts). AreBelow n parts.sums.items × (n ≤ vec_capacity parts.sums))
    c.args.self.now.partitions.items c.in-Part.partition c.index_mut.result.now c.add.new.self found
    (λ old. (c.add.ensures.put.below n low old.0, omega (arith, old.1, c.add.ensures.put.room))) (λ parts same. same) has

pub returns-in_default-clause-totals : goal.returns-in_default-clause-totals
returns-in_default-clause-totals c charges stands =
    stands-whole c.args.self.now charges c.args.view c.args.amount c.after-self.result stands (c.after-self.ensures charges stands)
    (whole-else c.args.view c.in_default.not-Part)
