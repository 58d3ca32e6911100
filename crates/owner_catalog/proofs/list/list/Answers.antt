-- The items of a list, one after another.
use Rattle.std.proofs.Common.{◌∙◌, inr, arith, rules, not, sym, ap, length, length-append, Err, [], ◌∷◌}
use Rattle.owner_catalog.specs.declared.fault.CatalogFault.TheVariants.{Bad}
use Rattle.owner_catalog.specs.declared.fault.FaultKind.TheVariants.{Double}
use Rattle.owner_catalog.proofs.Lists.{met, named_more, turn_fails, turn_repeats, turn_adds, turns_end, list_start, plain_rest, distinct_none, distinct_more}
use Rattle.owner_catalog.proofs.list.list.Goals as goal

pub loop-item-init : goal.loop-item-init
loop-item-init g c = record {
  same = rw c.new-found.ensures.items (list_start _ _ _ _ _ _ _ _ (rw c.the.ensures at (rw c.of.ensures at c.in_ok-items.ensures.items)));
  count = ap length c.new-found.ensures.items;
  names = search rules;
  distinct = rw c.new-found.ensures.items (distinct_none _);
  plain = λ h. h;
}

pub returns-in_err-read-clause-fault : goal.returns-in_err-read-clause-fault
returns-in_err-read-clause-fault g c =
    let fault = turn_fails g.T.Named.name_of (g.T.Item.place_of c.args.context.now) (g.T.Item.read_of c.args.context.now) c.loop-item.found.items _
    c.in_ok-items.items.now c.loop-item.item-index c.item-item.result (omega arith) c.item-item.is c.len-number.result (omega (arith, c.loop-item.found.ok.0))
    c.loop-item.invariant.same c.in_err-read.field-0.0 c.in_err-read.ensures.fault in
    search rules

pub returns-then-not-added-clause-fault : goal.returns-then-not-added-clause-fault
returns-then-not-added-clause-fault g c =
    inr (turn_repeats g.T.Named.name_of (g.T.Item.place_of c.args.context.now) (g.T.Item.read_of c.args.context.now) c.loop-item.found.items _
    c.in_ok-items.items.now c.loop-item.item-index c.item-item.result (omega arith) c.item-item.is c.len-number.result (omega (arith, c.loop-item.found.ok.0))
    c.loop-item.invariant.same c.in_ok-read.read c.in_ok-read.ensures.item
    (met g.T.Named.name_of c.loop-item.found.items _ _ _ _ c.in_ok-added.ensures.added c.loop-item.invariant.names c.name.ensures
    ∙ ap not c.if-not-added.true) ∙ ap
    (λ p. Err (Bad Double p)) (sym c.place.ensures))

pub loop-item-preserved : goal.loop-item-preserved
loop-item-preserved g c =
    let other = met g.T.Named.name_of c.loop-item.found.items _ _ _ _ c.in_ok-added.ensures.added c.loop-item.invariant.names c.name.ensures
    ∙ ap not c.if-not-added.false in
    let added = c.in_ok-push.ensures.items in
    record {
      same = rw added (turn_adds g.T.Named.name_of (g.T.Item.place_of c.args.context.now) (g.T.Item.read_of c.args.context.now) c.loop-item.found.items _
          c.in_ok-items.items.now c.loop-item.item-index c.item-item.result (omega arith) c.item-item.is c.len-number.result (omega (
            arith,
            c.loop-item.found.ok.0,
          ))
          c.loop-item.invariant.same c.in_ok-read.read c.in_ok-read.ensures.item other);
      count = rw added (omega (arith, length-append c.loop-item.found.items (c.in_ok-read.read ∷ [])));
      names = rw added (named_more g.T.Named.name_of c.loop-item.found.items c.in_ok-read.read _ _ _ _ c.in_ok-added.ensures.names c.if-not-added.false
          c.loop-item.invariant.names c.name.ensures);
      distinct = rw added (distinct_more g.T.Named.name_of c.loop-item.found.items c.in_ok-read.read c.loop-item.invariant.distinct other);
      plain = plain_rest c.in_ok-items.items.now c.loop-item.item-index c.item-item.result (omega arith) c.item-item.is
          c.loop-item.invariant.plain c.in_ok-read.ensures.plain;
    }

pub returns-clause-list : goal.returns-clause-list
returns-clause-list g c =
    turns_end g.T.Named.name_of (g.T.Item.place_of c.args.context.now) (g.T.Item.read_of c.args.context.now) c.loop-item.found.items _
    c.in_ok-items.items.now c.loop-item.item-index (omega arith) c.loop-item.invariant.same
