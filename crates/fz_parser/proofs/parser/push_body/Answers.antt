use Rattle.std.proofs.Common.{◌++◌, reverse, arith, sym, ap}
use Rattle.fz_parser.proofs.Words.{body_from, pushed, taken, take_none}
use Rattle.fz_parser.proofs.parser.push_body.Goals as goal

pub loop-rest-init : goal.loop-rest-init
loop-rest-init c =
    let b = body_from c.args.rule _ _ c.requires c.start_at-start.ensures c.start_at-rest.ensures in
    record { low = b.1; high = omega arith; same = ap (λ xs. xs ++ reverse c.args.stack.now.items) (sym (take_none _ _)) }

pub item_at-requires : goal.item_at-requires
item_at-requires c =
    let b = body_from c.args.rule _ _ c.requires c.start_at-start.ensures c.start_at-rest.ensures in
    omega (arith, b.2, c.loop-rest.invariant.high, c.loop-rest-test.true)

pub loop-rest-preserved : goal.loop-rest-preserved
loop-rest-preserved c =
    let b = body_from c.args.rule _ _ c.requires c.start_at-start.ensures c.start_at-rest.ensures in
    record {
      low = omega arith;
      high = omega arith;
      same = pushed _ _ _ _ _ _ _ (omega arith) c.loop-rest.invariant.high (omega (arith, b.2)) c.loop-rest.invariant.same c.item_at.ensures c.in_ok-push.ensures.items;
    }

pub returns : goal.returns
returns c =
    let b = body_from c.args.rule _ _ c.requires c.start_at-start.ensures c.start_at-rest.ensures in
    taken _ c.loop-rest.stack.items _ _ _ _ c.loop-rest.invariant.low (omega arith) c.loop-rest.invariant.same b.0
