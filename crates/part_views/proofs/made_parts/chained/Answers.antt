-- The chain leads through the rows that are left.
use Rattle.std.proofs.Common.{rules}
use Rattle.part_views.proofs.Chains.{chain_all, chain_more, chain_there}
use Rattle.part_views.proofs.made_parts.chained.Goals as goal

pub bounds-next-row : goal.bounds-next-row
bounds-next-row c = chain_there c.args.next.now c.args.place c.loop-at.numbers.items c.loop-at.at c.loop-at.invariant.left c.loop-at-test.true c.requires.there

pub loop-at-preserved : goal.loop-at-preserved
loop-at-preserved c = record {
  left = chain_more c.args.next.now c.args.place c.loop-at.numbers.items c.loop-at.at c.loop-at.invariant.left c.loop-at-test.true c.push.new.self.items (search rules);
}

pub returns : goal.returns
returns c = chain_all c.args.next.now c.args.place c.loop-at.numbers.items c.loop-at.at c.loop-at.invariant.left c.loop-at-test.false
