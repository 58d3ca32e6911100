use Rattle.flow_values.proofs.Stranded.{appended_more, appended_none}
use Rattle.flow_values.proofs.stages.put_all.Goals as goal

pub loop-i-init : goal.loop-i-init
loop-i-init c = appended_none c.args.out.now.items

pub loop-i-preserved : goal.loop-i-preserved
loop-i-preserved c =
    appended_more c.args.strands.now c.loop-i.i c.index-strands-i.result c.loop-i-test.true c.index-strands-i.is c.args.out.now.items
    c.loop-i.out.items c.put_strand.new.out.items c.in_ok-strand.strand c.loop-i.invariant c.in_ok-put_strand.ensures c.in_ok-strand.ensures
