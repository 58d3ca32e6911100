use Rattle.flow_values.proofs.Stranded.{staged_more}
use Rattle.flow_values.proofs.stages.all_staged.Goals as goal

pub loop-i-preserved : goal.loop-i-preserved
loop-i-preserved c =
    staged_more c.args.function.now.value c.args.left c.args.keeps c.args.strands.now c.loop-i.i c.index-strands-i.result c.loop-i-test.true c.index-strands-i.is
    c.loop-i.out.items c.put_strand.new.out.items c.in_ok-strand.strand c.loop-i.invariant c.in_ok-put_strand.ensures c.in_ok-strand.ensures
