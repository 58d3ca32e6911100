use Rattle.flow_values.proofs.Stranded.{one_rows, one_walked}
use Rattle.flow_values.proofs.stages.one_strand.Goals as goal

pub returns-clause-walked : goal.returns-clause-walked
returns-clause-walked c = one_walked c.new-strands.result.items c.put_strand.new.out.items (record { table = c.args.table; chain = c.none-chain.result }) c.new-strands.ensures.items c.in_ok-put_strand.ensures c.none-chain.ensures.steps

pub returns-clause-rows : goal.returns-clause-rows
returns-clause-rows c = one_rows c.new-strands.result.items c.put_strand.new.out.items (record { table = c.args.table; chain = c.none-chain.result }) c.new-strands.ensures.items c.in_ok-put_strand.ensures c.none-chain.ensures.steps
