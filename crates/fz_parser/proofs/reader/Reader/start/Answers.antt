use Rattle.std.proofs.Common.{arith}
use Rattle.fz_parser.proofs.Entries.{start_zero, entry_from, start_none}
use Rattle.fz_parser.proofs.reader.Reader.start.Goals as goal

pub returns-then-count-eq0 : goal.returns-then-count-eq0
returns-then-count-eq0 c = start_zero c.args.self.now c.args.count c.if-count-eq0.true

pub returns-then-count-len : goal.returns-then-count-len
returns-then-count-len c = entry_from c.args.self.now c.args.count c.len.result c.len-then-count-len.result c.index.result.now c.if-count-len.true (omega arith) (omega arith) (omega arith) c.index.ensures

pub returns-else-count-len : goal.returns-else-count-len
returns-else-count-len c = start_none c.args.self.now c.args.count (omega arith) (omega arith)
