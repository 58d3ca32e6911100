use Rattle.std.proofs.Common.{◌≤◌, sym, ap, arith, length}
use Rattle.fz_parser.proofs.Entries.{entry_what, entry_known, no_part}
use Rattle.fz_parser.proofs.reader.Reader.held.Goals as goal

pub returns-then-i-len-clause-is : goal.returns-then-i-len-clause-is
returns-then-i-len-clause-is c = entry_what c.args.self.now c.args.i c.len.result c.len-then-i-len.result c.index.result.now c.if-i-len.true (omega arith) (omega arith) c.index.ensures

pub returns-then-i-len-clause-known : goal.returns-then-i-len-clause-known
returns-then-i-len-clause-known c = entry_known c.args.self.now c.args.i c.len.result c.len-then-i-len.result c.index.result.now c.if-i-len.true (omega arith) (omega arith) c.index.ensures c.requires

pub returns-else-i-len-clause-is : goal.returns-else-i-len-clause-is
returns-else-i-len-clause-is c = let l : length c.args.self.now.entries.items ≤ c.args.i = omega arith in sym (ap (λ p. p.what) (no_part c.args.self.now c.args.i l))
