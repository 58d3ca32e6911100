use Rattle.fz_lexer.proofs.Prefixes.{name_found, name_over}
use Rattle.fz_lexer.proofs.prefix.name.Goals as goal

pub returns-then-len-gt32 : goal.returns-then-len-gt32
returns-then-len-gt32 c = name_over c.args.bytes.now c.run-len.result c.requires c.run-len.ensures.within c.run-len.ensures.each c.run-len.ensures.stops c.if-len-gt32.true

pub returns : goal.returns
returns c = name_found c.args.bytes.now c.run-len.result _ c.requires c.run-len.ensures.within c.run-len.ensures.each c.run-len.ensures.stops c.if-len-gt32.false c.in_ok-kind.ensures
