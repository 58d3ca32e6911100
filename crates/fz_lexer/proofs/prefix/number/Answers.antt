use Rattle.fz_lexer.proofs.Prefixes.{number_found, number_over}
use Rattle.fz_lexer.proofs.prefix.number.Goals as goal

pub returns-in-Some : goal.returns-in-Some
returns-in-Some c = number_found c.args.bytes.now c.run-len.result c.in-Some.number c.requires c.run-len.ensures.within c.run-len.ensures.each c.run-len.ensures.stops c.in-Some.ensures.value.0 c.in-Some.ensures.value.1

pub returns-in-None : goal.returns-in-None
returns-in-None c = number_over c.args.bytes.now c.run-len.result c.requires c.run-len.ensures.within c.run-len.ensures.each c.run-len.ensures.stops c.in-None.ensures.none
