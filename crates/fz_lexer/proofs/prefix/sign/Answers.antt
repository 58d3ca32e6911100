use Rattle.std.proofs.Common.{ap, length}
use Rattle.fz_lexer.proofs.Prefixes.{sign_found, sign_over}
use Rattle.fz_lexer.proofs.prefix.sign.Goals as goal

pub returns-in-Some : goal.returns-in-Some
returns-in-Some c = sign_found c.args.bytes.now c.in-Some.sign _ (ap length c.mark.ensures) c.in-Some.ensures.found.0 c.in-Some.ensures.found.1

pub returns-in-None : goal.returns-in-None
returns-in-None c = sign_over c.args.bytes.now c.requires.some c.requires.no_letter c.requires.no_digit c.requires.no_quote c.in-None.ensures.none
