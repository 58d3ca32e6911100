use Rattle.std.proofs.Common.{refl}
use Rattle.fz_parser.proofs.Entries.{term_makes}
use Rattle.fz_parser.proofs.reader.Reader.new_term.Goals as goal

pub returns : goal.returns
returns c = term_makes c.args.self.now _ c.in_ok-number.number _ (refl, refl) c.requires.kept c.in_ok-number.ensures.number c.in_ok-number.ensures.grown
