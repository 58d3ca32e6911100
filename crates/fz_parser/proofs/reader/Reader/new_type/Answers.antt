use Rattle.std.proofs.Common.{refl}
use Rattle.fz_parser.proofs.Entries.{type_makes}
use Rattle.fz_parser.proofs.reader.Reader.new_type.Goals as goal

pub returns : goal.returns
returns c = type_makes c.args.self.now _ c.in_ok-number.number c.args.whole _ (refl, refl) c.requires.kept c.in_ok-number.ensures.number c.in_ok-number.ensures.grown
