use Rattle.fz_parser.proofs.Makers.{bool_makes}
use Rattle.fz_parser.proofs.maker.bool_type.Goals as goal

pub returns : goal.returns
returns c = bool_makes c.args.reader.now _ _ c.in_ok-unit.unit _ c.args.whole c.requires c.in_ok-unit.ensures.number c.in_ok-unit.ensures.grown c.in_ok-number.ensures.number c.in_ok-number.ensures.grown
