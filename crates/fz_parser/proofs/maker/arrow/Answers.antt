use Rattle.fz_parser.proofs.Makers.{arrow_makes}
use Rattle.fz_parser.proofs.maker.arrow.Goals as goal

pub returns : goal.returns
returns c =
    arrow_makes c.args.reader.now _ _ c.written-a.result.1 c.written-b.result.1 c.in_ok-from.from _ _ _ c.args.whole c.requires.kept c.written-b.ensures.known c.written-a.ensures.is c.written-b.ensures.is
    c.in_ok-from.ensures.number c.in_ok-from.ensures.grown c.in_ok-number.ensures.number c.in_ok-number.ensures.grown
