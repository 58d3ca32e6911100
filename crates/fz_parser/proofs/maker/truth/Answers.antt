use Rattle.fz_parser.proofs.Makers.{truth_makes}
use Rattle.fz_parser.proofs.maker.truth.Goals as goal

pub returns : goal.returns
returns c =
    truth_makes c.args.reader.now _ _ _ c.in_ok-ty.ty c.in_ok-e.e _ c.args.side c.args.whole c.requires
    c.in_ok-ty.ensures.number c.in_ok-ty.ensures.grown c.in_ok-e.ensures.number c.in_ok-e.ensures.grown c.in_ok-number.ensures.number c.in_ok-number.ensures.grown
