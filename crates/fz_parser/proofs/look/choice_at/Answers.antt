use Rattle.std.proofs.Common.{◌∙◌}
use Rattle.fz_parser.proofs.Stacks.{tabled_is}
use Rattle.fz_parser.proofs.look.choice_at.Goals as goal

pub returns : goal.returns
returns c = c.tabled.ensures ∙ tabled_is c.args.phrase c.args.class c.requires
