use Rattle.std.proofs.Common.{refl, arith, ◌∙◌, ap, sym}
use Rattle.fz_parser.specs.declared.grammar.Action.TheVariants.{ArrowType, BagType, BangType, GroupType, JoinType}
use Rattle.fz_parser.specs.Parts.{takes, made}
use Rattle.fz_parser.specs.Kept.{state_of}
use Rattle.fz_parser.proofs.Making.{ready_at, makes_none}
use Rattle.fz_parser.proofs.make.made_type.Goals as goal

pub join-requires-clause-at_0 : goal.join-requires-clause-at_0
unfolding takes
join-requires-clause-at_0 c = ready_at c.args.action (JoinType c.in-JoinType.joint) (state_of c.args.reader.now) 0 7 c.in-JoinType.is c.requires.ready refl (omega arith)

pub join-requires-clause-at_1 : goal.join-requires-clause-at_1
unfolding takes
join-requires-clause-at_1 c = ready_at c.args.action (JoinType c.in-JoinType.joint) (state_of c.args.reader.now) 1 7 c.in-JoinType.is c.requires.ready refl (omega arith)

pub arrow-requires-clause-at_0 : goal.arrow-requires-clause-at_0
unfolding takes
arrow-requires-clause-at_0 c = ready_at c.args.action ArrowType (state_of c.args.reader.now) 0 7 c.in-ArrowType.is c.requires.ready refl (omega arith)

pub arrow-requires-clause-at_1 : goal.arrow-requires-clause-at_1
unfolding takes
arrow-requires-clause-at_1 c = ready_at c.args.action ArrowType (state_of c.args.reader.now) 1 7 c.in-ArrowType.is c.requires.ready refl (omega arith)

pub bang_type-requires-clause-at_0 : goal.bang_type-requires-clause-at_0
unfolding takes
bang_type-requires-clause-at_0 c = ready_at c.args.action BangType (state_of c.args.reader.now) 0 7 c.in-BangType.is c.requires.ready refl (omega arith)

pub bag_type-requires-clause-at_0 : goal.bag_type-requires-clause-at_0
unfolding takes
bag_type-requires-clause-at_0 c = ready_at c.args.action BagType (state_of c.args.reader.now) 0 7 c.in-BagType.is c.requires.ready refl (omega arith)

pub group_type-requires-clause-at_0 : goal.group_type-requires-clause-at_0
unfolding takes
group_type-requires-clause-at_0 c = ready_at c.args.action GroupType (state_of c.args.reader.now) 0 7 c.in-GroupType.is c.requires.ready refl (omega arith)

pub returns-in-GroupType : goal.returns-in-GroupType
returns-in-GroupType c = makes_none c.args.reader.now c.group_type.result _ c.requires.kept c.group_type.ensures.known (c.group_type.ensures.is c.args.whole ∙ ap (λ a. made a c.args.whole (state_of c.args.reader.now)) (sym c.in-GroupType.is))
