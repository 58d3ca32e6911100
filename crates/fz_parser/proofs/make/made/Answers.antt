use Rattle.std.proofs.Common.{refl, arith, ◌∙◌, ap, sym}
use Rattle.fz_parser.specs.declared.grammar.Action.TheVariants.{BangTerm, CaseTerm, GroupTerm, IfTerm, InfixTerm, InjectTerm, LambdaTerm, LetBangTerm, LetPairTerm, LetTerm, NegativeTimesTerm, PrefixTerm, RangedTerm, TimesTerm, UnaryTerm}
use Rattle.fz_parser.specs.Parts.{takes, made}
use Rattle.fz_parser.specs.Kept.{state_of}
use Rattle.fz_parser.proofs.Making.{ready_at, makes_none}
use Rattle.fz_parser.proofs.make.made.Goals as goal

pub lambda-requires-clause-at_0 : goal.lambda-requires-clause-at_0
unfolding takes
lambda-requires-clause-at_0 c = ready_at c.args.action (LambdaTerm c.in-LambdaTerm.arrow) (state_of c.args.reader.now) 0 8 c.in-LambdaTerm.is c.requires.ready refl (omega arith)

pub lambda-requires-clause-at_1 : goal.lambda-requires-clause-at_1
unfolding takes
lambda-requires-clause-at_1 c = ready_at c.args.action (LambdaTerm c.in-LambdaTerm.arrow) (state_of c.args.reader.now) 1 7 c.in-LambdaTerm.is c.requires.ready refl (omega arith)

pub let_bang-requires-clause-at_0 : goal.let_bang-requires-clause-at_0
unfolding takes
let_bang-requires-clause-at_0 c = ready_at c.args.action LetBangTerm (state_of c.args.reader.now) 0 8 c.in-LetBangTerm.is c.requires.ready refl (omega arith)

pub let_bang-requires-clause-at_1 : goal.let_bang-requires-clause-at_1
unfolding takes
let_bang-requires-clause-at_1 c = ready_at c.args.action LetBangTerm (state_of c.args.reader.now) 1 8 c.in-LetBangTerm.is c.requires.ready refl (omega arith)

pub let_pair-requires-clause-at_0 : goal.let_pair-requires-clause-at_0
unfolding takes
let_pair-requires-clause-at_0 c = ready_at c.args.action LetPairTerm (state_of c.args.reader.now) 0 8 c.in-LetPairTerm.is c.requires.ready refl (omega arith)

pub let_pair-requires-clause-at_1 : goal.let_pair-requires-clause-at_1
unfolding takes
let_pair-requires-clause-at_1 c = ready_at c.args.action LetPairTerm (state_of c.args.reader.now) 1 8 c.in-LetPairTerm.is c.requires.ready refl (omega arith)

pub let_plain-requires-clause-at_0 : goal.let_plain-requires-clause-at_0
unfolding takes
let_plain-requires-clause-at_0 c = ready_at c.args.action LetTerm (state_of c.args.reader.now) 0 8 c.in-LetTerm.is c.requires.ready refl (omega arith)

pub let_plain-requires-clause-at_1 : goal.let_plain-requires-clause-at_1
unfolding takes
let_plain-requires-clause-at_1 c = ready_at c.args.action LetTerm (state_of c.args.reader.now) 1 8 c.in-LetTerm.is c.requires.ready refl (omega arith)

pub case-requires-clause-at_0 : goal.case-requires-clause-at_0
unfolding takes
case-requires-clause-at_0 c = ready_at c.args.action CaseTerm (state_of c.args.reader.now) 0 8 c.in-CaseTerm.is c.requires.ready refl (omega arith)

pub case-requires-clause-at_2 : goal.case-requires-clause-at_2
unfolding takes
case-requires-clause-at_2 c = ready_at c.args.action CaseTerm (state_of c.args.reader.now) 2 8 c.in-CaseTerm.is c.requires.ready refl (omega arith)

pub case-requires-clause-at_4 : goal.case-requires-clause-at_4
unfolding takes
case-requires-clause-at_4 c = ready_at c.args.action CaseTerm (state_of c.args.reader.now) 4 8 c.in-CaseTerm.is c.requires.ready refl (omega arith)

pub choice-requires-clause-at_0 : goal.choice-requires-clause-at_0
unfolding takes
choice-requires-clause-at_0 c = ready_at c.args.action IfTerm (state_of c.args.reader.now) 0 8 c.in-IfTerm.is c.requires.ready refl (omega arith)

pub choice-requires-clause-at_1 : goal.choice-requires-clause-at_1
unfolding takes
choice-requires-clause-at_1 c = ready_at c.args.action IfTerm (state_of c.args.reader.now) 1 8 c.in-IfTerm.is c.requires.ready refl (omega arith)

pub choice-requires-clause-at_2 : goal.choice-requires-clause-at_2
unfolding takes
choice-requires-clause-at_2 c = ready_at c.args.action IfTerm (state_of c.args.reader.now) 2 8 c.in-IfTerm.is c.requires.ready refl (omega arith)

pub binary-requires-clause-at_0 : goal.binary-requires-clause-at_0
unfolding takes
binary-requires-clause-at_0 c = ready_at c.args.action (InfixTerm c.in-InfixTerm.op) (state_of c.args.reader.now) 0 8 c.in-InfixTerm.is c.requires.ready refl (omega arith)

pub binary-requires-clause-at_1 : goal.binary-requires-clause-at_1
unfolding takes
binary-requires-clause-at_1 c = ready_at c.args.action (InfixTerm c.in-InfixTerm.op) (state_of c.args.reader.now) 1 8 c.in-InfixTerm.is c.requires.ready refl (omega arith)

pub binary-requires-in-PrefixTerm-clause-at_0 : goal.binary-requires-in-PrefixTerm-clause-at_0
unfolding takes
binary-requires-in-PrefixTerm-clause-at_0 c = ready_at c.args.action (PrefixTerm c.in-PrefixTerm.op) (state_of c.args.reader.now) 0 8 c.in-PrefixTerm.is c.requires.ready refl (omega arith)

pub binary-requires-in-PrefixTerm-clause-at_1 : goal.binary-requires-in-PrefixTerm-clause-at_1
unfolding takes
binary-requires-in-PrefixTerm-clause-at_1 c = ready_at c.args.action (PrefixTerm c.in-PrefixTerm.op) (state_of c.args.reader.now) 1 8 c.in-PrefixTerm.is c.requires.ready refl (omega arith)

pub negative_times-requires-clause-at_0 : goal.negative_times-requires-clause-at_0
unfolding takes
negative_times-requires-clause-at_0 c = ready_at c.args.action NegativeTimesTerm (state_of c.args.reader.now) 0 8 c.in-NegativeTimesTerm.is c.requires.ready refl (omega arith)

pub times-requires-clause-at_0 : goal.times-requires-clause-at_0
unfolding takes
times-requires-clause-at_0 c = ready_at c.args.action TimesTerm (state_of c.args.reader.now) 0 8 c.in-TimesTerm.is c.requires.ready refl (omega arith)

pub unary-requires-clause-at_0 : goal.unary-requires-clause-at_0
unfolding takes
unary-requires-clause-at_0 c = ready_at c.args.action (UnaryTerm c.in-UnaryTerm.op) (state_of c.args.reader.now) 0 8 c.in-UnaryTerm.is c.requires.ready refl (omega arith)

pub ranged-requires-clause-at_0 : goal.ranged-requires-clause-at_0
unfolding takes
ranged-requires-clause-at_0 c = ready_at c.args.action (RangedTerm c.in-RangedTerm.op) (state_of c.args.reader.now) 0 8 c.in-RangedTerm.is c.requires.ready refl (omega arith)

pub inject-requires-clause-at_0 : goal.inject-requires-clause-at_0
unfolding takes
inject-requires-clause-at_0 c = ready_at c.args.action (InjectTerm c.in-InjectTerm.side) (state_of c.args.reader.now) 0 8 c.in-InjectTerm.is c.requires.ready refl (omega arith)

pub inject-requires-clause-at_1 : goal.inject-requires-clause-at_1
unfolding takes
inject-requires-clause-at_1 c = ready_at c.args.action (InjectTerm c.in-InjectTerm.side) (state_of c.args.reader.now) 1 7 c.in-InjectTerm.is c.requires.ready refl (omega arith)

pub bang-requires-clause-at_0 : goal.bang-requires-clause-at_0
unfolding takes
bang-requires-clause-at_0 c = ready_at c.args.action BangTerm (state_of c.args.reader.now) 0 8 c.in-BangTerm.is c.requires.ready refl (omega arith)

pub group_term-requires-clause-at_0 : goal.group_term-requires-clause-at_0
unfolding takes
group_term-requires-clause-at_0 c = ready_at c.args.action GroupTerm (state_of c.args.reader.now) 0 8 c.in-GroupTerm.is c.requires.ready refl (omega arith)

pub returns-in-GroupTerm : goal.returns-in-GroupTerm
returns-in-GroupTerm c = makes_none c.args.reader.now c.group_term.result _ c.requires.kept c.group_term.ensures.known (c.group_term.ensures.is c.args.whole ∙ ap (λ a. made a c.args.whole (state_of c.args.reader.now)) (sym c.in-GroupTerm.is))

pub returns-in-PlainInteger : goal.returns-in-PlainInteger
returns-in-PlainInteger c = makes_none c.args.reader.now c.plain_integer.result _ c.requires.kept c.plain_integer.ensures.known (c.plain_integer.ensures.is c.args.whole ∙ ap (λ a. made a c.args.whole (state_of c.args.reader.now)) (sym c.in-PlainInteger.is))

pub returns-in-NegativeInteger : goal.returns-in-NegativeInteger
returns-in-NegativeInteger c = makes_none c.args.reader.now c.negative_integer.result _ c.requires.kept c.negative_integer.ensures.known (c.negative_integer.ensures.is c.args.whole ∙ ap (λ a. made a c.args.whole (state_of c.args.reader.now)) (sym c.in-NegativeInteger.is))

pub returns-in-WholeFactor : goal.returns-in-WholeFactor
returns-in-WholeFactor c = makes_none c.args.reader.now c.whole_factor.result _ c.requires.kept c.whole_factor.ensures.known (c.whole_factor.ensures.is c.args.whole ∙ ap (λ a. made a c.args.whole (state_of c.args.reader.now)) (sym c.in-WholeFactor.is))

pub returns-in-FractionFactor : goal.returns-in-FractionFactor
returns-in-FractionFactor c = makes_none c.args.reader.now c.fraction.result _ c.requires.kept c.fraction.ensures.known (c.fraction.ensures.is c.args.whole ∙ ap (λ a. made a c.args.whole (state_of c.args.reader.now)) (sym c.in-FractionFactor.is))
