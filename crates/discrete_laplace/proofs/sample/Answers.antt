use Rattle.std.proofs.Common.{rules}
use Rattle.discrete_laplace.proofs.Samples.{meets}
use Rattle.discrete_laplace.proofs.sample.Goals as goal

pub returns-clause-noise : goal.returns-clause-noise
returns-clause-noise g c =
    (meets g.W.Words.draws g.W.Words.place c.args.t c.args.s c.accepted.result c.new.result.left _ c.new.result.words.now c.args.words.now _ c.new.ensures.left c.new.ensures.words c.accepted.ensures.took c.accepted.ensures.fewer c.accepted.ensures.segment).noise

pub returns-clause-taken : goal.returns-clause-taken
returns-clause-taken g c =
    let m = meets g.W.Words.draws g.W.Words.place c.args.t c.args.s c.accepted.result c.new.result.left _ c.new.result.words.now c.args.words.now _ c.new.ensures.left c.new.ensures.words c.accepted.ensures.took c.accepted.ensures.fewer c.accepted.ensures.segment in
    search (rules, m.taken)

pub returns-clause-segments : goal.returns-clause-segments
returns-clause-segments g c =
    (meets g.W.Words.draws g.W.Words.place c.args.t c.args.s c.accepted.result c.new.result.left _ c.new.result.words.now c.args.words.now _ c.new.ensures.left c.new.ensures.words c.accepted.ensures.took c.accepted.ensures.fewer c.accepted.ensures.segment).segments

pub returns-clause-none : goal.returns-clause-none
returns-clause-none g c =
    (meets g.W.Words.draws g.W.Words.place c.args.t c.args.s c.accepted.result c.new.result.left _ c.new.result.words.now c.args.words.now _ c.new.ensures.left c.new.ensures.words c.accepted.ensures.took c.accepted.ensures.fewer c.accepted.ensures.segment).none

pub returns-clause-all : goal.returns-clause-all
returns-clause-all g c =
    (meets g.W.Words.draws g.W.Words.place c.args.t c.args.s c.accepted.result c.new.result.left _ c.new.result.words.now c.args.words.now _ c.new.ensures.left c.new.ensures.words c.accepted.ensures.took c.accepted.ensures.fewer c.accepted.ensures.segment).all

pub returns-clause-within : goal.returns-clause-within
returns-clause-within g c =
    (meets g.W.Words.draws g.W.Words.place c.args.t c.args.s c.accepted.result c.new.result.left _ c.new.result.words.now c.args.words.now _ c.new.ensures.left c.new.ensures.words c.accepted.ensures.took c.accepted.ensures.fewer c.accepted.ensures.segment).within
