use Rattle.fz_parser.specs.Kept.{state_of, what_of}
use Rattle.fz_parser.proofs.Making.{make_state}
use Rattle.fz_parser.proofs.make.make.Goals as goal

pub returns-clause-state : goal.returns-clause-state
unfolding state_of
returns-clause-state c =
    make_state c.args.action (state_of c.args.reader.now) (state_of c.made.new.reader) (state_of c.replace.new.reader) c.arity-count.result c.start-from.result (what_of c.made.new.reader.nodes c.in_ok-held.held)
    c.arity-count.ensures c.start-from.ensures c.in_ok-held.ensures.state c.in_ok-held.ensures.is c.in_ok-replace.ensures.state
