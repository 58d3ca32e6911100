use Rattle.std.proofs.Common.{refl}
use Rattle.fz_parser.proofs.Making.{take_state, take_none}
use Rattle.fz_parser.proofs.make.take.Goals as goal

pub replace-requires-clause-held : goal.replace-requires-clause-held
replace-requires-clause-held c = (c.in-Some.ensures c.args.reader.now.nodes).0

pub returns-in_ok-replace-in-Some-clause-state : goal.returns-in_ok-replace-in-Some-clause-state
returns-in_ok-replace-in-Some-clause-state c =
    take_state c.args.reader.now (record { last = c.args.token.now.span; entries = c.args.reader.now.entries; nodes = c.args.reader.now.nodes }) c.replace.new.reader c.args.terminal c.args.token.now c.in-Some.held
    refl refl refl c.in-Some.ensures c.in_ok-replace-in-Some.ensures.state

pub returns-in-None-clause-state : goal.returns-in-None-clause-state
returns-in-None-clause-state c =
    take_none c.args.reader.now (record { last = c.args.token.now.span; entries = c.args.reader.now.entries; nodes = c.args.reader.now.nodes }) c.args.terminal c.args.token.now refl refl refl c.in-None.ensures
