use Rattle.std.proofs.Common.{subst, sym}
use Rattle.budget_core.specs.Entries.{Entry}
use Rattle.wire_lines.specs.Reply.{replied}
use Rattle.owner_desk.specs.Passes.{first_of_run}
use Rattle.answer_path.specs.declared.demand.Demand.{Demand as DemandAt}
use Rattle.answer_path.specs.Code.{AsksTooManyWalks, HasPartFor, IsDemandOf, demand_of, query_of}
use Rattle.answer_path.specs.Shut.{LeavesDue}
use Rattle.answer_path.specs.Standing.{IsBalance, IsSpending}
use Rattle.answer_path.proofs.Meets.{IsLine, asked_due, asked_line, balance_due, balance_line, recalled_due, recalled_line, spending_due, spending_line}
use Rattle.answer_path.proofs.meeting.meet.Goals as goal

pub ask-requires-clause-query : goal.ask-requires-clause-query
ask-requires-clause-query g c = subst (λ (d : DemandAt). IsDemandOf c.args.pass.now.knows.opened.ledger.entry (demand_of d)) c.in-Asks.is c.requires.demand

pub ask-requires-clause-part : goal.ask-requires-clause-part
ask-requires-clause-part g c = subst (λ (d : DemandAt). HasPartFor c.args.dataset.now.partitions (demand_of d)) c.in-Asks.is c.requires.part

pub returns-in-Asks-clause-met : goal.returns-in-Asks-clause-met
returns-in-Asks-clause-met g c = λ whose is.
    let draws = g.S.Streams.given c.args.streams.now c.args.owner in
    let step = c.ask.ensures.step whose is in
    subst (λ (d : DemandAt). IsLine whose draws (demand_of d) c.args.pass.now.knows (replied c.ask.result) c.ask.new.pass.knows) (sym c.in-Asks.is)
    (asked_line whose draws (query_of c.in-Asks.query) c.args.pass.now.knows c.ask.new.pass.knows (replied c.ask.result) step.0 step.1 step.2 (c.ask.ensures.shuts whose is step.0 step.2) c.ask.ensures.said_open)

pub returns-in-Asks-clause-due : goal.returns-in-Asks-clause-due
returns-in-Asks-clause-due g c = λ whose is told own.
    subst (λ (d : DemandAt). LeavesDue whose (first_of_run c.args.pass.now.knows) (demand_of d) (replied c.ask.result) told c.ask.new.pass.knows.seen c.ask.new.pass.knows.failure) (sym c.in-Asks.is)
    (asked_due whose (first_of_run c.args.pass.now.knows) (query_of c.in-Asks.query) (replied c.ask.result) told c.ask.new.pass.knows (c.ask.ensures.due whose is told own))

pub returns-in-Recalls-clause-met : goal.returns-in-Recalls-clause-met
returns-in-Recalls-clause-met g c = λ whose is.
    let draws = g.S.Streams.given c.args.streams.now c.args.owner in
    subst (λ (d : DemandAt). IsLine whose draws (demand_of d) c.args.pass.now.knows (replied c.recall.result) c.recall.new.pass.knows) (sym c.in-Recalls.is)
    (recalled_line whose draws c.in-Recalls.analyst c.in-Recalls.number c.args.pass.now.knows c.recall.new.pass.knows (replied c.recall.result) c.recall.ensures.told c.recall.ensures.stays)

pub returns-in-Recalls-clause-due : goal.returns-in-Recalls-clause-due
returns-in-Recalls-clause-due g c = λ whose is told own.
    subst (λ (d : DemandAt). LeavesDue whose (first_of_run c.args.pass.now.knows) (demand_of d) (replied c.recall.result) told c.recall.new.pass.knows.seen c.recall.new.pass.knows.failure) (sym c.in-Recalls.is)
    (recalled_due whose (first_of_run c.args.pass.now.knows) c.in-Recalls.analyst c.in-Recalls.number (replied c.recall.result) told c.recall.new.pass.knows)

pub returns-in-Balances-clause-met : goal.returns-in-Balances-clause-met
returns-in-Balances-clause-met g c = λ whose is.
    let draws = g.S.Streams.given c.args.streams.now c.args.owner in
    subst (λ (d : DemandAt). IsLine whose draws (demand_of d) c.args.pass.now.knows (replied c.left.result) c.left.new.pass.knows) (sym c.in-Balances.is)
    (balance_line whose draws c.args.pass.now.knows c.left.new.pass.knows (replied c.left.result)
    (subst (λ (entry : Entry). IsBalance entry c.args.pass.now.knows.seen (replied c.left.result) c.left.new.pass.knows.seen) (sym is.entry_is) c.left.ensures.told) c.left.ensures.stays)

pub returns-in-Balances-clause-due : goal.returns-in-Balances-clause-due
returns-in-Balances-clause-due g c = λ whose is told own.
    subst (λ (d : DemandAt). LeavesDue whose (first_of_run c.args.pass.now.knows) (demand_of d) (replied c.left.result) told c.left.new.pass.knows.seen c.left.new.pass.knows.failure) (sym c.in-Balances.is)
    (balance_due whose (first_of_run c.args.pass.now.knows) (replied c.left.result) told c.left.new.pass.knows)

pub returns-in-Spends-clause-met : goal.returns-in-Spends-clause-met
returns-in-Spends-clause-met g c = λ whose is.
    let draws = g.S.Streams.given c.args.streams.now c.args.owner in
    let analyst = c.in-Spends.analyst in
    subst (λ (d : DemandAt). IsLine whose draws (demand_of d) c.args.pass.now.knows (replied c.mine.result) c.mine.new.pass.knows) (sym c.in-Spends.is)
    (spending_line whose draws analyst c.args.pass.now.knows c.mine.new.pass.knows (replied c.mine.result)
    (subst (λ (entry : Entry). IsSpending entry analyst c.args.pass.now.knows.seen (replied c.mine.result) c.mine.new.pass.knows.seen) (sym is.entry_is) c.mine.ensures.told) c.mine.ensures.stays)

pub returns-in-Spends-clause-due : goal.returns-in-Spends-clause-due
returns-in-Spends-clause-due g c = λ whose is told own.
    subst (λ (d : DemandAt). LeavesDue whose (first_of_run c.args.pass.now.knows) (demand_of d) (replied c.mine.result) told c.mine.new.pass.knows.seen c.mine.new.pass.knows.failure) (sym c.in-Spends.is)
    (spending_due whose (first_of_run c.args.pass.now.knows) c.in-Spends.analyst (replied c.mine.result) told c.mine.new.pass.knows)

pub returns-in-Spends-clause-same : goal.returns-in-Spends-clause-same
returns-in-Spends-clause-same g c = λ unasked. absurd (c.mine.ensures.asked unasked)

pub returns-in-Recalls-clause-same : goal.returns-in-Recalls-clause-same
returns-in-Recalls-clause-same g c = λ unasked. absurd (c.recall.ensures.asked unasked)

pub returns-in-Balances-clause-same : goal.returns-in-Balances-clause-same
returns-in-Balances-clause-same g c = λ unasked. absurd (c.left.ensures.asked unasked)

pub returns-in-Asks-clause-walks : goal.returns-in-Asks-clause-walks
returns-in-Asks-clause-walks g c = λ walks. c.ask.ensures.walks (subst (λ (d : DemandAt). AsksTooManyWalks c.args.dataset.now (demand_of d)) c.in-Asks.is walks)

pub returns-in-Recalls-clause-walks : goal.returns-in-Recalls-clause-walks
returns-in-Recalls-clause-walks g c = λ walks. absurd (subst (λ (d : DemandAt). AsksTooManyWalks c.args.dataset.now (demand_of d)) c.in-Recalls.is walks)

pub returns-in-Balances-clause-walks : goal.returns-in-Balances-clause-walks
returns-in-Balances-clause-walks g c = λ walks. absurd (subst (λ (d : DemandAt). AsksTooManyWalks c.args.dataset.now (demand_of d)) c.in-Balances.is walks)

pub returns-in-Spends-clause-walks : goal.returns-in-Spends-clause-walks
returns-in-Spends-clause-walks g c = λ walks. absurd (subst (λ (d : DemandAt). AsksTooManyWalks c.args.dataset.now (demand_of d)) c.in-Spends.is walks)
