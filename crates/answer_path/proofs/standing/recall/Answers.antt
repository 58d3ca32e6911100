use Rattle.std.proofs.Common.{◌≡◌, sym, subst}
use Rattle.budget_core.specs.Answers.{recalled}
use Rattle.wire_lines.specs.Reply.{replied}
use Rattle.answer_path.specs.Answered.{HasSmallAnswer, IsUnasked}
use Rattle.answer_path.proofs.Standings.{is_recalled, recall_asked, recall_small, stays_so}
use Rattle.answer_path.proofs.standing.recall.Goals as goal

pub returns-clause-told : goal.returns-clause-told
returns-clause-told g c =
    is_recalled c.args.pass.now.knows c.recall.new.pass.knows c.recall.result c.args.number c.args.analyst (replied c.recall_reply_of.result) c.recall.ensures.told c.recall_reply_of.ensures

pub returns-clause-stays : goal.returns-clause-stays
returns-clause-stays g c = stays_so c.args.pass.now.knows c.recall.new.pass.knows (λ ledger. c.recall.result ≡ recalled ledger c.args.number c.args.analyst) c.recall.ensures.told

pub returns-clause-asked : goal.returns-clause-asked
returns-clause-asked g c = λ unasked. recall_asked c.args.number c.recall.result (subst IsUnasked c.recall_reply_of.ensures unasked)

pub returns-clause-fits : goal.returns-clause-fits
returns-clause-fits g c = subst HasSmallAnswer (sym c.recall_reply_of.ensures) (recall_small c.args.number c.recall.result)
