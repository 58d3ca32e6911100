use Rattle.std.proofs.Common.{◌≡◌, sym, subst}
use Rattle.budget_core.specs.Answers.{mine_of}
use Rattle.wire_lines.specs.Reply.{replied}
use Rattle.answer_path.specs.Answered.{HasSmallAnswer, IsUnasked}
use Rattle.answer_path.proofs.Standings.{is_spending, stays_so}
use Rattle.answer_path.proofs.standing.mine.Goals as goal

pub returns-clause-told : goal.returns-clause-told
returns-clause-told g c =
    is_spending c.args.pass.now.knows c.mine.new.pass.knows c.args.analyst (replied c.mine_reply_of.result) c.mine.result c.mine.ensures.told c.mine_reply_of.ensures

pub returns-clause-stays : goal.returns-clause-stays
returns-clause-stays g c = stays_so c.args.pass.now.knows c.mine.new.pass.knows (λ ledger. c.mine.result ≡ mine_of ledger c.args.analyst) c.mine.ensures.told

pub returns-clause-asked : goal.returns-clause-asked
returns-clause-asked g c = λ unasked. subst IsUnasked c.mine_reply_of.ensures unasked

pub returns-clause-fits : goal.returns-clause-fits
returns-clause-fits g c = subst HasSmallAnswer (sym c.mine_reply_of.ensures) tt
