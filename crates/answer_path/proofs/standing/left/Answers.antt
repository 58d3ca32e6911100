use Rattle.std.proofs.Common.{◌≡◌, sym, subst}
use Rattle.budget_core.specs.Answers.{left_of}
use Rattle.wire_lines.specs.Reply.{replied}
use Rattle.answer_path.specs.Answered.{HasSmallAnswer, IsUnasked}
use Rattle.answer_path.proofs.Standings.{is_balance, stays_so}
use Rattle.answer_path.proofs.standing.left.Goals as goal

pub returns-clause-told : goal.returns-clause-told
returns-clause-told g c = is_balance c.args.pass.now.knows c.left.new.pass.knows (replied c.left_reply_of.result) c.left.result c.left.ensures.told c.left_reply_of.ensures

pub returns-clause-stays : goal.returns-clause-stays
returns-clause-stays g c = stays_so c.args.pass.now.knows c.left.new.pass.knows (λ ledger. c.left.result ≡ left_of ledger) c.left.ensures.told

pub returns-clause-asked : goal.returns-clause-asked
returns-clause-asked g c = λ unasked. subst IsUnasked c.left_reply_of.ensures unasked

pub returns-clause-fits : goal.returns-clause-fits
returns-clause-fits g c = subst HasSmallAnswer (sym c.left_reply_of.ensures) tt
