use Rattle.std.proofs.Common.{◌≡◌, Result, Err, sym, subst}
use Rattle.budget_core.specs.declared.answers.Left.{Left}
use Rattle.budget_core.specs.declared.answers.GrantRefusal.{GrantRefusal}
use Rattle.budget_ledger.specs.Booked.{HasGrantVerdict, IsRaised}
use Rattle.budget_ledger.specs.declared.book.GrantFault.{GrantFault}
use Rattle.budget_ledger.proofs.Wents.{went_self}
use Rattle.query_server.specs.Ends.{end_status, end_text}
use Rattle.query_server.specs.Grant.{verdict_status, verdict_text}
use Rattle.query_server.specs.Granted.{IsBookBy}
use Rattle.query_server.proofs.grant.grant_over.Goals as goal

pub returns-in_err-line-clause-went : goal.returns-in_err-line-clause-went
returns-in_err-line-clause-went g c = went_self c.args.book.now.ledger.records c.args.book.now.storage

pub returns-in-Err-Refused-clause-end : goal.returns-in-Err-Refused-clause-end
returns-in-Err-Refused-clause-end g c =
    let end = c.in_ok-refused_end-in-Err-Refused.field-0 in
    let told = c.in_ok-refused_end-in-Err-Refused.ensures in
    let answer : HasGrantVerdict c.args.book.now c.args.amount (Err c.in-Err-Refused.refusal) × (c.grant.new.self ≡ c.args.book.now)
    = subst (λ (fault : GrantFault). IsRaised c.args.book.now c.args.amount (Err fault) c.grant.new.self) c.in-Err-Refused.field-0-is c.in-Err-Refused.ensures.answer in
    subst (λ (verdict : Result Left GrantRefusal). (end_status end ≡ verdict_status verdict) × (end_text end ≡ verdict_text c.args.owner.now verdict)
    × IsBookBy c.args.book.now c.args.amount verdict c.grant.new.self) (sym answer.0) (told.0, told.1 c.args.owner.now, answer.1)
