use Rattle.std.proofs.Common.{◌≡◌, ap, sym, subst, ℕ}
use Rattle.std.specs.Prelude.{Result}
use Rattle.budget_ledger.specs.declared.book.AppendFault.{AppendFault}
use Rattle.wire_lines.specs.Reply.{replied, refused}
use Rattle.wire_lines.specs.Refusal.{by_disk}
use Rattle.wire_lines.specs.declared.refusal.DiskRefusal.{DiskRefusal}
use Rattle.answer_path.specs.Turn.{settled_reply}
use Rattle.answer_path.proofs.answer.settle.Goals as goal

pub returns-in-Ok-clause-settled : goal.returns-in-Ok-clause-settled
returns-in-Ok-clause-settled g c = (
  c.settle.result,
  c.settle.ensures.settled,
  subst (λ (r : Result ℕ AppendFault). replied c.reply_of.result ≡ settled_reply c.args.grant c.args.outcome r) (sym c.in-Ok.is) c.reply_of.ensures,
)

pub returns-in-Err-clause-settled : goal.returns-in-Err-clause-settled
returns-in-Err-clause-settled g c = (
  c.settle.result,
  c.settle.ensures.settled,
  subst (λ (r : Result ℕ AppendFault). refused (by_disk c.disk_refusal_of.result) ≡ settled_reply c.args.grant c.args.outcome r) (sym c.in-Err.is)
      (ap (λ (d : DiskRefusal). refused (by_disk d)) c.disk_refusal_of.ensures),
)
