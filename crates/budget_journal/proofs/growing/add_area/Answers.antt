use Rattle.std.proofs.Common.{◌≡◌, ℕ, suc, ◌+◌, ◌<◌, ◌∙◌, [], ◌∷◌, ap, arith, subst, Option}
use Rattle.outside_disks.specs.Disks.{Trace, WhereTold, noted, MayHaveWritten}
use Rattle.outside_disks.specs.Disks.Step.{Wrote, Synced}
use Rattle.journal_records.specs.Encoding.{gate}
use Rattle.budget_journal.proofs.Made.{on_err}
use Rattle.budget_journal.specs.declared.area.Area.{Area}
use Rattle.budget_journal.specs.declared.form.Form.{Form}
use Rattle.budget_journal.specs.declared.form.Form.TheVariants.{Many}
use Rattle.budget_journal.specs.Areas.{area_begin, area_slots}
use Rattle.budget_journal.specs.Growth.{AreaCopied, AreaCopyFailed}
use Rattle.budget_journal.proofs.Geometry.{grows}
use Rattle.budget_journal.proofs.Added.{told-copy-failed, told-not-synced, told-not-gated, told-added}
use Rattle.budget_journal.proofs.growing.add_area.Goals as goal

-- a copy, by the words of the definitions
module _ (full : Area) (fewer : full.slots < full.capacity) (old new : Option Trace) where
  two : full.form ≡ Many
  two = grows full.form full.capacity full.number (omega (arith, fewer, full.counted))

  begins : full.begin ≡ area_begin Many full.capacity full.number
  begins = full.begins ∙ ap (λ (v : Form). area_begin v full.capacity full.number) two

  counted : full.slots ≡ area_slots Many full.capacity full.number
  counted = full.counted ∙ ap (λ (v : Form). area_slots v full.capacity full.number) two

  copy-failed : WhereTold (AreaCopyFailed full.begin full.slots) old new
      → WhereTold (AreaCopyFailed (area_begin Many full.capacity full.number) (area_slots Many full.capacity full.number)) old new
  copy-failed told = subst (λ (n : ℕ). WhereTold (AreaCopyFailed n (area_slots Many full.capacity full.number)) old new) begins
      (subst (λ (n : ℕ). WhereTold (AreaCopyFailed full.begin n) old new) counted told)

  copied : (next : Area) → next.form ≡ full.form → next.capacity ≡ full.capacity → next.number ≡ full.number + 1 → WhereTold (AreaCopied full.begin full.slots next.slots) old new
      → WhereTold (AreaCopied (area_begin Many full.capacity full.number) (area_slots Many full.capacity full.number) (area_slots Many full.capacity (suc full.number))) old new
  copied next form same more told =
      let number : next.number ≡ suc full.number = omega (arith, more) in
      let slots : next.slots ≡ area_slots Many full.capacity (suc full.number) = next.counted ∙ ap (λ (v : Form). area_slots v next.capacity next.number) (form ∙ two)
      ∙ ap (λ (c : ℕ). area_slots Many c next.number) same ∙ ap (area_slots Many full.capacity) number in
      subst (λ (n : ℕ). WhereTold (AreaCopied n (area_slots Many full.capacity full.number) (area_slots Many full.capacity (suc full.number))) old new) begins
      (subst (λ (n : ℕ). WhereTold (AreaCopied full.begin n (area_slots Many full.capacity (suc full.number))) old new) counted
      (subst (λ (n : ℕ). WhereTold (AreaCopied full.begin full.slots n) old new) slots told))

pub returns-in_err-copy_area-clause-refused : goal.returns-in_err-copy_area-clause-refused
returns-in_err-copy_area-clause-refused g c =
    let full = c.args.full.now in
    let old = g.D.Disk.trace c.args.disk.now in
    let mid = g.D.Disk.trace c.copy_area.new.disk in
    on_err c.from_residual.result
    (told-copy-failed full.capacity full.number (omega arith) old mid mid mid (copy-failed full c.requires old mid c.in_err-copy_area.ensures.begun))

pub returns-in_err-sync-clause-refused : goal.returns-in_err-sync-clause-refused
returns-in_err-sync-clause-refused g c =
    let full = c.args.full.now in
    let next = c.next-next.ensures in
    let old = g.D.Disk.trace c.args.disk.now in
    let mid = g.D.Disk.trace c.copy_area.new.disk in
    let synced = g.D.Disk.trace c.sync.new.self in
    on_err c.from_residual-in_err-sync.result
    (told-not-synced full.capacity full.number (omega arith) old mid synced synced
    (copied full c.requires old mid c.next-next.result next.form next.capacity next.number c.in_ok-copy_area.ensures.copied) c.in_err-sync.ensures.err)

pub returns-in_err-put_stable-clause-refused : goal.returns-in_err-put_stable-clause-refused
returns-in_err-put_stable-clause-refused g c =
    let full = c.args.full.now in
    let next = c.next-next.ensures in
    let old = g.D.Disk.trace c.args.disk.now in
    let mid = g.D.Disk.trace c.copy_area.new.disk in
    let synced = g.D.Disk.trace c.sync.new.self in
    let new = g.D.Disk.trace c.put_stable.new.disk in
    let there : 96 + c.from.result ≡ 96 + suc full.number = omega (arith, c.from.ensures, next.number) in
    on_err c.from_residual-in_err-put_stable.result
    (told-not-gated full.capacity full.number (omega arith) old mid synced new
    (copied full c.requires old mid c.next-next.result next.form next.capacity next.number c.in_ok-copy_area.ensures.copied) c.in_ok-sync.ensures.synced
    (subst (λ (n : ℕ). MayHaveWritten n 1 synced new) there c.in_err-put_stable.ensures.err))

pub returns-clause-added : goal.returns-clause-added
returns-clause-added g c =
    let full = c.args.full.now in
    let next = c.next-next.ensures in
    let old = g.D.Disk.trace c.args.disk.now in
    let mid = g.D.Disk.trace c.copy_area.new.disk in
    let synced = g.D.Disk.trace c.sync.new.self in
    let new = g.D.Disk.trace c.put_stable.new.disk in
    let there : 96 + c.from.result ≡ 96 + suc full.number = omega (arith, c.from.ensures, next.number) in
    told-added full.capacity full.number (omega arith) old mid synced new
    (copied full c.requires old mid c.next-next.result next.form next.capacity next.number c.in_ok-copy_area.ensures.copied) c.in_ok-sync.ensures.synced
    (subst (λ (n : ℕ). new ≡ noted Synced (noted (Wrote n (gate ∷ [])) synced)) there c.in_ok-put_stable.ensures.stable)
