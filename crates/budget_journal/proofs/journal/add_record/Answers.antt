use Rattle.std.proofs.Common.{◌≡◌, ℕ, ◌+◌, ◌*◌, ◌∙◌, ap, sym, subst, arith, Option}
use Rattle.outside_disks.specs.Disks.{Trace, WhereTold}
use Rattle.budget_journal.specs.declared.area.Area.{Area}
use Rattle.budget_journal.specs.declared.form.Form.{Form}
use Rattle.budget_journal.specs.Areas.{area_begin}
use Rattle.budget_journal.specs.Journals.{Mark, mark_at, AppendFailed, Appended}
use Rattle.budget_journal.proofs.Made.{on_err}
use Rattle.budget_journal.proofs.Room.{told-no-room, told-nothing, told-record-added, told-record-refused}
use Rattle.budget_journal.proofs.journal.add_record.Goals as goal

module _ (live area : Area) (form : area.form ≡ live.form) (capacity : area.capacity ≡ live.capacity) (used : ℕ) where
  -- the place, by the words of the definitions
  place-is : (place : ℕ) → place ≡ area.begin + 64 * used → place ≡ area_begin live.form live.capacity area.number + 64 * used
  place-is place here =
      let there : area.begin ≡ area_begin live.form live.capacity area.number
      = area.begins ∙ ap (λ (v : Form). area_begin v area.capacity area.number) form ∙ ap (λ (c : ℕ). area_begin live.form c area.number) capacity in
      omega (arith, here, there)

  -- and where the journal is
  mark-is : mark_at area (used + 1) ≡ record (mark_at live used) { area = area.number; used = used + 1 }
  mark-is = ap (λ (v : Form). record { form = v; capacity = area.capacity; area = area.number; used = used + 1 }) form
      ∙ ap (λ (c : ℕ). record { form = live.form; capacity = c; area = area.number; used = used + 1 }) capacity

pub returns-in_err-look-clause-refused : goal.returns-in_err-look-clause-refused
returns-in_err-look-clause-refused g c =
    let old = g.D.Disk.trace c.args.disk.now in
    on_err c.from_residual.result (subst (λ (now : Option Trace). WhereTold (AppendFailed (mark_at c.args.live.now c.args.used) c.args.record_in.now) old now)
    (sym c.in_err-look.ensures.same) (told-nothing (mark_at c.args.live.now c.args.used) c.args.record_in.now old))

pub returns-in_err-area-clause-refused : goal.returns-in_err-area-clause-refused
returns-in_err-area-clause-refused g c =
    let at = mark_at c.args.live.now c.args.used in
    let new = g.D.Disk.trace c.make_room.new.disk in
    on_err c.from_residual-in_err-area.result
    (subst (λ (old : Option Trace). WhereTold (AppendFailed at c.args.record_in.now) old new) c.in_ok-look.ensures.same
    (told-no-room at c.args.record_in.now (g.D.Disk.trace c.look.new.disk) new c.in_err-area.ensures.refused))

pub returns-in_err-fill_slot-clause-refused : goal.returns-in_err-fill_slot-clause-refused
returns-in_err-fill_slot-clause-refused g c =
    let live = c.args.live.now in
    let area = c.in_ok-area.area in
    let at = mark_at live c.args.used in
    let new = g.D.Disk.trace c.fill_slot.new.disk in
    on_err c.from_residual-in_err-fill_slot.result
    (subst (λ (old : Option Trace). WhereTold (AppendFailed at c.args.record_in.now) old new) c.in_ok-look.ensures.same
    (told-record-refused at c.args.record_in.now area.number c.place.result
    (place-is live area c.in_ok-area.ensures.form c.in_ok-area.ensures.capacity c.args.used c.place.result c.place.ensures)
    (g.D.Disk.trace c.look.new.disk) (g.D.Disk.trace c.make_room.new.disk) new c.in_ok-area.ensures.made c.in_err-fill_slot.ensures.refused))

pub returns-clause-added : goal.returns-clause-added
returns-clause-added g c =
    let live = c.args.live.now in
    let area = c.in_ok-area.area in
    let at = mark_at live c.args.used in
    let now = mark_at area (c.args.used + 1) in
    let new = g.D.Disk.trace c.fill_slot.new.disk in
    subst (λ (old : Option Trace). WhereTold (Appended at c.args.record_in.now now) old new) c.in_ok-look.ensures.same
    (told-record-added at c.args.record_in.now area.number c.place.result
    (place-is live area c.in_ok-area.ensures.form c.in_ok-area.ensures.capacity c.args.used c.place.result c.place.ensures)
    now (mark-is live area c.in_ok-area.ensures.form c.in_ok-area.ensures.capacity c.args.used)
    (g.D.Disk.trace c.look.new.disk) (g.D.Disk.trace c.make_room.new.disk) new c.in_ok-area.ensures.made c.in_ok-fill_slot.ensures.filled)
