use Rattle.std.proofs.Common.{◌≡◌, ◌+◌, List, ℕ, drop, take, length, arith, ap, ◌∙◌, subst, length-drop, Result, Ok, Err, OnOk, OnErr}
use Rattle.std.proofs.lemmas.List.{take_all}
use Rattle.outside_disks.specs.Disks.{MayHaveWritten}
use Rattle.journal_records.specs.Encoding.{encoded, IsValid}
use Rattle.journal_records.specs.declared.records.Record.{Record}
use Rattle.journal_records.proofs.Shapes.{length-encoded}
use Rattle.budget_journal.proofs.Made.{on_err}
use Rattle.budget_journal.proofs.Filled.{told-refused-first, told-refused, told-filled}
use Rattle.budget_journal.proofs.journal.fill_slot.Goals as goal

ok_then : {T E P Q : Type 0} (r : Result T E) → (P → Q) → OnOk r P → OnOk r Q
ok_then (Ok value) f holds = f holds
ok_then (Err error) f holds = tt

err_then : {T E P Q : Type 0} (r : Result T E) → (P → Q) → OnErr r P → OnErr r Q
err_then (Ok value) f holds = tt
err_then (Err error) f holds = f holds

-- what is written behind the gate
body : (next : Record) → IsValid next → (out : List ℕ) → out ≡ encoded next → take 63 (drop 1 out) ≡ drop 1 (encoded next)
body next valid out is = ap (λ (o : List ℕ). take 63 (drop 1 o)) is
    ∙ take_all 63 (drop 1 (encoded next)) (omega (arith, length-drop 1 (encoded next), length-encoded next valid))

long : (next : Record) → IsValid next → (out : List ℕ) → out ≡ encoded next → length (take 63 (drop 1 out)) ≡ 63
long next valid out is = ap length (body next valid out is) ∙ omega (arith, length-drop 1 (encoded next), length-encoded next valid)

pub returns-in_err-put_stable-clause-refused : goal.returns-in_err-put_stable-clause-refused
returns-in_err-put_stable-clause-refused g c =
    let next = c.args.record_in.now in
    let out = c.encode.new.out in
    on_err c.from_residual.result
    (told-refused-first c.args.place next c.requires.valid (take 63 (drop 1 out)) (body next c.requires.valid out c.encode.ensures)
    (g.D.Disk.trace c.args.disk.now) (g.D.Disk.trace c.put_stable.new.disk) (g.D.Disk.trace c.put_stable.new.disk)
    (subst (λ (n : ℕ). MayHaveWritten (c.args.place + 1) n (g.D.Disk.trace c.args.disk.now) (g.D.Disk.trace c.put_stable.new.disk))
    (long next c.requires.valid out c.encode.ensures) c.in_err-put_stable.ensures.err))

pub returns-clause-filled : goal.returns-clause-filled
returns-clause-filled g c =
    let next = c.args.record_in.now in
    let out = c.encode.new.out in
    ok_then c.put_stable-2.result
    (told-filled c.args.place next c.requires.valid (take 63 (drop 1 out)) (body next c.requires.valid out c.encode.ensures)
    (g.D.Disk.trace c.args.disk.now) (g.D.Disk.trace c.put_stable.new.disk) (g.D.Disk.trace c.put_stable-2.new.disk) c.in_ok-put_stable.ensures.stable)
    c.put_stable-2.ensures.stable

pub returns-clause-refused : goal.returns-clause-refused
returns-clause-refused g c =
    let next = c.args.record_in.now in
    let out = c.encode.new.out in
    err_then c.put_stable-2.result
    (told-refused c.args.place next c.requires.valid (take 63 (drop 1 out)) (body next c.requires.valid out c.encode.ensures)
    (g.D.Disk.trace c.args.disk.now) (g.D.Disk.trace c.put_stable.new.disk) (g.D.Disk.trace c.put_stable-2.new.disk) c.in_ok-put_stable.ensures.stable)
    c.put_stable-2.ensures.err
