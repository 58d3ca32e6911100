use Rattle.std.proofs.Common.{◌≡◌, ℕ, ◌*◌, List, [], take, drop, length, length-drop, ◌∙◌, ap, refl, sym, arith, None, Result, Ok, Err, IfErr}
use Rattle.std.proofs.lemmas.List.{take_all, nil_from_length}
use Rattle.std.proofs.lemmas.Option.{MatchOption-at_some}
use Rattle.outside_disks.specs.Disks.{seen_of}
use Rattle.journal_records.specs.Encoding.{encoded_header, IsHeader}
use Rattle.journal_records.specs.declared.records.Header.{Header}
use Rattle.budget_journal.specs.declared.making.InitFault.{InitFault}
use Rattle.budget_journal.specs.declared.making.InitFault.TheVariants.{DiskFault}
use Rattle.budget_journal.specs.declared.form.Form.TheVariants.{Many}
use Rattle.budget_journal.proofs.Made.{length-header, told-nothing, told-zeros-begun, told-zeros-done, told-header-tried, told-gate-tried, told-in-turn, told-made}
use Rattle.budget_journal.proofs.journal.Journal.init.Goals as goal

body : (header : Header) → IsHeader header → (out : List ℕ) → out ≡ encoded_header header → take 127 (drop 1 out) ≡ drop 1 (encoded_header header)
body header valid out is = ap (λ (o : List ℕ). take 127 (drop 1 o)) is
    ∙ take_all 127 (drop 1 (encoded_header header)) (omega (arith, length-drop 1 (encoded_header header), length-header header valid))

if_err : {T P : Type 0} (r : Result T InitFault) → P → IfErr r (λ fault. fault ≡ DiskFault → P)
if_err (Ok value) holds = tt
if_err (Err error) holds = λ is. holds

pub returns-in_err-length-clause-begun : goal.returns-in_err-length-clause-begun
returns-in_err-length-clause-begun g c = if_err c.from_residual.result
    (told-nothing c.args.header.now (g.D.Disk.trace c.args.disk.now) (g.D.Disk.trace c.len.new.self) c.in_err-length.ensures.same)

pub returns-in_err-put_zeros-clause-begun : goal.returns-in_err-put_zeros-clause-begun
returns-in_err-put_zeros-clause-begun g c = if_err c.from_residual-in_err-put_zeros.result
    (told-zeros-begun c.args.header.now (64 * c.first_pieces.result) c.first_pieces.ensures.long _ refl (g.D.Disk.trace c.args.disk.now)
    (g.D.Disk.trace c.len.new.self) (g.D.Disk.trace c.put_zeros.new.disk) None None None c.in_ok-length.ensures.same c.in_err-put_zeros.ensures.begun)

pub returns-in_err-sync-clause-begun : goal.returns-in_err-sync-clause-begun
returns-in_err-sync-clause-begun g c = if_err c.from_residual-in_err-sync.result
    (told-zeros-done c.args.header.now (64 * c.first_pieces.result) c.first_pieces.ensures.long _ refl (g.D.Disk.trace c.args.disk.now)
    (g.D.Disk.trace c.len.new.self) (g.D.Disk.trace c.put_zeros.new.disk) (g.D.Disk.trace c.sync.new.self) None None c.in_ok-length.ensures.same
    c.in_ok-put_zeros.ensures.zeroed c.in_err-sync.ensures.err)

pub returns-in_err-put_stable-clause-begun : goal.returns-in_err-put_stable-clause-begun
returns-in_err-put_stable-clause-begun g c = if_err c.from_residual-in_err-put_stable.result
    (told-header-tried c.args.header.now (64 * c.first_pieces.result) c.first_pieces.ensures.long (take 127 (drop 1 c.encode_header.new.out))
    (body c.args.header.now c.requires.valid c.encode_header.new.out c.encode_header.ensures) (g.D.Disk.trace c.args.disk.now)
    (g.D.Disk.trace c.len.new.self) (g.D.Disk.trace c.put_zeros.new.disk) (g.D.Disk.trace c.sync.new.self) (g.D.Disk.trace c.put_stable.new.disk) None
    c.in_ok-length.ensures.same c.in_ok-put_zeros.ensures.zeroed c.in_ok-sync.ensures.synced c.in_err-put_stable.ensures.err)

pub returns-in_err-put_stable-2-clause-begun : goal.returns-in_err-put_stable-2-clause-begun
returns-in_err-put_stable-2-clause-begun g c = if_err c.from_residual-in_err-put_stable-2.result
    (told-gate-tried c.args.header.now (64 * c.first_pieces.result) c.first_pieces.ensures.long (take 127 (drop 1 c.encode_header.new.out))
    (body c.args.header.now c.requires.valid c.encode_header.new.out c.encode_header.ensures) (g.D.Disk.trace c.args.disk.now)
    (g.D.Disk.trace c.len.new.self) (g.D.Disk.trace c.put_zeros.new.disk) (g.D.Disk.trace c.sync.new.self) (g.D.Disk.trace c.put_stable.new.disk)
    (g.D.Disk.trace c.put_stable-2.new.disk) c.in_ok-length.ensures.same c.in_ok-put_zeros.ensures.zeroed c.in_ok-sync.ensures.synced
    c.in_ok-put_stable.ensures.stable c.in_err-put_stable-2.ensures.err)

pub returns-clause-in_turn : goal.returns-clause-in_turn
returns-clause-in_turn g c =
    told-in-turn c.args.header.now (64 * c.first_pieces.result) c.first_pieces.ensures.long (take 127 (drop 1 c.encode_header.new.out))
    (body c.args.header.now c.requires.valid c.encode_header.new.out c.encode_header.ensures) (g.D.Disk.trace c.args.disk.now)
    (g.D.Disk.trace c.len.new.self) (g.D.Disk.trace c.put_zeros.new.disk) (g.D.Disk.trace c.sync.new.self) (g.D.Disk.trace c.put_stable.new.disk)
    (g.D.Disk.trace c.put_stable-2.new.disk) c.in_ok-length.ensures.same c.in_ok-put_zeros.ensures.zeroed c.in_ok-sync.ensures.synced
    c.in_ok-put_stable.ensures.stable c.in_ok-put_stable-2.ensures.stable

pub returns-clause-made : goal.returns-clause-made
returns-clause-made g c t told =
    let long : c.in_ok-length.length ≡ length (seen_of t) = MatchOption-at_some _ _ t told c.in_ok-length.ensures.length in
    let empty : seen_of t ≡ [] = nil_from_length (seen_of t) (sym long ∙ c.if-length-ne0.false) in
    (empty, told-made c.args.header.now c.requires.valid c.requires.grown t empty _ _ told (returns-clause-in_turn g c))
