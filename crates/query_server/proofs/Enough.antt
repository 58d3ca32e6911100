-- one sound disk of two is enough
use Rattle.std.proofs.Common.{◌≡◌, ℕ, ◌<◌, ◌++◌, List, [], ◌∷◌, true, false, Option, Some, None, refl, sym, ◌∙◌, ap, subst, arith}
use Rattle.std.specs.Prelude.{IfSome}
use mathlib.Core.Logic.{◌⊎◌, inl, inr}
use mathlib.Core.List.{IsPrefix}
use Rattle.word_streams.specs.Draws.{draws_of}
use Rattle.fz_outside.specs.Faults.{HasRisen, last_count}
use Rattle.outside_disks.specs.Disks.{IsImageOf, Passes, Shown, Trace, WhereTold, noted}
use Rattle.outside_disks.specs.Disks.Step.{Synced}
use Rattle.outside_disks.specs.Stored.{Twins}
use Rattle.outside_disks.proofs.Images.{passes-weaker}
use Rattle.journal_records.specs.declared.records.Header.{Header}
use Rattle.journal_records.specs.declared.records.Record.{Record}
use Rattle.budget_journal.specs.Journals.{Found, IsAtRest, Stands}
use Rattle.budget_ledger.specs.Account.{Copy, CopyWentBy, HasPassed, Held, HeldWent, IsCopy, IsHeldCopy, IsInUse, IsKeptNow, IsMoment, with_closing}
use Rattle.budget_ledger.specs.Both.{IsOpenedCopy, Reading, StoodStill}
use Rattle.budget_ledger.specs.Both.Reading.{Missing, Holding, Unfit}
use Rattle.budget_ledger.specs.declared.failure.Failure.{Failure}
use Rattle.budget_ledger.proofs.Wents.{prefix_by, prefix_self, prefix_then}
use Rattle.wire_lines.specs.Reply.{Replied, refused}
use Rattle.wire_lines.specs.Refusal.{by_disk}
use Rattle.wire_lines.specs.declared.refusal.DiskRefusal.{DiskRefusal}
use Rattle.wire_lines.specs.declared.refusal.DiskRefusal.TheVariants.{Closed, Fault}
use Rattle.owner_house.specs.House.{House, house_of, owner_at}
use Rattle.owner_house.proofs.Owners.{owner_there, owners_length}
use Rattle.generated_run.specs.AnswerPath.Shut.{disk_word}
use Rattle.generated_run.specs.SessionCore.Exchanges.{Exchange}
use Rattle.generated_run.specs.Causes.{AreCaused}
use Rattle.generated_run.proofs.Causes.{caused}
use Rattle.catalog_loading.specs.Loaded.{header_of}
use Rattle.query_server.specs.Mirrors.{BothWentOn, TwinsWentOn}
use Rattle.query_server.specs.Enough.{ASoundDiskIsEnough, ASoundDiskIsEnoughToServe, EachIsEnough, IsSound, LeavesAll, LeavesFirst, NoneIsRefused, StandsForFirst}

-- ---- one disk, by what was found on it

-- a disk that was read was synced, and is at rest
read_noted : (header : Header) (had : List Record) (before read : Option Trace) → WhereTold (Found header had) before read → read ≡ noted Synced before
read_noted header had None None f = refl
read_noted header had None (Some u) f = absurd f
read_noted header had (Some t) None f = absurd f
read_noted header had (Some t) (Some u) f = ap Some f.0

read_rest : (header : Header) (had : List Record) (before read : Option Trace) → WhereTold (Found header had) before read → IfSome read (IsAtRest header had)
read_rest header had before None f = tt
read_rest header had None (Some u) f = absurd f
read_rest header had (Some t) (Some u) f = f.1

module _ (header : Header) (had has records : List Record) (closed : Option Failure) (begins : IsPrefix had has) (within : IsPrefix has records) (follows : (failure : Failure) → closed ≡ Some failure → IsPrefix (has ++ failure.pending ∷ []) records) where
  first_ones : (t : Trace) → IsAtRest header had t → (bytes : List ℕ) → IsImageOf t bytes ⊎ IsMoment header had has closed bytes → StandsForFirst header had records bytes
  first_ones t rest bytes (inl image) = (had, prefix_self had, prefix_then had has records begins within, subst (Stands header had) (sym (rest.stable bytes image)) rest.stands)
  first_ones t rest bytes (inr (inl (g, from, to, stands))) = (g, from, prefix_then g has records to within, stands)
  first_ones t rest bytes (inr (inr (failure, is, stands))) =
      (has ++ failure.pending ∷ [], prefix_then had has (has ++ failure.pending ∷ []) begins (prefix_by has (failure.pending ∷ [])), follows failure is, stands)

  told_first : (read now : Option Trace) → IfSome read (IsAtRest header had) → WhereTold (HasPassed header had has closed) read now → WhereTold (Passes (StandsForFirst header had records)) read now
  told_first None None rest passed = tt
  told_first None (Some u) rest passed = absurd passed
  told_first (Some t) None rest passed = absurd passed
  told_first (Some t) (Some u) rest passed = passes-weaker (λ bytes. IsImageOf t bytes ⊎ IsMoment header had has closed bytes) (StandsForFirst header had records) t u (first_ones t rest) passed

-- a count that stood still below its last value didn't rise
not_risen : (before now : ℕ) → now ≡ before → before < last_count → HasRisen before now → ⊥
not_risen before now still below rose = let more : before < now = rose below in omega (arith, still, more)

-- One of two disks of a book that is open: what it had, and how it went on.
module _ (common : Header) (records : List Record) (before : Shown) (copy : Copy) where
  abbrev headed : ℕ → Header
  headed version = record common { version = version }

  abbrev was_read : (version : ℕ) → List Record → Held
  was_read version had = record { header = headed version; has = had; closed = None }

  held_first : (version : ℕ) (had : List Record) (read : Option Trace) (held : Option Held) → WhereTold (Found (headed version) had) before.trace read
      → CopyWentBy (record { trace = read; faults = before.faults }) copy.shown (Some (was_read version had)) held → IfSome held (IsHeldCopy common records None copy.shown)
      → WhereTold (Passes (StandsForFirst (headed version) had records)) (noted Synced before.trace) copy.shown.trace
  held_first version had read None found went copied = absurd went
  held_first version had read (Some held) found went copied =
      subst (λ (r : Option Trace). WhereTold (Passes (StandsForFirst (headed version) had records)) r copy.shown.trace) (read_noted (headed version) had before.trace read found)
      (told_first (headed version) had held.has records held.closed went.begins copied.begins copied.follows read copy.shown.trace (read_rest (headed version) had before.trace read found) went.moments)

  pub leaves_first : (reading : Reading) → IsOpenedCopy common before reading copy → IsCopy common records None copy → LeavesFirst common records before copy.shown reading
  leaves_first (Missing empty) (none, gone, left) copied = left
  leaves_first (Holding version had) (read, found, went) copied = held_first version had read copy.held found went copied
  leaves_first (Unfit fault) wrong copied = absurd wrong

  -- a sound one is in use still
  held_used : (version : ℕ) (had : List Record) (read : Option Trace) (held : Option Held) → copy.held ≡ held → StoodStill before copy.shown
      → CopyWentBy (record { trace = read; faults = before.faults }) copy.shown (Some (was_read version had)) held → IsInUse copy
  held_used version had read None is still went = absurd went
  held_used version had read (Some held) is still went = here held.closed refl
    where
      here : (closed : Option Failure) → held.closed ≡ closed → IsInUse copy
      here None unclosed = (held, is, unclosed)
      here (Some failure) shut = absurd (not_risen before.faults copy.shown.faults still.0 still.1 (went.failed failure refl shut).0)

  pub sound_used : (reading : Reading) → IsOpenedCopy common before reading copy → IsSound before copy.shown reading → IsInUse copy
  sound_used (Missing true) opened sound = absurd (sound.1 refl)
  sound_used (Missing false) (none, gone, left) sound = absurd (not_risen before.faults copy.shown.faults sound.0.0 sound.0.1 gone)
  sound_used (Holding version had) (read, found, went) sound = held_used version had read copy.held refl sound.0 went
  sound_used (Unfit fault) wrong sound = absurd wrong

  -- and has all records
  held_all : (version : ℕ) (had : List Record) (read : Option Trace) (some : Option Held) (held : Held) → some ≡ Some held → held.closed ≡ None
      → CopyWentBy (record { trace = read; faults = before.faults }) copy.shown (Some (was_read version had)) some → IfSome some (IsHeldCopy common records None copy.shown)
      → IfSome copy.shown.trace (IsAtRest (headed version) records)
  held_all version had read None held is unclosed went copied = absurd went
  held_all version had read (Some now) held is unclosed went copied =
      let one : now ≡ held = cc is in
      let closed : now.closed ≡ None = ap (λ (h : Held). h.closed) one ∙ unclosed in
      subst (λ (h : Header). IfSome copy.shown.trace (IsAtRest h records)) went.header
      (subst (λ (rs : List Record). IfSome copy.shown.trace (IsAtRest now.header rs)) (copied.whole closed)
      (subst (λ (c : Option Failure). IfSome copy.shown.trace (IsKeptNow now.header now.has c)) closed copied.kept))

  pub leaves_all : (reading : Reading) → IsOpenedCopy common before reading copy → IsCopy common records None copy → IsInUse copy → LeavesAll common records copy.shown reading
  leaves_all (Missing empty) (none, gone, left) copied (held, is, unclosed) = let both : None ≡ Some held = sym none ∙ is in cc both
  leaves_all (Holding version had) (read, found, went) copied (held, is, unclosed) = held_all version had read copy.held held is unclosed went copied
  leaves_all (Unfit fault) wrong copied used = absurd wrong

-- ---- both, and what the owner's asks were told

module _ (house : House) (draws : ℕ → ℕ → ℕ → ℕ) (o : ℕ) (xs : List Exchange) (closed : Option Failure) (its : AreCaused house draws o xs closed) where
  none_refused : closed ≡ None → NoneIsRefused house o xs
  none_refused unclosed k x owner query refusal at meant reply = here refusal reply
    where
      not_shut : (failure : Failure) → closed ≡ Some failure → ⊥
      not_shut failure shut = let both : None ≡ Some failure = sym unclosed ∙ shut in cc both

      here : (refusal : DiskRefusal) → x.reply ≡ refused (by_disk refusal) → ⊥
      here (Closed failed_at) is =
          let shut = its.seen k owner query failed_at (record { x = x; stands = at; meant = meant; word_is = ap (λ (r : Replied). disk_word r) is }) in
          not_shut shut.0 shut.1
      here Fault is =
          let shut = its.failed k owner query (record { x = x; stands = at; meant = meant; word_is = ap (λ (r : Replied). disk_word r) is }) in
          not_shut shut.0 shut.1

  module _ (header : Header) (found records : List Record) (before after : Twins) (went : BothWentOn header found records closed before after) where
    abbrev now : Twins
    now = record { first = went.copies.first.shown; second = went.copies.second.shown }

    -- no book is closed while a disk is in use
    open_while : IsInUse went.copies.first ⊎ IsInUse went.copies.second → (is : Option Failure) → closed ≡ is → closed ≡ None
    open_while used None is = is
    open_while (inl used) (Some failure) is = absurd ((went.kept.out failure is).0 used)
    open_while (inr used) (Some failure) is = absurd ((went.kept.out failure is).1 used)

    pub each_enough : EachIsEnough house o xs header found records closed before after
    each_enough = record {
      went = went;
      first = λ sound.
          let used = sound_used header records before.first went.copies.first went.first went.on_first (subst (λ (t : Twins). IsSound before.first t.first went.first) went.shown sound) in
          let unclosed = open_while (inl used) closed refl in
          let copied = subst (λ (c : Option Failure). IsCopy header records c went.copies.first) unclosed went.kept.first in
          let beside = subst (λ (c : Option Failure). IsCopy header records c went.copies.second) unclosed went.kept.second in (
            none_refused unclosed,
            subst (λ (t : Twins). LeavesFirst header records before.first t.first went.first) (sym went.shown) (leaves_first header records before.first went.copies.first went.first went.on_first copied),
            subst (λ (t : Twins). LeavesAll header records t.first went.first) (sym went.shown) (leaves_all header records before.first went.copies.first went.first went.on_first copied used),
            subst (λ (t : Twins). LeavesFirst header records before.second t.second went.second) (sym went.shown) (leaves_first header records before.second went.copies.second went.second went.on_second beside),
          );
      second = λ sound.
          let used = sound_used header records before.second went.copies.second went.second went.on_second (subst (λ (t : Twins). IsSound before.second t.second went.second) went.shown sound) in
          let unclosed = open_while (inr used) closed refl in
          let copied = subst (λ (c : Option Failure). IsCopy header records c went.copies.second) unclosed went.kept.second in
          let beside = subst (λ (c : Option Failure). IsCopy header records c went.copies.first) unclosed went.kept.first in (
            none_refused unclosed,
            subst (λ (t : Twins). LeavesFirst header records before.second t.second went.second) (sym went.shown) (leaves_first header records before.second went.copies.second went.second went.on_second copied),
            subst (λ (t : Twins). LeavesAll header records t.second went.second) (sym went.shown) (leaves_all header records before.second went.copies.second went.second went.on_second copied used),
            subst (λ (t : Twins). LeavesFirst header records before.first t.first went.first) (sym went.shown) (leaves_first header records before.first went.copies.first went.first went.on_first beside),
          );
    }

-- two disks stay two
two_of : (header : Header) (found records : List Record) (closed : Option Failure) (before : Twins) (after : Option Twins) → TwinsWentOn header found records closed (Some before) after
    → (now : Twins) × (after ≡ Some now) × BothWentOn header found records closed before now
two_of header found records closed before None went = absurd went
two_of header found records closed before (Some now) went = (now, refl, went)

pub sound_enough : ASoundDiskIsEnough
sound_enough loading key workers old new found script text answered lawful o within before twins at two =
    let house = house_of loading.register in
    let there = owner_there loading.register o (omega (arith, within, owners_length loading.register lawful.register)) in
    let its = caused house (draws_of key) o workers answered.crew answered.exchanges (answered.closed o) (answered.shut o (owner_at house o) there) in
    let w = answered.disks.owned o before within at in
    let both = two_of (header_of loading key o) (found o) (answered.records o) (answered.closed o) twins w.0.twins
    (subst (λ (t : Option Twins). TwinsWentOn (header_of loading key o) (found o) (answered.records o) (answered.closed o) t w.0.twins) two w.2.twins) in
    (w.0, both.0, w.1, both.1, each_enough house (draws_of key) o answered.exchanges (answered.closed o) its (header_of loading key o) (found o) (answered.records o) twins both.0 both.2)

pub sound_enough_to_serve : ASoundDiskIsEnoughToServe
sound_enough_to_serve loading key workers old new found were lawful o within before twins at two =
    let house = house_of loading.register in
    let there = owner_there loading.register o (omega (arith, within, owners_length loading.register lawful.register)) in
    let its = caused house (draws_of key) o workers were.held.crew were.held.exchanges (were.over.closed o) (were.over.shut o (owner_at house o) there) in
    let w = were.over.disks.owned o before within at in
    let both = two_of (header_of loading key o) (found o) (were.over.records o) (were.over.closed o) twins w.0.twins
    (subst (λ (t : Option Twins). TwinsWentOn (header_of loading key o) (found o) (were.over.records o) (were.over.closed o) t w.0.twins) two w.2.twins) in
    (w.0, both.0, w.1, both.1, each_enough house (draws_of key) o were.held.exchanges (were.over.closed o) its (header_of loading key o) (found o) (were.over.records o) twins both.0 both.2)
