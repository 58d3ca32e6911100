-- From one state of a book to a later one.
use Rattle.std.proofs.Common.{◌≡◌, ◌⊎◌, ◌≤◌, ℕ, List, [], ◌∷◌, ◌++◌, refl, sym, ◌∙◌, ap, subst, arith, inl, inr, ⊎_elim, append_assoc, Option, Some, None}
use Rattle.std.proofs.lemmas.List.{append-nil}
use mathlib.Core.List.{IsPrefix}
use Rattle.fz_outside.specs.Faults.{HasRisen}
use Rattle.outside_disks.specs.Disks.{Trace, Shown, IsImageOf, WasImageOf, moment, Passes, WhereTold}
use Rattle.outside_disks.proofs.Images.{passes-none, passes-both, passes-weaker, now-was}
use Rattle.outside_disks.proofs.Told.{told-none, told-both}
use Rattle.journal_records.specs.declared.records.Record.{Record}
use Rattle.journal_records.specs.declared.records.Header.{Header}
use Rattle.budget_journal.specs.Journals.{Stands}
use Rattle.budget_ledger.specs.Account.{Failure, Held, Copies, Storage, IsMoment, HasPassed, HeldWent, CopyWentBy, EachCopyWent, Went}

pub prefix_self : (records : List Record) → IsPrefix records records
prefix_self records = ([], append-nil records)

pub prefix_by : (records more : List Record) → IsPrefix records (records ++ more)
prefix_by records more = (more, refl)

pub prefix_then : (a b c : List Record) → IsPrefix a b → IsPrefix b c → IsPrefix a c
prefix_then a b c f g = (f.0 ++ g.0, sym (append_assoc a f.0 g.0) ∙ ap (λ (some : List Record). some ++ g.0) f.1 ∙ g.1)

pub not_both : {X : Type 0} (o : Option X) (x : X) → o ≡ None → o ≡ Some x → ⊥
not_both None x none some = cc
not_both (Some y) x none some = cc

-- ---- nothing was done

passed_none : (header : Header) (old new : List Record) (closed : Option Failure) (t : Trace) → HasPassed header old new closed t t
passed_none header old new closed t = passes-none (λ bytes. IsImageOf t bytes ⊎ IsMoment header old new closed bytes) t (λ bytes image. inl image)

-- From one state of a journal to a later one, whatever of its copies.
pub record WentAlone (old new : List Record) (before after : Storage) : Type 0 where
  pub header : after.header ≡ before.header
  pub begins : IsPrefix old new
  pub moments : WhereTold (HasPassed before.header old new after.closed) before.trace after.trace
  pub counts : before.faults ≤ after.faults
  pub shut : (failure : Failure) → before.closed ≡ Some failure → (after ≡ before) × (new ≡ old)
  pub «open» : after.closed ≡ None → after.faults ≡ before.faults
  pub failed : (failure : Failure) → before.closed ≡ None → after.closed ≡ Some failure
      → HasRisen before.faults after.faults × (failure.failed_at ≡ after.faults)

-- A state is a later one of itself.
pub alone_self : (records : List Record) (s : Storage) → WentAlone records records s s
alone_self records s = record {
  header = refl;
  begins = prefix_self records;
  moments = told-none (HasPassed s.header records records s.closed) (passed_none s.header records records s.closed) s.trace;
  counts = omega arith;
  shut = λ failure closed. (refl, refl);
  «open» = λ still. refl;
  failed = λ failure none some. absurd (not_both s.closed failure none some);
}

-- ---- one after another

module _ (header : Header) (a b c : List Record) (mid last : Option Failure) (ab : IsPrefix a b) (bc : IsPrefix b c)
    (shut : (failure : Failure) → mid ≡ Some failure → (last ≡ mid) × (c ≡ b)) where
  earlier : (bytes : List ℕ) → IsMoment header a b mid bytes → IsMoment header a c last bytes
  earlier bytes (inl (g, ag, gb, stands)) = inl (g, ag, prefix_then g b c gb bc, stands)
  earlier bytes (inr (failure, closed, stands)) =
      let stays = shut failure closed in
      inr (failure, stays.0 ∙ closed, subst (λ (rs : List Record). Stands header (rs ++ failure.pending ∷ []) bytes) (sym stays.1) stands)

  later : (bytes : List ℕ) → IsMoment header b c last bytes → IsMoment header a c last bytes
  later bytes (inl (g, bg, gc, stands)) = inl (g, prefix_then a b g ab bg, gc, stands)
  later bytes (inr failed) = inr failed

  passed_then : (t u v : Trace) → HasPassed header a b mid t u → HasPassed header b c last u v → HasPassed header a c last t v
  passed_then t u v p q =
      passes-both (λ bytes. IsImageOf t bytes ⊎ IsMoment header a c last bytes) t u v first
      (passes-weaker (λ bytes. IsImageOf u bytes ⊎ IsMoment header b c last bytes) (λ bytes. IsImageOf t bytes ⊎ IsMoment header a c last bytes) u v
      (λ bytes some. ⊎_elim (λ image. first.each bytes (since_t bytes image)) (λ is. inr (later bytes is)) some) q)
    where
      first : Passes (λ bytes. IsImageOf t bytes ⊎ IsMoment header a c last bytes) t u
      first = passes-weaker (λ bytes. IsImageOf t bytes ⊎ IsMoment header a b mid bytes) (λ bytes. IsImageOf t bytes ⊎ IsMoment header a c last bytes) t u
          (λ bytes some. ⊎_elim (λ image. inl image) (λ is. inr (earlier bytes is)) some) p

      since_t : (bytes : List ℕ) → IsImageOf u bytes → WasImageOf (moment t) u bytes
      since_t bytes image = now-was (moment t) u.start u.steps bytes image

  told_then : (s t u : Option Trace) → WhereTold (HasPassed header a b mid) s t → WhereTold (HasPassed header b c last) t u
      → WhereTold (HasPassed header a c last) s u
  told_then s t u p q = told-both (HasPassed header a b mid) (HasPassed header b c last) (HasPassed header a c last) passed_then s t u p q

-- A later state of a later state is one.
pub alone_then : (a b c : List Record) (s t u : Storage) → WentAlone a b s t → WentAlone b c t u → WentAlone a c s u
alone_then a b c s t u p q = record {
  header = q.header ∙ p.header;
  begins = prefix_then a b c p.begins q.begins;
  moments = told_then s.header a b c t.closed u.closed p.begins q.begins (λ failure closed. let stays = q.shut failure closed in (ap (λ (x : Storage). x.closed) stays.0, stays.1))
      s.trace t.trace u.trace p.moments (subst (λ (h : Header). WhereTold (HasPassed h b c u.closed) t.trace u.trace) p.header q.moments);
  counts = omega (arith, p.counts, q.counts);
  shut = λ failure closed. let first = p.shut failure closed in
      let second = q.shut failure (ap (λ (x : Storage). x.closed) first.0 ∙ closed) in
      (second.0 ∙ first.0, second.1 ∙ first.1);
  «open» = λ still. still_open t.closed refl still;
  failed = λ failure none some. has_failed failure none some t.closed refl;
}
  where
    still_open : (o : Option Failure) → t.closed ≡ o → u.closed ≡ None → u.faults ≡ s.faults
    still_open None is still = q.«open» still ∙ p.«open» is
    still_open (Some failure) is still = absurd (not_both u.closed failure still (ap (λ (x : Storage). x.closed) (q.shut failure is).0 ∙ is))

    has_failed : (failure : Failure) → s.closed ≡ None → u.closed ≡ Some failure → (o : Option Failure) → t.closed ≡ o
        → HasRisen s.faults u.faults × (failure.failed_at ≡ u.faults)
    has_failed failure none some None is =
        let later = q.failed failure is some in
        (subst (λ (n : ℕ). HasRisen n u.faults) (p.«open» is) later.0, later.1)
    has_failed failure none some (Some other) is =
        let same = (q.shut other is).0 in
        let first = p.failed failure none (sym (ap (λ (x : Storage). x.closed) same) ∙ some) in
        subst (λ (x : Storage). HasRisen s.faults x.faults × (failure.failed_at ≡ x.faults)) (sym same) first

-- ---- a journal on one of two disks

abbrev pub storage_on : Shown → Held → Storage
storage_on shown held = record { header = held.header; trace = shown.trace; faults = shown.faults; closed = held.closed; copies = None }

pub held_alone : (before after : Shown) (was is : Held) → HeldWent before after was is → WentAlone was.has is.has (storage_on before was) (storage_on after is)
held_alone before after was is w = record {
  header = w.header;
  begins = w.begins;
  moments = w.moments;
  counts = w.counts;
  shut = λ failure closed. let stays = w.shut failure closed in
      (λ i. storage_on (stays.0 i) (stays.1 i), ap (λ (h : Held). h.has) stays.1);
  «open» = w.«open»;
  failed = w.failed;
}

alone_held : (before after : Shown) (was is : Held) → WentAlone was.has is.has (storage_on before was) (storage_on after is) → HeldWent before after was is
alone_held before after was is w = record {
  header = w.header;
  begins = w.begins;
  moments = w.moments;
  counts = w.counts;
  shut = λ failure closed. let stays = w.shut failure closed in (
    ap (λ (s : Storage). record { trace = s.trace; faults = s.faults }) stays.0,
    λ i. record { header = (stays.0 i).header; has = stays.1 i; closed = (stays.0 i).closed },
  );
  «open» = w.«open»;
  failed = w.failed;
}

pub held_self : (shown : Shown) (held : Held) → HeldWent shown shown held held
held_self shown held = alone_held shown shown held held (alone_self held.has (storage_on shown held))

pub held_then : (a b c : Shown) (x y z : Held) → HeldWent a b x y → HeldWent b c y z → HeldWent a c x z
held_then a b c x y z p q = alone_held a c x z
    (alone_then x.has y.has z.has (storage_on a x) (storage_on b y) (storage_on c z) (held_alone a b x y p) (held_alone b c y z q))

pub copy_self : (shown : Shown) (held : Option Held) → CopyWentBy shown shown held held
copy_self shown None = refl
copy_self shown (Some held) = held_self shown held

copy_then : (a b c : Shown) (x y z : Option Held) → CopyWentBy a b x y → CopyWentBy b c y z → CopyWentBy a c x z
copy_then a b c None None None p q = q ∙ p
copy_then a b c None None (Some z) p q = absurd q
copy_then a b c None (Some y) z p q = absurd p
copy_then a b c (Some x) None z p q = absurd p
copy_then a b c (Some x) (Some y) None p q = absurd q
copy_then a b c (Some x) (Some y) (Some z) p q = held_then a b c x y z p q

-- ---- both

pub each_self : (copies : Option Copies) → EachCopyWent copies copies
each_self None = tt
each_self (Some copies) = (copy_self copies.first.shown copies.first.held, copy_self copies.second.shown copies.second.held)

pub each_then : (x y z : Option Copies) → EachCopyWent x y → EachCopyWent y z → EachCopyWent x z
each_then None None None p q = tt
each_then None None (Some z) p q = absurd q
each_then None (Some y) z p q = absurd p
each_then (Some x) None z p q = absurd p
each_then (Some x) (Some y) None p q = absurd q
each_then (Some x) (Some y) (Some z) p q = (
  copy_then x.first.shown y.first.shown z.first.shown x.first.held y.first.held z.first.held p.0 q.0,
  copy_then x.second.shown y.second.shown z.second.shown x.second.held y.second.held z.second.held p.1 q.1,
)

-- ---- a book

pub went_by : (a b : List Record) (s t : Storage) → WentAlone a b s t → EachCopyWent s.copies t.copies → Went a b s t
went_by a b s t w copies = record {
  header = w.header;
  begins = w.begins;
  moments = w.moments;
  counts = w.counts;
  shut = w.shut;
  «open» = w.«open»;
  failed = w.failed;
  copies = copies;
}

pub went_alone : (a b : List Record) (s t : Storage) → Went a b s t → WentAlone a b s t
went_alone a b s t w = record {
  header = w.header;
  begins = w.begins;
  moments = w.moments;
  counts = w.counts;
  shut = w.shut;
  «open» = w.«open»;
  failed = w.failed;
}

-- A state is a later one of itself,
pub went_self : (records : List Record) (s : Storage) → Went records records s s
went_self records s = went_by records records s s (alone_self records s) (each_self s.copies)

-- and a later state of a later state is one.
pub went_then : (a b c : List Record) (s t u : Storage) → Went a b s t → Went b c t u → Went a c s u
went_then a b c s t u p q =
    went_by a c s u (alone_then a b c s t u (went_alone a b s t p) (went_alone b c t u q)) (each_then s.copies t.copies u.copies p.copies q.copies)
