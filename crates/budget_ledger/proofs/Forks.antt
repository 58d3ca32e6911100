-- Two disks of one book.
use Rattle.std.proofs.Common.{◌≡◌, ◌⊎◌, ℕ, ◌<◌, List, [], ◌∷◌, ◌++◌, refl, sym, ◌∙◌, ap, subst, arith, inl, inr, ⊎_elim, Option, Some, None}
use Rattle.std.specs.Prelude.{IfSome}
use mathlib.Core.List.{IsPrefix}
use Rattle.fz_outside.specs.Faults.{last_count}
use Rattle.outside_disks.specs.Disks.{Trace, Shown, IsImageOf, Passes, WhereTold}
use Rattle.journal_records.specs.declared.records.Record.{Record}
use Rattle.journal_records.specs.declared.records.Header.{Header}
use Rattle.budget_journal.specs.Journals.{Stands, IsAtRest, IsBeforeOrAfter}
use Rattle.budget_journal.proofs.One.{stands-one}
use Rattle.budget_ledger.specs.Account.{Failure, Held, IsKeptNow, IsMoment, IsHeldCopy, HeldWent, with_closing}
use Rattle.budget_ledger.specs.Laws.{ASoundSideHasAll, IsOpenByOne, SidesNeverFork}
use Rattle.budget_ledger.proofs.Wents.{prefix_self, prefix_by, prefix_then, held_alone, storage_on}
use Rattle.budget_ledger.proofs.Opens.{alone_from_rest}

module _ (before after : Shown) (was is : Held) (open_before : was.closed ≡ None) (low : before.faults < last_count) (still : after.faults ≡ before.faults)
    (went : HeldWent before after was is) where
  -- its count would have risen
  undropped : (o : Option Failure) → is.closed ≡ o → is.closed ≡ None
  undropped None same = same
  undropped (Some failure) same =
      let up : before.faults < after.faults = (went.failed failure open_before same).0 low in
      let wrong : ⊥ = omega (arith, up, still) in absurd wrong

pub sound_side : ASoundSideHasAll
sound_side common records closed before after was is open_before low still rest went copy =
    let none : is.closed ≡ None = undropped before after was is open_before low still went is.closed refl in
    let all : is.has ≡ records = copy.whole none in (
      none,
      all,
      subst (λ (h : Header). IfSome after.trace (IsAtRest h records)) went.header
          (subst (λ (rs : List Record). IfSome after.trace (IsAtRest is.header rs)) all
          (subst (λ (o : Option Failure). IfSome after.trace (IsKeptNow is.header is.has o)) none copy.kept)),
      subst (λ (rs : List Record). WhereTold (Passes (IsMoment was.header was.has rs None)) before.trace after.trace) all
          (subst (λ (o : Option Failure). WhereTold (Passes (IsMoment was.header was.has is.has o)) before.trace after.trace) none
          (alone_from_rest was.has is.has (storage_on before was) (storage_on after is) rest (held_alone before after was is went))),
    )

pub open_by_one : IsOpenByOne
open_by_one records storage copies are in_use = by storage.closed refl
  where
    by : (o : Option Failure) → storage.closed ≡ o → storage.closed ≡ None
    by None same = same
    by (Some failure) same = absurd (⊎_elim (are.out failure same).0 (are.out failure same).1 in_use)

-- ---- what a stop leaves now

-- stands for first ones of the records, with the one that closed the book
kept_first : (header : Header) (has all : List Record) (closed : Option Failure) (t : Trace) (c : List ℕ) (xs : List Record) → IsPrefix has all
    → ((f : Failure) → closed ≡ Some f → IsPrefix (has ++ f.pending ∷ []) all) → IsKeptNow header has closed t → IsImageOf t c → Stands header xs c
    → IsPrefix xs all
kept_first header has all None t c xs begins pending kept image stands =
    let here : Stands header has c = subst (Stands header has) (sym (kept.stable c image)) kept.stands in
    subst (λ (rs : List Record). IsPrefix rs all) (stands-one header has xs c here stands) begins
kept_first header has all (Some f) t c xs begins pending kept image stands = by (kept c image)
  where
    by : IsBeforeOrAfter header has f.pending c → IsPrefix xs all
    by (inl before) = subst (λ (rs : List Record). IsPrefix rs all) (stands-one header has xs c before stands) begins
    by (inr after) = subst (λ (rs : List Record). IsPrefix rs all) (stands-one header (has ++ f.pending ∷ []) xs c after stands) (pending f refl)

more_with : (records : List Record) (closed : Option Failure) → IsPrefix records (with_closing records closed)
more_with records None = prefix_self records
more_with records (Some failure) = prefix_by records (failure.pending ∷ [])

copy_first : (common : Header) (records : List Record) (closed : Option Failure) (shown : Shown) (held : Held) (t : Trace) (c : List ℕ) (xs : List Record)
    → IsHeldCopy common records closed shown held → shown.trace ≡ Some t → IsImageOf t c → Stands held.header xs c → IsPrefix xs (with_closing records closed)
copy_first common records closed shown held t c xs copy told image stands =
    kept_first held.header held.has (with_closing records closed) held.closed t c xs
    (prefix_then held.has records (with_closing records closed) copy.begins (more_with records closed)) copy.follows
    (subst (λ (o : Option Trace). IfSome o (IsKeptNow held.header held.has held.closed)) told copy.kept) image stands

-- first ones of one list
ordered : (xs ys all : List Record) → IsPrefix xs all → IsPrefix ys all → IsPrefix xs ys ⊎ IsPrefix ys xs
ordered [] ys all p q = inl (ys, refl)
ordered (x ∷ xs) [] all p q = inr (x ∷ xs, refl)
ordered (x ∷ xs) (y ∷ ys) [] p q = let wrong = p.1 in cc
ordered (x ∷ xs) (y ∷ ys) (z ∷ all) p q =
    let same : x ≡ y = heads (p.1 ∙ sym q.1) in
    ⊎_elim
    (λ one. inl (one.0, subst (λ (w : Record). w ∷ (xs ++ one.0) ≡ y ∷ ys) (sym same) (ap (λ (rs : List Record). y ∷ rs) one.1)))
    (λ one. inr (one.0, subst (λ (w : Record). y ∷ (ys ++ one.0) ≡ w ∷ xs) (sym same) (ap (λ (rs : List Record). y ∷ rs) one.1)))
    (ordered xs ys all (p.0, tails p.1) (q.0, tails q.1))
  where
    heads : {v w : Record} {vs ws : List Record} → v ∷ vs ≡ w ∷ ws → v ≡ w
    heads e = cc

    tails : {v w : Record} {vs ws : List Record} → v ∷ vs ≡ w ∷ ws → vs ≡ ws
    tails e = cc

pub sides_ordered : SidesNeverFork
sides_ordered common records closed a b held other t u c d xs ys on_a on_b told_a told_b left_a left_b stands_a stands_b =
    ordered xs ys (with_closing records closed) (copy_first common records closed a held t c xs on_a told_a left_a stands_a)
    (copy_first common records closed b other u d ys on_b told_b left_b stands_b)
