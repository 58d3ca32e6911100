-- what an append leaves of an owner's disk, that was made or failed
use Rattle.std.proofs.Common.{◌≡◌, ℕ, List, [], ◌∷◌, ◌++◌, Option, Some, None, refl, sym, ◌∙◌, ap, subst}
use mathlib.Core.Logic.{◌⊎◌, inl, inr}
use mathlib.Core.List.{IsPrefix, append-nil, append_assoc, append_cancel_left}
use Rattle.outside_disks.specs.Disks.{Trace, Passes, WhereTold, noted}
use Rattle.outside_disks.specs.Stored.{Stored}
use Rattle.outside_disks.specs.Disks.Step.{Synced}
use Rattle.outside_disks.proofs.Images.{passes-weaker}
use Rattle.journal_records.specs.declared.records.Header.{Header}
use Rattle.journal_records.specs.declared.records.Record.{Record}
use Rattle.budget_journal.specs.Journals.{IsBeforeOrAfter, Stands}
use Rattle.budget_core.specs.Entries.{Entry}
use Rattle.budget_ledger.specs.Account.{IsMoment}
use Rattle.budget_ledger.specs.declared.failure.Failure.{Failure}
use Rattle.query_server.specs.Found.{MayHaveGained}
use Rattle.query_server.specs.Run.{WentOn}

-- ---- records between those found and these with one more

some_of_one : {X : Type 0} (some rest : List X) (x : X) → some ++ rest ≡ x ∷ [] → (some ≡ []) ⊎ (some ≡ x ∷ [])
some_of_one [] rest x is = inl refl
some_of_one (y ∷ []) rest x is = inr (cc (is))
some_of_one (y ∷ z ∷ more) rest x is = cc (is)

pub between : {X : Type 0} (found left : List X) (x : X) → IsPrefix found left → IsPrefix left (found ++ x ∷ []) → (left ≡ found) ⊎ (left ≡ found ++ x ∷ [])
between found left x (some, is) (rest, all) = here (some_of_one some rest x (append_cancel_left found (some ++ rest) (x ∷ []) (sym (append_assoc found some rest) ∙ ap (λ w. w ++ rest) is ∙ all)))
  where
    here : (some ≡ []) ⊎ (some ≡ x ∷ []) → (left ≡ found) ⊎ (left ≡ found ++ x ∷ [])
    here (inl none) = inl (sym is ∙ ap (λ w. found ++ w) none ∙ append-nil found)
    here (inr one) = inr (sym is ∙ ap (λ w. found ++ w) one)

none_of_none : {X : Type 0} (some rest : List X) → some ++ rest ≡ [] → some ≡ []
none_of_none [] rest is = refl
none_of_none (y ∷ more) rest is = cc (is)

pub same_as : {X : Type 0} (found left : List X) → IsPrefix found left → IsPrefix left found → left ≡ found
same_as found left (some, is) (rest, all) =
    sym is ∙ ap (λ w. found ++ w) (none_of_none some rest (append_cancel_left found (some ++ rest) [] (sym (append_assoc found some rest) ∙ ap (λ w. w ++ rest) is ∙ all ∙ sym (append-nil found)))) ∙ append-nil found

-- ---- files

pub told_weaker : (P Q : List ℕ → Type 0) → ((bytes : List ℕ) → P bytes → Q bytes) → (old new : Option Trace) → WhereTold (Passes P) old new → WhereTold (Passes Q) old new
told_weaker P Q weaker None None p = tt
told_weaker P Q weaker None (Some u) p = p
told_weaker P Q weaker (Some t) None p = p
told_weaker P Q weaker (Some t) (Some u) p = passes-weaker P Q t u weaker p

module _ (entry : Entry) (header : Header) (found : List Record) (next : Record) (Appended : Type 0) (before after : Stored) where
  stands_so : (left : List Record) (bytes : List ℕ) → Stands header left bytes → (left ≡ found) ⊎ (left ≡ found ++ next ∷ []) → IsBeforeOrAfter header found next bytes
  stands_so left bytes stands (inl none) = inl (subst (λ (w : List Record). Stands header w bytes) none stands)
  stands_so left bytes stands (inr one) = inr (subst (λ (w : List Record). Stands header w bytes) one stands)

  was_appended : (bytes : List ℕ) → IsMoment header found (found ++ next ∷ []) None bytes → IsBeforeOrAfter header found next bytes
  was_appended bytes (inl (left, begins, ends, stands)) = stands_so left bytes stands (between found left next begins ends)
  was_appended bytes (inr (failure, shut, stands)) = cc (shut)

  has_failed : (failure : Failure) → failure.pending ≡ next → (bytes : List ℕ) → IsMoment header found found (Some failure) bytes → IsBeforeOrAfter header found next bytes
  has_failed failure which bytes (inl (left, begins, ends, stands)) = stands_so left bytes stands (inl (same_as found left begins ends))
  has_failed failure which bytes (inr (other, shut, stands)) =
      let one : failure ≡ other = cc (shut) in
      inr (subst (λ (r : Record). Stands header (found ++ r ∷ []) bytes) which (subst (λ (f : Failure). Stands header (found ++ f.pending ∷ []) bytes) (sym one) stands))

  pub gained : WentOn entry header found (found ++ next ∷ []) None before after → MayHaveGained header found next Appended before after
  gained went = record {
    images = told_weaker (IsMoment header found (found ++ next ∷ []) None) (IsBeforeOrAfter header found next) was_appended (noted Synced before.trace) after.trace went.moments;
    appended = λ is. went.kept;
    twins = inl went.twins;
  }

  pub may_have_gained : (failure : Failure) → failure.pending ≡ next → (Appended → ⊥) → WentOn entry header found found (Some failure) before after → MayHaveGained header found next Appended before after
  may_have_gained failure which isnt went = record {
    images = told_weaker (IsMoment header found found (Some failure)) (IsBeforeOrAfter header found next) (has_failed failure which) (noted Synced before.trace) after.trace went.moments;
    appended = λ is. absurd (isnt is);
    twins = inr (isnt, failure, which, went.twins);
  }
