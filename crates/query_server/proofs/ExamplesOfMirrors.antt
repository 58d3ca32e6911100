-- worked examples of an owner's two disks through a run
use Rattle.std.proofs.Common.{◌≡◌, ℕ, ◌<◌, [], ◌∷◌, Some, None, refl, sym, ◌∙◌, ap, subst, arith}
use mathlib.Core.Logic.{◌⊎◌, inl, inr}
use mathlib.Core.List.{IsPrefix}
use Rattle.outside_disks.specs.Disks.{Shown}
use Rattle.outside_disks.specs.Stored.{Twins}
use Rattle.journal_records.specs.declared.records.Header.{Header}
use Rattle.journal_records.specs.declared.records.Record.{Record}
use Rattle.budget_ledger.specs.Account.{AreCopies, Copies, Copy, Held, IsInUse}
use Rattle.budget_ledger.specs.Both.{Make}
use Rattle.budget_ledger.specs.Both.Reading.{Holding}
use Rattle.budget_ledger.specs.declared.failure.Failure.{Failure}
use Rattle.query_server.specs.Enough.{IsSound}
use Rattle.query_server.specs.Mirrors.{BothWentOn, TwinsWentOn, storage_on}

-- a disk that tells nothing but its count of faults, and two
abbrev untold : (faults : ℕ) → Shown
untold faults = record { trace = None; faults = faults }

abbrev two : (first second : ℕ) → Twins
two first second = record { first = untold first; second = untold second }

module _ (common : Header) (r : Record) where
  abbrev header : Header
  header = record common { version = 3 }

  -- a disk that had no records fell as this one was appended, or has it
  abbrev failed : Failure
  failed = record { failed_at = 1; pending = r }

  abbrev with_none : Held
  with_none = record { header = header; has = []; closed = Some failed }

  abbrev with_it : Held
  with_it = record { header = header; has = r ∷ []; closed = None }

  abbrev fallen : Copy
  fallen = record { shown = untold 1; held = Some with_none }

  abbrev whole : Copy
  whole = record { shown = untold 0; held = Some with_it }

  abbrev fell : Copies
  fell = record { first = fallen; second = whole }

  first_fell : BothWentOn header [] (r ∷ []) None (two 0 0) (two 1 0)
  first_fell = record {
    first = Holding 3 [];
    second = Holding 3 [];
    made = (refl, inl (([], refl), refl, refl));
    copies = fell;
    on_first = (
      None,
      tt,
      record {
        header = refl;
        begins = ([], refl);
        moments = tt;
        counts = omega arith;
        shut = λ failure is. absurd (cc is);
        «open» = λ is. absurd (cc is);
        failed = λ failure none is. (λ low. omega arith, (let same : failed ≡ failure = cc is in ap (λ (f : Failure). f.failed_at) (sym same)));
      },
    );
    on_second = (
      None,
      tt,
      record {
        header = refl;
        begins = (r ∷ [], refl);
        moments = tt;
        counts = omega arith;
        shut = λ failure is. absurd (cc is);
        «open» = λ is. refl;
        failed = λ failure none is. absurd (cc is);
      },
    );
    kept = record {
      untold = refl;
      counted = refl;
      first = record {
        header = refl;
        begins = (r ∷ [], refl);
        whole = λ is. absurd (cc is);
        kept = tt;
        failed = λ failure is. (let same : failed ≡ failure = cc is in ap (λ (f : Failure). f.failed_at) (sym same));
        follows = λ failure is. (let same : failed ≡ failure = cc is in subst (λ (f : Failure). IsPrefix (f.pending ∷ []) (r ∷ [])) same ([], refl));
      };
      second = record {
        header = refl;
        begins = ([], refl);
        whole = λ is. refl;
        kept = tt;
        failed = λ failure is. absurd (cc is);
        follows = λ failure is. absurd (cc is);
      };
      in_use = λ is. inr (with_it, refl, refl);
      out = λ failure is. absurd (cc is);
      shut = λ failure is. absurd (cc is);
    };
    shown = refl;
  }

  -- The second one is sound, and the first isn't.
  second_sound : IsSound (untold 0) (untold 0) (Holding 3 [])
  second_sound = ((refl, omega arith), λ is. absurd (cc is))

  first_unsound : IsSound (untold 0) (untold 1) (Holding 3 []) → ⊥
  first_unsound sound = let same : 1 ≡ 0 = sound.0.0 in omega (arith, same)

  -- A book isn't closed while one disk is in use, nor open where none is.
  not_closed : (failure : Failure) → AreCopies (r ∷ []) (storage_on header (Some failure) fell) fell → ⊥
  not_closed failure kept = (kept.out failure refl).1 (with_it, refl, refl)

  not_open : AreCopies [] (storage_on header None (record { first = fallen; second = fallen })) (record { first = fallen; second = fallen }) → ⊥
  not_open kept = none (kept.in_use refl)
    where
      used : IsInUse fallen → ⊥
      used (held, is, unclosed) =
          let same : with_none ≡ held = cc is in
          let shut : Some failed ≡ None = ap (λ (h : Held). h.closed) same ∙ unclosed in
          cc shut

      none : IsInUse fallen ⊎ IsInUse fallen → ⊥
      none (inl first) = used first
      none (inr second) = used second

  -- Records that neither disk had aren't found, and two that differ make none.
  not_found : Make (Holding 3 []) (Holding 3 []) 3 (r ∷ []) → ⊥
  not_found (agree, inl (begins, version, records)) = cc records
  not_found (agree, inr (begins, longer, version, records)) = let no : 0 < 0 = longer in omega (arith, no)

  -- Two disks don't become one.
  one_left : TwinsWentOn header [] [] None (Some (two 0 0)) None → ⊥
  one_left went = went
