-- Passes of workers, taken in one after another.
use Rattle.std.proofs.Common.{◌≡◌, ◌⊎◌, ℕ, ◌+◌, ◌<◌, ◌≤◌, List, [], ◌∷◌, ◌++◌, length, get_or, drop, map, refl, sym, ◌∙◌, ap, subst, arith, append_assoc, length-append}
use Rattle.std.specs.Prelude.{sum_by}
use Rattle.std.specs.List.{AllByRecursion}
use Rattle.std.proofs.lemmas.List.Sums.{sum_by-cons}
use Rattle.std.proofs.Math.Seq.{drop-append_seam}
use mathlib.Core.Logic.{inl, inr}
use mathlib.Core.List.{IsPrefix}
use Rattle.owner_lock.proofs.Lists.{prefix_self, prefix_trans}
use Rattle.budget_ledger.specs.declared.failure.Failure.{Failure}
use Rattle.session_core.specs.OwnerDesk.Passes.{Pass, Told}
use Rattle.session_core.specs.Gathered.{StillShut}
use Rattle.session_core.specs.Bundles.{HasTakenIn, handed_on}
use Rattle.script_workers.specs.Crews.{HasTakenAll}

seam : {A : Type 0} (xs zs : List A) (y d : A) → get_or (xs ++ y ∷ zs) (length xs) d ≡ y
seam [] zs y d = refl
seam (x ∷ xs) zs y d = seam xs zs y d

-- Of all, those from the end on were taken one by one; and now this last one of the rest.
pub record IsPopped {A : Type 0} (all now rest : List A) (last : A) : Type 0 where
  pub front : all ≡ rest ++ drop (length rest) all
  pub later : drop (length rest) all ≡ last ∷ drop (length now) all
  pub within : length rest < length all
  pub there : get_or all (length rest) last ≡ last

pub popped : {A : Type 0} (all now rest : List A) (last : A) → all ≡ now ++ drop (length now) all → now ≡ rest ++ last ∷ [] → IsPopped all now rest last
popped all now rest last is cut =
    let whole : all ≡ rest ++ last ∷ drop (length now) all = is ∙ ap (λ w. w ++ drop (length now) all) cut ∙ append_assoc rest (last ∷ []) (drop (length now) all) in
    let later : drop (length rest) all ≡ last ∷ drop (length now) all = ap (drop (length rest)) whole ∙ drop-append_seam rest (last ∷ drop (length now) all) in
    record {
      front = whole ∙ ap (λ w. rest ++ w) (sym later);
      later = later;
      within = omega (arith, ap length whole, length-append rest (last ∷ drop (length now) all));
      there = ap (λ w. get_or w (length rest) last) whole ∙ seam rest (drop (length now) all) last last;
    }

pub shares_taken : {A : Type 0} (share : A → ℕ) (first now after : ℕ) (taken more : List A) (last : A) → more ≡ last ∷ taken → after ≡ now + share last
    → now ≡ first + sum_by share taken → after ≡ first + sum_by share more
shares_taken share first now after taken more last is one sum = omega (arith, ap (sum_by share) is, sum_by-cons share last taken, one, sum)

pub taken_none : (pass : Pass) → HasTakenAll pass [] pass
taken_none pass = record {
  opened = refl;
  first = (prefix_self pass.seen, λ failure is. is);
  each = tt;
  own = λ weight. omega arith;
  faults = λ weight. omega arith;
  apart = λ up. up;
}

seen_later : (others : List Pass) (now after : Pass) → IsPrefix now.seen after.seen → StillShut now.failure after.failure
    → AllByRecursion (λ (p : Pass). IsPrefix p.seen now.seen × StillShut p.failure now.failure) others
    → AllByRecursion (λ (p : Pass). IsPrefix p.seen after.seen × StillShut p.failure after.failure) others
seen_later [] now after seen shut each = tt
seen_later (p ∷ others) now after seen shut each =
    ((prefix_trans p.seen now.seen after.seen each.0.0 seen, λ failure is. shut failure (each.0.1 failure is)), seen_later others now after seen shut each.1)

pub taken_more : (before now other after : Pass) (others : List Pass) → HasTakenAll before others now → HasTakenIn now other after → HasTakenAll before (other ∷ others) after
taken_more before now other after others all one =
    let shut : StillShut now.failure after.failure = λ failure is. one.failure failure (inl is) in
    record {
      opened = one.opened ∙ all.opened;
      first = (prefix_trans before.seen now.seen after.seen all.first.0 one.seen.0, λ failure is. shut failure (all.first.1 failure is));
      each = ((one.seen.1, λ failure is. one.failure failure (inr is)), seen_later others now after one.seen.0 shut all.each);
      own = λ weight. omega (arith, one.own weight, all.own weight, sum_by-cons (λ (p : Pass). sum_by weight p.own) other others);
      faults = λ weight. omega (arith, one.faults weight, all.faults weight, sum_by-cons (λ (p : Pass). sum_by weight p.faults) other others);
      apart = λ up. one.apart;
    }

pub taken_next : {A : Type 0} (f : A → Pass) (before now after : Pass) (taken more : List A) (last : A) → more ≡ last ∷ taken → HasTakenAll before (map f taken) now → HasTakenIn now (f last) after
    → HasTakenAll before (map f more) after
taken_next f before now after taken more last is all one = subst (λ ws. HasTakenAll before (map f ws) after) (sym is) (taken_more before now (f last) after (map f taken) all one)
