-- Workers that come back from their threads, one after another.
use Rattle.std.proofs.Common.{◌≡◌, ℕ, ◌+◌, ◌-◌, ◌<◌, ◌≤◌, Bool, true, false, List, [], ◌∷◌, ◌++◌, length, get_or, take, map, refl, sym, ◌∙◌, ap, subst, arith, Result, Ok, Err, IfOk}
use Rattle.std.proofs.lemmas.List.{ext_get_or, get_or-map, get_or-take, get_or_append_left, get_or_default, nil_from_length, get_or_push, length_push, length-map, take-append-le, take-take, take_all}
use Rattle.std.proofs.lemmas.Bool.{cases_lt}
use mathlib.Core.Logic.{◌⊎◌, inl, inr}
use denote.Ref.{MutBor}
use denote.Param.Members.{Shared}
use Rattle.std.specs.Fork.{AcceptsAt, AcceptsEach, ChangesAt, ChangesEach}
use Rattle.worker_pool.specs.Gates.{AreOut, CanEach, Errand, Went, WentFrom, errand}

module _ {A W T : Type 0} (of : A → Errand W T) (gate : ℕ) (work : W) (crew : List T) (all now rest : List A) (thread : A) (front : now ≡ take (length now) all) (cut : now ≡ rest ++ thread ∷ []) (few : length now ≤ length all) where
  len : length now ≡ length rest + 1
  len = ap length cut ∙ length_push rest thread

  -- those that are left are still the first of all
  pub rest_front : rest ≡ take (length rest) all
  rest_front =
      sym (take-append-le (length rest) rest (thread ∷ []) (omega arith) ∙ take_all (length rest) rest (omega arith)) ∙ ap (take (length rest)) (sym cut ∙ front)
      ∙ take-take (length rest) (length now) all (omega (arith, len))

  there : get_or all (length rest) thread ≡ thread
  there =
      sym (get_or-take (length now) all (length rest) thread (omega (arith, len))) ∙ ap (λ (ts : List A). get_or ts (length rest) thread) (sym front ∙ cut)
      ∙ get_or_push rest thread thread (length rest) refl

  -- the thread that is joined is for the worker at the place that comes next
  pub next : (place : ℕ) → AreOut gate work crew (map of all) → place + length now ≡ length crew → of thread ≡ errand gate work place (get_or crew place (of thread).before)
  next place out sum =
      let within : length rest < length all = omega (arith, len, few) in
      let same : length crew - (length rest + 1) ≡ place = omega (arith, sum, len) in
      sym (get_or-map of all (length rest) thread (of thread) within ∙ ap of there)
      ∙ out (length rest) (of thread) (omega (arith, within, length-map all of))
      ∙ ap (λ (n : ℕ). errand gate work n (get_or crew n (of thread).before)) same

module _ {T : Type 0} (told : Bool) (Does : ℕ → T → T → Type 0) (first : ℕ) (before now after : List T) (worker : T) (pushed : after ≡ now ++ worker ∷ []) where
  -- one worker more is back
  pub went_next : ((i : ℕ) (d : T) → first ≤ i → i < length now → Went (Does i) told (get_or before i d) (get_or now i d))
      → ((d : T) → Went (Does (length now)) told (get_or before (length now) d) worker)
      → (i : ℕ) (d : T) → first ≤ i → i < length after → Went (Does i) told (get_or before i d) (get_or after i d)
  went_next so_far one i d from within = here (cases_lt i (length now))
    where
      here : (i < length now) ⊎ (length now ≤ i) → Went (Does i) told (get_or before i d) (get_or after i d)
      here (inl less) =
          subst (λ (w : T). Went (Does i) told (get_or before i d) w) (sym (ap (λ (ws : List T). get_or ws i d) pushed ∙ get_or_append_left now (worker ∷ []) d i less)) (so_far i d from less)
      here (inr past) =
          let is : length now ≡ i = omega (arith, past, within, ap length pushed, length_push now worker) in
          subst (λ (w : T). Went (Does i) told (get_or before i d) w) (sym (ap (λ (ws : List T). get_or ws i d) pushed ∙ get_or_push now worker d i is))
          (subst (λ (n : ℕ). Went (Does n) told (get_or before n d) worker) is (one d))

-- What a thread came back with, by what it was for and what it heard.
pub came_back : {W T : Type 0} (Does : W → ℕ → T → T → Type 0) (told heard : Bool) (is : Errand W T) (crew : List T) (work : W) (gate place : ℕ) (worker : T)
    → is ≡ errand gate work place (get_or crew place is.before) → heard ≡ told → Went (Does is.work is.place) heard is.before worker → place < length crew
    → (d : T) → Went (Does work place) told (get_or crew place d) worker
came_back Does told heard is crew work gate place worker for same went within d =
    subst (λ x. Went (Does work place) told x worker) (get_or_default crew place is.before d within)
    (subst (λ (b : Bool). Went (Does work place) b (get_or crew place is.before) worker) same
    (subst (λ e. Went (Does e.work e.place) heard e.before worker) for went))

-- Nobody has worked: all are as they were.
pub none_went : {T : Type 0} (Does : ℕ → T → T → Type 0) (before old after : List T) → old ≡ take (length old) before → length after ≡ length before → take (length old) after ≡ old
    → WentFrom false Does (length old) before after → after ≡ before
none_went Does [] old after rest long kept went = nil_from_length after long
none_went Does (x ∷ xs) old after rest long kept went = ext_get_or x after (x ∷ xs) long (λ i within. here i within (cases_lt i (length old)))
  where
    here : (i : ℕ) → i < length after → (i < length old) ⊎ (length old ≤ i) → get_or after i x ≡ get_or (x ∷ xs) i x
    here i within (inl less) =
        sym (get_or-take (length old) after i x less) ∙ ap (λ ws. get_or ws i x) (kept ∙ rest) ∙ get_or-take (length old) (x ∷ xs) i x less
    here i within (inr past) = went i x past (omega (arith, within, long))

-- Work that a closure does.
module _ {F T : Type 0} (g : Shared F (ℕ × (MutBor T × Unit {0})) ((Unit {0}) × (MutBor T × Unit {0}))) (f : F) (crew after : List T) where
  pub each_may : AcceptsEach g f crew → CanEach (AcceptsAt g f) crew
  each_may each = λ i d within p is. each i p within (is ∙ get_or_default crew i d p.now within)

  pub each_changed : WentFrom true (ChangesAt g f) 0 crew after → ChangesEach g f crew after
  each_changed went = λ i d within. (refl, went i d (omega arith) within)

pub ok_changed : {F T A E : Type 0} (g : Shared F (ℕ × (MutBor T × Unit {0})) ((Unit {0}) × (MutBor T × Unit {0}))) (f : F) (crew : List T) (items : A → List T) (result : Result A E)
    → IfOk result (λ after. WentFrom true (ChangesAt g f) 0 crew (items after)) → IfOk result (λ after. ChangesEach g f crew (items after))
ok_changed g f crew items (Ok after) went = each_changed g f crew (items after) went
ok_changed g f crew items (Err failed) went = went
