-- What is so of the passes once all workers' are in again.
use Rattle.std.proofs.Common.{◌≡◌, ℕ, zero, suc, ◌+◌, ◌-◌, ◌*◌, ◌<◌, ◌≤◌, List, [], ◌∷◌, length, get_or, map, slice_get, Some, refl, sym, ◌∙◌, ap, subst, arith}
use Rattle.std.specs.Prelude.{All, sum_by}
use Rattle.std.proofs.lemmas.List.{length-map, get_or_default}
use Rattle.std.proofs.lemmas.Option.{slice_get_within}
use Rattle.budget_ledger.specs.declared.failure.Failure.{Failure}
use Rattle.owner_lock.specs.Known.{whole_share}
use Rattle.session_core.specs.OwnerHouse.Owner.{Owner}
use Rattle.session_core.specs.OwnerHouse.House.{House}
use Rattle.session_core.specs.OwnerDesk.Passes.{Pass, Told}
use Rattle.session_core.specs.Blocks.{own_blocks}
use Rattle.session_core.specs.Bundles.{Bundle, handed_on}
use Rattle.session_core.specs.Code.{ArePasses, pass_at}
use Rattle.script_workers.specs.declared.texts.Texts.{Texts}
use Rattle.worker_pool.specs.Workers.{worker_limit}
use Rattle.script_workers.specs.Texts.{KeepsTexts}
use Rattle.script_workers.specs.Crews.{AreFor, HasDone, HasTakenAll, needed, replies_text}
use Rattle.script_workers.proofs.Brought.{none_weighs, pass_handed, sum_none}

needed_grows : (k n : ℕ) → needed n ≤ needed (k + n)
needed_grows zero n = let same : n ≡ 0 + n = omega arith in subst (λ (m : ℕ). needed n ≤ needed m) same (omega arith)
needed_grows (suc k) n = let next : suc (k + n) ≡ suc k + n = omega arith in subst (λ (m : ℕ). needed n ≤ needed m) next (omega (arith, needed_grows k n))

needed_within : (n : ℕ) → n ≤ worker_limit → needed n ≤ whole_share
needed_within n few =
    let all : worker_limit - n + n ≡ worker_limit = omega (arith, few) in
    let most : needed worker_limit ≡ 65536 = refl in
    omega (arith, most, subst (λ (m : ℕ). needed n ≤ needed m) all (needed_grows (worker_limit - n) n))

-- Whole shares are enough for sixteen workers.
pub whole_enough : (n : ℕ) (shares : List ℕ) → n ≤ worker_limit → All (λ s. s ≡ whole_share) shares → All (λ s. needed n ≤ s) shares
whole_enough n shares few whole = λ k d lt. subst (λ (s : ℕ). needed n ≤ s) (sym (whole k d lt)) (needed_within n few)

pub all_back : (old mid new : List ℕ) (n : ℕ) (out back : ℕ → ℕ) → All (λ s. s ≡ whole_share) old → length old ≡ n → length new ≡ n
    → ((o : ℕ) → get_or mid o 0 + out o ≡ get_or old o 0) → ((o : ℕ) → get_or new o 0 ≡ get_or mid o 0 + back o) → ((o : ℕ) → back o ≡ out o) → All (λ s. s ≡ whole_share) new
all_back old mid new n out back whole before after gone came same = λ k d lt.
    get_or_default new k d 0 lt ∙ came k ∙ ap (λ (s : ℕ). get_or mid k 0 + s) (same k) ∙ gone k ∙ whole k 0 (omega (arith, lt, before, after))

pub handed_passes : (house : House) (knows given : List Pass) → given ≡ map handed_on knows → ArePasses house knows → ArePasses house given
handed_passes house knows given is are = record {
  each_has = ap length is ∙ length-map knows handed_on ∙ are.each_has;
  entries = λ o owner at. ap (λ (ks : List Pass). (pass_at ks o).opened.ledger.entry) is ∙ ap (λ (p : Pass). p.opened.ledger.entry) (pass_handed knows o) ∙ are.entries o owner at;
}

pub owner_within : (house : House) (knows : List Pass) (n o : ℕ) (owner : Owner) → ArePasses house knows → length knows ≡ n → slice_get house.owners o ≡ Some owner → o < n
owner_within house knows n o owner are long at = omega (arith, are.each_has, long, slice_get_within house.owners o owner at)

pub passes_back : (house : House) (old mid new : List Pass) (n : ℕ) → ArePasses house old → mid ≡ old → length old ≡ n → length new ≡ n
    → ((o : ℕ) → o < n → (pass_at new o).opened ≡ (pass_at mid o).opened) → ArePasses house new
passes_back house old mid new n are kept before after opened = record {
  each_has = omega (arith, are.each_has, before, after);
  entries = λ o owner at. ap (λ a. a.ledger.entry) (opened o (owner_within house old n o owner are before at)) ∙ ap (λ (ks : List Pass). (pass_at ks o).opened.ledger.entry) kept ∙ are.entries o owner at;
}

-- Passes that were given away and come back as they were bring nothing.
pub none_brought : {A : Type 0} (pass : A → Bundle) (crew : List A) (knows : List Pass) (o : ℕ) (before after : Pass) → before.own ≡ [] → before.faults ≡ []
    → ((i : ℕ) (d : A) → i < length crew → (pass (get_or crew i d)).knows ≡ map handed_on knows) → HasTakenAll before (map (λ w. pass_at (pass w).knows o) crew) after
    → (after.own ≡ []) × (after.faults ≡ [])
none_brought pass crew knows o before after own faults handed taken =
    let no_own = sum_none (λ (p : Pass). sum_by (λ (t : Told). 1) p.own) (λ w. pass_at (pass w).knows o) crew
    (λ i d lt. ap (λ (ks : List Pass). sum_by (λ (t : Told). 1) (pass_at ks o).own) (handed i d lt) ∙ ap (λ (p : Pass). sum_by (λ (t : Told). 1) p.own) (pass_handed knows o)) in
    let no_fault = sum_none (λ (p : Pass). sum_by (λ (t : Failure). 1) p.faults) (λ w. pass_at (pass w).knows o) crew
    (λ i d lt. ap (λ (ks : List Pass). sum_by (λ (t : Failure). 1) (pass_at ks o).faults) (handed i d lt) ∙ ap (λ (p : Pass). sum_by (λ (t : Failure). 1) p.faults) (pass_handed knows o)) in
    let first : sum_by (λ (t : Told). 1) before.own ≡ 0 = ap (sum_by (λ (t : Told). 1)) own in
    let second : sum_by (λ (t : Failure). 1) before.faults ≡ 0 = ap (sum_by (λ (t : Failure). 1)) faults in
    (none_weighs after.own (omega (arith, taken.own (λ t. 1), no_own, first)), none_weighs after.faults (omega (arith, taken.faults (λ t. 1), no_fault, second)))

-- What a worker keeps may be put in order.
pub for_order : {A : Type 0} (kept : A → Texts) (house : House) (draws : ℕ → ℕ → ℕ → ℕ) (blocks : List (List (List ℕ))) (before after : Bundle) (seen now : List A) (i count : ℕ) (d : A) → seen ≡ now → length now ≡ count
    → HasDone house draws count i blocks before after (kept (get_or now i d)) → (own : List (List ℕ)) × KeepsTexts (kept (get_or seen i d)) own × AreFor own (own_blocks (length seen) i 0 blocks)
for_order kept house draws blocks before after seen now i count d is size done =
    subst (λ w. (own : List (List ℕ)) × KeepsTexts (kept (get_or w i d)) own × AreFor own (own_blocks (length w) i 0 blocks)) (sym is)
    (map replies_text done.parts, done.kept, subst (λ (n : ℕ). AreFor (map replies_text done.parts) (own_blocks n i 0 blocks)) (sym size) done.fit)

-- A worker's passes are of the same locks all along.
pub same_locks : {A : Type 0} (pass : A → Bundle) (seen now first hired : List A) (i : ℕ) (d : A) (before after main : Bundle) → seen ≡ now → after ≡ pass (get_or now i d) → before ≡ pass (get_or first i d)
    → after.locks ≡ before.locks → first ≡ hired → (pass (get_or hired i d)).locks ≡ main.locks → (pass (get_or seen i d)).locks ≡ main.locks
same_locks pass seen now first hired i d before after main is late early kept value same =
    ap (λ w. (pass (get_or w i d)).locks) is ∙ ap (λ (b : Bundle). b.locks) (sym late) ∙ kept ∙ ap (λ (b : Bundle). b.locks) early ∙ ap (λ w. (pass (get_or w i d)).locks) value ∙ same

pub some_of : {A : Type 0} (xs : List A) → 0 < length xs → A
some_of [] some = absurd (omega (arith, some))
some_of (x ∷ xs) some = x
