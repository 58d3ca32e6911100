-- Doors given to workers, and put back in front of those that are left; and what the workers' ends come to.
use Rattle.std.proofs.Common.{◌≡◌, ◌≢◌, ℕ, zero, suc, ◌+◌, ◌<◌, ◌≤◌, List, [], ◌∷◌, ◌++◌, length, get_or, take, drop, map, Option, refl, sym, ap, subst, ◌∙◌, arith, append_assoc, length-append}
use Rattle.std.proofs.lemmas.List.{length-map, map-append}
use Rattle.std.proofs.Math.Seq.{drop-append_seam}
use Rattle.service_workers.specs.declared.posting.Service.{Service}
use Rattle.service_workers.specs.declared.posting.Service.TheVariants.{Served, DoorFault, NoMemory}
use Rattle.outside_links.specs.Links.{Connection}
use Rattle.service_workers.specs.Services.{Door, ComesTo, door_at, door_of}
use Rattle.service_workers.specs.Code.{IsPosted, worse_of, worst_of}

-- the first of some doors is taken
pub first_taken : {A : Type 0} (all rest : List A) (first : A) → 0 < length all → first ≡ get_or all 0 first → rest ≡ take 0 all ++ drop 1 all → all ≡ first ∷ rest
first_taken [] rest first some is left = absurd (omega (arith, some))
first_taken (x ∷ xs) rest first some is left = ap (λ y. y ∷ xs) (sym is) ∙ ap (λ ys. first ∷ ys) (sym left)

-- .. and is the next worker's
pub doors_step : {A B : Type 0} (door : A → B) (all now next : List B) (crew more : List A) (worker : A) → all ≡ map door crew ++ now → now ≡ door worker ∷ next → more ≡ crew ++ worker ∷ [] → all ≡ map door more ++ next
doors_step door all now next crew more worker is first pushed =
    is ∙ ap (λ ds. map door crew ++ ds) first ∙ sym (append_assoc (map door crew) (door worker ∷ []) next)
    ∙ ap (λ ds. ds ++ next) (sym (map-append door crew (worker ∷ []))) ∙ ap (λ ws. map door ws ++ next) (sym pushed)

-- one more door stands in front again
pub doors_back : {A B : Type 0} (door : A → B) (first now after : List B) (taken more : List A) (last : A) → more ≡ last ∷ taken → after ≡ door last ∷ now → now ≡ map door taken ++ first → after ≡ map door more ++ first
doors_back door first now after taken more last is put before = put ∙ ap (λ ds. door last ∷ ds) before ∙ ap (λ ws. map door ws ++ first) (sym is)

pub worst_step : {A : Type 0} (end : A → Service) (now after : Service) (taken more : List A) (last : A) → more ≡ last ∷ taken → after ≡ worse_of now (end last) → now ≡ worst_of (map end taken) → after ≡ worst_of (map end more)
worst_step end now after taken more last is one before = one ∙ ap (λ w. worse_of w (end last)) before ∙ ap (λ ws. worst_of (map end ws)) (sym is)

-- what a door shows, by what its calls say
abbrev pub shown_by : {B : Type 0} → (coming back : B → Option (List Connection)) → (faults : B → ℕ) → B → Door
shown_by coming back faults one = door_of (coming one) (back one) (faults one)

-- a worker's door is the one at its place
pub door_there : {A B : Type 0} (door : A → B) (all rest : List B) (crew : List A) (i : ℕ) (w : A) (d : B) → all ≡ map door crew ++ rest → i < length crew
    → get_or all i d ≡ door (get_or crew i w)
door_there {A = A} door all rest crew i w d is lt = ap (λ ds. get_or ds i d) is ∙ at crew i lt
  where
    at : (ws : List A) (k : ℕ) → k < length ws → get_or (map door ws ++ rest) k d ≡ door (get_or ws k w)
    at [] k lt = absurd (omega (arith, lt))
    at (x ∷ ws) zero lt = refl
    at (x ∷ ws) (suc k) lt = at ws k (omega (arith, lt))

-- .. so it listens where that worker is posted
pub posted_there : {A B : Type 0} (door : A → B) (listens : B → List ℕ → ℕ → Type 0) (faults : B → ℕ) (addr : List ℕ) (port : ℕ) (olds news rest : List B)
    (first crew : List A) (i : ℕ) (w : A) (d : B) → olds ≡ map door first ++ rest → news ≡ map door crew ++ rest → i < length first → i < length crew
    → IsPosted (listens (door (get_or crew i w)) addr port) (faults (door (get_or first i w))) (faults (door (get_or crew i w)))
    → IsPosted (listens (get_or news i d) addr port) (faults (get_or olds i d)) (faults (get_or news i d))
posted_there door listens faults addr port olds news rest first crew i w d before after early late posted =
    subst (λ n. IsPosted (listens n addr port) (faults (get_or olds i d)) (faults n)) (sym (door_there door news rest crew i w d after late))
    (subst (λ o. IsPosted (listens (door (get_or crew i w)) addr port) (faults o) (faults (door (get_or crew i w))))
    (sym (door_there door olds rest first i w d before early)) posted)

module _ {A B : Type 0} (door : A → B) (show : B → Door) where
  -- a worker's door is the one at its place
  pub own_door : (all rest : List B) (crew : List A) (i : ℕ) (d : A) → all ≡ map door crew ++ rest → i < length crew → door_at (map show all) i ≡ show (door (get_or crew i d))
  own_door all rest crew i d is lt = ap (λ ds. door_at (map show ds) i) is ∙ at crew i lt
    where
      at : (ws : List A) (k : ℕ) → k < length ws → door_at (map show (map door ws ++ rest)) k ≡ show (door (get_or ws k d))
      at [] k lt = absurd (omega (arith, lt))
      at (w ∷ ws) zero lt = refl
      at (w ∷ ws) (suc k) lt = at ws k (omega (arith, lt))

  -- the doors behind theirs are as they were
  pub others_left : (all rest : List B) (crew : List A) (count : ℕ) → all ≡ map door crew ++ rest → length crew ≡ count → drop count (map show all) ≡ map show rest
  others_left all rest crew count is size =
      let many : count ≡ length (map show (map door crew)) = omega (arith, size, length-map crew door, length-map (map door crew) show) in
      ap (λ ds. drop count (map show ds)) is ∙ ap (drop count) (map-append show (map door crew) rest) ∙ ap (λ (n : ℕ). drop n (map show (map door crew) ++ map show rest)) many
      ∙ drop-append_seam (map show (map door crew)) (map show rest)

  pub as_many : (all rest : List B) (crew : List A) → all ≡ map door crew ++ rest → length (map show all) ≡ length crew + length rest
  as_many all rest crew is = omega (arith, length-map all show, ap length is, length-append (map door crew) rest, length-map crew door)

  pub room_for : (all rest : List B) (crew : List A) (most : ℕ) → all ≡ map door crew ++ rest → length all ≤ most → length crew + length rest ≤ most
  room_for all rest crew most is le = omega (arith, le, ap length is, length-append (map door crew) rest, length-map crew door)

-- What all come to.
comes_step : (now next : Service) (n : ℕ) (ends : ℕ → Service) → ends 0 ≡ next → ComesTo n (λ i. ends (suc i)) now → ComesTo (suc n) ends (worse_of now next)
comes_step Served Served n ends is all = here
  where
    here : (i : ℕ) → i < suc n → ends i ≡ Served
    here zero lt = is
    here (suc i) lt = all i (omega (arith, lt))
comes_step Served DoorFault n ends is all = (here, 0, omega arith, is)
  where
    here : (i : ℕ) → i < suc n → ends i ≢ NoMemory
    here zero lt wrong = cc (is, wrong)
    here (suc i) lt wrong = cc (all i (omega (arith, lt)), wrong)
comes_step Served NoMemory n ends is all = (0, omega arith, is)
comes_step DoorFault Served n ends is some = (here, suc some.1, omega (arith, some.2), some.3)
  where
    here : (i : ℕ) → i < suc n → ends i ≢ NoMemory
    here zero lt wrong = cc (is, wrong)
    here (suc i) lt wrong = some.0 i (omega (arith, lt)) wrong
comes_step DoorFault DoorFault n ends is some = (here, suc some.1, omega (arith, some.2), some.3)
  where
    here : (i : ℕ) → i < suc n → ends i ≢ NoMemory
    here zero lt wrong = cc (is, wrong)
    here (suc i) lt wrong = some.0 i (omega (arith, lt)) wrong
comes_step DoorFault NoMemory n ends is some = (0, omega arith, is)
comes_step NoMemory next n ends is some = (suc some.0, omega (arith, some.1), some.2)

pub comes_to : {A : Type 0} (end : A → Service) (d : A) (crew : List A) → ComesTo (length crew) (λ i. end (get_or crew i d)) (worst_of (map end crew))
comes_to end d [] = λ i lt. absurd (omega (arith, lt))
comes_to end d (w ∷ crew) = comes_step (worst_of (map end crew)) (end w) (length crew) (λ i. end (get_or (w ∷ crew) i d)) refl (comes_to end d crew)
