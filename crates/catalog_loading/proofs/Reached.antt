-- steps that were done, one after another
use Rattle.std.proofs.Common.{◌≡◌, ℕ, ◌+◌, ◌<◌, ◌≤◌, length, drop, get_or, List, [], ◌∷◌, ◌++◌, Option, Some, None, refl, sym, ◌∙◌, ap, subst, append-nil, append_assoc}
use Rattle.std.specs.Prelude.{Result, Ok, Err, IsErrAnd}
use Rattle.std.proofs.lemmas.List.{drop_all, drop_more}
use Rattle.catalog_loading.specs.Files.{Contents, ReadsToCome, AreTold, always}
use Rattle.catalog_loading.specs.Steps.{StepOutcome, FileStep, ◌>>=◌, behind, continued, done, one_by_one, from}
use Rattle.catalog_loading.specs.Given.{AreBegun, IsDecided, IsStepGiven, IsRefusedBy, IsStep, IsStopAt}
use Rattle.catalog_loading.specs.declared.stops.Stop.{Stop}
use Rattle.catalog_loading.specs.declared.stops.Stop.TheVariants.{Usage, Refused, Journal, Disk, Fault, NoMemory}

-- some reads to come
pub any_reads : (held : Option Contents) → (reads : ReadsToCome) × AreTold held reads
any_reads None = (λ n name. None, tt)
any_reads (Some told) = (always told, refl)

-- What a step gave: an `IsStep` of an `Ok`.
abbrev pub IsDone : {A : Type 0} → (held : Option Contents) → (old new : List (List ℕ)) → FileStep A → A → Type 0
IsDone held old new step a = (rest : ReadsToCome) → AreTold held rest → (reads : ReadsToCome) × AreTold held reads × IsStepGiven (step reads) rest old new a

-- What stopped a step: an `IsStep` of an `Err`.
abbrev pub IsStopped : {A : Type 0} → (held : Option Contents) → (old new : List (List ℕ)) → FileStep A → Stop → Type 0
IsStopped held old new step stop = (rest : ReadsToCome) → AreTold held rest → (reads : ReadsToCome) × AreTold held reads × IsStopAt (step reads) old new stop

-- So far the work of these steps is done, up to those that are left: whatever these read, the whole comes to what they come to.
abbrev pub Reached : {A : Type 0} → (held : Option Contents) → (old new : List (List ℕ)) → (whole left : FileStep A) → Type 0
Reached held old new whole left = (rest : ReadsToCome) → AreTold held rest
    → (reads : ReadsToCome) × (names : List (List ℕ)) × AreTold held reads × (new ≡ old ++ names) × (whole reads ≡ behind names (left rest))

pub begun : {A : Type 0} (held : Option Contents) (old : List (List ℕ)) (whole : FileStep A) → Reached held old old whole whole
begun held old whole = λ rest told. (rest, [], told, sym (append-nil old), refl)

-- names behind names
behind_both : {A : Type 0} (names more : List (List ℕ)) (o : StepOutcome A) → behind names (behind more o) ≡ behind (names ++ more) o
behind_both {A} names more o = ap (λ (ns : List (List ℕ)). record { given = o.given; names = ns; rest = o.rest }) (sym (append_assoc names more o.names))

-- a step that gave this, and then the next
given_then : {A B : Type 0} (step : FileStep A) (next : A → FileStep B) (reads rest : ReadsToCome) (old new : List (List ℕ)) (a : A) → IsStepGiven (step reads) rest old new a
    → (step >>= next) reads ≡ behind (step reads).names (next a rest)
unfolding ◌>>=◌
given_then step next reads rest old new a is =
    ap (λ given. continued given (step reads).names (step reads).rest next) is.given ∙ ap (λ (rs : ReadsToCome). behind (step reads).names (next a rs)) is.rests

pub one_more : {A B : Type 0} (held now : Option Contents) (old mid new : List (List ℕ)) (whole : FileStep B) (step : FileStep A) (next : A → FileStep B) (a : A)
    → Reached held old mid whole (step >>= next) → now ≡ held → IsDone now mid new step a → Reached held old new whole (next a)
one_more held now old mid new whole step next a so_far same here = λ rest told.
    let one = here rest (subst (λ (h : Option Contents). AreTold h rest) (sym same) told) in
    let before = so_far one.0 (subst (λ (h : Option Contents). AreTold h one.0) same one.1) in (
      before.0,
      before.1 ++ (step one.0).names,
      before.2,
      one.2.names ∙ ap (λ ns. ns ++ (step one.0).names) before.3 ∙ append_assoc old before.1 (step one.0).names,
      before.4 ∙ ap (behind before.1) (given_then step next one.0 rest mid new a one.2) ∙ behind_both before.1 (step one.0).names (next a rest),
    )

-- what is left gives the whole's value
pub all_done : {A : Type 0} (held : Option Contents) (old new : List (List ℕ)) (whole : FileStep A) (a : A) → Reached held old new whole (done a) → IsDone held old new whole a
all_done held old new whole a so_far = λ rest told.
    let one = so_far rest told in
    let out = one.4 in (
      one.0,
      one.2,
      record {
        given = ap (λ (o : StepOutcome _). o.given) out;
        rests = ap (λ (o : StepOutcome _). o.rest) out;
        names = one.3 ∙ ap (λ ns. old ++ ns) (sym (append-nil one.1) ∙ sym (ap (λ (o : StepOutcome _). o.names) out));
      },
    )

-- some of its files were read
begun_behind : {A : Type 0} (old mid new names : List (List ℕ)) (o whole : StepOutcome A) → mid ≡ old ++ names → whole ≡ behind names o → AreBegun o mid new → AreBegun whole old new
begun_behind {A} old mid new names o whole before same (some, more, is, both) = (
  names ++ some,
  more,
  is ∙ ap (λ ns. ns ++ some) before ∙ append_assoc old names some,
  ap (λ (w : StepOutcome A). w.names) same ∙ ap (λ ns. names ++ ns) both ∙ sym (append_assoc names some more),
)

-- What stops the steps that are left stops the whole.
stops_whole : {A : Type 0} (old mid new names : List (List ℕ)) (o whole : StepOutcome A) (stop : Stop) → mid ≡ old ++ names → whole ≡ behind names o
    → IsStopAt o mid new stop → IsStopAt whole old new stop
stops_whole {A} old mid new names o whole Usage before same is = is
stops_whole {A} old mid new names o whole (Journal line) before same is = is
stops_whole {A} old mid new names o whole (Disk line) before same is = is
stops_whole {A} old mid new names o whole (Refused name) before same (given, read) = (
  ap (λ (w : StepOutcome A). w.given) same ∙ given,
  read ∙ ap (λ ns. ns ++ o.names) before ∙ append_assoc old names o.names ∙ ap (λ ns. old ++ ns) (sym (ap (λ (w : StepOutcome A). w.names) same)),
)
stops_whole {A} old mid new names o whole Fault before same is = begun_behind old mid new names o whole before same is
stops_whole {A} old mid new names o whole NoMemory before same is = begun_behind old mid new names o whole before same is

-- The steps that are left stop the whole,
pub at_stop : {A : Type 0} (held now : Option Contents) (old mid new : List (List ℕ)) (whole left : FileStep A) (stop : Stop)
    → Reached held old mid whole left → now ≡ held → IsStopped now mid new left stop → IsStopped held old new whole stop
at_stop held now old mid new whole left stop so_far same here = λ rest told.
    let one = here rest (subst (λ (h : Option Contents). AreTold h rest) (sym same) told) in
    let before = so_far one.0 (subst (λ (h : Option Contents). AreTold h one.0) same one.1) in
    (before.0, before.2, stops_whole old mid new before.1 (left one.0) (whole before.0) stop before.3 before.4 one.2)

-- are done as it is,
pub at_done : {A : Type 0} (held now : Option Contents) (old mid new : List (List ℕ)) (whole left : FileStep A) (a : A)
    → Reached held old mid whole left → now ≡ held → IsDone now mid new left a → IsDone held old new whole a
at_done held now old mid new whole left a so_far same here = λ rest told.
    let one = here rest (subst (λ (h : Option Contents). AreTold h rest) (sym same) told) in
    let before = so_far one.0 (subst (λ (h : Option Contents). AreTold h one.0) same one.1) in (
      before.0,
      before.2,
      record {
        given = ap (λ (o : StepOutcome _). o.given) before.4 ∙ one.2.given;
        rests = ap (λ (o : StepOutcome _). o.rest) before.4 ∙ one.2.rests;
        names = one.2.names ∙ ap (λ ns. ns ++ (left one.0).names) before.3 ∙ append_assoc old before.1 (left one.0).names ∙ ap (λ ns. old ++ ns) (sym (ap (λ (o : StepOutcome _). o.names) before.4));
      },
    )

-- and end as it does.
pub at_last : {A T : Type 0} (held now : Option Contents) (old mid new : List (List ℕ)) (whole left : FileStep A) (value : T → A) (result : Result T Stop)
    → Reached held old mid whole left → now ≡ held → IsStep now mid new left value result → IsStep held old new whole value result
at_last held now old mid new whole left value (Ok x) so_far same here = at_done held now old mid new whole left (value x) so_far same here
at_last held now old mid new whole left value (Err stop) so_far same here = at_stop held now old mid new whole left stop so_far same here

-- A step that stopped, with others behind it.
then_begun : {A B : Type 0} (given : Result A (List ℕ)) (names : List (List ℕ)) (rest : ReadsToCome) (next : A → FileStep B) → (more : List (List ℕ)) × ((continued given names rest next).names ≡ names ++ more)
then_begun (Ok a) names rest next = ((next a rest).names, refl)
then_begun (Err name) names rest next = ([], sym (append-nil names))

begun_then : {A B : Type 0} (step : FileStep A) (next : A → FileStep B) (reads : ReadsToCome) (old new : List (List ℕ)) → AreBegun (step reads) old new → AreBegun ((step >>= next) reads) old new
unfolding ◌>>=◌
begun_then step next reads old new (some, more, is, both) =
    let after = then_begun (step reads).given (step reads).names (step reads).rest next in
    (some, more ++ after.0, is, after.1 ∙ ap (λ ns. ns ++ after.0) both ∙ append_assoc some more after.0)

stop_then : {A B : Type 0} (step : FileStep A) (next : A → FileStep B) (reads : ReadsToCome) (old new : List (List ℕ)) (stop : Stop) → IsStopAt (step reads) old new stop → IsStopAt ((step >>= next) reads) old new stop
unfolding ◌>>=◌
stop_then step next reads old new Usage is = is
stop_then step next reads old new (Journal line) is = is
stop_then step next reads old new (Disk line) is = is
stop_then step next reads old new (Refused name) (given, read) = (
  ap (λ r. (continued r (step reads).names (step reads).rest next).given) given,
  read ∙ sym (ap (λ r. old ++ (continued r (step reads).names (step reads).rest next).names) given),
)
stop_then step next reads old new Fault is = begun_then step next reads old new is
stop_then step next reads old new NoMemory is = begun_then step next reads old new is

pub stopped : {A B : Type 0} (held now : Option Contents) (old mid new : List (List ℕ)) (whole : FileStep B) (step : FileStep A) (next : A → FileStep B) (stop : Stop)
    → Reached held old mid whole (step >>= next) → now ≡ held → IsStopped now mid new step stop → IsStopped held old new whole stop
stopped held now old mid new whole step next stop so_far same here =
    at_stop held now old mid new whole (step >>= next) stop so_far same (λ rest told. (let one = here rest told in (one.0, one.1, stop_then step next one.0 mid new stop one.2)))

-- a stop that is passed on
pub passed : {A T : Type 0} (held : Option Contents) (old new : List (List ℕ)) (step : FileStep A) (value : T → A) (stop : Stop) (result : Result T Stop)
    → IsStopped held old new step stop → IsErrAnd result (λ e. e ≡ stop) → IsStep held old new step value result
passed held old new step value stop (Ok x) is wrong = absurd wrong
passed held old new step value stop (Err other) is same = subst (λ (s : Stop). IsStopped held old new step s) (sym same) is

-- what is decided without a read
refused_here : {A : Type 0} (old : List (List ℕ)) (given : Result A (List ℕ)) (reads : ReadsToCome) (stop : Stop) → IsRefusedBy given stop → IsStopAt (from given reads) old old stop
refused_here old given reads Usage is = absurd is
refused_here old given reads (Journal line) is = absurd is
refused_here old given reads (Disk line) is = absurd is
refused_here old given reads (Refused name) is = (is, sym (append-nil old))
refused_here old given reads Fault is = absurd is
refused_here old given reads NoMemory is = ([], [], sym (append-nil old), refl)

pub decided : {A : Type 0} (held : Option Contents) (old : List (List ℕ)) (given : Result A (List ℕ)) (a : A) → given ≡ Ok a → IsDone held old old (from given) a
decided held old given a is = λ rest told. (rest, told, record { given = is; rests = refl; names = sym (append-nil old) })

pub undecided : {A : Type 0} (held : Option Contents) (old : List (List ℕ)) (given : Result A (List ℕ)) (stop : Stop) → IsRefusedBy given stop → IsStopped held old old (from given) stop
undecided held old given stop is = λ rest told. (rest, told, refused_here old given rest stop is)

pub if_decided : {A T : Type 0} (held : Option Contents) (old : List (List ℕ)) (given : Result A (List ℕ)) (value : T → A) (result : Result T Stop)
    → IsDecided given value result → IsStep held old old (from given) value result
if_decided held old given value (Ok x) is = decided held old given (value x) is
if_decided held old given value (Err stop) is = undecided held old given stop is

-- where memory ran out before what is left
pub cut : {A : Type 0} (held : Option Contents) (old now : List (List ℕ)) (whole left : FileStep A) → Reached held old now whole left → IsStopped held old now whole NoMemory
cut held old now whole left so_far = at_stop held held old now now whole left NoMemory so_far refl (λ rest told. (rest, told, ([], (left rest).names, sym (append-nil now), refl)))

-- Steps for each of a list: those done so far gave these, and the others are left.
abbrev pub others : {A B : Type 0} → (A → FileStep B) → (so_far : List B) → (left : List A) → FileStep (List B)
others step so_far left = one_by_one step left >>= (λ ys. done (so_far ++ ys))

same_done : {A : Type 0} (given : Result A (List ℕ)) (names : List (List ℕ)) (rest : ReadsToCome) → continued given names rest done ≡ record { given = given; names = names; rest = rest }
same_done (Ok a) names rest = ap (λ (ns : List (List ℕ)). record { given = Ok a; names = ns; rest = rest }) (append-nil names)
same_done (Err name) names rest = refl

-- at the start
pub none_yet : {A B : Type 0} (held : Option Contents) (old : List (List ℕ)) (step : A → FileStep B) (xs : List A) → Reached held old old (one_by_one step xs) (others step [] xs)
unfolding ◌>>=◌
none_yet held old step xs = λ rest told.
    (rest, [], told, sym (append-nil old), sym (same_done (one_by_one step xs rest).given (one_by_one step xs rest).names (one_by_one step xs rest).rest))

-- one more
regrouped : {B : Type 0} (names : List (List ℕ)) (y : B) (so_far : List B) (o : StepOutcome (List B))
    → continued (behind names (continued o.given o.names o.rest (λ ys. done (y ∷ ys)))).given (behind names (continued o.given o.names o.rest (λ ys. done (y ∷ ys)))).names
    (behind names (continued o.given o.names o.rest (λ ys. done (y ∷ ys)))).rest (λ ys. done (so_far ++ ys))
    ≡ behind names (continued o.given o.names o.rest (λ ys. done ((so_far ++ y ∷ []) ++ ys)))
regrouped {B} names y so_far o = here o.given
  where
    here : (given : Result (List B) (List ℕ)) → continued (behind names (continued given o.names o.rest (λ ys. done (y ∷ ys)))).given (behind names (continued given o.names o.rest (λ ys. done (y ∷ ys)))).names
        (behind names (continued given o.names o.rest (λ ys. done (y ∷ ys)))).rest (λ ys. done (so_far ++ ys))
        ≡ behind names (continued given o.names o.rest (λ ys. done ((so_far ++ y ∷ []) ++ ys)))
    here (Err name) = refl
    here (Ok ys) = ap (λ (ns : List (List ℕ)). record { given = Ok (so_far ++ y ∷ ys); names = ns; rest = o.rest }) (append-nil (names ++ (o.names ++ [])))
        ∙ ap (λ (zs : List B). record { given = Ok zs; names = names ++ (o.names ++ []); rest = o.rest }) (sym (append_assoc so_far (y ∷ []) ys))

pub and_one : {A B : Type 0} (held now : Option Contents) (old mid new : List (List ℕ)) (whole : FileStep (List B)) (step : A → FileStep B) (so_far : List B) (x : A) (xs : List A) (y : B)
    → Reached held old mid whole (others step so_far (x ∷ xs)) → now ≡ held → IsDone now mid new (step x) y → Reached held old new whole (others step (so_far ++ y ∷ []) xs)
unfolding ◌>>=◌ one_by_one
and_one {A} {B} held now old mid new whole step so_far x xs y reached same here = λ rest told.
    let one = here rest (subst (λ (h : Option Contents). AreTold h rest) (sym same) told) in
    let before = reached one.0 (subst (λ (h : Option Contents). AreTold h one.0) same one.1) in
    let names = (step x one.0).names in
    let mine = given_then (step x) (λ y. one_by_one step xs >>= (λ ys. done (y ∷ ys))) one.0 rest mid new y one.2 in (
      before.0,
      before.1 ++ names,
      before.2,
      one.2.names ∙ ap (λ ns. ns ++ names) before.3 ∙ append_assoc old before.1 names,
      before.4 ∙ ap (behind before.1) (ap (λ (o : StepOutcome (List B)). continued o.given o.names o.rest (λ ys. done (so_far ++ ys))) mine ∙ regrouped names y so_far (one_by_one step xs rest))
          ∙ behind_both before.1 names (others step (so_far ++ y ∷ []) xs rest),
    )

-- one that stops
pub but_one : {A B : Type 0} (held now : Option Contents) (old mid new : List (List ℕ)) (whole : FileStep (List B)) (step : A → FileStep B) (so_far : List B) (x : A) (xs : List A) (stop : Stop)
    → Reached held old mid whole (others step so_far (x ∷ xs)) → now ≡ held → IsStopped now mid new (step x) stop → IsStopped held old new whole stop
unfolding one_by_one
but_one held now old mid new whole step so_far x xs stop reached same here =
    at_stop held now old mid new whole (others step so_far (x ∷ xs)) stop reached same
    (λ rest told. (let one = here rest told in (
      one.0,
      one.1,
      stop_then (one_by_one step (x ∷ xs)) (λ ys. done (so_far ++ ys)) one.0 mid new stop
          (stop_then (step x) (λ y. one_by_one step xs >>= (λ ys. done (y ∷ ys))) one.0 mid new stop one.2),
    )))

-- at the end
pub no_more : {A B : Type 0} (held : Option Contents) (old new : List (List ℕ)) (whole : FileStep (List B)) (step : A → FileStep B) (all : List B)
    → Reached held old new whole (others step all []) → IsDone held old new whole all
unfolding ◌>>=◌ one_by_one
no_more {A} {B} held old new whole step all reached = all_done held old new whole all
    (λ rest told. (let before = reached rest told in (
      before.0,
      before.1,
      before.2,
      before.3,
      before.4 ∙ ap (λ (ys : List B). behind before.1 (done ys rest)) (append-nil all),
    )))

-- the same by numbers
pub next_done : {A B : Type 0} (held now : Option Contents) (old mid new : List (List ℕ)) (whole : FileStep (List B)) (step : A → FileStep B) (so_far : List B) (xs : List A) (i : ℕ) (d : A) (y : B) → i < length xs
    → Reached held old mid whole (others step so_far (drop i xs)) → now ≡ held → IsDone now mid new (step (get_or xs i d)) y → Reached held old new whole (others step (so_far ++ y ∷ []) (drop (i + 1) xs))
next_done {A} held now old mid new whole step so_far xs i d y within reached same here =
    and_one held now old mid new whole step so_far (get_or xs i d) (drop (i + 1) xs) y (subst (λ (left : List A). Reached held old mid whole (others step so_far left)) (drop_more xs i d within) reached) same here

pub next_stopped : {A B : Type 0} (held now : Option Contents) (old mid new : List (List ℕ)) (whole : FileStep (List B)) (step : A → FileStep B) (so_far : List B) (xs : List A) (i : ℕ) (d : A) (stop : Stop) → i < length xs
    → Reached held old mid whole (others step so_far (drop i xs)) → now ≡ held → IsStopped now mid new (step (get_or xs i d)) stop → IsStopped held old new whole stop
next_stopped {A} held now old mid new whole step so_far xs i d stop within reached same here =
    but_one held now old mid new whole step so_far (get_or xs i d) (drop (i + 1) xs) stop (subst (λ (left : List A). Reached held old mid whole (others step so_far left)) (drop_more xs i d within) reached) same here

pub last_done : {A B : Type 0} (held : Option Contents) (old new : List (List ℕ)) (whole : FileStep (List B)) (step : A → FileStep B) (all : List B) (xs : List A) (i : ℕ) → length xs ≤ i
    → Reached held old new whole (others step all (drop i xs)) → IsDone held old new whole all
last_done {A} held old new whole step all xs i past reached = no_more held old new whole step all (subst (λ (left : List A). Reached held old new whole (others step all left)) (drop_all i xs past) reached)

-- where memory ran out after all was read
pub cut_behind : {A : Type 0} (held : Option Contents) (old new : List (List ℕ)) (whole : FileStep A) (a : A) → IsDone held old new whole a → IsStopped held old new whole NoMemory
cut_behind held old new whole a is = λ rest told. (let one = is rest told in (one.0, one.1, ((whole one.0).names, [], one.2.names, sym (append-nil (whole one.0).names))))
