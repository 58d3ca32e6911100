-- Rows on their way through steps.
use Rattle.std.proofs.Common.{◌≡◌, List, [], ◌∷◌, ◌++◌, Option, Some, None, refl, ap, sym, ◌∙◌, append_assoc, append-nil}
use Rattle.metric_values.specs.Values.{Flat}
use Rattle.flow_values.specs.Steps.{AllGo, Goes, Step, all_through, listed, stepped, through}

pub through_none : (rows : List Flat) → all_through [] rows ≡ rows
through_none [] = refl
through_none (x ∷ rows) = ap (λ xs. x ∷ xs) (through_none rows)

pub go_none : (rows : List Flat) → AllGo [] rows
go_none [] = tt
go_none (x ∷ rows) = (tt, go_none rows)

-- rows behind others
pub through_both : (ss : List Step) (xs ys : List Flat) → all_through ss (xs ++ ys) ≡ all_through ss xs ++ all_through ss ys
through_both ss [] ys = refl
through_both ss (x ∷ xs) ys =
    ap (λ zs. listed (through ss (Some x)) ++ zs) (through_both ss xs ys) ∙ sym (append_assoc (listed (through ss (Some x))) (all_through ss xs) (all_through ss ys))

pub go_left : (ss : List Step) (xs ys : List Flat) → AllGo ss (xs ++ ys) → AllGo ss xs
go_left ss [] ys h = tt
go_left ss (x ∷ xs) ys h = (h.0, go_left ss xs ys h.1)

pub go_right : (ss : List Step) (xs ys : List Flat) → AllGo ss (xs ++ ys) → AllGo ss ys
go_right ss [] ys h = h
go_right ss (x ∷ xs) ys h = go_right ss xs ys h.1

-- a step behind others
through_more : (ss : List Step) (s : Step) (o : Option Flat) → through (ss ++ s ∷ []) o ≡ through (s ∷ []) (through ss o)
through_more ss s None = refl
through_more [] s (Some x) = refl
through_more (t ∷ ss) s (Some x) = through_more ss s (stepped t x)

listed_through : (s : Step) (o : Option Flat) → listed (through (s ∷ []) o) ≡ all_through (s ∷ []) (listed o)
listed_through s None = refl
listed_through s (Some x) = sym (append-nil (listed (through (s ∷ []) (Some x))))

pub all_more : (ss : List Step) (s : Step) (rows : List Flat) → all_through (ss ++ s ∷ []) rows ≡ all_through (s ∷ []) (all_through ss rows)
all_more ss s [] = refl
all_more ss s (x ∷ rows) =
    (λ i. listed (through_more ss s (Some x) i) ++ all_more ss s rows i)
    ∙ ap (λ ys. ys ++ all_through (s ∷ []) (all_through ss rows)) (listed_through s (through ss (Some x)))
    ∙ sym (through_both (s ∷ []) (listed (through ss (Some x))) (all_through ss rows))

goes_more : (ss : List Step) (s : Step) (o : Option Flat) → Goes ss o → AllGo (s ∷ []) (listed (through ss o)) → Goes (ss ++ s ∷ []) o
goes_more ss s None g h = tt
goes_more [] s (Some x) g h = h.0
goes_more (t ∷ ss) s (Some x) g h = (g.0, goes_more ss s (stepped t x) g.1 h)

pub go_more : (ss : List Step) (s : Step) (rows : List Flat) → AllGo ss rows → AllGo (s ∷ []) (all_through ss rows) → AllGo (ss ++ s ∷ []) rows
go_more ss s [] g h = tt
go_more ss s (x ∷ rows) g h =
    let here = listed (through ss (Some x)) in
    (goes_more ss s (Some x) g.0 (go_left (s ∷ []) here (all_through ss rows) h), go_more ss s rows g.1 (go_right (s ∷ []) here (all_through ss rows) h))
