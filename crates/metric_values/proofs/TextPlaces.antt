-- Texts in one run of bytes: by their numbers, and with one more.
use Rattle.std.proofs.Common.{◌≡◌, ◌<◌, ◌≤◌, ◌+◌, ◌-◌, ◌++◌, ◌∙◌, ℕ, zero, suc, List, [], ◌∷◌, ap, arith, drop, get_or, length, refl, sym, take}
use Rattle.std.proofs.lemmas.List.{drop-append-le, drop_at, get_or_default, length-drop, take-append-le, take_all}
use Rattle.metric_values.specs.Cells.{Rise, text_start, texts_from}

pub texts_length : (start : ℕ) (bytes ends : List ℕ) → length (texts_from start bytes ends) ≡ length ends
texts_length start bytes [] = refl
texts_length start bytes (end ∷ ends) = ap suc (texts_length end bytes ends)

pub text_is : (start : ℕ) (bytes ends : List ℕ) (i : ℕ) → i < length ends → get_or (texts_from start bytes ends) i [] ≡ take (get_or ends i 0 - text_start start ends i) (drop (text_start start ends i) bytes)
text_is start bytes [] i h = absurd (omega arith)
text_is start bytes (end ∷ ends) zero h = refl
text_is start bytes (end ∷ ends) (suc i) h = text_is end bytes ends i (omega arith)

start_behind : (start : ℕ) (ends : List ℕ) (i : ℕ) → i < length ends → text_start start ends (suc i) ≡ get_or ends i 0
start_behind start [] i h = absurd (omega arith)
start_behind start (end ∷ ends) zero h = refl
start_behind start (end ∷ ends) (suc i) h = start_behind end ends i (omega arith)

pub end_before : (ends : List ℕ) (i : ℕ) → 0 < i → i < length ends → get_or ends (i - 1) 0 ≡ text_start 0 ends i
end_before ends zero p h = absurd (omega arith)
end_before ends (suc i) p h = ap (λ j. get_or ends j 0) (omega arith) ∙ sym (start_behind 0 ends i (omega arith))

rise_all : (start all : ℕ) (ends : List ℕ) → Rise start all ends → start ≤ all
rise_all start all [] r = omega (arith, r)
rise_all start all (end ∷ ends) r = omega (arith, r.0, rise_all end all ends r.1)

pub rise_at : (start all : ℕ) (ends : List ℕ) (i : ℕ) → Rise start all ends → i < length ends → (text_start start ends i ≤ get_or ends i 0) × (get_or ends i 0 ≤ all)
rise_at start all [] i r h = absurd (omega arith)
rise_at start all (end ∷ ends) zero r h = (r.0, rise_all end all ends r.1)
rise_at start all (end ∷ ends) (suc i) r h = rise_at end all ends i r.1 (omega arith)

pub rise_more : (start all more : ℕ) (ends : List ℕ) → Rise start all ends → all ≤ more → Rise start more (ends ++ more ∷ [])
rise_more start all more [] r h = (omega (arith, r, h), refl)
rise_more start all more (end ∷ ends) r h = (r.0, rise_more end all more ends r.1 h)

cut_stays : (n m : ℕ) (xs ys : List ℕ) → n + m ≤ length xs → take m (drop n (xs ++ ys)) ≡ take m (drop n xs)
cut_stays n m xs ys h = ap (take m) (drop-append-le n xs ys (omega arith)) ∙ take-append-le m (drop n xs) ys (omega (arith, length-drop n xs))

last_cut : (xs ys : List ℕ) → take (length xs + length ys - length xs) (drop (length xs) (xs ++ ys)) ≡ ys
last_cut xs ys = ap (take (length xs + length ys - length xs)) (drop_at xs ys (length xs) refl) ∙ take_all (length xs + length ys - length xs) ys (omega arith)

pub texts_more : (start : ℕ) (bytes text ends : List ℕ) → Rise start (length bytes) ends → texts_from start (bytes ++ text) (ends ++ (length bytes + length text) ∷ []) ≡ texts_from start bytes ends ++ text ∷ []
texts_more start bytes text [] r = ap (λ s. take (length bytes + length text - s) (drop s (bytes ++ text)) ∷ []) r ∙ ap (λ s. s ∷ []) (last_cut bytes text)
texts_more start bytes text (end ∷ ends) r =
    let e = cut_stays start (end - start) bytes text (omega (arith, r.0, rise_all end (length bytes) ends r.1)) in
    let m = texts_more end bytes text ends r.1 in
    λ i. e i ∷ m i

-- texts that are seen as their list
pub seen_text : (bytes ends : List ℕ) (texts : List (List ℕ)) → texts_from 0 bytes ends ≡ texts → (i : ℕ) → i < length texts → i < length ends
seen_text bytes ends texts view i h = omega (arith, h, texts_length 0 bytes ends, ap length view)

pub end_read : (ends : List ℕ) (i end : ℕ) → end ≡ get_or ends i end → i < length ends → end ≡ get_or ends i 0
end_read ends i end e h = e ∙ get_or_default ends i end 0 h
