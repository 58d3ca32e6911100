-- Lines that stand together among others.
use Rattle.std.proofs.Common.{◌≡◌, ℕ, suc, ◌+◌, ◌≤◌, ◌<◌, List, [], ◌∷◌, ◌++◌, take, drop, length, get_or, refl, ap, sym, arith, subst, ◌∙◌}
use Rattle.std.proofs.lemmas.List.{append_assoc, drop-drop, drop-take, drop_more, get_or_at, length-append, take-append-drop, take-take}
use Rattle.fz_ast.specs.Types.{UnitT}
use Rattle.derivation_lines.specs.Lines.{Line, line_at}

-- n lines from k on
abbrev pub part : List Line → ℕ → ℕ → List Line
part L k n = take n (drop k L)

pub part_cons : (L : List Line) (k n : ℕ) → k < length L → part L k (suc n) ≡ line_at L k ∷ part L (k + 1) n
unfolding line_at
part_cons L k n h = ap (take (suc n)) (drop_more L k (record { ty = UnitT; says = [] }) h)

front_and_rest : (m n : ℕ) (xs : List Line) → take (m + n) xs ≡ take m xs ++ take n (drop m xs)
front_and_rest m n xs =
    sym (take-append-drop m (take (m + n) xs)) ∙ ap (λ ys. ys ++ drop m (take (m + n) xs)) (take-take m (m + n) xs (omega arith)) ∙ ap (λ ys. take m xs ++ ys) (drop-take m n xs)

pub part_append : (L : List Line) (k m n : ℕ) → part L k (m + n) ≡ part L k m ++ part L (k + m) n
part_append L k m n = front_and_rest m n (drop k L) ∙ ap (λ ys. take m (drop k L) ++ take n ys) (drop-drop m k L)

-- K stands in L from line k on
pub record Holds (L : List Line) (k : ℕ) (K : List Line) : Type 0 where
  pub before : List Line
  pub after : List Line
  pub is : L ≡ before ++ (K ++ after)
  pub place : length before ≡ k

pub holds_first : {L : List Line} {k : ℕ} {l : Line} {K : List Line} → Holds L k (l ∷ K) → line_at L k ≡ l
unfolding line_at
holds_first {L} {k} {l} {K} h =
    let d : Line = record { ty = UnitT; says = [] } in
    ap (λ (M : List Line). get_or M k d) h.is ∙ get_or_at h.before l (K ++ h.after) d k h.place

pub holds_rest : {L : List Line} {k : ℕ} {l : Line} {K : List Line} → Holds L k (l ∷ K) → Holds L (k + 1) K
holds_rest {l = l} {K = K} h = record {
  before = h.before ++ l ∷ [];
  after = h.after;
  is = h.is ∙ sym (append_assoc h.before (l ∷ []) (K ++ h.after));
  place = length-append h.before (l ∷ []) ∙ ap (λ n. n + 1) h.place;
}

pub holds_front : {L : List Line} {k : ℕ} (J K : List Line) → Holds L k (J ++ K) → Holds L k J
holds_front J K h = record { before = h.before; after = K ++ h.after; is = h.is ∙ ap (λ M. h.before ++ M) (append_assoc J K h.after); place = h.place }

pub holds_back : {L : List Line} {k n : ℕ} (J K : List Line) → length J ≡ n → Holds L k (J ++ K) → Holds L (k + n) K
holds_back {k = k} {n = n} J K e h = record {
  before = h.before ++ J;
  after = h.after;
  is = h.is ∙ ap (λ M. h.before ++ M) (append_assoc J K h.after) ∙ sym (append_assoc h.before J (K ++ h.after));
  place = length-append h.before J ∙ ap (λ m. m + length J) h.place ∙ ap (λ m. k + m) e;
}
