-- Texts that are kept one behind another.
use Rattle.std.proofs.Common.{◌≡◌, ℕ, zero, suc, ◌+◌, ◌-◌, ◌<◌, ◌≤◌, List, [], ◌∷◌, ◌++◌, length, get_or, take, drop, refl, sym, ap, ◌∙◌, subst, arith, length-append, append-nil}
use Rattle.std.specs.Prelude.{slice_get, Some}
use Rattle.std.proofs.Math.Seq.{take-append_seam, drop-append-add}
use Rattle.std.proofs.lemmas.List.Concat.{flat_map-append}
use Rattle.std.proofs.lemmas.List.{get_or_default}
use Rattle.script_workers.specs.Texts.{KeepsTexts, ends_from, in_all}
use Rattle.script_workers.specs.declared.texts.Texts.{Texts}

pub ends_count : (n : ℕ) (texts : List (List ℕ)) → length (ends_from n texts) ≡ length texts
ends_count n [] = refl
ends_count n (text ∷ texts) = ap suc (ends_count (n + length text) texts)

-- The text at a place stands in all bytes, of which the first is at n.
record StandsAt (n : ℕ) (texts : List (List ℕ)) (k from to : ℕ) : Type 0 where
  pub behind : n ≤ from
  pub ordered : from ≤ to
  pub within : to ≤ n + length (in_all texts)
  pub is : slice_get texts k ≡ Some (take (to - from) (drop (from - n) (in_all texts)))

stands_at : (n : ℕ) (texts : List (List ℕ)) (k : ℕ) → k < length texts → StandsAt n texts k (get_or (n ∷ ends_from n texts) k 0) (get_or (ends_from n texts) k 0)
stands_at n [] k within = absurd (omega arith)
stands_at n (text ∷ texts) zero within =
    let none : n - n ≡ 0 = omega arith in
    let all : n + length text - n ≡ length text = omega arith in
    record {
      behind = omega arith;
      ordered = omega arith;
      within = omega (arith, length-append text (in_all texts));
      is = rw (none, all, take-append_seam) refl;
    }
stands_at n (text ∷ texts) (suc k) within =
    let m : ℕ = n + length text in
    let from : ℕ = get_or (m ∷ ends_from m texts) k 0 in
    let to : ℕ = get_or (ends_from m texts) k 0 in
    let rest : StandsAt m texts k from to = stands_at m texts k (omega arith) in
    let shift : from - n ≡ length text + (from - m) = omega (arith, rest.behind) in
    record {
      behind = omega (arith, rest.behind);
      ordered = rest.ordered;
      within = omega (arith, rest.within, length-append text (in_all texts));
      is = rest.is ∙ ap (λ bytes. Some (take (to - from) bytes)) (sym (drop-append-add text (in_all texts) (from - m)) ∙ ap (λ i. drop i (text ++ in_all texts)) (sym shift));
    }

-- The text at a place stands in the bytes that are kept.
pub record IsKeptAt (kept : Texts) (texts : List (List ℕ)) (k from to : ℕ) : Type 0 where
  pub ordered : from ≤ to
  pub within : to ≤ length kept.bytes.items
  pub is : slice_get texts k ≡ Some (take (to - from) (drop from kept.bytes.items))

pub kept_at : (kept : Texts) (texts : List (List ℕ)) (k from to : ℕ) → KeepsTexts kept texts → k < length texts → from ≡ get_or (0 ∷ kept.ends.items) k 0 → to ≡ get_or kept.ends.items k to → IsKeptAt kept texts k from to
kept_at kept texts k from to holds within begins ends =
    let there : k < length kept.ends.items = omega (arith, ap length holds.ends, ends_count 0 texts) in
    let at : to ≡ get_or (ends_from 0 texts) k 0 = ends ∙ get_or_default kept.ends.items k to 0 there ∙ ap (λ xs. get_or xs k 0) holds.ends in
    let stands : StandsAt 0 texts k from to = subst (λ i. StandsAt 0 texts k i to) (sym (begins ∙ ap (λ xs. get_or (0 ∷ xs) k 0) holds.ends))
    (subst (λ i. StandsAt 0 texts k (get_or (0 ∷ ends_from 0 texts) k 0) i) (sym at) (stands_at 0 texts k within)) in
    let whole : from - 0 ≡ from = omega arith in
    record {
      ordered = stands.ordered;
      within = omega (arith, stands.within, ap length holds.bytes);
      is = stands.is ∙ ap (λ i. Some (take (to - from) (drop i (in_all texts)))) whole ∙ ap (λ bytes. Some (take (to - from) (drop from bytes))) (sym holds.bytes);
    }

-- One text more.
pub in_push : (before after : List ℕ) (done : List (List ℕ)) (text : List ℕ) → after ≡ before ++ text → before ≡ in_all done → after ≡ in_all (done ++ text ∷ [])
in_push before after done text pushed is = pushed ∙ ap (λ xs. xs ++ text) is ∙ ap (λ xs. in_all done ++ xs) (sym (append-nil text)) ∙ sym (flat_map-append (λ (t : List ℕ). t) done (text ∷ []))

ends_push : (n : ℕ) (texts : List (List ℕ)) (text : List ℕ) → ends_from n (texts ++ text ∷ []) ≡ ends_from n texts ++ (n + length (in_all texts) + length text) ∷ []
ends_push n [] text = ap (λ m. m ∷ []) (omega arith)
ends_push n (first ∷ texts) text = ap (λ ns. (n + length first) ∷ ns)
    (ends_push (n + length first) texts text ∙ ap (λ m. ends_from (n + length first) texts ++ m ∷ []) (omega (arith, length-append first (in_all texts))))

pub holds_push : (kept after : Texts) (texts : List (List ℕ)) (text : List ℕ) (end : ℕ) → KeepsTexts kept texts → after.bytes.items ≡ kept.bytes.items ++ text → after.ends.items ≡ kept.ends.items ++ end ∷ [] → end ≡ length after.bytes.items → KeepsTexts after (texts ++ text ∷ [])
holds_push kept after texts text end holds bytes ends is = record {
  bytes = in_push kept.bytes.items after.bytes.items texts text bytes holds.bytes;
  ends = ends ∙ ap (λ ns. ns ++ end ∷ []) holds.ends
      ∙ ap (λ m. ends_from 0 texts ++ m ∷ []) (omega (arith, is, ap length bytes, length-append kept.bytes.items text, ap length holds.bytes))
      ∙ sym (ends_push 0 texts text);
}

pub push_longer : (kept after : Texts) (texts : List (List ℕ)) (text : List ℕ) → KeepsTexts kept texts → KeepsTexts after (texts ++ text ∷ [])
    → (length after.bytes.items ≡ length kept.bytes.items + length text) × (length after.ends.items ≡ length kept.ends.items + 1)
push_longer kept after texts text before now = (
  omega (arith, ap length before.bytes, ap length now.bytes, ap length (in_push (in_all texts) (in_all texts ++ text) texts text refl refl), length-append (in_all texts) text),
  omega (arith, ap length before.ends, ap length now.ends, ends_count 0 texts, ends_count 0 (texts ++ text ∷ []), length-append texts (text ∷ [])),
)
