-- What an action finds on top, and what it puts there.
use Rattle.std.proofs.Common.{◌≡◌, ℕ, zero, suc, ◌-◌, ◌<◌, List, [], ◌∷◌, ◌++◌, true, refl, arith, sym, ap, ◌∙◌, subst, inl, inr, get_or, take, drop, length, reverse}
use Rattle.std.specs.Prelude.{nat_eq, Some}
use Rattle.std.proofs.lemmas.List.{reverse-append, length-reverse, take-append-drop, drop_all}
use Rattle.std.proofs.lemmas.Bool.{and_parts, eqb-true, cases_lt}
use Rattle.std.proofs.Math.Seq.{drop-append_seam}
use Rattle.std.proofs.Common.{length-drop}
use Rattle.fz_ast.specs.Parts.{Parts}
use Rattle.fz_lexer.specs.declared.token.Token.{Token}
use Rattle.fz_parser.specs.declared.reader.Held.{Held}
use Rattle.fz_parser.specs.declared.reader.Entry.{Entry}
use Rattle.fz_parser.specs.declared.reader.Reader.{Reader}
use Rattle.fz_parser.specs.declared.grammar.Action.{Action}
use Rattle.fz_parser.specs.declared.grammar.Terminal.{Terminal}
use Rattle.fz_parser.specs.Parts.{StackPart, What, State, sort_of, nothing, start_at, takes, arity, build, made, whole, shift, token_parts}
use Rattle.fz_parser.specs.Tests.{begins_with}
use Rattle.fz_parser.specs.Steps.{sorts_of, sorts}
use Rattle.fz_parser.specs.Kept.{what_of, parts_in, state_of, IsHeld, AllHeld, IsInOrder, IsValue, sort_at, Makes}

abbrev pub sort_in : List ℕ → ℕ → ℕ
sort_in [] i = 9
sort_in (x ∷ xs) zero = x
sort_in (x ∷ xs) (suc i) = sort_in xs i

at_parts : (xs : List ℕ) (ps : List StackPart) (i k : ℕ) → begins_with xs (sorts_of ps) ≡ true → sort_in xs i ≡ k → k < 9 → sort_of (get_or ps i nothing).what ≡ k
at_parts [] ps i k b e l = absurd (omega (arith, e, l))
at_parts (x ∷ xs) [] i k b e l = absurd (cc b)
at_parts (x ∷ xs) (p ∷ ps) zero k b e l = let q = and_parts (nat_eq x (sort_of p.what)) (begins_with xs (sorts_of ps)) b in sym (eqb-true x (sort_of p.what) q.0) ∙ e
at_parts (x ∷ xs) (p ∷ ps) (suc i) k b e l = let q = and_parts (nat_eq x (sort_of p.what)) (begins_with xs (sorts_of ps)) b in at_parts xs ps i k q.1 e l

-- the part at i is of the sort that the action takes there
pub ready_at : (a b : Action) (s : State) (i k : ℕ) → a ≡ b → begins_with (takes a) (sorts s) ≡ true → sort_in (takes b) i ≡ k → k < 9 → sort_at i s ≡ k
ready_at a b s i k e h q l = at_parts (takes b) s.parts i k (subst (λ x. begins_with (takes x) (sorts s) ≡ true) e h) q l

-- what is left of the entries
left_over : (xs : List Entry) (n : ℕ) → reverse (take (length xs - n) xs) ≡ drop n (reverse xs)
left_over xs n = elim (cases_lt (length xs) n) [
  | inl l ↦
      let z : length xs - n ≡ 0 = omega arith in
      ap (λ m. reverse (take m xs)) z ∙ sym (drop_all n (reverse xs) (omega (arith, length-reverse xs)))
  | inr l ↦
      let m : ℕ = length xs - n in
      let e : reverse xs ≡ reverse (drop (length xs - n) xs) ++ reverse (take (length xs - n) xs) = ap reverse (sym (take-append-drop (length xs - n) xs)) ∙ reverse-append (take (length xs - n) xs) (drop (length xs - n) xs) in
      let k : n ≡ length (reverse (drop (length xs - n) xs)) = omega (arith, length-reverse (drop (length xs - n) xs), length-drop (length xs - n) xs) in
      sym (ap (drop n) e ∙ ap (λ i. drop i (reverse (drop (length xs - n) xs) ++ reverse (take (length xs - n) xs))) k ∙ drop-append_seam (reverse (drop (length xs - n) xs)) (reverse (take (length xs - n) xs)))
]

parts-drop : (N : Parts) (n : ℕ) (xs : List Entry) → parts_in N (drop n xs) ≡ drop n (parts_in N xs)
parts-drop N zero xs = refl
parts-drop N (suc n) [] = refl
parts-drop N (suc n) (x ∷ xs) = parts-drop N n xs

held-drop : (N : Parts) (n : ℕ) (xs : List Entry) → AllHeld N xs → AllHeld N (drop n xs)
held-drop N zero xs h = h
held-drop N (suc n) [] h = h
held-drop N (suc n) (x ∷ xs) h = held-drop N n xs h.1

replaced : (xs ys : List Entry) (n : ℕ) (x : Entry) → ys ≡ take (length xs - n) xs ++ x ∷ [] → reverse ys ≡ x ∷ drop n (reverse xs)
replaced xs ys n x e = ap reverse e ∙ reverse-append (take (length xs - n) xs) (x ∷ []) ∙ ap (λ zs. x ∷ zs) (left_over xs n)

pub replace_kept : (old new : Reader) (n : ℕ) (x : Entry) → new.nodes ≡ old.nodes → new.entries.items ≡ take (length old.entries.items - n) old.entries.items ++ x ∷ [] → IsInOrder old → IsHeld old.nodes x.held → IsInOrder new
replace_kept old new n x m e k h =
    let r = replaced old.entries.items new.entries.items n x e in
    let a : AllHeld old.nodes (x ∷ drop n (reverse old.entries.items)) = (h, held-drop old.nodes n (reverse old.entries.items) k.held) in
    record { held = subst (λ xs. AllHeld new.nodes xs) (sym r) (subst (λ M. AllHeld M (x ∷ drop n (reverse old.entries.items))) (sym m) a) }

pub replace_state : (old new : Reader) (n : ℕ) (x : Entry) → new.last ≡ old.last → new.nodes ≡ old.nodes → new.entries.items ≡ take (length old.entries.items - n) old.entries.items ++ x ∷ [] →
    state_of new ≡ record { last = old.last; parts = record { from = x.from; what = what_of old.nodes x.held } ∷ drop n (state_of old).parts }
unfolding state_of
replace_state old new n x l m e =
    let r = replaced old.entries.items new.entries.items n x e in
    let p : parts_in new.nodes (reverse new.entries.items) ≡ record { from = x.from; what = what_of old.nodes x.held } ∷ drop n (parts_in old.nodes (reverse old.entries.items)) =
    ap (λ xs. parts_in new.nodes xs) r ∙ ap (λ M. parts_in M (x ∷ drop n (reverse old.entries.items))) m ∙ ap (λ ps. (record { from = x.from; what = what_of old.nodes x.held }) ∷ ps) (parts-drop old.nodes n (reverse old.entries.items)) in
    cc (l, p)

-- an action's part takes the place of those that it takes
pub make_state : (a : Action) (s t u : State) (n from : ℕ) (w : What) → n ≡ arity a → from ≡ start_at n s → t ≡ s →
    w ≡ made a (record { from = from; to = s.last.to }) s → u ≡ record { last = t.last; parts = record { from = from; what = w } ∷ drop n t.parts } → u ≡ build a s
unfolding build
make_state a s t u n from w k f e h g =
    let f' : from ≡ start_at (arity a) s = f ∙ ap (λ i. start_at i s) k in
    g ∙ build_is a s t n from w k f' e (h ∙ ap (λ i. made a (record { from = i; to = s.last.to }) s) f')
  where
    build_is : (a : Action) (s t : State) (n from : ℕ) (w : What) → n ≡ arity a → from ≡ start_at (arity a) s → t ≡ s → w ≡ made a (whole a s) s →
        record { last = t.last; parts = record { from = from; what = w } ∷ drop n t.parts } ≡ build a s
    build_is a s t n from w k f e h = cc (ap (λ x. x.last) e, ap (λ x. x.parts) e, k, f, h)

pub last_of : (r : Reader) → (state_of r).last ≡ r.last
unfolding state_of
last_of r = refl

-- a token
pub take_state : (old mid new : Reader) (k : Terminal) (t : Token) (h : Held) → mid.last ≡ t.span → mid.entries.items ≡ old.entries.items → mid.nodes ≡ old.nodes → IsValue k t (Some h) →
    state_of new ≡ record { last = mid.last; parts = record { from = t.span.from; what = what_of mid.nodes h } ∷ drop 0 (state_of mid).parts } → state_of new ≡ shift k t (state_of old)
unfolding state_of shift
take_state old mid new k t h l e n v g =
    let p : token_parts k t ≡ (record { from = t.span.from; what = what_of mid.nodes h }) ∷ [] = (v mid.nodes).1 in
    let q : parts_in mid.nodes (reverse mid.entries.items) ≡ parts_in old.nodes (reverse old.entries.items) = ap (λ xs. parts_in mid.nodes (reverse xs)) e ∙ ap (λ M. parts_in M (reverse old.entries.items)) n in
    g ∙ cc (l, ap (λ ps. ps ++ parts_in old.nodes (reverse old.entries.items)) p, ap (λ ps. (record { from = t.span.from; what = what_of mid.nodes h }) ∷ ps) q)

pub take_none : (old new : Reader) (k : Terminal) (t : Token) → new.last ≡ t.span → new.entries.items ≡ old.entries.items → new.nodes ≡ old.nodes → token_parts k t ≡ [] → state_of new ≡ shift k t (state_of old)
unfolding state_of shift
take_none old new k t l e n p =
    let q : parts_in new.nodes (reverse new.entries.items) ≡ parts_in old.nodes (reverse old.entries.items) = ap (λ xs. parts_in new.nodes (reverse xs)) e ∙ ap (λ M. parts_in M (reverse old.entries.items)) n in
    cc (l, ap (λ ps. ps ++ parts_in old.nodes (reverse old.entries.items)) p, q)

pub makes_none : (r : Reader) (h : Held) (w : What) → IsInOrder r → IsHeld r.nodes h → what_of r.nodes h ≡ w → Makes r r h w
makes_none r h w k i e = record { kept = k; entries = refl; state = refl; known = i; is = e }
