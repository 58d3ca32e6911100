-- A lexer that computes, in the definitions: what it answers holds, so that any text is tokens or has a fault, and examples can be computed.
use Rattle.std.proofs.Common.{◌≡◌, ℕ, zero, suc, ◌+◌, ◌-◌, ◌<◌, ◌≤◌, ◌^◌, List, [], ◌∷◌, ◌++◌, Bool, true, false, cond, get_or, refl, arith, sym, ap, ◌∙◌, subst, inl, inr, take, drop, length, length-append, length-drop}
use Rattle.std.specs.Prelude.{◌&&◌, nat_eq, nat_lt, nat_le, Option, Some, None}
use Rattle.std.proofs.lemmas.Bool.{and_parts, and_from, cases_Bool, eqb-true, ltb-true, ltb-false, leb-true, leb-false, eq-eqb}
use Rattle.std.proofs.Math.Seq.{take-append_seam, drop-append_seam}
use Rattle.fz_lexer.specs.declared.token.Token.{Token}
use Rattle.fz_lexer.specs.declared.token.Kind.{Kind}
use Rattle.fz_lexer.specs.declared.token.Kind.TheVariants.{Name, Number, Text, Reserved, Punctuation}
use Rattle.fz_lexer.specs.declared.token.Sign.{Sign}
use Rattle.fz_lexer.specs.declared.token.Sign.TheVariants.{LeftParenthesis}
use Rattle.fz_lexer.specs.declared.token.LexFault.{LexFault}
use Rattle.fz_lexer.specs.declared.token.LexFault.TheVariants.{Bad, TooManyTokens, NoMemory}
use Rattle.fz_lexer.specs.declared.prefix.TokenPrefix.{TokenPrefix}
use Rattle.fz_lexer.specs.declared.sign.TheConstants.{SIGNS}
use Rattle.fz_lexer.specs.Bytes.{is_blank, is_digit, is_letter, is_name_byte, is_text_byte, every_byte, begins, stops, value_from}
use Rattle.fz_lexer.specs.Words.{spelling}
use Rattle.fz_lexer.specs.Signs.{mark, may_follow, SpellsSign, NoSign}
use Rattle.fz_lexer.specs.Tokens.{IsReservedOrName, Cut, AreTokens, most_bytes, most_tokens, IsLexed, ExplainsCut, ExplainsLex, IsLexedOrFaulty, IsLineOrFaulty}
use Rattle.fz_lexer.specs.Prefixes.{IsTokenPrefix, token_at}
use Rattle.fz_lexer.proofs.Spellings.{same, same_self, same_is, word_with, word_back, sign_at, sign_below, sign_place}
use Rattle.fz_lexer.proofs.Prefixes.{name_found, name_over, number_found, number_over, text_found, text_over, sign_found, sign_over, longest_at}
use Rattle.fz_lexer.proofs.Cuts.{cut_start, cut_on, prefix_within, cut_whole, line_fault}

-- how many of the first bytes pass
abbrev pub run : (ℕ → Bool) → List ℕ → ℕ
run f [] = 0
run f (b ∷ w) = cond (f b) (suc (run f w)) 0

run_within : (f : ℕ → Bool) (w : List ℕ) → run f w ≤ length w
run_within f [] = omega arith
run_within f (b ∷ w) = elim (cases_Bool (f b)) [ inl e ↦ rw e (omega (arith, run_within f w)) | inr e ↦ rw e (omega arith) ]

run_every : (f : ℕ → Bool) (w : List ℕ) → every_byte f (take (run f w) w) ≡ true
run_every f [] = refl
run_every f (b ∷ w) = elim (cases_Bool (f b)) [ inl e ↦ rw e (and_from (f b) _ e (run_every f w)) | inr e ↦ rw e refl ]

run_stops : (f : ℕ → Bool) (w : List ℕ) → stops f (drop (run f w) w) ≡ true
run_stops f [] = refl
run_stops f (b ∷ w) = elim (cases_Bool (f b)) [ inl e ↦ rw e (run_stops f w) | inr e ↦ rw e (rw e refl) ]

-- a reserved word, or else a name
unfoldable pub word_kind : List ℕ → Kind
word_kind w = cond (same (spelling (word_with w)) w) (Reserved (word_with w)) (Name w)

word_kind_is : (w : List ℕ) → IsReservedOrName w (word_kind w)
unfolding word_kind
word_kind_is w = elim (cases_Bool (same (spelling (word_with w)) w)) [
  | inl e ↦ inl (word_with w, sym (same_is (spelling (word_with w)) w e), rw e refl)
  | inr e ↦ inr (
    λ word h.
        let back : word_with w ≡ word = ap word_with h ∙ word_back word in
        let yes : same (spelling (word_with w)) w ≡ true = subst (λ x. same (spelling (word_with w)) x ≡ true) (ap spelling back ∙ sym h) (same_self (spelling (word_with w))) in
        absurd (cc (yes, e)),
    rw e refl,
  )
]

-- the bytes begin with the sign, and what may follow it follows
unfoldable pub spells : Sign → List ℕ → Bool
spells x w = same (mark x) (take (length (mark x)) w) && may_follow x (drop (length (mark x)) w)

spells_is : (x : Sign) (w : List ℕ) → spells x w ≡ true → SpellsSign x (take (length (mark x)) w) (drop (length (mark x)) w)
unfolding spells
spells_is x w h = let p = and_parts (same (mark x) (take (length (mark x)) w)) (may_follow x (drop (length (mark x)) w)) h in (sym (same_is (mark x) _ p.0), p.1)

spells_from : (x : Sign) (w text after : List ℕ) → w ≡ text ++ after → SpellsSign x text after → spells x w ≡ true
unfolding spells
spells_from x w text after e h =
    let u : w ≡ mark x ++ after = e ∙ ap (λ t. t ++ after) h.0 in
    let t : take (length (mark x)) w ≡ mark x = ap (take (length (mark x))) u ∙ take-append_seam (mark x) after in
    let d : drop (length (mark x)) w ≡ after = ap (drop (length (mark x))) u ∙ drop-append_seam (mark x) after in
    and_from _ _ (subst (λ y. same (mark x) y ≡ true) (sym t) (same_self (mark x))) (subst (λ y. may_follow x y ≡ true) (sym d) h.1)

-- the place of the first of these signs that begins the bytes
abbrev pub place : List Sign → List ℕ → ℕ
place [] w = 0
place (x ∷ xs) w = cond (spells x w) 0 (suc (place xs w))

place_at : (xs : List Sign) (w : List ℕ) → place xs w < length xs → spells (get_or xs (place xs w) LeftParenthesis) w ≡ true
place_at [] w = λ l. absurd (omega arith)
place_at (x ∷ xs) w = elim (cases_Bool (spells x w)) [ inl e ↦ rw e (λ l. e) | inr e ↦ rw e (λ l. place_at xs w (omega arith)) ]

place_before : (xs : List Sign) (w : List ℕ) (k : ℕ) → k < place xs w → spells (get_or xs k LeftParenthesis) w ≡ false
place_before [] w k = λ l. absurd (omega arith)
place_before (x ∷ xs) w zero = elim (cases_Bool (spells x w)) [ inl e ↦ rw e (λ l. absurd (omega arith)) | inr e ↦ λ l. e ]
place_before (x ∷ xs) w (suc k) = elim (cases_Bool (spells x w)) [ inl e ↦ rw e (λ l. absurd (omega arith)) | inr e ↦ rw e (λ l. place_before xs w k (omega arith)) ]

-- the token that begins the bytes, by their first
abbrev pub name_prefix : List ℕ → Option TokenPrefix
name_prefix w = let n = run is_name_byte w in cond (nat_le n 32) (Some (record { kind = word_kind (take n w); len = n })) None

abbrev pub number_prefix : List ℕ → Option TokenPrefix
number_prefix w = let n = run is_digit w in let v = value_from 0 (take n w) in cond (nat_le v (2 ^ 50)) (Some (record { kind = Number v; len = n })) None

abbrev pub text_prefix : List ℕ → Option TokenPrefix
text_prefix w =
    let rest = drop 1 w in let n = run is_text_byte rest in
    cond (nat_le n 64 && (nat_lt n (length rest) && nat_eq (get_or rest n 0) 34)) (Some (record { kind = Text (take n rest); len = n + 2 })) None

abbrev pub sign_prefix : List ℕ → Option TokenPrefix
sign_prefix w =
    let x = get_or SIGNS (place SIGNS w) LeftParenthesis in
    cond (nat_lt (place SIGNS w) 21) (Some (record { kind = Punctuation x; len = length (mark x) })) None

unfoldable pub prefix_of : List ℕ → Option TokenPrefix
prefix_of w = cond (begins is_letter w) (name_prefix w) (cond (begins is_digit w) (number_prefix w) (cond (nat_eq (get_or w 0 0) 34) (text_prefix w) (sign_prefix w)))

name_is : (w : List ℕ) → begins is_letter w ≡ true → IsTokenPrefix w (name_prefix w)
name_is w b = elim (cases_Bool (nat_le (run is_name_byte w) 32)) [
  | inl e ↦ rw e (name_found w (run is_name_byte w) (word_kind (take (run is_name_byte w) w)) b (run_within is_name_byte w) (run_every is_name_byte w) (run_stops is_name_byte w) (leb-true _ _ e) (word_kind_is (take (run is_name_byte w) w)))
  | inr e ↦ rw e (name_over w (run is_name_byte w) b (run_within is_name_byte w) (run_every is_name_byte w) (run_stops is_name_byte w) (leb-false _ _ e))
]

number_is : (w : List ℕ) → begins is_digit w ≡ true → IsTokenPrefix w (number_prefix w)
number_is w b = elim (cases_Bool (nat_le (value_from 0 (take (run is_digit w) w)) (2 ^ 50))) [
  | inl e ↦ rw e (number_found w (run is_digit w) (value_from 0 (take (run is_digit w) w)) b (run_within is_digit w) (run_every is_digit w) (run_stops is_digit w) refl (leb-true _ _ e))
  | inr e ↦ rw e (number_over w (run is_digit w) b (run_within is_digit w) (run_every is_digit w) (run_stops is_digit w) (leb-false _ _ e))
]

text_is : (w : List ℕ) → 0 < length w → get_or w 0 0 ≡ 34 → IsTokenPrefix w (text_prefix w)
text_is w l q =
    let rest : List ℕ = drop 1 w in
    let n : ℕ = run is_text_byte (drop 1 w) in
    let over = text_over w (drop 1 w) (run is_text_byte (drop 1 w)) l q refl (run_within is_text_byte (drop 1 w)) (run_every is_text_byte (drop 1 w)) (run_stops is_text_byte (drop 1 w)) in
    elim (cases_Bool (nat_le n 64)) [
      | inr a ↦ rw a (over (inl (leb-false _ _ a)))
      | inl a ↦ elim (cases_Bool (nat_lt n (length rest))) [
        | inr b ↦ rw (a, b) (over (inr (inl (omega (arith, ltb-false _ _ b, run_within is_text_byte (drop 1 w))))))
        | inl b ↦ elim (cases_Bool (nat_eq (get_or rest n 0) 34)) [
          | inr c ↦ rw (a, b, c) (over (inr (inr (λ e. absurd (cc (eq-eqb (get_or rest n 0) 34 e, c))))))
          | inl c ↦ rw (a, b, c) (text_found w (drop 1 w) n l q refl (ltb-true _ _ b) (run_every is_text_byte (drop 1 w)) (eqb-true _ _ c) (leb-true _ _ a))
        ]
      ]
    ]

none_spelled : (w : List ℕ) → 21 ≤ place SIGNS w → NoSign w
none_spelled w l x text after e h =
    let no : spells (get_or SIGNS (sign_place x) LeftParenthesis) w ≡ false = place_before SIGNS w (sign_place x) (omega (arith, sign_below x)) in
    let no' : spells x w ≡ false = subst (λ y. spells y w ≡ false) (sign_at x) no in
    absurd (cc (spells_from x w text after e h, no'))

sign_is : (w : List ℕ) → 0 < length w → is_letter (get_or w 0 0) ≡ false → is_digit (get_or w 0 0) ≡ false → (get_or w 0 0 ≡ 34 → ⊥) → IsTokenPrefix w (sign_prefix w)
sign_is w l a b c =
    let x : Sign = get_or SIGNS (place SIGNS w) LeftParenthesis in
    elim (cases_Bool (nat_lt (place SIGNS w) 21)) [
      | inr e ↦ rw e (sign_over w l a b c (none_spelled w (ltb-false _ _ e)))
      | inl e ↦
          let i : place SIGNS w < 21 = ltb-true _ _ e in
          let s : SpellsSign x (take (length (mark x)) w) (drop (length (mark x)) w) = spells_is x w (place_at SIGNS w i) in
          let before = λ (k : ℕ) (m : k < place SIGNS w) (text after : List ℕ) (g : w ≡ text ++ after) (h : SpellsSign (get_or SIGNS k LeftParenthesis) text after).
          let no = place_before SIGNS w k m in
          let yes = spells_from (get_or SIGNS k LeftParenthesis) w text after g h in
          let bot : ⊥ = cc (yes, no) in bot in
          rw e (sign_found w x (length (mark x)) refl s (longest_at (place SIGNS w) x w i refl s before))
    ]

begins_first : (f : ℕ → Bool) (w : List ℕ) → 0 < length w → begins f w ≡ f (get_or w 0 0)
begins_first f [] l = absurd (omega arith)
begins_first f (b ∷ w) l = refl

prefix_is : (w : List ℕ) → 0 < length w → IsTokenPrefix w (prefix_of w)
unfolding prefix_of
prefix_is w l = elim (cases_Bool (begins is_letter w)) [
  | inl a ↦ rw a (name_is w a)
  | inr a ↦ elim (cases_Bool (begins is_digit w)) [
    | inl b ↦ rw (a, b) (number_is w b)
    | inr b ↦ elim (cases_Bool (nat_eq (get_or w 0 0) 34)) [
      | inl c ↦ rw (a, b, c) (text_is w l (eqb-true _ _ c))
      | inr c ↦ rw (a, b, c) (sign_is w l (sym (begins_first is_letter w l) ∙ a) (sym (begins_first is_digit w l) ∙ b) (λ e. absurd (cc (eq-eqb (get_or w 0 0) 34 e, c))))
    ]
  ]
]

-- what a lexer answers
pub data Answer : Type 0 where
  Tokens : (ts : List Token) → Answer
  Refused : (fault : LexFault) → Answer

-- one more token, or the end: what is left is `rest`, and `more` goes on after a token
abbrev pub next : ℕ → (List Token → ℕ → Answer) → List ℕ → List Token → ℕ → List ℕ → Option TokenPrefix → Answer
next most more w ts i [] found = Tokens ts
next most more w ts i (b ∷ rest) None = Refused (Bad i)
next most more w ts i (b ∷ rest) (Some found) =
    cond (nat_lt (length ts) most) (more (ts ++ token_at i found ∷ []) (i + found.len + run is_blank (drop (i + found.len) w))) (Refused (TooManyTokens i))

-- on from place i, in at most n steps more
unfoldable pub tokens_from : ℕ → ℕ → List ℕ → List Token → ℕ → Answer
tokens_from most zero w ts i = Tokens ts
tokens_from most (suc n) w ts i = next most (tokens_from most n w) w ts i (drop i w) (prefix_of (drop i w))

-- in at most so many tokens
abbrev pub cut : ℕ → List ℕ → Answer
cut most w = tokens_from most (suc (length w)) w [] (run is_blank w)

-- of a program
unfoldable pub answer : List ℕ → Answer
answer w = cond (nat_le (length w) most_bytes) (cut most_tokens w) (Refused (Bad most_bytes))

-- of a text without limits
unfoldable pub line_answer : List ℕ → Answer
line_answer w = cut (length w) w

-- the answer holds
abbrev pub CutHolds : ℕ → List ℕ → Answer → Type 0
CutHolds most w (Tokens ts) = AreTokens w ts × (length ts ≤ most)
CutHolds most w (Refused fault) = (fault ≡ NoMemory → ⊥) × ExplainsCut most w fault

abbrev pub Holds : List ℕ → Answer → Type 0
Holds w (Tokens ts) = IsLexed w ts
Holds w (Refused fault) = (fault ≡ NoMemory → ⊥) × ExplainsLex w fault

abbrev is_bad : LexFault → Bool
is_bad (Bad p) = true
is_bad (TooManyTokens p) = true
is_bad NoMemory = false

known : (fault : LexFault) → is_bad fault ≡ true → fault ≡ NoMemory → ⊥
known fault h e = let t : true ≡ false = sym h ∙ ap is_bad e in absurd (cc t)

length_tokens : (ts : List Token) (t : Token) → length (ts ++ t ∷ []) ≡ suc (length ts)
length_tokens ts t = omega (arith, length-append ts (t ∷ []))

module _ (most : ℕ) (w : List ℕ) (n : ℕ)
    (ih : (ts : List Token) (i : ℕ) → length w < i + n → i ≤ length w → length ts ≤ most → Cut 0 w ts i (drop i w) → CutHolds most w (tokens_from most n w ts i)) where
  next_is : (ts : List Token) (i : ℕ) (rest : List ℕ) (found : Option TokenPrefix) → rest ≡ drop i w → (0 < length rest → IsTokenPrefix rest found) → length w < i + suc n → i ≤ length w → length ts ≤ most →
      Cut 0 w ts i (drop i w) → CutHolds most w (next most (tokens_from most n w) w ts i rest found)
  next_is ts i [] found e f l m c h = (cut_whole ts w i (omega (arith, ap length e, length-drop i w)) h, c)
  next_is ts i (b ∷ rest) None e f l m c h = (known (Bad i) refl, (ts, drop i w, h, c, omega (arith, ap length e), subst (λ x. IsTokenPrefix x None) e (f (omega arith))))
  next_is ts i (b ∷ rest) (Some found) e f l m c h =
      let g : IsTokenPrefix (drop i w) (Some found) = subst (λ x. IsTokenPrefix x (Some found)) e (f (omega arith)) in
      let d : ℕ = i + found.len in
      let p = prefix_within w (drop i w) found i refl m g in
      elim (cases_Bool (nat_lt (length ts) most)) [
        | inl a ↦
            let s = ltb-true _ _ a in
            let x = cut_on ts (ts ++ token_at i found ∷ []) w found i (run is_blank (drop (i + found.len) w)) (drop i w) (drop (i + found.len) w) refl refl m h g
            (run_within is_blank (drop (i + found.len) w)) (run_every is_blank (drop (i + found.len) w)) (run_stops is_blank (drop (i + found.len) w)) refl in
            rw a (ih (ts ++ token_at i found ∷ []) (i + found.len + run is_blank (drop (i + found.len) w)) (omega (arith, p.1)) x.0 (omega (arith, length_tokens ts (token_at i found))) x.1)
        | inr a ↦
            let s = ltb-false _ _ a in
            let cut : Cut 0 w ts i (g.0 ++ g.1) = subst (λ x. Cut 0 w ts i x) g.2 h in
            rw a (known (TooManyTokens i) refl, (ts, g.0, g.1, found.kind, cut, omega (arith, c), g.5))
      ]

tokens_are : (most : ℕ) (w : List ℕ) (n : ℕ) (ts : List Token) (i : ℕ) → length w < i + n → i ≤ length w → length ts ≤ most → Cut 0 w ts i (drop i w) → CutHolds most w (tokens_from most n w ts i)
unfolding tokens_from
tokens_are most w zero ts i l m c h = absurd (omega arith)
tokens_are most w (suc n) ts i l m c h = next_is most w n (tokens_are most w n) ts i (drop i w) (prefix_of (drop i w)) refl (prefix_is (drop i w)) l m c h

pub cut_holds : (most : ℕ) (w : List ℕ) → CutHolds most w (cut most w)
cut_holds most w = tokens_are most w (suc (length w)) [] (run is_blank w) (omega arith) (run_within is_blank w) (omega arith) (cut_start w (run is_blank w) (run_within is_blank w) (run_every is_blank w) (run_stops is_blank w))

in_limits : (w : List ℕ) (a : Answer) → length w ≤ most_bytes → CutHolds most_tokens w a → Holds w a
in_limits w (Tokens ts) l h = record { tokens = h.0; bytes = l; count = h.1 }
in_limits w (Refused (Bad p)) l h = (h.0, inr (l, h.1))
in_limits w (Refused (TooManyTokens p)) l h = (h.0, (l, h.1))
in_limits w (Refused NoMemory) l h = (h.0, tt)

pub answer_holds : (w : List ℕ) → Holds w (answer w)
unfolding answer
answer_holds w = elim (cases_Bool (nat_le (length w) most_bytes)) [
  | inl e ↦ rw e (in_limits w (cut most_tokens w) (leb-true _ _ e) (cut_holds most_tokens w))
  | inr e ↦ rw e (known (Bad most_bytes) refl, inl (leb-false _ _ e, refl))
]

either : (w : List ℕ) (a : Answer) → Holds w a → IsLexedOrFaulty w
either w (Tokens ts) h = inl (ts, h)
either w (Refused fault) h = inr (fault, h.0, h.1)

pub lexed_or_faulty : (w : List ℕ) → IsLexedOrFaulty w
lexed_or_faulty w = either w (answer w) (answer_holds w)

line_either : (w : List ℕ) (a : Answer) → CutHolds (length w) w a → IsLineOrFaulty w
line_either w (Tokens ts) h = inl (ts, h.0)
line_either w (Refused fault) h = inr (fault, h.0, line_fault w fault h.1)

pub line_or_faulty : (w : List ℕ) → IsLineOrFaulty w
unfolding line_answer
line_or_faulty w = line_either w (line_answer w) (cut_holds (length w) w)
