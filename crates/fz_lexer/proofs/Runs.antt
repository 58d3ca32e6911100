-- Runs of bytes, and that a token is the only one at its place.
use Rattle.std.proofs.Common.{◌≡◌, ℕ, ◌<◌, ◌≤◌, List, [], ◌∷◌, ◌++◌, Bool, true, false, cond, refl, arith, sym, ap, ◌∙◌, subst, inl, inr, take, length, append_assoc}
use Rattle.std.specs.Prelude.{◌&&◌, ◌||◌, not, nat_eq, nat_le, ◌⊎◌}
use Rattle.std.proofs.Math.Seq.{take-append_seam}
use Rattle.std.proofs.lemmas.List.{append_cancel_left}
use Rattle.std.proofs.lemmas.Bool.{and_parts, or_cases, cases_Bool, not-true, eqb-true, leb-true}
use Rattle.fz_lexer.specs.declared.token.Kind.{Kind}
use Rattle.fz_lexer.specs.declared.token.Kind.TheVariants.{Number, Text, Punctuation}
use Rattle.fz_lexer.specs.Bytes.{is_blank, is_digit, is_letter, is_name_byte, is_text_byte, every_byte, stops, value_from}
use Rattle.fz_lexer.specs.Signs.{mark}
use Rattle.fz_lexer.specs.Tokens.{IsReservedOrName, IsNameToken, IsNumberToken, IsTextToken, IsSignToken, IsToken}
use Rattle.fz_lexer.proofs.Spellings.{spelling-same, mark-same, SortStart, sign_start, mark_some}

pub run_same : (f : ℕ → Bool) (a x b y : List ℕ) → every_byte f a ≡ true → stops f x ≡ true → every_byte f b ≡ true → stops f y ≡ true → a ++ x ≡ b ++ y → (a ≡ b) × (x ≡ y)
run_same f [] x [] y h i k j e = (refl, e)
run_same f [] [] (b ∷ bs) y h i k j e = absurd (cc e)
run_same f [] (c ∷ x) (b ∷ bs) y h i k j e =
    let p = and_parts (f b) (every_byte f bs) k in let q : c ≡ b = cc e in
    let n : f c ≡ false = not-true (f c) i in absurd (cc (p.0, n, ap f q))
run_same f (a ∷ ar) x [] [] h i k j e = absurd (cc e)
run_same f (a ∷ ar) x [] (c ∷ y) h i k j e =
    let p = and_parts (f a) (every_byte f ar) h in let q : c ≡ a = cc e in
    let n : f c ≡ false = not-true (f c) j in absurd (cc (p.0, n, ap f q))
run_same f (a ∷ ar) x (b ∷ bs) y h i k j e =
    let p = and_parts (f a) (every_byte f ar) h in let q = and_parts (f b) (every_byte f bs) k in
    let t : ar ++ x ≡ bs ++ y = cc e in
    let r = run_same f ar x bs y p.1 i q.1 j t in
    (cc (e, r.0), r.1)

-- what a first byte begins: 1 a name, 2 a number, 3 a text, 0 else
unfoldable pub sort_of : ℕ → ℕ
sort_of b = cond (is_letter b) 1 (cond (is_digit b) 2 (cond (nat_eq b 34) 3 0))

abbrev pub sort : List ℕ → ℕ
sort [] = 0
sort (b ∷ w) = sort_of b

pub digit_range : (b : ℕ) → is_digit b ≡ true → (48 ≤ b) × (b ≤ 57)
unfolding is_digit
digit_range b h = let p = and_parts (nat_le 48 b) (nat_le b 57) h in (leb-true _ _ p.0, leb-true _ _ p.1)

abbrev LetterRange : ℕ → Type 0
LetterRange b = ((97 ≤ b) × (b ≤ 122)) ⊎ (((65 ≤ b) × (b ≤ 90)) ⊎ (b ≡ 95))

letter_range : (b : ℕ) → is_letter b ≡ true → LetterRange b
unfolding is_letter
letter_range b h = elim (or_cases ((nat_le 97 b && nat_le b 122) || (nat_le 65 b && nat_le b 90)) (nat_eq b 95) h) [
  | inl k ↦ elim (or_cases (nat_le 97 b && nat_le b 122) (nat_le 65 b && nat_le b 90) k) [
    | inl p ↦ let q = and_parts (nat_le 97 b) (nat_le b 122) p in inl (leb-true _ _ q.0, leb-true _ _ q.1)
    | inr p ↦ let q = and_parts (nat_le 65 b) (nat_le b 90) p in inr (inl (leb-true _ _ q.0, leb-true _ _ q.1))
  ]
  | inr e ↦ inr (inr (eqb-true b 95 e))
]

no_letter : (b : ℕ) → (b ≤ 57) → is_letter b ≡ false
no_letter b l = elim (cases_Bool (is_letter b)) [
  | inl e ↦ elim (letter_range b e) [ inl p ↦ absurd (omega (arith, p.0)) | inr q ↦ elim q [ inl p ↦ absurd (omega (arith, p.0)) | inr p ↦ absurd (omega (arith, p)) ] ]
  | inr e ↦ e
]

blank_cases : (b : ℕ) → is_blank b ≡ true → b ≤ 32
unfolding is_blank
blank_cases b h = elim (or_cases ((nat_eq b 32 || nat_eq b 9) || nat_eq b 13) (nat_eq b 10) h) [
  | inl h ↦ elim (or_cases (nat_eq b 32 || nat_eq b 9) (nat_eq b 13) h) [
    | inl h ↦ elim (or_cases (nat_eq b 32) (nat_eq b 9) h) [
      | inl e ↦ omega (arith, eqb-true b 32 e)
      | inr e ↦ omega (arith, eqb-true b 9 e)
    ]
    | inr e ↦ omega (arith, eqb-true b 13 e)
  ]
  | inr e ↦ omega (arith, eqb-true b 10 e)
]

-- what begins a token is no blank
not_blank : (b : ℕ) → 32 < b → not (is_blank b) ≡ true
not_blank b l = elim (cases_Bool (is_blank b)) [ inl e ↦ absurd (omega (arith, blank_cases b e)) | inr e ↦ rw e refl ]

letter_over : (b : ℕ) → is_letter b ≡ true → 32 < b
letter_over b h = elim (letter_range b h) [ inl p ↦ omega (arith, p.0) | inr q ↦ elim q [ inl p ↦ omega (arith, p.0) | inr p ↦ omega (arith, p) ] ]

-- a whole token: what its first byte begins, and that this is no blank
pub record Starts (text : List ℕ) (s : ℕ) : Type 0 where
  pub sort : (after : List ℕ) → sort (text ++ after) ≡ s
  pub over : (after : List ℕ) → stops is_blank (text ++ after) ≡ true
  pub some : 0 < length text

pub name_starts : (text after : List ℕ) (kind : Kind) → IsNameToken text after kind → Starts text 1
unfolding sort_of
name_starts [] after kind h = absurd (cc h.first)
name_starts (b ∷ w) after kind h = record {
  sort = λ x. rw h.first refl;
  over = λ x. not_blank b (letter_over b h.first);
  some = omega arith;
}

pub digit_starts : (b : ℕ) → is_digit b ≡ true → sort_of b ≡ 2
unfolding sort_of
digit_starts b h = let r = digit_range b h in rw (no_letter b r.1, h) refl

pub number_starts : (text after : List ℕ) (kind : Kind) → IsNumberToken text after kind → Starts text 2
unfolding sort_of
number_starts [] after kind h = absurd (cc h.some)
number_starts (b ∷ w) after kind h =
    let r = digit_range b h.some in record {
      sort = λ x. rw (no_letter b r.1, h.some) refl;
      over = λ x. not_blank b (omega (arith, r.0));
      some = omega arith;
    }

pub quote_sort : sort_of 34 ≡ 3
unfolding sort_of is_letter is_digit
quote_sort = refl

pub text_starts : (text after : List ℕ) (kind : Kind) → IsTextToken text after kind → Starts text 3
text_starts text after kind h =
    let e : 34 ∷ (h.inner ++ 34 ∷ []) ≡ text = sym h.quoted in
    subst (λ x. Starts x 3) e (record { sort = λ x. quote_sort; over = λ x. not_blank 34 (omega arith); some = omega arith })

pub start_sort : (b : ℕ) → is_letter b ≡ false → is_digit b ≡ false → nat_eq b 34 ≡ false → sort_of b ≡ 0
unfolding sort_of
start_sort b l d q = rw (l, d, q) refl

mark_starts : (w : List ℕ) → 0 < length w → SortStart w → Starts w 0
mark_starts [] l h = absurd (omega arith)
mark_starts (b ∷ w) l h = record {
  sort = λ x. start_sort b h.0 h.1 h.2;
  over = λ x. not_blank b h.3;
  some = omega arith;
}

pub sign_starts : (text after : List ℕ) (kind : Kind) → IsSignToken text after kind → Starts text 0
sign_starts text after kind h = subst (λ x. Starts x 0) (sym h.stands.0) (mark_starts (mark h.sign) (mark_some h.sign) (sign_start h.sign))

-- a token is the only one at its place
pub record Same (a x b y : List ℕ) (k m : Kind) : Type 0 where
  pub text : a ≡ b
  pub after : x ≡ y
  pub kind : k ≡ m

word_same : (a b : List ℕ) (k m : Kind) → a ≡ b → IsReservedOrName a k → IsReservedOrName b m → k ≡ m
word_same a b k m e (inl h) (inl g) = cc (h.2, g.2, spelling-same h.0 g.0 (sym h.1 ∙ e ∙ g.1))
word_same a b k m e (inl h) (inr g) = absurd (g.0 h.0 (sym e ∙ h.1))
word_same a b k m e (inr h) (inl g) = absurd (h.0 g.0 (e ∙ g.1))
word_same a b k m e (inr h) (inr g) = cc (h.1, g.1, e)

names_same : (a x b y : List ℕ) (k m : Kind) → IsNameToken a x k → IsNameToken b y m → a ++ x ≡ b ++ y → Same a x b y k m
names_same a x b y k m h g e =
    let r = run_same is_name_byte a x b y h.every h.ends g.every g.ends e in
    record { text = r.0; after = r.1; kind = word_same a b k m r.0 h.is g.is }

numbers_same : (a x b y : List ℕ) (k m : Kind) → IsNumberToken a x k → IsNumberToken b y m → a ++ x ≡ b ++ y → Same a x b y k m
numbers_same a x b y k m h g e =
    let r = run_same is_digit a x b y h.every h.ends g.every g.ends e in
    record { text = r.0; after = r.1; kind = h.is ∙ ap (λ w. Number (value_from 0 w)) r.0 ∙ sym g.is }

quote_stops : (x : List ℕ) → stops is_text_byte (34 ∷ x) ≡ true
unfolding is_text_byte
quote_stops x = refl

text_start : (a b : List ℕ) (x y : List ℕ) → 34 ∷ (a ++ 34 ∷ []) ++ x ≡ 34 ∷ (b ++ 34 ∷ []) ++ y → a ++ (34 ∷ x) ≡ b ++ (34 ∷ y)
text_start a b x y e =
    let t : (a ++ 34 ∷ []) ++ x ≡ (b ++ 34 ∷ []) ++ y = cc e in
    sym (append_assoc a (34 ∷ []) x) ∙ t ∙ append_assoc b (34 ∷ []) y

texts_same : (a x b y : List ℕ) (k m : Kind) → IsTextToken a x k → IsTextToken b y m → a ++ x ≡ b ++ y → Same a x b y k m
texts_same a x b y k m h g e =
    let t : 34 ∷ (h.inner ++ 34 ∷ []) ++ x ≡ 34 ∷ (g.inner ++ 34 ∷ []) ++ y = sym (ap (λ w. w ++ x) h.quoted) ∙ e ∙ ap (λ w. w ++ y) g.quoted in
    let r = run_same is_text_byte h.inner (34 ∷ x) g.inner (34 ∷ y) h.every (quote_stops x) g.every (quote_stops y) (text_start h.inner g.inner x y t) in
    record { text = h.quoted ∙ ap (λ w. 34 ∷ (w ++ 34 ∷ [])) r.0 ∙ sym g.quoted; after = cc r.1; kind = h.is ∙ ap Text r.0 ∙ sym g.is }

parts_same : (a x b y : List ℕ) → length a ≡ length b → a ++ x ≡ b ++ y → a ≡ b
parts_same a x b y l e = sym (take-append_seam a x) ∙ ap (take (length a)) e ∙ ap (λ n. take n (b ++ y)) l ∙ take-append_seam b y

signs_same : (a x b y : List ℕ) (k m : Kind) → IsSignToken a x k → IsSignToken b y m → a ++ x ≡ b ++ y → Same a x b y k m
signs_same a x b y k m h g e =
    let l = h.longest g.sign b y e g.stands in
    let r = g.longest h.sign a x (sym e) h.stands in
    let t : a ≡ b = parts_same a x b y (omega arith) e in
    let s : h.sign ≡ g.sign = mark-same h.sign g.sign (sym h.stands.0 ∙ t ∙ g.stands.0) in
    record { text = t; after = append_cancel_left a x y (e ∙ ap (λ w. w ++ y) (sym t)); kind = h.is ∙ ap Punctuation s ∙ sym g.is }

clash : (a x b y : List ℕ) (i j : ℕ) → Starts a i → Starts b j → a ++ x ≡ b ++ y → i ≡ j
clash a x b y i j h g e = sym (h.sort x) ∙ ap sort e ∙ g.sort y

pub token_same : (a x b y : List ℕ) (k m : Kind) → IsToken a x k → IsToken b y m → a ++ x ≡ b ++ y → Same a x b y k m
token_same a x b y k m (inl h) (inl g) e = names_same a x b y k m h g e
token_same a x b y k m (inr (inl h)) (inr (inl g)) e = numbers_same a x b y k m h g e
token_same a x b y k m (inr (inr (inl h))) (inr (inr (inl g))) e = texts_same a x b y k m h g e
token_same a x b y k m (inr (inr (inr h))) (inr (inr (inr g))) e = signs_same a x b y k m h g e
token_same a x b y k m (inl h) (inr (inl g)) e = absurd (omega (arith, clash a x b y 1 2 (name_starts a x k h) (number_starts b y m g) e))
token_same a x b y k m (inl h) (inr (inr (inl g))) e = absurd (omega (arith, clash a x b y 1 3 (name_starts a x k h) (text_starts b y m g) e))
token_same a x b y k m (inl h) (inr (inr (inr g))) e = absurd (omega (arith, clash a x b y 1 0 (name_starts a x k h) (sign_starts b y m g) e))
token_same a x b y k m (inr (inl h)) (inl g) e = absurd (omega (arith, clash a x b y 2 1 (number_starts a x k h) (name_starts b y m g) e))
token_same a x b y k m (inr (inl h)) (inr (inr (inl g))) e = absurd (omega (arith, clash a x b y 2 3 (number_starts a x k h) (text_starts b y m g) e))
token_same a x b y k m (inr (inl h)) (inr (inr (inr g))) e = absurd (omega (arith, clash a x b y 2 0 (number_starts a x k h) (sign_starts b y m g) e))
token_same a x b y k m (inr (inr (inl h))) (inl g) e = absurd (omega (arith, clash a x b y 3 1 (text_starts a x k h) (name_starts b y m g) e))
token_same a x b y k m (inr (inr (inl h))) (inr (inl g)) e = absurd (omega (arith, clash a x b y 3 2 (text_starts a x k h) (number_starts b y m g) e))
token_same a x b y k m (inr (inr (inl h))) (inr (inr (inr g))) e = absurd (omega (arith, clash a x b y 3 0 (text_starts a x k h) (sign_starts b y m g) e))
token_same a x b y k m (inr (inr (inr h))) (inl g) e = absurd (omega (arith, clash a x b y 0 1 (sign_starts a x k h) (name_starts b y m g) e))
token_same a x b y k m (inr (inr (inr h))) (inr (inl g)) e = absurd (omega (arith, clash a x b y 0 2 (sign_starts a x k h) (number_starts b y m g) e))
token_same a x b y k m (inr (inr (inr h))) (inr (inr (inl g))) e = absurd (omega (arith, clash a x b y 0 3 (sign_starts a x k h) (text_starts b y m g) e))

pub token_start : (a x : List ℕ) (k : Kind) → IsToken a x k → (stops is_blank (a ++ x) ≡ true) × (0 < length a)
token_start a x k (inl h) = let s = name_starts a x k h in (s.over x, s.some)
token_start a x k (inr (inl h)) = let s = number_starts a x k h in (s.over x, s.some)
token_start a x k (inr (inr (inl h))) = let s = text_starts a x k h in (s.over x, s.some)
token_start a x k (inr (inr (inr h))) = let s = sign_starts a x k h in (s.over x, s.some)
