-- What the readers of one token need.
use Rattle.std.proofs.Common.{◌≡◌, ℕ, zero, suc, ◌+◌, ◌-◌, ◌*◌, ◌<◌, ◌≤◌, ◌^◌, List, [], ◌∷◌, ◌++◌, Bool, true, false, get_or, refl, arith, sym, ap, ◌∙◌, subst, inl, inr, take, drop, length, append_assoc, drop-cons, length-drop}
use Rattle.std.proofs.Math.Seq.{take-suc}
use Rattle.std.specs.Prelude.{◌⊎◌, Some}
use Rattle.std.proofs.lemmas.List.{take-append-drop, length-take, get_or-drop, take_all}
use Rattle.std.proofs.lemmas.Bool.{and_parts, cases_lt, not-true, ne_eqb}
use Rattle.fz_lexer.specs.declared.token.Kind.{Kind}
use Rattle.fz_lexer.specs.declared.token.Kind.TheVariants.{Number, Text, Punctuation}
use Rattle.fz_lexer.specs.declared.token.Sign.{Sign}
use Rattle.fz_lexer.specs.declared.token.Sign.TheVariants.{LeftParenthesis}
use Rattle.fz_lexer.specs.declared.sign.TheConstants.{SIGNS}
use Rattle.fz_lexer.specs.Bytes.{is_digit, is_letter, is_name_byte, is_text_byte, every_byte, begins, stops, value_from}
use Rattle.fz_lexer.specs.Signs.{mark, SpellsSign, IsLongest, NoSign}
use Rattle.fz_lexer.specs.Tokens.{IsReservedOrName, IsNameToken, IsNumberToken, IsTextToken, IsSignToken, IsToken, NoToken}
use Rattle.fz_lexer.specs.Prefixes.{IsTokenPrefix}
use Rattle.fz_lexer.proofs.Spellings.{mark_order, sign_place, sign_at, mark_some}
use Rattle.fz_lexer.proofs.Runs.{run_same, digit_range, sort, sort_of, name_starts, number_starts, text_starts, sign_starts, start_sort, digit_starts, quote_sort}

pub longest_at : (i : ℕ) (x : Sign) (w : List ℕ) → i < 21 → x ≡ get_or SIGNS i LeftParenthesis →
    SpellsSign x (take (length (mark x)) w) (drop (length (mark x)) w) →
    ((k : ℕ) → k < i → (text after : List ℕ) → w ≡ text ++ after → SpellsSign (get_or SIGNS k LeftParenthesis) text after → ⊥) →
    IsLongest x (take (length (mark x)) w) (drop (length (mark x)) w)
longest_at i x w l e s before other word rest g t =
    let whole : w ≡ word ++ rest = sym (take-append-drop (length (mark x)) w) ∙ g in
    let late : i ≤ sign_place other = elim (cases_lt (sign_place other) i) [
      | inl b ↦ absurd (before (sign_place other) b word rest whole (rw (sign_at other) t))
      | inr b ↦ b
    ] in
    let o = mark_order i x other l e late in
    omega (arith, o, ap length t.0, ap length s.0)

-- the run of the first bytes is the whole token's
pub run_of : (f : ℕ → Bool) (w text after : List ℕ) (n : ℕ) → n ≤ length w → every_byte f (take n w) ≡ true → stops f (drop n w) ≡ true → w ≡ text ++ after → every_byte f text ≡ true → stops f after ≡ true → (take n w ≡ text) × (drop n w ≡ after)
run_of f w text after n l h s e g t = run_same f (take n w) (drop n w) text after h s g t (take-append-drop n w ∙ e)

-- the token that begins the bytes, where the run of its bytes is known
pub found_at : (w : List ℕ) (n : ℕ) (kind : Kind) → n ≤ length w → 0 < n → IsToken (take n w) (drop n w) kind → IsTokenPrefix w (Some (record { kind = kind; len = n }))
found_at w n kind l p t = (take n w, drop n w, sym (take-append-drop n w), omega (arith, length-take n w), omega (arith, length-take n w), t)

-- by what the first byte begins, no token of another sort begins there
abbrev OfSort : ℕ → List ℕ → List ℕ → Kind → Type 0
OfSort s text after kind = ((s ≡ 1) × IsNameToken text after kind) ⊎ (((s ≡ 2) × IsNumberToken text after kind) ⊎ (((s ≡ 3) × IsTextToken text after kind) ⊎ ((s ≡ 0) × IsSignToken text after kind)))

pub of_sort : (w : List ℕ) (s : ℕ) (text after : List ℕ) (kind : Kind) → sort w ≡ s → w ≡ text ++ after → IsToken text after kind → OfSort s text after kind
of_sort w s text after kind h e (inl t) = let b = (name_starts text after kind t).sort after in inl (sym h ∙ ap sort e ∙ b, t)
of_sort w s text after kind h e (inr (inl t)) = let b = (number_starts text after kind t).sort after in inr (inl (sym h ∙ ap sort e ∙ b, t))
of_sort w s text after kind h e (inr (inr (inl t))) = let b = (text_starts text after kind t).sort after in inr (inr (inl (sym h ∙ ap sort e ∙ b, t)))
of_sort w s text after kind h e (inr (inr (inr t))) = let b = (sign_starts text after kind t).sort after in inr (inr (inr (sym h ∙ ap sort e ∙ b, t)))

-- names
letter_sort : (w : List ℕ) → begins is_letter w ≡ true → sort w ≡ 1
unfolding sort_of
letter_sort [] h = absurd (cc h)
letter_sort (b ∷ w) h = rw h refl

run_some : (f : ℕ → Bool) (w : List ℕ) (n : ℕ) → begins f w ≡ true → stops f (drop n w) ≡ true → 0 < n
run_some f [] n h s = absurd (cc h)
run_some f (b ∷ w) zero h s = let n : f b ≡ false = not-true (f b) s in absurd (cc (h, n))
run_some f (b ∷ w) (suc n) h s = omega arith

begins_take : (f : ℕ → Bool) (w : List ℕ) (n : ℕ) → 0 < n → begins f w ≡ true → begins f (take n w) ≡ true
begins_take f w zero p h = absurd (omega arith)
begins_take f [] (suc n) p h = h
begins_take f (b ∷ w) (suc n) p h = h

letter_name : (w : List ℕ) → begins is_letter w ≡ true → begins is_name_byte w ≡ true
unfolding is_name_byte
letter_name [] h = h
letter_name (b ∷ w) h = rw h refl

pub name_over : (w : List ℕ) (n : ℕ) → begins is_letter w ≡ true → n ≤ length w → every_byte is_name_byte (take n w) ≡ true → stops is_name_byte (drop n w) ≡ true → 32 < n → NoToken w
name_over w n b l h s o text after kind e t = elim (of_sort w 1 text after kind (letter_sort w b) e t) [
  | inl t ↦ let r = run_of is_name_byte w text after n l h s e t.1.every t.1.ends in omega (arith, t.1.short, length-take n w, ap length r.0)
  | inr t ↦ elim t [ inl t ↦ omega (arith, t.0) | inr t ↦ elim t [ inl t ↦ omega (arith, t.0) | inr t ↦ omega (arith, t.0) ] ]
]

pub name_found : (w : List ℕ) (n : ℕ) (kind : Kind) → begins is_letter w ≡ true → n ≤ length w → every_byte is_name_byte (take n w) ≡ true → stops is_name_byte (drop n w) ≡ true → n ≤ 32 →
    IsReservedOrName (take n w) kind → IsTokenPrefix w (Some (record { kind = kind; len = n }))
name_found w n kind b l h s o k =
    let p : 0 < n = run_some is_name_byte w n (letter_name w b) s in
    found_at w n kind l p (inl (record { first = begins_take is_letter w n p b; every = h; ends = s; short = omega (arith, length-take n w); is = k }))

-- numbers
pub digit_next : (digits : List ℕ) (i b : ℕ) → i < length digits → b ≡ get_or digits i 0 → every_byte is_digit (drop i digits) ≡ true →
    (48 ≤ b) × (b ≤ 57) × (every_byte is_digit (drop (i + 1) digits) ≡ true)
digit_next digits i b l e h =
    let s : i + 1 ≡ suc i = omega arith in
    let h' : every_byte is_digit (get_or digits i 0 ∷ drop (suc i) digits) ≡ true = subst (λ w. every_byte is_digit w ≡ true) (drop-cons digits i 0 l) h in
    let p = and_parts (is_digit (get_or digits i 0)) (every_byte is_digit (drop (suc i) digits)) h' in
    let r = digit_range (get_or digits i 0) p.0 in
    rw (e, s) (r.0, r.1, p.1)

pub value_next : (digits : List ℕ) (i b v : ℕ) → i < length digits → b ≡ get_or digits i 0 → value_from v (drop i digits) ≡ value_from (10 * v + (b - 48)) (drop (i + 1) digits)
value_next digits i b v l e =
    let s : i + 1 ≡ suc i = omega arith in
    rw (e, s, drop-cons digits i 0 l) refl

value_grows : (w : List ℕ) (v : ℕ) → v ≤ value_from v w
value_grows [] v = omega arith
value_grows (b ∷ w) v = omega (arith, value_grows w (10 * v + (b - 48)))

pub value_over : (digits : List ℕ) (i b v n : ℕ) → i < length digits → b ≡ get_or digits i 0 → value_from 0 digits ≡ value_from v (drop i digits) → n < 10 * v + (b - 48) → n < value_from 0 digits
value_over digits i b v n l e h k = omega (arith, h, value_next digits i b v l e, value_grows (drop (i + 1) digits) (10 * v + (b - 48)))

digit_sort : (w : List ℕ) → begins is_digit w ≡ true → sort w ≡ 2
digit_sort [] h = absurd (cc h)
digit_sort (b ∷ w) h = digit_starts b h

pub number_over : (w : List ℕ) (n : ℕ) → begins is_digit w ≡ true → n ≤ length w → every_byte is_digit (take n w) ≡ true → stops is_digit (drop n w) ≡ true → 2 ^ 50 < value_from 0 (take n w) → NoToken w
number_over w n b l h s o text after kind e t = elim (of_sort w 2 text after kind (digit_sort w b) e t) [
  | inl t ↦ omega (arith, t.0)
  | inr t ↦ elim t [
    | inl t ↦ let r = run_of is_digit w text after n l h s e t.1.every t.1.ends in omega (arith, t.1.small, o, ap (value_from 0) r.0)
    | inr t ↦ elim t [ inl t ↦ omega (arith, t.0) | inr t ↦ omega (arith, t.0) ]
  ]
]

pub number_found : (w : List ℕ) (n v : ℕ) → begins is_digit w ≡ true → n ≤ length w → every_byte is_digit (take n w) ≡ true → stops is_digit (drop n w) ≡ true →
    v ≡ value_from 0 (take n w) → v ≤ 2 ^ 50 → IsTokenPrefix w (Some (record { kind = Number v; len = n }))
number_found w n v b l h s e o =
    let p : 0 < n = run_some is_digit w n b s in
    found_at w n (Number v) l p (inr (inl (record { some = begins_take is_digit w n p b; every = h; ends = s; small = subst (λ x. x ≤ 2 ^ 50) e o; is = ap Number e })))

-- texts
quote_stops : (x : List ℕ) → stops is_text_byte (34 ∷ x) ≡ true
unfolding is_text_byte
quote_stops x = refl

pub tail_all : (w : List ℕ) (k : ℕ) → take (length w - k) (drop k w) ≡ drop k w
tail_all w k = take_all (length w - k) (drop k w) (omega (arith, length-drop k w))

pub text_over : (w rest : List ℕ) (n : ℕ) → 0 < length w → get_or w 0 0 ≡ 34 → rest ≡ drop 1 w → n ≤ length rest → every_byte is_text_byte (take n rest) ≡ true → stops is_text_byte (drop n rest) ≡ true →
    ((64 < n) ⊎ ((n ≡ length rest) ⊎ (get_or rest n 0 ≡ 34 → ⊥))) → NoToken w
text_over [] rest n p q i l h s c text after kind e t = absurd (omega arith)
text_over (b ∷ w) rest n p q i l h s c text after kind e t = elim (of_sort (b ∷ w) 3 text after kind (ap sort_of q ∙ quote_sort) e t) [
  | inl t ↦ omega (arith, t.0)
  | inr t ↦ elim t [
    | inl t ↦ omega (arith, t.0)
    | inr t ↦ elim t [
      | inl t ↦
          let d : rest ≡ t.1.inner ++ (34 ∷ after) = i ∙ ap (drop 1) (e ∙ ap (λ x. x ++ after) t.1.quoted) ∙ append_assoc t.1.inner (34 ∷ []) after in
          let r = run_same is_text_byte (take n rest) (drop n rest) t.1.inner (34 ∷ after) h s t.1.every (quote_stops after) (take-append-drop n rest ∙ d) in
          let z : n + 0 ≡ n = omega arith in
          elim c [
            | inl b ↦ omega (arith, t.1.short, length-take n rest, ap length r.0)
            | inr c ↦ elim c [
              | inl b ↦ omega (arith, length-drop n rest, ap length r.1)
              | inr b ↦ b (sym (ap (λ j. get_or rest j 0) z) ∙ sym (get_or-drop n rest 0 0) ∙ ap (λ x. get_or x 0 0) r.1)
            ]
          ]
      | inr t ↦ omega (arith, t.0)
    ]
  ]
]

pub text_found : (w rest : List ℕ) (n : ℕ) → 0 < length w → get_or w 0 0 ≡ 34 → rest ≡ drop 1 w → n < length rest → every_byte is_text_byte (take n rest) ≡ true → get_or rest n 0 ≡ 34 → n ≤ 64 →
    IsTokenPrefix w (Some (record { kind = Text (take n rest); len = n + 2 }))
text_found [] rest n p f i l h q b = absurd (omega arith)
text_found (c ∷ w) rest n p f i l h q b =
    let i' : rest ≡ w = i in
    let l' : n < length w = subst (λ x. n < length x) i' l in
    let s : n + 2 ≡ suc (suc n) = omega arith in
    let t : take (suc n) w ≡ take n w ++ 34 ∷ [] = take-suc w n 0 l' ∙ ap (λ x. take n w ++ x ∷ []) (subst (λ x. get_or x n 0 ≡ 34) i' q) in
    let k : IsTextToken (take (n + 2) (c ∷ w)) (drop (n + 2) (c ∷ w)) (Text (take n w)) = rw s (record {
      inner = take n w;
      quoted = cc (f, t);
      every = subst (λ x. every_byte is_text_byte (take n x) ≡ true) i' h;
      short = omega (arith, length-take n w);
      is = refl;
    }) in
    found_at (c ∷ w) (n + 2) (Text (take n rest)) (omega arith) (omega arith) (inr (inr (inl (subst (λ x. IsTextToken (take (n + 2) (c ∷ w)) (drop (n + 2) (c ∷ w)) (Text (take n x))) (sym i') k))))

-- signs
pub sign_over : (w : List ℕ) → 0 < length w → is_letter (get_or w 0 0) ≡ false → is_digit (get_or w 0 0) ≡ false → (get_or w 0 0 ≡ 34 → ⊥) →
    NoSign w → NoToken w
sign_over [] p a b c none text after kind e t = absurd (omega arith)
sign_over (d ∷ w) p a b c none text after kind e t = elim (of_sort (d ∷ w) 0 text after kind (start_sort d a b (ne_eqb d 34 c)) e t) [
  | inl t ↦ omega (arith, t.0)
  | inr t ↦ elim t [ inl t ↦ omega (arith, t.0) | inr t ↦ elim t [ inl t ↦ omega (arith, t.0) | inr t ↦ none t.1.sign text after e t.1.stands ] ]
]

pub sign_found : (w : List ℕ) (x : Sign) (n : ℕ) → n ≡ length (mark x) → SpellsSign x (take (length (mark x)) w) (drop (length (mark x)) w) →
    IsLongest x (take (length (mark x)) w) (drop (length (mark x)) w) → IsTokenPrefix w (Some (record { kind = Punctuation x; len = n }))
sign_found w x n e s o =
    let l : length (mark x) ≤ length w = omega (arith, ap length s.0, length-take (length (mark x)) w) in
    subst (λ m. IsTokenPrefix w (Some (record { kind = Punctuation x; len = m }))) (sym e) (found_at w (length (mark x)) (Punctuation x) l (mark_some x) (inr (inr (inr (record { sign = x; stands = s; longest = o; is = refl })))))
