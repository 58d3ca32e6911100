-- Bytes in front of others are tokens in front of theirs.
use Rattle.std.proofs.Common.{◌≡◌, ◌≢◌, ℕ, suc, ◌+◌, ◌<◌, ◌≤◌, ◌^◌, List, [], ◌∷◌, ◌++◌, true, refl, arith, sym, ap, ◌∙◌, subst, inl, inr, length, length-append, append_assoc, append-nil}
use Rattle.std.specs.Prelude.{codes, decimal, Bool, false, ◌||◌, not, cond, nat_eq}
use Rattle.std.proofs.lemmas.Bool.{cases_Bool}
use Rattle.fz_frac.specs.Distance.{Distance, Fin, Inf}
use Rattle.fz_ast.specs.Types.{Ty, NumT, TextT, UnitT, TensorT, WithT, SumT, ArrowT, BangT, BagT}
use Rattle.fz_ast.specs.Bare.{nowhere}
use Rattle.fz_ast.specs.Limits.{IsBang, TypeLimits}
use Rattle.fz_lexer.specs.declared.token.Token.{Token}
use Rattle.fz_lexer.specs.declared.token.Kind.{Kind}
use Rattle.fz_lexer.specs.declared.token.Kind.TheVariants.{Number, Reserved, Punctuation}
use Rattle.fz_lexer.specs.declared.token.Word.TheVariants.{Num, Text, Unit as UnitWord, Bag, Inf as InfWord}
use Rattle.fz_lexer.specs.declared.token.Sign.{Sign}
use Rattle.fz_lexer.specs.declared.token.Sign.TheVariants.{Yields, Arrow, Lollipop, AtMost, EqualTo, LeftParenthesis, RightParenthesis, LeftAngle, RightAngle, LeftBracket, RightBracket, Comma, Colon, Is, Bang, Bar, Plus, Minus, Star, Ampersand, Slash}
use Rattle.fz_lexer.specs.Bytes.{is_blank, is_digit, is_letter, is_name_byte, stops}
use Rattle.fz_lexer.specs.Signs.{mark, may_follow}
use Rattle.fz_lexer.specs.Tokens.{AreTokens, Cut, IsToken}
use Rattle.fz_lexer.specs.Words.{spelling}
use Rattle.derivation_lines.specs.Written.{type_text, amount_text, infix_text}
use Rattle.fz_parser.specs.Printer.{Tokens, sign, word, number_token, kinds_of, in_parentheses, written_factor, written_type}
use Rattle.derivation_lines.proofs.Digits.{digits}

-- before bytes that may follow, these bytes are these tokens in front, wherever they stand
pub record Front (text : List ℕ) (ks : Tokens) (f : List ℕ → Bool) : Type 0 where
  pub cuts : (p : ℕ) (after : List ℕ) (us : List Token) (r : ℕ) (end : List ℕ) → f after ≡ true → Cut (p + length text) after us r end
      → (ts : List Token) × Cut p (text ++ after) ts r end × ((m : List Token) → kinds_of us ≡ kinds_of m → kinds_of ts ≡ kinds_of (ks m))

abbrev pub any : List ℕ → Bool
any after = true

abbrev pub no_name : List ℕ → Bool
no_name = stops is_name_byte

pub seq : {a b : List ℕ} {ka kb : Tokens} {f g : List ℕ → Bool} → Front a ka f → Front b kb g → ((after : List ℕ) → g after ≡ true → f (b ++ after) ≡ true)
    → Front (a ++ b) (λ m. ka (kb m)) g
seq {a} {b} {ka} {kb} {f} {g} x y h = record {
  cuts = λ p after us r end w c.
      let d = y.cuts (p + length a) after us r end w (subst (λ n. Cut n after us r end) (let e = length-append a b in omega (arith, e)) c) in
      let e = x.cuts p (b ++ after) d.0 r end (h after w) d.1 in
      (e.0, subst (λ z. Cut p z e.0 r end) (sym (append_assoc a b after)) e.1, λ m z. e.2 (kb m) (d.2 m z));
}

-- blanks are no tokens
spaced : (us : List Token) (p : ℕ) (w : List ℕ) (r : ℕ) (end : List ℕ) → Cut (suc p) w us r end → Cut p (32 ∷ w) us r end
unfolding is_blank
spaced [] p w r end h = (32 ∷ h.0, ap (λ x. 32 ∷ x) h.1, h.2, h.3, omega (arith, h.4))
spaced (u ∷ us) p w r end h = (32 ∷ h.0, h.1, h.2, ap (λ x. 32 ∷ x) h.3, h.4, h.5, omega (arith, h.6), h.7, h.8)

pub space : Front (32 ∷ []) (λ m. m) any
space = record { cuts = λ p after us r end w c. (us, spaced us p after r end (subst (λ n. Cut n after us r end) (omega arith) c), λ m e. e) }

abbrev bare : Kind → Token
bare k = record { kind = k; span = nowhere }

abbrev token : Kind → ℕ → ℕ → Token
token k f t = record { kind = k; span = record { from = f; to = t } }

pub one : (text : List ℕ) (kind : Kind) (f : List ℕ → Bool) → ((after : List ℕ) → f after ≡ true → IsToken text after kind) → Front text (λ m. bare kind ∷ m) f
one text kind f h = record {
  cuts = λ p after us r end w c. (token kind p (p + length text) ∷ us, ([], text, after, refl, refl, h after w, omega arith, refl, c), λ m e. ap (λ ks. kind ∷ ks) e);
}

-- words

word_num : Front (codes "num") (λ m. word Num ∷ m) no_name
unfolding is_name_byte is_letter is_digit spelling
word_num = one (codes "num") (Reserved Num) no_name (λ after w. inl (record { first = refl; every = refl; ends = w; short = omega arith; is = inl (Num, refl, refl) }))

word_text : Front (codes "text") (λ m. word Text ∷ m) no_name
unfolding is_name_byte is_letter is_digit spelling
word_text = one (codes "text") (Reserved Text) no_name (λ after w. inl (record { first = refl; every = refl; ends = w; short = omega arith; is = inl (Text, refl, refl) }))

word_unit : Front (codes "unit") (λ m. word UnitWord ∷ m) no_name
unfolding is_name_byte is_letter is_digit spelling
word_unit = one (codes "unit") (Reserved UnitWord) no_name (λ after w. inl (record { first = refl; every = refl; ends = w; short = omega arith; is = inl (UnitWord, refl, refl) }))

word_bag : Front (codes "bag") (λ m. word Bag ∷ m) no_name
unfolding is_name_byte is_letter is_digit spelling
word_bag = one (codes "bag") (Reserved Bag) no_name (λ after w. inl (record { first = refl; every = refl; ends = w; short = omega arith; is = inl (Bag, refl, refl) }))

word_inf : Front (codes "inf") (λ m. word InfWord ∷ m) no_name
unfolding is_name_byte is_letter is_digit spelling
word_inf = one (codes "inf") (Reserved InfWord) no_name (λ after w. inl (record { first = refl; every = refl; ends = w; short = omega arith; is = inl (InfWord, refl, refl) }))

-- a number
or_true : (x y : Bool) → y ≡ true → not (x || y) ≡ true → ⊥
or_true true y e n = cc n
or_true false y e n = cc (e, n)

no_digit : (w : List ℕ) → stops is_name_byte w ≡ true → stops is_digit w ≡ true
unfolding is_name_byte
no_digit [] h = refl
no_digit (b ∷ w) h = elim (cases_Bool (is_digit b)) [
  | inl e ↦ absurd (or_true (is_letter b) (is_digit b) e h)
  | inr e ↦ rw e refl
]

number : (n : ℕ) → n < 2 ^ 50 → Front (decimal n) (λ m. number_token n ∷ m) (stops is_digit)
number n l = one (decimal n) (Number n) (stops is_digit) (λ after w.
    let d = digits n (omega (arith, l)) in
    inr (inl (record { some = d.some; every = d.every; ends = w; small = let v = d.value in omega (arith, v, l); is = ap Number (sym d.value) })))

-- signs
short : (c : ℕ) (rest : List ℕ) (other : Sign) (word after : List ℕ) → c ≢ 61 → c ≢ 45 → c ≢ 60 → c ∷ rest ≡ word ++ after → word ≡ mark other → length word ≤ 1
unfolding mark
short c rest Yields word after a b e h m = let f : c ∷ rest ≡ 61 ∷ 62 ∷ after = h ∙ ap (λ w. w ++ after) m in let g : c ≡ 61 = cc f in absurd (a g)
short c rest Arrow word after a b e h m = let f : c ∷ rest ≡ 45 ∷ 62 ∷ after = h ∙ ap (λ w. w ++ after) m in let g : c ≡ 45 = cc f in absurd (b g)
short c rest Lollipop word after a b e h m = let f : c ∷ rest ≡ 45 ∷ 111 ∷ after = h ∙ ap (λ w. w ++ after) m in let g : c ≡ 45 = cc f in absurd (b g)
short c rest AtMost word after a b e h m = let f : c ∷ rest ≡ 60 ∷ 61 ∷ after = h ∙ ap (λ w. w ++ after) m in let g : c ≡ 60 = cc f in absurd (e g)
short c rest EqualTo word after a b e h m = let f : c ∷ rest ≡ 61 ∷ 61 ∷ after = h ∙ ap (λ w. w ++ after) m in let g : c ≡ 61 = cc f in absurd (a g)
short c rest LeftParenthesis word after a b e h m = let k : length word ≡ 1 = ap length m in omega (arith, k)
short c rest RightParenthesis word after a b e h m = let k : length word ≡ 1 = ap length m in omega (arith, k)
short c rest LeftAngle word after a b e h m = let k : length word ≡ 1 = ap length m in omega (arith, k)
short c rest RightAngle word after a b e h m = let k : length word ≡ 1 = ap length m in omega (arith, k)
short c rest LeftBracket word after a b e h m = let k : length word ≡ 1 = ap length m in omega (arith, k)
short c rest RightBracket word after a b e h m = let k : length word ≡ 1 = ap length m in omega (arith, k)
short c rest Comma word after a b e h m = let k : length word ≡ 1 = ap length m in omega (arith, k)
short c rest Colon word after a b e h m = let k : length word ≡ 1 = ap length m in omega (arith, k)
short c rest Is word after a b e h m = let k : length word ≡ 1 = ap length m in omega (arith, k)
short c rest Bang word after a b e h m = let k : length word ≡ 1 = ap length m in omega (arith, k)
short c rest Bar word after a b e h m = let k : length word ≡ 1 = ap length m in omega (arith, k)
short c rest Plus word after a b e h m = let k : length word ≡ 1 = ap length m in omega (arith, k)
short c rest Minus word after a b e h m = let k : length word ≡ 1 = ap length m in omega (arith, k)
short c rest Star word after a b e h m = let k : length word ≡ 1 = ap length m in omega (arith, k)
short c rest Ampersand word after a b e h m = let k : length word ≡ 1 = ap length m in omega (arith, k)
short c rest Slash word after a b e h m = let k : length word ≡ 1 = ap length m in omega (arith, k)

two_at_most : (other : Sign) → length (mark other) ≤ 2
unfolding mark
two_at_most Yields = omega arith
two_at_most Arrow = omega arith
two_at_most Lollipop = omega arith
two_at_most AtMost = omega arith
two_at_most EqualTo = omega arith
two_at_most LeftParenthesis = omega arith
two_at_most RightParenthesis = omega arith
two_at_most LeftAngle = omega arith
two_at_most RightAngle = omega arith
two_at_most LeftBracket = omega arith
two_at_most RightBracket = omega arith
two_at_most Comma = omega arith
two_at_most Colon = omega arith
two_at_most Is = omega arith
two_at_most Bang = omega arith
two_at_most Bar = omega arith
two_at_most Plus = omega arith
two_at_most Minus = omega arith
two_at_most Star = omega arith
two_at_most Ampersand = omega arith
two_at_most Slash = omega arith

-- a sign of one byte that begins no longer one
sign_of : (c : ℕ) (s : Sign) → c ∷ [] ≡ mark s → ((after : List ℕ) → may_follow s after ≡ true) → c ≢ 61 → c ≢ 45 → c ≢ 60 → Front (c ∷ []) (λ m. sign s ∷ m) any
sign_of c s e h x y z = one (c ∷ []) (Punctuation s) any (λ after w. inr (inr (inr (record {
  sign = s;
  stands = (e, h after);
  longest = λ other word rest i t. short c after other word rest x y z i t.0;
  is = refl;
}))))

sign_left : Front (40 ∷ []) (λ m. sign LeftParenthesis ∷ m) any
unfolding mark may_follow
sign_left = sign_of 40 LeftParenthesis refl (λ after. refl) (λ k. absurd (omega (arith, k))) (λ k. absurd (omega (arith, k))) (λ k. absurd (omega (arith, k)))

sign_right : Front (41 ∷ []) (λ m. sign RightParenthesis ∷ m) any
unfolding mark may_follow
sign_right = sign_of 41 RightParenthesis refl (λ after. refl) (λ k. absurd (omega (arith, k))) (λ k. absurd (omega (arith, k))) (λ k. absurd (omega (arith, k)))

sign_star : Front (codes "*") (λ m. sign Star ∷ m) any
unfolding mark may_follow
sign_star = sign_of 42 Star refl (λ after. refl) (λ k. absurd (omega (arith, k))) (λ k. absurd (omega (arith, k))) (λ k. absurd (omega (arith, k)))

sign_and : Front (codes "&") (λ m. sign Ampersand ∷ m) any
unfolding mark may_follow
sign_and = sign_of 38 Ampersand refl (λ after. refl) (λ k. absurd (omega (arith, k))) (λ k. absurd (omega (arith, k))) (λ k. absurd (omega (arith, k)))

sign_plus : Front (codes "+") (λ m. sign Plus ∷ m) any
unfolding mark may_follow
sign_plus = sign_of 43 Plus refl (λ after. refl) (λ k. absurd (omega (arith, k))) (λ k. absurd (omega (arith, k))) (λ k. absurd (omega (arith, k)))

sign_slash : Front (47 ∷ []) (λ m. sign Slash ∷ m) any
unfolding mark may_follow
sign_slash = sign_of 47 Slash refl (λ after. refl) (λ k. absurd (omega (arith, k))) (λ k. absurd (omega (arith, k))) (λ k. absurd (omega (arith, k)))

sign_bang : Front (33 ∷ []) (λ m. sign Bang ∷ m) any
unfolding mark may_follow
sign_bang = sign_of 33 Bang refl (λ after. refl) (λ k. absurd (omega (arith, k))) (λ k. absurd (omega (arith, k))) (λ k. absurd (omega (arith, k)))

sign_open : Front (91 ∷ []) (λ m. sign LeftBracket ∷ m) any
unfolding mark may_follow
sign_open = sign_of 91 LeftBracket refl (λ after. refl) (λ k. absurd (omega (arith, k))) (λ k. absurd (omega (arith, k))) (λ k. absurd (omega (arith, k)))

sign_close : Front (93 ∷ []) (λ m. sign RightBracket ∷ m) any
unfolding mark may_follow
sign_close = sign_of 93 RightBracket refl (λ after. refl) (λ k. absurd (omega (arith, k))) (λ k. absurd (omega (arith, k))) (λ k. absurd (omega (arith, k)))

sign_lollipop : Front (codes "-o") (λ m. sign Lollipop ∷ m) no_name
unfolding mark may_follow
sign_lollipop = one (codes "-o") (Punctuation Lollipop) no_name (λ after w. inr (inr (inr (record {
  sign = Lollipop;
  stands = (refl, w);
  longest = λ other word rest i t. let k = two_at_most other in let l = ap length t.0 in omega (arith, k, l);
  is = refl;
}))))

-- sensitivities
space_stops : (after : List ℕ) → stops is_name_byte (32 ∷ after) ≡ true
unfolding is_name_byte is_letter is_digit
space_stops after = refl

right_stops : (after : List ℕ) → stops is_name_byte (41 ∷ after) ≡ true
unfolding is_name_byte is_letter is_digit
right_stops after = refl

slash_stops : (after : List ℕ) → stops is_digit (47 ∷ after) ≡ true
unfolding is_digit
slash_stops after = refl

close_stops : (after : List ℕ) → stops is_name_byte (93 ∷ after) ≡ true
unfolding is_name_byte is_letter is_digit
close_stops after = refl

pub looser : {a : List ℕ} {k : Tokens} {f g : List ℕ → Bool} → Front a k f → ((after : List ℕ) → g after ≡ true → f after ≡ true) → Front a k g
looser x h = record { cuts = λ p after us r end w c. x.cuts p after us r end (h after w) c }

fraction : (p q : ℕ) (b : Bool) → p < 2 ^ 50 → q < 2 ^ 50
    → Front (cond b (decimal p) (decimal p ++ (47 ∷ decimal q))) (λ k. number_token p ∷ cond b k (sign Slash ∷ number_token q ∷ k)) no_name
fraction p q true l m = looser (number p l) (λ after w. no_digit after w)
fraction p q false l m = seq (number p l) (seq sign_slash (looser (number q m) (λ after w. no_digit after w)) (λ after w. refl)) (λ after w. slash_stops (decimal q ++ after))

pub amount : (d : Distance) → IsBang d → Front (amount_text d) (written_factor d) no_name
amount (Fin p q) l = fraction p q (nat_eq q 1) (let x = l.1 in omega (arith, x)) (let x = l.3 in omega (arith, x))
amount Inf l = word_inf

-- types
infix_front : (s : List ℕ) (x : Sign) (A B : List ℕ) (a b : Tokens) → Front s (λ m. sign x ∷ m) no_name → Front A a no_name → Front B b no_name
    → Front (infix_text s A B) (in_parentheses (λ k. a (sign x ∷ b k))) no_name
unfolding is_name_byte is_letter is_digit
infix_front s x A B a b h f g =
    let last = seq g (looser sign_right (λ after w. refl)) (λ after w. refl) in
    let right = seq space last (λ after w. refl) in
    let middle = seq h right (λ after w. refl) in
    let left = seq f (seq space middle (λ after w. refl)) (λ after w. refl) in
    seq sign_left left (λ after w. refl)

pub type_front : (A : Ty) → TypeLimits A → Front (type_text A) (written_type A) no_name
unfolding is_name_byte is_letter is_digit
type_front NumT l = word_num
type_front TextT l = word_text
type_front UnitT l = word_unit
type_front (TensorT A B) l = infix_front (codes "*") Star _ _ _ _ (looser sign_star (λ after w. refl)) (type_front A l.0) (type_front B l.1)
type_front (WithT A B) l = infix_front (codes "&") Ampersand _ _ _ _ (looser sign_and (λ after w. refl)) (type_front A l.0) (type_front B l.1)
type_front (SumT A B) l = infix_front (codes "+") Plus _ _ _ _ (looser sign_plus (λ after w. refl)) (type_front A l.0) (type_front B l.1)
type_front (ArrowT A B) l = infix_front (codes "-o") Lollipop _ _ _ _ sign_lollipop (type_front A l.0) (type_front B l.1)
type_front (BangT r A) l =
    seq sign_bang (seq sign_open (seq (amount r l.0) (seq sign_close (seq space (type_front A l.1) (λ after w. refl)) (λ after w. refl)) (λ after w. refl)) (λ after w. refl)) (λ after w. refl)
type_front (BagT A) l = seq word_bag (seq space (type_front A l) (λ after w. refl)) (λ after w. refl)

-- alone, with nothing behind
pub whole : {a : List ℕ} {ks : Tokens} → Front a ks no_name → (ts : List Token) × AreTokens a ts × (kinds_of ts ≡ kinds_of (ks []))
whole {a} x =
    let c = x.cuts 0 [] [] (length a) [] refl ([], refl, refl, refl, omega arith) in
    (c.0, subst (λ z. Cut 0 z c.0 (length a) []) (append-nil a) c.1, c.2 [] refl)
