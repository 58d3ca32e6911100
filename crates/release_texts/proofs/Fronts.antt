-- Tokens in front of others.
use Rattle.std.proofs.Common.{◌≡◌, ◌≢◌, ℕ, suc, ◌+◌, ◌≤◌, List, [], ◌∷◌, ◌++◌, true, refl, arith, sym, ap, ◌∙◌, subst, inl, inr, length, length-append}
use Rattle.std.specs.Prelude.{ℤ, codes}
use Rattle.fz_ast.specs.Bare.{nowhere}
use Rattle.fz_lexer.specs.declared.token.Token.{Token}
use Rattle.fz_lexer.specs.declared.token.Kind.{Kind}
use Rattle.fz_lexer.specs.declared.token.Kind.TheVariants.{Name, Number, Reserved, Punctuation}
use Rattle.fz_lexer.specs.declared.token.Word.TheVariants.{Let, In}
use Rattle.fz_lexer.specs.declared.token.Sign.{Sign}
use Rattle.fz_lexer.specs.declared.token.Sign.TheVariants.{Yields, Arrow, Lollipop, AtMost, EqualTo, LeftParenthesis, RightParenthesis, LeftAngle, RightAngle, LeftBracket, RightBracket, Comma, Colon, Is, Bang, Bar, Plus, Minus, Star, Ampersand, Slash}
use Rattle.fz_lexer.specs.Bytes.{is_blank, is_digit, is_letter, is_name_byte, stops}
use Rattle.fz_lexer.specs.Signs.{mark, may_follow}
use Rattle.fz_lexer.specs.Tokens.{Cut, IsToken}
use Rattle.fz_lexer.specs.Words.{spelling}
use Rattle.fz_lexer.proofs.Runs.{digit_range}
use Rattle.release_texts.specs.Bared.{bare_tokens}
use Rattle.fz_parser.specs.Printer.{name_token, sign, word, written_integer}
use Rattle.release_texts.specs.Fronts.{AreDigitsOf, IsName, OneAnswerInFront, Spells, below, let_text, plain}

-- the same text further on
moved : ℕ → List Token → List Token
moved n [] = []
moved n (t ∷ ts) = record { kind = t.kind; span = record { from = n + t.span.from; to = n + t.span.to } } ∷ moved n ts

moved_bare : (n : ℕ) (ts : List Token) → bare_tokens (moved n ts) ≡ bare_tokens ts
unfolding moved
moved_bare n [] = refl
moved_bare n (t ∷ ts) = ap (λ us. record { kind = t.kind; span = nowhere } ∷ us) (moved_bare n ts)

cut_moved : (n : ℕ) (ts : List Token) (p : ℕ) (w : List ℕ) (q : ℕ) (end : List ℕ) → Cut p w ts q end → Cut (n + p) w (moved n ts) (n + q) end
unfolding moved
cut_moved n [] p w q end h = (h.0, h.1, h.2, h.3, omega (arith, h.4))
cut_moved n (t ∷ ts) p w q end h = (h.0, h.1, h.2, h.3, h.4, h.5, omega (arith, h.6), omega (arith, h.7), cut_moved n ts t.span.to h.2 q end h.8)

-- a space in front
spaced : (us : List Token) (p : ℕ) (w : List ℕ) (r : ℕ) (end : List ℕ) → Cut (suc p) w us r end → Cut p (32 ∷ w) us r end
unfolding is_blank
spaced [] p w r end h = (32 ∷ h.0, ap (λ x. 32 ∷ x) h.1, h.2, h.3, omega (arith, h.4))
spaced (u ∷ us) p w r end h = (32 ∷ h.0, h.1, h.2, ap (λ x. 32 ∷ x) h.3, h.4, h.5, omega (arith, h.6), h.7, h.8)

-- a token in front
abbrev token : Kind → ℕ → ℕ → Token
token k f t = record { kind = k; span = record { from = f; to = t } }

fronted : (us : List Token) (p q : ℕ) (text after : List ℕ) (kind : Kind) (r : ℕ) (end : List ℕ) → IsToken text after kind → q ≡ p + length text → Cut q after us r end
    → Cut p (text ++ after) (token kind p q ∷ us) r end
fronted us p q text after kind r end t e c = ([], text, after, refl, refl, t, omega arith, e, c)

-- the tokens in front

space_stops_name : stops is_name_byte (32 ∷ []) ≡ true
unfolding is_name_byte is_letter is_digit
space_stops_name = refl

space_stops_digit : stops is_digit (32 ∷ []) ≡ true
unfolding is_digit
space_stops_digit = refl

let_token : (rest : List ℕ) → IsToken (codes "let") (32 ∷ rest) (Reserved Let)
unfolding is_name_byte is_letter is_digit spelling
let_token rest = inl (record { first = refl; every = refl; ends = refl; short = omega arith; is = inl (Let, refl, refl) })

in_token : (rest : List ℕ) → IsToken (codes "in") (32 ∷ rest) (Reserved In)
unfolding is_name_byte is_letter is_digit spelling
in_token rest = inl (record { first = refl; every = refl; ends = refl; short = omega arith; is = inl (In, refl, refl) })

name_token_is : (x rest : List ℕ) → IsName x → IsToken x (32 ∷ rest) (Name x)
name_token_is x rest n = inl (record { first = n.first; every = n.every; ends = space_stops_name; short = n.short; is = inr (n.free, refl) })

number_token_is : (digits rest : List ℕ) (n : ℕ) → AreDigitsOf digits n → IsToken digits (32 ∷ rest) (Number n)
number_token_is digits rest n d =
    inr (inl (record { some = d.some; every = d.every; ends = space_stops_digit; small = let v = d.value in let s = d.small in omega (arith, v, s); is = ap Number (sym d.value) }))

-- a sign of one byte is the longest where none of `>`, `o` and `=` follows
one_byte : (c d : ℕ) (rest : List ℕ) (other : Sign) (word after : List ℕ) → d ≢ 62 → d ≢ 111 → d ≢ 61 → c ∷ d ∷ rest ≡ word ++ after → word ≡ mark other → length word ≤ 1
unfolding mark
one_byte c d rest Yields word after a b e h m = let f : c ∷ d ∷ rest ≡ 61 ∷ 62 ∷ after = h ∙ ap (λ w. w ++ after) m in let g : d ≡ 62 = cc f in absurd (a g)
one_byte c d rest Arrow word after a b e h m = let f : c ∷ d ∷ rest ≡ 45 ∷ 62 ∷ after = h ∙ ap (λ w. w ++ after) m in let g : d ≡ 62 = cc f in absurd (a g)
one_byte c d rest Lollipop word after a b e h m = let f : c ∷ d ∷ rest ≡ 45 ∷ 111 ∷ after = h ∙ ap (λ w. w ++ after) m in let g : d ≡ 111 = cc f in absurd (b g)
one_byte c d rest AtMost word after a b e h m = let f : c ∷ d ∷ rest ≡ 60 ∷ 61 ∷ after = h ∙ ap (λ w. w ++ after) m in let g : d ≡ 61 = cc f in absurd (e g)
one_byte c d rest EqualTo word after a b e h m = let f : c ∷ d ∷ rest ≡ 61 ∷ 61 ∷ after = h ∙ ap (λ w. w ++ after) m in let g : d ≡ 61 = cc f in absurd (e g)
one_byte c d rest LeftParenthesis word after a b e h m = let k : length word ≡ 1 = ap length m in omega (arith, k)
one_byte c d rest RightParenthesis word after a b e h m = let k : length word ≡ 1 = ap length m in omega (arith, k)
one_byte c d rest LeftAngle word after a b e h m = let k : length word ≡ 1 = ap length m in omega (arith, k)
one_byte c d rest RightAngle word after a b e h m = let k : length word ≡ 1 = ap length m in omega (arith, k)
one_byte c d rest LeftBracket word after a b e h m = let k : length word ≡ 1 = ap length m in omega (arith, k)
one_byte c d rest RightBracket word after a b e h m = let k : length word ≡ 1 = ap length m in omega (arith, k)
one_byte c d rest Comma word after a b e h m = let k : length word ≡ 1 = ap length m in omega (arith, k)
one_byte c d rest Colon word after a b e h m = let k : length word ≡ 1 = ap length m in omega (arith, k)
one_byte c d rest Is word after a b e h m = let k : length word ≡ 1 = ap length m in omega (arith, k)
one_byte c d rest Bang word after a b e h m = let k : length word ≡ 1 = ap length m in omega (arith, k)
one_byte c d rest Bar word after a b e h m = let k : length word ≡ 1 = ap length m in omega (arith, k)
one_byte c d rest Plus word after a b e h m = let k : length word ≡ 1 = ap length m in omega (arith, k)
one_byte c d rest Minus word after a b e h m = let k : length word ≡ 1 = ap length m in omega (arith, k)
one_byte c d rest Star word after a b e h m = let k : length word ≡ 1 = ap length m in omega (arith, k)
one_byte c d rest Ampersand word after a b e h m = let k : length word ≡ 1 = ap length m in omega (arith, k)
one_byte c d rest Slash word after a b e h m = let k : length word ≡ 1 = ap length m in omega (arith, k)

is_token : (rest : List ℕ) → IsToken (61 ∷ []) (32 ∷ rest) (Punctuation Is)
unfolding mark may_follow
is_token rest = inr (inr (inr (record {
  sign = Is;
  stands = (refl, refl);
  longest = λ other word after h t. one_byte 61 32 rest other word after (λ k. absurd (omega (arith, k))) (λ k. absurd (omega (arith, k))) (λ k. absurd (omega (arith, k))) h t.0;
  is = refl;
})))

minus_token : (d : ℕ) (rest : List ℕ) → is_digit d ≡ true → IsToken (45 ∷ []) (d ∷ rest) (Punctuation Minus)
unfolding mark may_follow
minus_token d rest g = let r = digit_range d g in inr (inr (inr (record {
  sign = Minus;
  stands = (refl, refl);
  longest = λ other word after h t. one_byte 45 d rest other word after (λ k. absurd (omega (arith, k, r))) (λ k. absurd (omega (arith, k, r))) (λ k. absurd (omega (arith, k, r))) h t.0;
  is = refl;
})))

-- where the number ends
abbrev ended : ℕ → List ℕ → ℕ
ended p number = p + length number

numbered : (v : ℤ) (number rest : List ℕ) (us : List Token) (p r : ℕ) → Spells v number → Cut (p + length number) (32 ∷ rest) us r []
    → (ts : List Token) × Cut p (number ++ (32 ∷ rest)) ts r [] × ((k : List Token) → bare_tokens us ≡ k → bare_tokens ts ≡ written_integer v k)
numbered _ digits rest us p r (plain {n = n} d) c = (
  token (Number n) p (p + length digits) ∷ us,
  fronted us p (p + length digits) digits (32 ∷ rest) (Number n) r [] (number_token_is digits rest n d) refl c,
  λ k e. ap (λ z. record { kind = Number n; span = nowhere } ∷ z) e,
)
numbered _ _ rest us p r (below {n = n} {digits = []} d) c = absurd (cc d.some)
numbered _ _ rest us p r (below {n = n} {digits = b ∷ bs} d) c =
    let c' : Cut (suc p + length (b ∷ bs)) (32 ∷ rest) us r [] = subst (λ q. Cut q (32 ∷ rest) us r []) (omega arith) c in (
      token (Punctuation Minus) p (suc p) ∷ token (Number (suc n)) (suc p) (suc p + length (b ∷ bs)) ∷ us,
      fronted (token (Number (suc n)) (suc p) (suc p + length (b ∷ bs)) ∷ us) p (suc p) (45 ∷ []) (b ∷ (bs ++ (32 ∷ rest))) (Punctuation Minus) r [] (minus_token b (bs ++ (32 ∷ rest)) d.some) (omega arith)
          (fronted us (suc p) (suc p + length (b ∷ bs)) (b ∷ bs) (32 ∷ rest) (Number (suc n)) r [] (number_token_is (b ∷ bs) rest (suc n) d) refl c'),
      λ k e. ap (λ z. record { kind = Punctuation Minus; span = nowhere } ∷ record { kind = Number (suc n); span = nowhere } ∷ z) e,
    )

pub front : OneAnswerInFront
front x number rest v us n s h =
    let a = length x in let b = length number in
    let base = 11 + a + b in
    let c0 = cut_moved base us 0 rest (length rest) [] h in
    let c1 : Cut (10 + a + b) (32 ∷ rest) (moved base us) (base + length rest) [] = spaced (moved base us) (10 + a + b) rest (base + length rest) [] (subst (λ q. Cut q rest (moved base us) (base + length rest) []) (omega arith) c0) in
    let t2 : Token = token (Reserved In) (8 + a + b) (10 + a + b) in
    let c2 = fronted (moved base us) (8 + a + b) (10 + a + b) (codes "in") (32 ∷ rest) (Reserved In) (base + length rest) [] (in_token rest) (omega arith) c1 in
    let c3 : Cut (7 + a + b) (32 ∷ (codes "in" ++ (32 ∷ rest))) (t2 ∷ moved base us) (base + length rest) [] = spaced (t2 ∷ moved base us) (7 + a + b) (codes "in" ++ (32 ∷ rest)) (base + length rest) [] (subst (λ q. Cut q (codes "in" ++ (32 ∷ rest)) (t2 ∷ moved base us) (base + length rest) []) (omega arith) c2) in
    let m = numbered v number (codes "in" ++ (32 ∷ rest)) (t2 ∷ moved base us) (7 + a) (base + length rest) s (subst (λ q. Cut q (32 ∷ (codes "in" ++ (32 ∷ rest))) (t2 ∷ moved base us) (base + length rest) []) (omega arith) c3) in
    let w4 : List ℕ = number ++ (32 ∷ (codes "in" ++ (32 ∷ rest))) in
    let c4 : Cut (6 + a) (32 ∷ w4) m.0 (base + length rest) [] = spaced m.0 (6 + a) w4 (base + length rest) [] (subst (λ q. Cut q w4 m.0 (base + length rest) []) (omega arith) m.1) in
    let t5 : Token = token (Punctuation Is) (5 + a) (6 + a) in
    let c5 = fronted m.0 (5 + a) (6 + a) (61 ∷ []) (32 ∷ w4) (Punctuation Is) (base + length rest) [] (is_token w4) (omega arith) c4 in
    let w5 : List ℕ = 61 ∷ 32 ∷ w4 in
    let c6 : Cut (4 + a) (32 ∷ w5) (t5 ∷ m.0) (base + length rest) [] = spaced (t5 ∷ m.0) (4 + a) w5 (base + length rest) [] (subst (λ q. Cut q w5 (t5 ∷ m.0) (base + length rest) []) (omega arith) c5) in
    let t7 : Token = token (Name x) 4 (4 + a) in
    let c7 = fronted (t5 ∷ m.0) 4 (4 + a) x (32 ∷ w5) (Name x) (base + length rest) [] (name_token_is x w5 n) refl c6 in
    let w7 : List ℕ = x ++ (32 ∷ w5) in
    let c8 : Cut 3 (32 ∷ w7) (t7 ∷ t5 ∷ m.0) (base + length rest) [] = spaced (t7 ∷ t5 ∷ m.0) 3 w7 (base + length rest) [] c7 in
    let t9 : Token = token (Reserved Let) 0 3 in
    let c9 = fronted (t7 ∷ t5 ∷ m.0) 0 3 (codes "let") (32 ∷ w7) (Reserved Let) (base + length rest) [] (let_token w7) refl c8 in
    let whole : base + length rest ≡ length (let_text x number rest) = let k = length-append x (32 ∷ w5) in let l = length-append number (32 ∷ (codes "in" ++ (32 ∷ rest))) in omega (arith, k, l) in
    let f : bare_tokens (moved base us) ≡ bare_tokens us = moved_bare base us in
    let e = m.2 (word In ∷ bare_tokens us) (ap (λ z. word In ∷ z) f) in
    (t9 ∷ t7 ∷ t5 ∷ m.0, subst (λ q. Cut 0 (let_text x number rest) (t9 ∷ t7 ∷ t5 ∷ m.0) q []) whole c9, ap (λ z. word Let ∷ name_token x ∷ sign Is ∷ z) e)
