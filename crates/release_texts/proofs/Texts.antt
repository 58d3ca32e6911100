-- Texts, their tokens and their lengths.
use Rattle.std.proofs.Common.{◌≡◌, ℕ, ◌+◌, ◌<◌, ◌≤◌, ◌^◌, List, [], ◌∷◌, ◌++◌, length, length-append, refl, arith, ap, sym, subst, ◌∙◌}
use Rattle.std.proofs.lemmas.List.{length-map}
use Rattle.std.specs.Int.Signed.{mag}
use Rattle.std.specs.Prelude.{ℤ, pos, negsuc, neg_ℤ, codes}
use Rattle.std.specs.Fmt.{digits, signed_decimal}
use Rattle.std.proofs.lemmas.Int.{ints}
use Rattle.std.proofs.lemmas.Fmt.{length_signed_le}
use Rattle.fz_ast.specs.Limits.{IsNumber, limit}
use Rattle.metric_values.specs.Numbers.{clamp}
use Rattle.fz_lexer.specs.declared.token.Token.{Token}
use Rattle.fz_lexer.specs.Tokens.{AreTokens}
use Rattle.fz_lexer.proofs.Cuts.{only}
use Rattle.release_texts.proofs.Fronts.{front}
use Rattle.release_texts.proofs.Numbers.{spelled}
use Rattle.release_texts.specs.Bared.{bare_token, bare_tokens}
use Rattle.release_texts.specs.Fronts.{let_text}
use Rattle.release_texts.specs.Releases.{let_in}
use Rattle.release_texts.specs.Texts.{AreNamed, Earlier, NoTextHasMoreTokens, NoTextIsLonger, TextsHaveTheirTokens, WidestTextsAreTexts, least_answers, lets, names_of, release_text, widest_number, widest_text}

pub clamped : (v : ℤ) → IsNumber (clamp v)
clamped v = grind (arith, ints)

pub texts : TextsHaveTheirTokens
texts [] own us n h = (us, h, refl)
texts (a ∷ earlier) own us n h =
    let i = texts earlier own us n.1 h in
    let f = front a.name (signed_decimal (clamp a.answer)) (release_text earlier own) (clamp a.answer) i.0 n.0 (spelled (clamp a.answer) (clamped a.answer)) i.1 in
    (f.0, f.1, f.2 ∙ ap (let_in a.name (clamp a.answer)) i.2)

least_is : signed_decimal (clamp (neg_ℤ limit)) ≡ widest_number
unfolding digits
least_is = refl

pub widest : WidestTextsAreTexts
widest [] own = refl
widest (a ∷ earlier) own = ap (λ n. let_text a.name n (widest_text (names_of earlier) own)) (sym least_is) ∙ ap (let_text a.name (signed_decimal (clamp (neg_ℤ limit)))) (widest earlier own)

-- a number is at most 17 bytes
short : (v : ℤ) → length (signed_decimal (clamp v)) ≤ 17
short v = let k = clamped v in length_signed_le 16 (clamp v) (small (clamp v) k) (less (clamp v) k)
  where
    small : (z : ℤ) → IsNumber z → mag z + 1 < 10 ^ 16
    small (pos n) k = omega (arith, ints, k.0, k.1)
    small (negsuc n) k = omega (arith, ints, k.0, k.1)

    less : (z : ℤ) → IsNumber z → mag z < 2 ^ 63
    less (pos n) k = omega (arith, ints, k.0, k.1)
    less (negsuc n) k = omega (arith, ints, k.0, k.1)

let_length : (x number rest : List ℕ) → length (let_text x number rest) ≡ length x + length number + length rest + 11
let_length x number rest =
    let a = length-append x (32 ∷ (61 ∷ 32 ∷ (number ++ (32 ∷ (codes "in" ++ (32 ∷ rest)))))) in
    let b = length-append number (32 ∷ (codes "in" ++ (32 ∷ rest))) in
    omega (arith, a, b)

pub no_longer : NoTextIsLonger
no_longer [] own = omega arith
no_longer (a ∷ earlier) own =
    let i = no_longer earlier own in
    let s = short a.answer in
    let x = let_length a.name (signed_decimal (clamp a.answer)) (release_text earlier own) in
    let y = let_length a.name widest_number (widest_text (names_of earlier) own) in
    omega (arith, i, s, x, y)

-- tokens
let_count : (x : List ℕ) (v : ℤ) (k : List Token) → length (let_in x v k) ≤ 6 + length k
let_count x (pos n) k = omega arith
let_count x (negsuc n) k = omega arith

fewer : (earlier : List Earlier) (k : List Token) → length (lets earlier k) ≤ length (lets (least_answers earlier) k)
fewer [] k = omega arith
fewer (a ∷ earlier) k = let i = fewer earlier k in let c = let_count a.name (clamp a.answer) (lets earlier k) in omega (arith, i, c)

pub least_named : (earlier : List Earlier) → AreNamed earlier → AreNamed (least_answers earlier)
least_named [] n = n
least_named (a ∷ earlier) n = (n.0, least_named earlier n.1)

pub widest_tokens : (earlier : List Earlier) (own : List ℕ) (us ws : List Token) → AreNamed earlier → AreTokens own us
    → AreTokens (widest_text (names_of earlier) own) ws → bare_tokens ws ≡ lets (least_answers earlier) (bare_tokens us)
widest_tokens earlier own us ws n h w =
    let t = texts (least_answers earlier) own us (least_named earlier n) h in
    let w' : AreTokens (release_text (least_answers earlier) own) ws = subst (λ text. AreTokens text ws) (widest earlier own) w in
    ap bare_tokens (only (release_text (least_answers earlier) own) t.0 ws t.1 w') ∙ t.2

pub more_tokens : NoTextHasMoreTokens
more_tokens earlier own us ts ws n h s w =
    let t = texts earlier own us n h in
    let same : bare_tokens ts ≡ lets earlier (bare_tokens us) = ap bare_tokens (only (release_text earlier own) t.0 ts t.1 s) ∙ t.2 in
    let wide = widest_tokens earlier own us ws n h w in
    let f = fewer earlier (bare_tokens us) in
    let p : length ts ≡ length (lets earlier (bare_tokens us)) = sym (length-map ts bare_token) ∙ ap length same in
    let q : length ws ≡ length (lets (least_answers earlier) (bare_tokens us)) = sym (length-map ws bare_token) ∙ ap length wide in
    omega (arith, f, p, q)
