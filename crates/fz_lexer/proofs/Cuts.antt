-- A program is cut in one way.
use Rattle.std.proofs.Common.{◌≡◌, ℕ, zero, suc, ◌+◌, ◌<◌, ◌≤◌, List, [], ◌∷◌, ◌++◌, true, refl, arith, sym, ap, ◌∙◌, subst, inl, inr, take, drop, length, append-nil, length-append, length-drop}
use Rattle.std.proofs.Math.Seq.{drop-nil, drop-append_seam}
use Rattle.std.proofs.lemmas.List.{take-append-drop, length-take, drop_all}
use Rattle.std.specs.Prelude.{◌⊎◌, Some, Result, Ok, Err, IfErr}
use Rattle.fz_lexer.specs.declared.token.Token.{Token}
use Rattle.fz_lexer.specs.declared.token.Kind.{Kind}
use Rattle.fz_lexer.specs.declared.token.LexFault.{LexFault}
use Rattle.fz_lexer.specs.declared.token.LexFault.TheVariants.{Bad, TooManyTokens, NoMemory}
use Rattle.fz_lexer.specs.declared.prefix.TokenPrefix.{TokenPrefix}
use Rattle.fz_lexer.specs.Bytes.{is_blank, every_byte, stops}
use Rattle.fz_lexer.specs.Tokens.{IsToken, NoToken, Cut, AreTokens, most_bytes, most_tokens, IsLexed, ExplainsCut, ExplainsLex, ExplainsLine}
use Rattle.fz_lexer.specs.Prefixes.{IsTokenPrefix}
use Rattle.fz_lexer.proofs.Runs.{run_same, token_same, token_start}

abbrev token : Kind → ℕ → ℕ → Token
token k f t = record { kind = k; span = record { from = f; to = t } }

same_token : (k l : Kind) (f t g u : ℕ) → k ≡ l → f ≡ g → t ≡ u → token k f t ≡ token l g u
same_token k l f t g u a b c = cc

-- where the one cut has no token yet, the other goes on from its end
from_blanks : (us : List Token) (p : ℕ) (w : List ℕ) (q r : ℕ) (end last : List ℕ) → Cut p w [] q end → Cut p w us r last → Cut q end us r last
from_blanks [] p w q r end last h g =
    let e : h.0 ++ end ≡ g.0 ++ last = sym h.1 ∙ g.1 in
    let s = run_same is_blank h.0 end g.0 last h.2 h.3 g.2 g.3 e in
    ([], s.1, refl, g.3, omega (arith, h.4, g.4, ap length s.0))
from_blanks (u ∷ us) p w q r end last h g =
    let f = token_start g.1 g.2 u.kind g.5 in
    let e : h.0 ++ end ≡ g.0 ++ (g.1 ++ g.2) = sym h.1 ∙ g.3 in
    let s = run_same is_blank h.0 end g.0 (g.1 ++ g.2) h.2 h.3 g.4 f.0 e in
    ([], g.1, g.2, s.1, refl, g.5, omega (arith, h.4, g.6, ap length s.0), g.7, g.8)

-- of two cuts of one text, the one goes on where the other ends
abbrev GoesOn : List Token → List Token → ℕ → List ℕ → ℕ → List ℕ → Type 0
GoesOn ts us q end r last = (vs : List Token) × (us ≡ ts ++ vs) × Cut q end vs r last

pub split : (ts us : List Token) (p : ℕ) (w : List ℕ) (q r : ℕ) (end last : List ℕ) → Cut p w ts q end → Cut p w us r last → GoesOn ts us q end r last ⊎ GoesOn us ts r last q end
split [] us p w q r end last h g = inl (us, refl, from_blanks us p w q r end last h g)
split (t ∷ ts) [] p w q r end last h g = inr (t ∷ ts, refl, from_blanks (t ∷ ts) p w r q last end g h)
split (t ∷ ts) (u ∷ us) p w q r end last h g =
    let f = token_start h.1 h.2 t.kind h.5 in
    let f' = token_start g.1 g.2 u.kind g.5 in
    let e : h.0 ++ (h.1 ++ h.2) ≡ g.0 ++ (g.1 ++ g.2) = sym h.3 ∙ g.3 in
    let s = run_same is_blank h.0 (h.1 ++ h.2) g.0 (g.1 ++ g.2) h.4 f.0 g.4 f'.0 e in
    let m = token_same h.1 h.2 g.1 g.2 t.kind u.kind h.5 g.5 s.1 in
    let from : t.span.from ≡ u.span.from = omega (arith, h.6, g.6, ap length s.0) in
    let to : t.span.to ≡ u.span.to = omega (arith, h.7, g.7, from, ap length m.text) in
    let tu : t ≡ u = same_token t.kind u.kind t.span.from t.span.to u.span.from u.span.to m.kind from to in
    let c : Cut t.span.to h.2 us r last = subst (λ x. Cut t.span.to x us r last) (sym m.after) (subst (λ x. Cut x g.2 us r last) (sym to) g.8) in
    elim (split ts us t.span.to h.2 q r end last h.8 c) [
      | inl v ↦ inl (v.0, cc (tu, v.1), v.2)
      | inr v ↦ inr (v.0, cc (tu, v.1), v.2)
    ]

-- one more token
cut_more : (ts : List Token) (t : Token) (p : ℕ) (w : List ℕ) (q : ℕ) (text after blanks end : List ℕ) → Cut p w ts q (text ++ after) → IsToken text after t.kind →
    t.span.from ≡ q → t.span.to ≡ q + length text → after ≡ blanks ++ end → every_byte is_blank blanks ≡ true → stops is_blank end ≡ true → Cut p w (ts ++ t ∷ []) (t.span.to + length blanks) end
cut_more [] t p w q text after blanks end h k f g e b s = (h.0, text, after, h.1, h.2, k, omega (arith, f, h.4), omega arith, (blanks, e, b, s, refl))
cut_more (u ∷ ts) t p w q text after blanks end h k f g e b s =
    (h.0, h.1, h.2, h.3, h.4, h.5, h.6, h.7, cut_more ts t u.span.to h.2 q text after blanks end h.8 k f g e b s)

none_left : (vs : List Token) (q r : ℕ) → Cut q [] vs r [] → vs ≡ []
none_left [] q r h = refl
none_left (v ∷ vs) q r h =
    let f = token_start h.1 h.2 v.kind h.5 in
    absurd (omega (arith, f.1, ap length h.3, length-append h.1 h.2, length-append h.0 (h.1 ++ h.2)))

pub only : (w : List ℕ) (ts us : List Token) → AreTokens w ts → AreTokens w us → us ≡ ts
only w ts us h g = elim (split ts us 0 w (length w) (length w) [] [] h g) [
  | inl v ↦ v.1 ∙ ap (λ x. ts ++ x) (none_left v.0 (length w) (length w) v.2) ∙ append-nil ts
  | inr v ↦ sym (v.1 ∙ ap (λ x. us ++ x) (none_left v.0 (length w) (length w) v.2) ∙ append-nil us)
]

drop-drop : (i n : ℕ) (w : List ℕ) → drop n (drop i w) ≡ drop (i + n) w
drop-drop zero n w = let e : 0 + n ≡ n = omega arith in rw e refl
drop-drop (suc i) n [] = drop-nil n ∙ sym (drop-nil (suc i + n))
drop-drop (suc i) n (b ∷ w) = let e : suc i + n ≡ suc (i + n) = omega arith in rw e (drop-drop i n w)

-- the loop's state: the tokens so far, and what is left, which begins with no blank
pub cut_start : (w : List ℕ) (n : ℕ) → n ≤ length w → every_byte is_blank (take n w) ≡ true → stops is_blank (drop n w) ≡ true → Cut 0 w [] n (drop n w)
cut_start w n l h s = (take n w, sym (take-append-drop n w), h, s, omega (arith, length-take n w))

pub cut_on : (ts us : List Token) (w : List ℕ) (found : TokenPrefix) (i j : ℕ) (R B : List ℕ) → R ≡ drop i w → B ≡ drop (i + found.len) w → i ≤ length w → Cut 0 w ts i (drop i w) →
    IsTokenPrefix R (Some found) → j ≤ length B → every_byte is_blank (take j B) ≡ true → stops is_blank (drop j B) ≡ true →
    us ≡ ts ++ (token found.kind i (i + found.len)) ∷ [] →
    (i + found.len + j ≤ length w) × Cut 0 w us (i + found.len + j) (drop (i + found.len + j) w)
cut_on ts us w found i j R B r b l h t lj e s u =
    let n : ℕ = found.len in
    let k : found.len ≡ length t.0 = t.3 in
    let whole : drop i w ≡ t.0 ++ t.1 = sym r ∙ t.2 in
    let tail : drop n (t.0 ++ t.1) ≡ t.1 = ap (λ x. drop x (t.0 ++ t.1)) k ∙ drop-append_seam t.0 t.1 in
    let rest : t.1 ≡ B = sym tail ∙ ap (drop n) (sym whole) ∙ drop-drop i n w ∙ sym b in
    let last : drop j B ≡ drop (i + n + j) w = ap (drop j) b ∙ drop-drop (i + n) j w in
    let blanks : t.1 ≡ take j B ++ drop (i + n + j) w = rest ∙ sym (take-append-drop j B) ∙ ap (λ x. take j B ++ x) last in
    let h' : Cut 0 w ts i (t.0 ++ t.1) = subst (λ x. Cut 0 w ts i x) whole h in
    let s' : stops is_blank (drop (i + n + j) w) ≡ true = subst (λ x. stops is_blank x ≡ true) last s in
    let c = cut_more ts (token found.kind i (i + n)) 0 w i t.0 t.1 (take j B) (drop (i + n + j) w) h' t.5 refl (omega arith) blanks e s' in
    let q : i + n + length (take j B) ≡ i + n + j = omega (arith, length-take j B) in
    let c' : Cut 0 w (ts ++ (token found.kind i (i + n)) ∷ []) (i + n + j) (drop (i + n + j) w) = subst (λ x. Cut 0 w (ts ++ (token found.kind i (i + n)) ∷ []) x (drop (i + n + j) w)) q c in (
      omega (arith, lj, ap length b, length-drop (i + n) w, ap length whole, length-append t.0 t.1, length-drop i w),
      subst (λ x. Cut 0 w x (i + n + j) (drop (i + n + j) w)) (sym u) c',
    )

-- the token that comes next lies in what is left
pub prefix_within : (w R : List ℕ) (found : TokenPrefix) (i : ℕ) → R ≡ drop i w → i ≤ length w → IsTokenPrefix R (Some found) → (i + found.len ≤ length w) × (0 < found.len)
prefix_within w R found i r l t = (omega (arith, t.3, ap length (sym t.2 ∙ r), length-append t.0 t.1, length-drop i w), omega (arith, t.3, t.4))

pub cut_whole : (ts : List Token) (w : List ℕ) (i : ℕ) → i ≡ length w → Cut 0 w ts i (drop i w) → AreTokens w ts
cut_whole ts w i e h =
    let l : length w ≤ i = omega arith in
    subst (λ x. Cut 0 w ts x []) e (subst (λ x. Cut 0 w ts i x) (drop_all i w l) h)

-- where a cut ends, no blank stands
cut_ends : (ts : List Token) (p : ℕ) (w : List ℕ) (q : ℕ) (end : List ℕ) → Cut p w ts q end → stops is_blank end ≡ true
cut_ends [] p w q end h = h.3
cut_ends (t ∷ ts) p w q end h = cut_ends ts t.span.to h.2 q end h.8

-- what is left is never longer than what was cut
cut_length : (vs : List Token) (q r : ℕ) (end last : List ℕ) → Cut q end vs r last → length last ≤ length end
cut_length [] q r end last c = omega (arith, ap length c.1, length-append c.0 last)
cut_length (v ∷ vs) q r end last c =
    omega (arith, cut_length vs v.span.to r c.2 last c.8, ap length c.3, length-append c.0 (c.1 ++ c.2), length-append c.1 c.2)

-- where no token begins, a cut of the rest has none, and ends there
stuck : (vs : List Token) (q r : ℕ) (end last : List ℕ) → Cut q end vs r last → stops is_blank end ≡ true → NoToken end → (vs ≡ []) × (r ≡ q) × (last ≡ end)
stuck [] q r end last c s n =
    let x = run_same is_blank [] end c.0 last refl s c.2 c.3 c.1 in
    (refl, omega (arith, c.4, ap length x.0), sym x.1)
stuck (v ∷ vs) q r end last c s n =
    let f = token_start c.1 c.2 v.kind c.5 in
    let x = run_same is_blank [] end c.0 (c.1 ++ c.2) refl s c.4 f.0 c.3 in
    absurd (n c.1 c.2 v.kind x.1 c.5)

-- where a token begins, a cut of the rest that goes on has one
goes_on : (vs : List Token) (q r : ℕ) (text after last : List ℕ) (k : Kind) → Cut q (text ++ after) vs r last → stops is_blank (text ++ after) ≡ true → IsToken text after k → (0 < length vs) ⊎ ((r ≡ q) × (last ≡ text ++ after))
goes_on [] q r text after last k c s t =
    let x = run_same is_blank [] (text ++ after) c.0 last refl s c.2 c.3 c.1 in
    inr (omega (arith, c.4, ap length x.0), sym x.1)
goes_on (v ∷ vs) q r text after last k c s t = inl (omega arith)

-- there are at most as many tokens as bytes
pub cut_count : (ts : List Token) (p : ℕ) (w : List ℕ) (q : ℕ) (end : List ℕ) → Cut p w ts q end → length ts + length end ≤ length w
cut_count [] p w q end h = omega (arith, ap length h.1, length-append h.0 end)
cut_count (t ∷ ts) p w q end h =
    omega (arith, cut_count ts t.span.to h.2 q end h.8, (token_start h.1 h.2 t.kind h.5).1, ap length h.3, length-append h.0 (h.1 ++ h.2), length-append h.1 h.2)

-- what is refused is no text of so many tokens
cut_refused : (most : ℕ) (w : List ℕ) (fault : LexFault) (ts : List Token) → ExplainsCut most w fault → AreTokens w ts → length ts ≤ most → fault ≡ NoMemory
cut_refused most w (Bad p) us x a c = elim (split x.0 us 0 w p (length w) x.1 [] x.2 a) [
  | inl v ↦ let s = stuck v.0 p (length w) x.1 [] v.2 (cut_ends x.0 0 w p x.1 x.2) x.5 in absurd (omega (arith, x.4, ap length s.2))
  | inr v ↦ absurd (omega (arith, x.4, cut_length v.0 (length w) p [] x.1 v.2))
]
cut_refused most w (TooManyTokens p) us x a c = elim (split x.0 us 0 w p (length w) (x.1 ++ x.2) [] x.4 a) [
  | inl v ↦ elim (goes_on v.0 p (length w) x.1 x.2 [] x.3 v.2 (cut_ends x.0 0 w p (x.1 ++ x.2) x.4) x.6) [
    | inl l ↦ absurd (omega (arith, l, x.5, ap length v.1, length-append x.0 v.0, c))
    | inr e ↦ let f = token_start x.1 x.2 x.3 x.6 in absurd (omega (arith, f.1, ap length e.1, length-append x.1 x.2))
  ]
  | inr v ↦ let f = token_start x.1 x.2 x.3 x.6 in absurd (omega (arith, f.1, cut_length v.0 (length w) p [] (x.1 ++ x.2) v.2, length-append x.1 x.2))
]
cut_refused most w NoMemory us x a c = refl

bad_once : (most : ℕ) (w : List ℕ) (p q : ℕ) → ExplainsCut most w (Bad p) → ExplainsCut most w (Bad q) → q ≡ p
bad_once most w p q x y = elim (split x.0 y.0 0 w p q x.1 y.1 x.2 y.2) [
  | inl v ↦ (stuck v.0 p q x.1 y.1 v.2 (cut_ends x.0 0 w p x.1 x.2) x.5).1
  | inr v ↦ sym (stuck v.0 q p y.1 x.1 v.2 (cut_ends y.0 0 w q y.1 y.2) y.5).1
]

many_once : (most : ℕ) (w : List ℕ) (p q : ℕ) → ExplainsCut most w (TooManyTokens p) → ExplainsCut most w (TooManyTokens q) → q ≡ p
many_once most w p q x y = elim (split x.0 y.0 0 w p q (x.1 ++ x.2) (y.1 ++ y.2) x.4 y.4) [
  | inl v ↦ elim (goes_on v.0 p q x.1 x.2 (y.1 ++ y.2) x.3 v.2 (cut_ends x.0 0 w p (x.1 ++ x.2) x.4) x.6) [
    | inl l ↦ absurd (omega (arith, l, x.5, y.5, ap length v.1, length-append x.0 v.0))
    | inr e ↦ e.0
  ]
  | inr v ↦ elim (goes_on v.0 q p y.1 y.2 (x.1 ++ x.2) y.3 v.2 (cut_ends y.0 0 w q (y.1 ++ y.2) y.4) y.6) [
    | inl l ↦ absurd (omega (arith, l, x.5, y.5, ap length v.1, length-append y.0 v.0))
    | inr e ↦ sym e.0
  ]
]

-- a text is not refused in both ways
one_way : (most : ℕ) (w : List ℕ) (p q : ℕ) → ExplainsCut most w (Bad p) → ExplainsCut most w (TooManyTokens q) → ⊥
one_way most w p q x y = elim (split x.0 y.0 0 w p q x.1 (y.1 ++ y.2) x.2 y.4) [
  | inl v ↦
      let s = stuck v.0 p q x.1 (y.1 ++ y.2) v.2 (cut_ends x.0 0 w p x.1 x.2) x.5 in
      x.5 y.1 y.2 y.3 (sym s.2) y.6
  | inr v ↦ elim (goes_on v.0 q p y.1 y.2 x.1 y.3 v.2 (cut_ends y.0 0 w q (y.1 ++ y.2) y.4) y.6) [
    | inl l ↦ omega (arith, l, x.3, y.5, ap length v.1, length-append y.0 v.0)
    | inr e ↦ x.5 y.1 y.2 y.3 e.1 y.6
  ]
]

cut_once : (most : ℕ) (w : List ℕ) (fault other : LexFault) → ExplainsCut most w fault → ExplainsCut most w other → (fault ≡ NoMemory → ⊥) → (other ≡ NoMemory → ⊥) → other ≡ fault
cut_once most w (Bad p) (Bad q) x y m n = ap Bad (bad_once most w p q x y)
cut_once most w (Bad p) (TooManyTokens q) x y m n = absurd (one_way most w p q x y)
cut_once most w (TooManyTokens p) (Bad q) x y m n = absurd (one_way most w q p y x)
cut_once most w (TooManyTokens p) (TooManyTokens q) x y m n = ap TooManyTokens (many_once most w p q x y)
cut_once most w (Bad p) NoMemory x y m n = absurd (n refl)
cut_once most w (TooManyTokens p) NoMemory x y m n = absurd (n refl)
cut_once most w NoMemory other x y m n = absurd (m refl)

-- of a program: it is too long, or its cut has the fault
abbrev InCut : List ℕ → LexFault → Type 0
InCut w fault = (most_bytes < length w) × (fault ≡ Bad most_bytes) ⊎ ((length w ≤ most_bytes) × ExplainsCut most_tokens w fault)

in_cut : (w : List ℕ) (fault : LexFault) → ExplainsLex w fault → (fault ≡ NoMemory → ⊥) → InCut w fault
in_cut w (Bad p) (inl x) m = inl (x.0, ap Bad x.1)
in_cut w (Bad p) (inr x) m = inr x
in_cut w (TooManyTokens p) x m = inr x
in_cut w NoMemory x m = absurd (m refl)

pub refused : (w : List ℕ) (fault : LexFault) (ts : List Token) → ExplainsLex w fault → IsLexed w ts → fault ≡ NoMemory
refused w (Bad p) us (inl x) a = absurd (omega (arith, x.0, a.bytes))
refused w (Bad p) us (inr x) a = cut_refused most_tokens w (Bad p) us x.1 a.tokens a.count
refused w (TooManyTokens p) us x a = cut_refused most_tokens w (TooManyTokens p) us x.1 a.tokens a.count
refused w NoMemory us x a = refl

pub once : (w : List ℕ) (fault other : LexFault) → ExplainsLex w fault → ExplainsLex w other → (fault ≡ NoMemory → ⊥) → (other ≡ NoMemory → ⊥) → other ≡ fault
once w fault other x y m n = elim (in_cut w fault x m) [
  | inl a ↦ elim (in_cut w other y n) [ inl b ↦ b.1 ∙ sym a.1 | inr b ↦ absurd (omega (arith, a.0, b.0)) ]
  | inr a ↦ elim (in_cut w other y n) [ inl b ↦ absurd (omega (arith, a.0, b.0)) | inr b ↦ cut_once most_tokens w fault other a.1 b.1 m n ]
]

-- without limits: more tokens than bytes there are not
pub line_fault : (w : List ℕ) (fault : LexFault) → ExplainsCut (length w) w fault → ExplainsLine w fault
line_fault w (Bad p) x = (x.0, x.1, x.2, x.4, x.5)
line_fault w (TooManyTokens p) x =
    omega (arith, cut_count x.0 0 w p (x.1 ++ x.2) x.4, x.5, (token_start x.1 x.2 x.3 x.6).1, length-append x.1 x.2)
line_fault w NoMemory x = tt

pub line_faults : {A : Type 0} (w : List ℕ) (r : Result A LexFault) → IfErr r (λ fault. ExplainsCut (length w) w fault) → IfErr r (λ fault. ExplainsLine w fault)
line_faults w (Ok ts) h = tt
line_faults w (Err fault) h = line_fault w fault h

of_line : (w : List ℕ) (fault : LexFault) → ExplainsLine w fault → ExplainsCut (length w) w fault
of_line w (Bad p) x = (x.0, x.1, x.2, omega (arith, cut_count x.0 0 w p x.1 x.2), x.3, x.4)
of_line w (TooManyTokens p) x = absurd x
of_line w NoMemory x = tt

pub line_refused : (w : List ℕ) (fault : LexFault) (ts : List Token) → ExplainsLine w fault → AreTokens w ts → fault ≡ NoMemory
line_refused w fault ts x a = cut_refused (length w) w fault ts (of_line w fault x) a (omega (arith, cut_count ts 0 w (length w) [] a))

pub line_once : (w : List ℕ) (fault other : LexFault) → ExplainsLine w fault → ExplainsLine w other → (fault ≡ NoMemory → ⊥) → (other ≡ NoMemory → ⊥) → other ≡ fault
line_once w fault other x y m n = cut_once (length w) w fault other (of_line w fault x) (of_line w other y) m n
