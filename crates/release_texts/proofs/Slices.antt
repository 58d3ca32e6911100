-- What stands between two tokens.
use Rattle.std.proofs.Common.{◌≡◌, ℕ, ◌+◌, ◌<◌, ◌≤◌, List, [], ◌∷◌, ◌++◌, true, refl, arith, sym, ap, ◌∙◌, subst, inl, inr, length, length-append, append_assoc, append-nil}
use Rattle.std.specs.Prelude.{Bool, false}
use Rattle.std.proofs.lemmas.Bool.{and_parts, cases_lt}
use Rattle.fz_ast.specs.Bare.{nowhere}
use Rattle.fz_lexer.specs.declared.token.Token.{Token}
use Rattle.fz_lexer.specs.declared.token.Kind.{Kind}
use Rattle.fz_lexer.specs.declared.token.Sign.{Sign}
use Rattle.fz_lexer.specs.declared.token.Sign.TheVariants.{Yields, Arrow, Lollipop, AtMost, EqualTo, LeftParenthesis, RightParenthesis, LeftAngle, RightAngle, LeftBracket, RightBracket, Comma, Colon, Is, Bang, Bar, Plus, Minus, Star, Ampersand, Slash}
use Rattle.fz_lexer.specs.Bytes.{every_byte, is_blank, is_letter, is_name_byte, stops}
use Rattle.fz_lexer.specs.Signs.{SpellsSign, mark, may_follow}
use Rattle.fz_lexer.specs.Tokens.{Cut, IsToken}
use Rattle.fz_lexer.proofs.Prefixes.{of_sort}
use Rattle.fz_lexer.proofs.Runs.{sort, sort_of, token_start}
use Rattle.release_texts.specs.Bared.{bare_tokens}
use Rattle.release_texts.specs.Slices.{SlicesHaveTheirTokens}

abbrev token : Kind → ℕ → ℕ → Token
token k f t = record { kind = k; span = record { from = f; to = t } }

-- what was cut, and then what is left
consumed : (ts : List Token) (p : ℕ) (w : List ℕ) (q : ℕ) (end : List ℕ) → Cut p w ts q end → (c : List ℕ) × (w ≡ c ++ end) × (q ≡ p + length c)
consumed [] p w q end h = (h.0, h.1, h.4)
consumed (t ∷ ts) p w q end h =
    let i = consumed ts t.span.to h.2 q end h.8 in (
      h.0 ++ (h.1 ++ i.0),
      h.3 ∙ ap (λ x. h.0 ++ (h.1 ++ x)) i.1 ∙ ap (λ x. h.0 ++ x) (sym (append_assoc h.1 i.0 end)) ∙ sym (append_assoc h.0 (h.1 ++ i.0) end),
      let l = length-append h.0 (h.1 ++ i.0) in let m = length-append h.1 i.0 in let f = h.6 in let g = h.7 in let k = i.2 in omega (arith, l, m, f, g, k),
    )

letter_o : is_letter 111 ≡ true
unfolding is_letter
letter_o = refl

blank_o : is_blank 111 ≡ false
unfolding is_blank
blank_o = refl

sort_o : (w : List ℕ) → sort (111 ∷ w) ≡ 1
unfolding sort_of
sort_o w = rw letter_o refl

stops_front : (f : ℕ → Bool) (a b : List ℕ) → stops f (a ++ b) ≡ true → stops f a ≡ true
stops_front f [] b h = refl
stops_front f (x ∷ a) b h = h

-- where `o` alone was cut, no name byte follows it
after_o : (ts : List Token) (p : ℕ) (w : List ℕ) (q : ℕ) (end : List ℕ) → w ≡ 111 ∷ end → Cut p w ts q end → stops is_name_byte end ≡ true
after_o [] p w q end e h = go h.0 h.2 (sym h.1 ∙ e)
  where
    go : (blanks : List ℕ) → every_byte is_blank blanks ≡ true → blanks ++ end ≡ 111 ∷ end → stops is_name_byte end ≡ true
    go [] b f = let l = ap length f in absurd (omega (arith, l))
    go (x ∷ blanks) b f = let x_is : x ≡ 111 = cc f in let n = (and_parts (is_blank x) (every_byte is_blank blanks) b).0 in let o : is_blank 111 ≡ true = subst (λ y. is_blank y ≡ true) x_is n in absurd (cc (o, blank_o))
after_o (t ∷ ts) p w q end e h = go h.0 h.4 (sym h.3 ∙ e) h.1 refl (consumed ts t.span.to h.2 q end h.8)
  where
    whole : (text : List ℕ) (c : List ℕ) → text ++ h.2 ≡ 111 ∷ end → 0 < length text → h.2 ≡ c ++ end → IsToken text h.2 t.kind → stops is_name_byte end ≡ true
    whole [] c f l g k = absurd (omega (arith, l))
    whole (x ∷ text) c f l g k =
        let n : length (text ++ h.2) ≡ length end = let m = ap length f in omega (arith, m) in
        let z : length h.2 ≡ length c + length end = ap length g ∙ length-append c end in
        let y = length-append text h.2 in
        let c_is : length c ≡ 0 = omega (arith, n, z, y) in
        let after : h.2 ≡ end = g ∙ ap (λ d. d ++ end) (nil c c_is) in
        let x_is : x ≡ 111 = cc f in
        elim (of_sort (111 ∷ end) 1 (x ∷ text) h.2 t.kind (sort_o end) (sym f) k) [
          | inl m ↦ subst (λ d. stops is_name_byte d ≡ true) after m.1.ends
          | inr m ↦ elim m [ inl m ↦ absurd (omega (arith, m.0)) | inr m ↦ elim m [ inl m ↦ absurd (omega (arith, m.0)) | inr m ↦ absurd (omega (arith, m.0)) ] ]
        ]
      where
        nil : (c : List ℕ) → length c ≡ 0 → c ≡ []
        nil [] e = refl
        nil (x ∷ c) e = absurd (omega (arith, e))

    go : (blanks : List ℕ) → every_byte is_blank blanks ≡ true → blanks ++ (h.1 ++ h.2) ≡ 111 ∷ end → (text : List ℕ) → text ≡ h.1 → ((c : List ℕ) × (h.2 ≡ c ++ end) × (q ≡ t.span.to + length c)) → stops is_name_byte end ≡ true
    go [] b f text s c = whole h.1 c.0 f (token_start h.1 h.2 t.kind h.5).1 c.1 h.5
    go (x ∷ blanks) b f text s c = let x_is : x ≡ 111 = cc f in let n = (and_parts (is_blank x) (every_byte is_blank blanks) b).0 in let o : is_blank 111 ≡ true = subst (λ y. is_blank y ≡ true) x_is n in absurd (cc (o, blank_o))

-- the second byte of `-o`
second : (text a : List ℕ) → text ++ a ≡ 45 ∷ 111 ∷ [] → 0 < length text → (2 ≤ length text → ⊥) → a ≡ 111 ∷ []
second [] a f l n = absurd (omega (arith, l))
second (x ∷ []) a f l n = cc f
second (x ∷ y ∷ text) a f l n = absurd (n (omega arith))

-- a token is one where less follows it, too
may_follow_more : (other : Sign) (word rest a end text : List ℕ) → text ++ a ≡ word ++ rest → word ≡ mark other → 0 < length text → (length word ≤ length text → ⊥) → (a ≡ 111 ∷ [] → stops is_name_byte end ≡ true)
    → may_follow other rest ≡ true → may_follow other (rest ++ end) ≡ true
unfolding may_follow mark
may_follow_more Yields word rest a end text e m l n o h = refl
may_follow_more Arrow word rest a end text e m l n o h = refl
may_follow_more Lollipop word [] a end text e m l n o h = o (second text a (e ∙ append-nil word ∙ m) l (λ k. n (let w = ap length m in omega (arith, w, k))))
may_follow_more Lollipop word (x ∷ rest) a end text e m l n o h = h
may_follow_more AtMost word rest a end text e m l n o h = refl
may_follow_more EqualTo word rest a end text e m l n o h = refl
may_follow_more LeftParenthesis word rest a end text e m l n o h = refl
may_follow_more RightParenthesis word rest a end text e m l n o h = refl
may_follow_more LeftAngle word rest a end text e m l n o h = refl
may_follow_more RightAngle word rest a end text e m l n o h = refl
may_follow_more LeftBracket word rest a end text e m l n o h = refl
may_follow_more RightBracket word rest a end text e m l n o h = refl
may_follow_more Comma word rest a end text e m l n o h = refl
may_follow_more Colon word rest a end text e m l n o h = refl
may_follow_more Is word rest a end text e m l n o h = refl
may_follow_more Bang word rest a end text e m l n o h = refl
may_follow_more Bar word rest a end text e m l n o h = refl
may_follow_more Plus word rest a end text e m l n o h = refl
may_follow_more Minus word rest a end text e m l n o h = refl
may_follow_more Star word rest a end text e m l n o h = refl
may_follow_more Ampersand word rest a end text e m l n o h = refl
may_follow_more Slash word rest a end text e m l n o h = refl

may_follow_less : (sign : Sign) (a end : List ℕ) → may_follow sign (a ++ end) ≡ true → may_follow sign a ≡ true
unfolding may_follow
may_follow_less Lollipop a end h = stops_front is_name_byte a end h
may_follow_less Yields a end h = refl
may_follow_less Arrow a end h = refl
may_follow_less AtMost a end h = refl
may_follow_less EqualTo a end h = refl
may_follow_less LeftParenthesis a end h = refl
may_follow_less RightParenthesis a end h = refl
may_follow_less LeftAngle a end h = refl
may_follow_less RightAngle a end h = refl
may_follow_less LeftBracket a end h = refl
may_follow_less RightBracket a end h = refl
may_follow_less Comma a end h = refl
may_follow_less Colon a end h = refl
may_follow_less Is a end h = refl
may_follow_less Bang a end h = refl
may_follow_less Bar a end h = refl
may_follow_less Plus a end h = refl
may_follow_less Minus a end h = refl
may_follow_less Star a end h = refl
may_follow_less Ampersand a end h = refl
may_follow_less Slash a end h = refl

token_less : (text a end : List ℕ) (kind : Kind) → (a ≡ 111 ∷ [] → stops is_name_byte end ≡ true) → IsToken text (a ++ end) kind → IsToken text a kind
token_less text a end kind o (inl t) = inl (record { first = t.first; every = t.every; ends = stops_front is_name_byte a end t.ends; short = t.short; is = t.is })
token_less text a end kind o (inr (inl t)) = inr (inl (record { some = t.some; every = t.every; ends = stops_front _ a end t.ends; small = t.small; is = t.is }))
token_less text a end kind o (inr (inr (inl t))) = inr (inr (inl (record { inner = t.inner; quoted = t.quoted; every = t.every; short = t.short; is = t.is })))
token_less text a end kind o (inr (inr (inr t))) = inr (inr (inr (record { sign = t.sign; stands = (t.stands.0, may_follow_less t.sign a end t.stands.1); longest = longest; is = t.is })))
  where
    longest : (other : Sign) (word rest : List ℕ) → text ++ a ≡ word ++ rest → SpellsSign other word rest → length word ≤ length text
    longest other word rest e s = elim (cases_lt (length text) (length word)) [
      | inr l ↦ l
      | inl n ↦
          let p = (token_start text (a ++ end) kind (inr (inr (inr t)))).1 in
          t.longest other word (rest ++ end) (sym (append_assoc text a end) ∙ ap (λ w. w ++ end) e ∙ append_assoc word rest end)
          (s.0, may_follow_more other word rest a end text e s.0 p (λ l. absurd (omega (arith, l, n))) o s.1)
    ]

-- the same tokens, numbered from another place, where nothing follows
alone : (ts : List Token) (p : ℕ) (w : List ℕ) (q : ℕ) (end : List ℕ) (from : ℕ) → Cut p w ts q end
    → (c : List ℕ) × (w ≡ c ++ end) × (q ≡ p + length c) × (us : List Token) × Cut from c us (from + length c) [] × (bare_tokens us ≡ bare_tokens ts)
alone [] p w q end from h = (h.0, h.1, h.4, [], (h.0, sym (append-nil h.0), h.2, refl, refl), refl)
alone (t ∷ ts) p w q end from h =
    let f : ℕ = from + length h.0 in
    let g : ℕ = f + length h.1 in
    let i = alone ts t.span.to h.2 q end g h.8 in
    let c : List ℕ = h.0 ++ (h.1 ++ i.0) in
    let l : length c ≡ length h.0 + (length h.1 + length i.0) = let x = length-append h.0 (h.1 ++ i.0) in let y = length-append h.1 i.0 in omega (arith, x, y) in
    let k = token_less h.1 i.0 end t.kind (λ e. after_o ts t.span.to h.2 q end (i.1 ∙ ap (λ d. d ++ end) e) h.8) (subst (λ d. IsToken h.1 d t.kind) i.1 h.5) in
    let r = subst (λ n. Cut g i.0 i.3 n []) (omega (arith, l)) i.4 in (
      c,
      h.3 ∙ ap (λ x. h.0 ++ (h.1 ++ x)) i.1 ∙ ap (λ x. h.0 ++ x) (sym (append_assoc h.1 i.0 end)) ∙ sym (append_assoc h.0 (h.1 ++ i.0) end),
      let x = h.6 in let y = h.7 in let z = i.2 in omega (arith, x, y, z, l),
      token t.kind f g ∷ i.3,
      (h.0, h.1, i.0, refl, h.4, k, refl, refl, r),
      ap (λ us. record { kind = t.kind; span = nowhere } ∷ us) i.5,
    )

-- what is cut behind a token
behind_of : (ts vs : List Token) (t : Token) (p : ℕ) (w : List ℕ) (q : ℕ) (end : List ℕ) → Cut p w (ts ++ t ∷ vs) q end
    → (rest : List ℕ) × (c : List ℕ) × (w ≡ c ++ rest) × (t.span.to ≡ p + length c) × Cut t.span.to rest vs q end
behind_of [] vs t p w q end h =
    (h.2, h.0 ++ h.1, h.3 ∙ sym (append_assoc h.0 h.1 h.2), let x = h.6 in let y = h.7 in let z = length-append h.0 h.1 in omega (arith, x, y, z), h.8)
behind_of (u ∷ ts) vs t p w q end h =
    let i = behind_of ts vs t u.span.to h.2 q end h.8 in (
      i.0,
      h.0 ++ (h.1 ++ i.1),
      h.3 ∙ ap (λ x. h.0 ++ (h.1 ++ x)) i.2 ∙ ap (λ x. h.0 ++ x) (sym (append_assoc h.1 i.1 i.0)) ∙ sym (append_assoc h.0 (h.1 ++ i.1) i.0),
      let x = h.6 in let y = h.7 in let z = i.3 in let m = length-append h.0 (h.1 ++ i.1) in let n = length-append h.1 i.1 in omega (arith, x, y, z, m, n),
      i.4,
    )

-- and before one
before_of : (ts vs : List Token) (t : Token) (p : ℕ) (w : List ℕ) (q : ℕ) (end : List ℕ) → Cut p w (ts ++ t ∷ vs) q end → (rest : List ℕ) × Cut p w ts t.span.from rest
before_of [] vs t p w q end h = (h.1 ++ h.2, (h.0, h.3, h.4, (token_start h.1 h.2 t.kind h.5).0, h.6))
before_of (u ∷ ts) vs t p w q end h =
    let i = before_of ts vs t u.span.to h.2 q end h.8 in
    (i.0, (h.0, h.1, h.2, h.3, h.4, h.5, h.6, h.7, i.1))

pub slices : SlicesHaveTheirTokens
slices w before inner behind r a h =
    let b = behind_of before (inner ++ a ∷ behind) r 0 w (length w) [] h in
    let f = before_of inner behind a r.span.to b.0 (length w) [] b.4 in
    let x = alone inner r.span.to b.0 a.span.from f.0 0 f.1 in (
      x.0,
      record {
        front = b.1;
        back = f.0;
        whole = b.2 ∙ ap (λ d. b.1 ++ d) x.1;
        begins = let y = b.3 in omega (arith, y);
        ends = let y = b.3 in let z = x.2 in omega (arith, y, z);
      },
      x.3,
      subst (λ n. Cut 0 x.0 x.3 n []) (omega arith) x.4,
      x.5,
    )
