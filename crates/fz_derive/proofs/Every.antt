-- All bytes are judged: each text is a line or none is it.
use Rattle.std.proofs.Common.{◌≡◌, ◌≢◌, ◌⊎◌, ℕ, suc, zero, ◌+◌, ◌<◌, Bool, List, [], ◌∷◌, ◌++◌, ap, arith, false, inl, inr, length, refl, subst, sym, true, ◌∙◌, not, ◌==◌}
use Rattle.std.specs.Cmp.Lexicographic.{slice_cmp}
use Rattle.std.specs.declared.cmp.Ordering.{Ordering}
use Rattle.std.specs.declared.cmp.Ordering.TheVariants.{Equal, Greater, Less}
use Rattle.std.specs.List.{AllByRecursion, slice_split}
use Rattle.std.specs.List.Sorted.{IsStrictlySortedBy}
use Rattle.std.specs.Ordering.{nat_cmp}
use Rattle.std.specs.Prelude.{None, Option, Some}
use Rattle.fz_frac.specs.Distance.{Distance}
use Rattle.fz_ast.proofs.SameTypes.{and_true, both_true}
use Rattle.fz_ast.specs.Signature.{Signature}
use Rattle.fz_ast.specs.Terms.{Name, Term}
use Rattle.fz_ast.specs.Types.{Ty}
use Rattle.fz_lexer.proofs.Cuts.{line_refused, only}
use Rattle.fz_lexer.proofs.Lexing.{line_or_faulty}
use Rattle.fz_lexer.specs.Tokens.{AreTokens, IsLineOrFaulty}
use Rattle.fz_lexer.specs.declared.token.Kind.{Kind}
use Rattle.fz_lexer.specs.declared.token.Kind.TheVariants.{Name as NameKind, Number, Punctuation, Reserved, Text}
use Rattle.fz_lexer.specs.declared.token.Token.{Token}
use Rattle.fz_parser.proofs.Parsing.{sensitivity_or_stuck, type_or_stuck}
use Rattle.fz_parser.specs.Grammar.{IsSensitivityOf, IsTypeOf}
use Rattle.fz_parser.specs.Reading.{IsSensitivityOrStuck, IsTypeOrStuck}
use Rattle.derivation_lines.proofs.Once.{first_once, is_not, pieces_once}
use Rattle.fz_derive.specs.Judged.{IsJudged, IsMisjudged, fault_of, greatest_said}
use Rattle.derivation_lines.specs.Lines.{AreInOrder, Line, Said, line_at, names_said}
use Rattle.derivation_rows.specs.Nodes.{nodes_of}
use Rattle.derivation_lines.specs.Texts.{ArePieces, AreLines, AreSaidTexts, BeginWith, IsFaultyLine, IsLineText, IsSaidText, IsTypeText, NoLine, bar, lacks, line_feed}

-- there is one, or there is none
abbrev Either : {A : Type 0} → (A → Type 0) → Type 0
Either {A} P = ((a : A) × P a) ⊎ ((a : A) → P a → ⊥)

-- the text's tokens, or it has none
abbrev HasTokens : List ℕ → Type 0
HasTokens text = ((ts : List Token) × AreTokens text ts) ⊎ ((ts : List Token) → AreTokens text ts → ⊥)

tokens_or_none : (text : List ℕ) → HasTokens text
tokens_or_none text = go (line_or_faulty text)
  where
    go : IsLineOrFaulty text → HasTokens text
    go (inl x) = inl x
    go (inr f) = inr (λ ts h. f.1 (line_refused text f.0 ts f.2 h))

type_or_none : (text : List ℕ) → Either (IsTypeText text)
type_or_none text = by (tokens_or_none text)
  where
    read : (ts : List Token) → AreTokens text ts → IsTypeOrStuck ts → Either (IsTypeText text)
    read ts h (inl x) = inl (x.0, (ts, h, x.1))
    read ts h (inr x) = inr (λ A p. x.1.none A (subst (λ us. IsTypeOf us A) (only text ts p.0 h p.1) p.2))

    by : HasTokens text → Either (IsTypeText text)
    by (inl x) = read x.0 x.1 (type_or_stuck x.0)
    by (inr x) = inr (λ A p. x p.0 p.1)

said_or_none : (text : List ℕ) → Either (IsSaidText text)
said_or_none text = by (tokens_or_none text)
  where
    read : (x : Name) (t : Token) (ts : List Token) → AreTokens text (t ∷ ts) → t.kind ≡ NameKind x → IsSensitivityOrStuck ts → Either (IsSaidText text)
    read x t ts h k (inl d) = inl (record { name = x; amount = d.0 }, (t, ts, h, k, d.1))
    read x t ts h k (inr d) = inr (λ s p. let e : p.0 ∷ p.1 ≡ t ∷ ts = only text (t ∷ ts) (p.0 ∷ p.1) h p.2 in
        let rest : p.1 ≡ ts = cc e in d.1.none s.amount (subst (λ us. IsSensitivityOf us s.amount) rest p.4))

    other : (t : Token) (ts : List Token) → AreTokens text (t ∷ ts) → ((x : Name) → t.kind ≡ NameKind x → ⊥) → Either (IsSaidText text)
    other t ts h not_so = inr (λ s p. let e : p.0 ∷ p.1 ≡ t ∷ ts = only text (t ∷ ts) (p.0 ∷ p.1) h p.2 in
        let first : p.0 ≡ t = cc e in not_so s.name (ap (λ (u : Token). u.kind) (sym first) ∙ p.3))

    named : (t : Token) (ts : List Token) → AreTokens text (t ∷ ts) → (k : Kind) → t.kind ≡ k → Either (IsSaidText text)
    named t ts h (NameKind x) e = read x t ts h e (sensitivity_or_stuck ts)
    named t ts h (Number m) e = other t ts h (λ x i. let j = sym e ∙ i in cc j)
    named t ts h (Text m) e = other t ts h (λ x i. let j = sym e ∙ i in cc j)
    named t ts h (Reserved m) e = other t ts h (λ x i. let j = sym e ∙ i in cc j)
    named t ts h (Punctuation m) e = other t ts h (λ x i. let j = sym e ∙ i in cc j)

    first : (ts : List Token) → AreTokens text ts → Either (IsSaidText text)
    first [] h = inr (λ s p. let e : p.0 ∷ p.1 ≡ [] = only text [] (p.0 ∷ p.1) h p.2 in cc e)
    first (t ∷ ts) h = named t ts h t.kind refl

    by : HasTokens text → Either (IsSaidText text)
    by (inl x) = first x.0 x.1
    by (inr x) = inr (λ s p. x (p.0 ∷ p.1) p.2)

saids_or_none : (texts : List (List ℕ)) → Either (AreSaidTexts texts)
saids_or_none [] = inl ([], tt)
saids_or_none (text ∷ texts) = go (said_or_none text) (saids_or_none texts)
  where
    go : Either (IsSaidText text) → Either (AreSaidTexts texts) → Either (AreSaidTexts (text ∷ texts))
    go (inl x) (inl y) = inl (x.0 ∷ y.0, (x.1, y.1))
    go (inl x) (inr not_so) = inr (λ ss. by ss)
      where
        by : (ss : List Said) → AreSaidTexts (text ∷ texts) ss → ⊥
        by [] h = h
        by (s ∷ ss) h = not_so ss h.1
    go (inr not_so) y = inr (λ ss. by ss)
      where
        by : (ss : List Said) → AreSaidTexts (text ∷ texts) ss → ⊥
        by [] h = h
        by (s ∷ ss) h = not_so s h.0

-- names are in order, or they aren't
below_or_not : (x : Name) (ys : List Name) → AllByRecursion (λ y. slice_cmp nat_cmp x y ≡ Less) ys ⊎ (AllByRecursion (λ y. slice_cmp nat_cmp x y ≡ Less) ys → ⊥)
below_or_not x [] = inl tt
below_or_not x (y ∷ ys) = go (slice_cmp nat_cmp x y) refl (below_or_not x ys)
  where
    go : (o : Ordering) → slice_cmp nat_cmp x y ≡ o → AllByRecursion (λ y. slice_cmp nat_cmp x y ≡ Less) ys ⊎ (AllByRecursion (λ y. slice_cmp nat_cmp x y ≡ Less) ys → ⊥)
        → AllByRecursion (λ y. slice_cmp nat_cmp x y ≡ Less) (y ∷ ys) ⊎ (AllByRecursion (λ y. slice_cmp nat_cmp x y ≡ Less) (y ∷ ys) → ⊥)
    go Less e (inl h) = inl (e, h)
    go Less e (inr not_so) = inr (λ h. not_so h.1)
    go Equal e h = inr (λ k. let i = sym e ∙ k.0 in cc i)
    go Greater e h = inr (λ k. let i = sym e ∙ k.0 in cc i)

order_or_not : (xs : List Name) → IsStrictlySortedBy (slice_cmp nat_cmp) xs ⊎ (IsStrictlySortedBy (slice_cmp nat_cmp) xs → ⊥)
unfolding IsStrictlySortedBy
order_or_not [] = inl tt
order_or_not (x ∷ xs) = go (below_or_not x xs) (order_or_not xs)
  where
    go : AllByRecursion (λ y. slice_cmp nat_cmp x y ≡ Less) xs ⊎ (AllByRecursion (λ y. slice_cmp nat_cmp x y ≡ Less) xs → ⊥)
        → IsStrictlySortedBy (slice_cmp nat_cmp) xs ⊎ (IsStrictlySortedBy (slice_cmp nat_cmp) xs → ⊥)
        → IsStrictlySortedBy (slice_cmp nat_cmp) (x ∷ xs) ⊎ (IsStrictlySortedBy (slice_cmp nat_cmp) (x ∷ xs) → ⊥)
    go (inl h) (inl k) = inl (h, k)
    go (inl h) (inr not_so) = inr (λ k. not_so k.1)
    go (inr not_so) k = inr (λ k. not_so k.0)

pieces_or_none : (texts : List (List ℕ)) → Either (ArePieces texts)
pieces_or_none [] = inr (λ l h. h)
pieces_or_none (text ∷ texts) = go (type_or_none text) (saids_or_none texts)
  where
    go : Either (IsTypeText text) → Either (AreSaidTexts texts) → Either (ArePieces (text ∷ texts))
    go (inl x) (inl y) = inl (record { ty = x.0; says = y.0 }, (x.1, y.1))
    go (inl x) (inr not_so) = inr (λ l h. not_so l.says h.1)
    go (inr not_so) y = inr (λ l h. not_so l.ty h.0)

line_or_none : (text : List ℕ) → Either (IsLineText text)
line_or_none text = go (pieces_or_none (slice_split (λ b. b == bar) text))
  where
    by : (l : Line) → ArePieces (slice_split (λ b. b == bar) text) l → AreInOrder l.says ⊎ (AreInOrder l.says → ⊥) → Either (IsLineText text)
    by l h (inl k) = inl (l, record { pieces = h; order = k })
    by l h (inr not_so) = inr (λ m k. not_so (subst (λ (m : Line). AreInOrder m.says) (sym (pieces_once (slice_split (λ b. b == bar) text) l m h k.pieces)) k.order))

    go : Either (ArePieces (slice_split (λ b. b == bar) text)) → Either (IsLineText text)
    go (inl x) = by x.0 x.1 (order_or_not (names_said x.0.says))
    go (inr not_so) = inr (λ l h. not_so l h.pieces)

-- lines end at each LF

is_or_not : (c b : ℕ) → ((b ≡ c) ⊎ (not (b == c) ≡ true))
is_or_not c b = by (b == c) refl
  where
    by : (t : Bool) → (b == c) ≡ t → (b ≡ c) ⊎ (not (b == c) ≡ true)
    by true e = inl (grind (arith, e))
    by false e = inr (ap not e)

abbrev HasFirst : ℕ → List ℕ → Type 0
HasFirst c bytes = ((text : List ℕ) × (more : List ℕ) × (bytes ≡ text ++ c ∷ more) × (lacks c text ≡ true)) ⊎ (lacks c bytes ≡ true)

first_or_none : (c : ℕ) (bytes : List ℕ) → HasFirst c bytes
first_or_none c [] = inr refl
first_or_none c (b ∷ w) = go (is_or_not c b) (first_or_none c w)
  where
    go : (b ≡ c) ⊎ (not (b == c) ≡ true) → HasFirst c w → HasFirst c (b ∷ w)
    go (inl e) h = inl ([], w, (λ i. e i ∷ w), refl)
    go (inr n) (inl x) = inl (b ∷ x.0, x.1, (λ i. b ∷ x.2 i), and_true (not (b == c)) (lacks c x.0) n x.3)
    go (inr n) (inr h) = inr (and_true (not (b == c)) (lacks c w) n h)

-- what has no LF doesn't begin with an ended line
lacking : (c : ℕ) (text more : List ℕ) → lacks c (text ++ c ∷ more) ≡ true → ⊥
lacking c [] more h = is_not c (both_true (not (c == c)) (lacks c more) h).0
lacking c (b ∷ text) more h = lacking c text more (both_true (not (b == c)) (lacks c (text ++ c ∷ more)) h).1

abbrev AreOrFaulty : List ℕ → ℕ → Type 0
AreOrFaulty bytes n = ((L : List Line) × AreLines bytes L × (length L ≡ n)) ⊎ ((k : ℕ) × IsFaultyLine bytes n k)

none_at_first : (bytes : List ℕ) (n : ℕ) → NoLine bytes → IsFaultyLine bytes (suc n) 0
none_at_first bytes n h = ([], bytes, refl, refl, inl (omega arith, h))

pub lines_or_faulty : (n : ℕ) (bytes : List ℕ) → AreOrFaulty bytes n
lines_or_faulty zero [] = inl ([], refl, refl)
lines_or_faulty zero (b ∷ w) = inr (0, ([], b ∷ w, refl, refl, inr (refl, λ e. cc e)))
lines_or_faulty (suc n) bytes = go (first_or_none line_feed bytes) (λ more. lines_or_faulty n more)
  where
    after : (text more : List ℕ) → bytes ≡ text ++ line_feed ∷ more → lacks line_feed text ≡ true → (l : Line) → IsLineText text l → AreOrFaulty more n → AreOrFaulty bytes (suc n)
    after text more e h l k (inl x) = inl (l ∷ x.0, (text, more, e, h, k, x.1), ap suc x.2)
    after text more e h l k (inr x) = inr (suc x.0, (l ∷ x.1.0, x.1.1, (text, more, e, h, k, x.1.2), ap suc x.1.3, more_of x.1.4))
      where
        more_of : ((x.0 < n) × NoLine x.1.1) ⊎ ((x.0 ≡ n) × (x.1.1 ≢ [])) → ((suc x.0 < suc n) × NoLine x.1.1) ⊎ ((suc x.0 ≡ suc n) × (x.1.1 ≢ []))
        more_of (inl y) = inl (omega (arith, y.0), y.1)
        more_of (inr y) = inr (ap suc y.0, y.1)

    by : (text more : List ℕ) → bytes ≡ text ++ line_feed ∷ more → lacks line_feed text ≡ true → Either (IsLineText text) → AreOrFaulty more n → AreOrFaulty bytes (suc n)
    by text more e h (inl x) r = after text more e h x.0 x.1 r
    by text more e h (inr not_so) r = inr (0, none_at_first bytes n (λ v w l i k p. not_so l (subst (λ u. IsLineText u l) (first_once line_feed v text w more k h (sym i ∙ e)).0 p)))

    go : HasFirst line_feed bytes → ((more : List ℕ) → AreOrFaulty more n) → AreOrFaulty bytes (suc n)
    go (inl x) f = by x.0 x.1 x.2 x.3 (line_or_none x.0) (f x.1)
    go (inr h) f = inr (0, none_at_first bytes n (λ v w l i k p. lacking line_feed v w (subst (λ u. lacks line_feed u ≡ true) i h)))

pub all_bytes : (ts : Signature) (e : Term) (bytes : List ℕ) → ((r : Distance) × IsJudged ts e bytes r) ⊎ ((k : ℕ) × IsMisjudged ts e bytes k)
all_bytes ts e bytes = go (lines_or_faulty (nodes_of e) bytes)
  where
    by : (L : List Line) → AreLines bytes L → length L ≡ nodes_of e → (o : Option ℕ) → fault_of ts e L ≡ o → ((r : Distance) × IsJudged ts e bytes r) ⊎ ((k : ℕ) × IsMisjudged ts e bytes k)
    by L h n None i = inl (greatest_said (line_at L 0).says, record { lines = L; are = h; all = n; right = i; greatest = refl })
    by L h n (Some k) i = inr (k, inr (record { lines = L; are = h; all = n; wrong = i }))

    go : AreOrFaulty bytes (nodes_of e) → ((r : Distance) × IsJudged ts e bytes r) ⊎ ((k : ℕ) × IsMisjudged ts e bytes k)
    go (inl x) = by x.0 x.1 x.2 (fault_of ts e x.0) refl
    go (inr x) = inr (x.0, inl x.1)
