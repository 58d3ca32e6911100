-- Bytes are one list of lines, or have one least line at fault: a derivation is judged in one way.
use Rattle.std.proofs.Common.{◌≡◌, ◌≢◌, ◌⊎◌, ℕ, ◌<◌, ◌≤◌, List, [], ◌∷◌, ◌++◌, ap, arith, inl, inr, length, refl, subst, sym, true, ◌∙◌, not, ◌==◌}
use Rattle.std.proofs.lemmas.Bool.{cases_lt}
use Rattle.std.proofs.lemmas.List.{append-nil, length-append}
use Rattle.std.specs.List.{slice_split}
use Rattle.fz_ast.proofs.SameTypes.{both_true}
use Rattle.fz_ast.specs.Types.{Ty}
use Rattle.fz_lexer.proofs.Cuts.{only}
use Rattle.fz_lexer.specs.declared.token.Kind.TheVariants.{Name as NameKind}
use Rattle.fz_lexer.specs.declared.token.Token.{Token}
use Rattle.fz_parser.proofs.Types.{one_sensitivity, one_type}
use Rattle.fz_parser.specs.Grammar.{IsSensitivityOf, IsTypeOf}
use Rattle.derivation_lines.specs.Lines.{Line, Said}
use Rattle.derivation_lines.specs.Texts.{ArePieces, AreLines, AreSaidTexts, BeginWith, IsFaultyLine, IsLineText, IsSaidText, IsTypeText, NoLine, bar, lacks, line_feed}

type_once : (text : List ℕ) (A B : Ty) → IsTypeText text A → IsTypeText text B → A ≡ B
type_once text A B h k = one_type k.0 B A k.2 (subst (λ ts. IsTypeOf ts A) (sym (only text h.0 k.0 h.1 k.1)) h.2)

same_said : (s t : Said) → s.name ≡ t.name → s.amount ≡ t.amount → s ≡ t
same_said s t p q = λ i. record { name = p i; amount = q i }

said_once : (text : List ℕ) (s t : Said) → IsSaidText text s → IsSaidText text t → s ≡ t
said_once text s t h k =
    let e : k.0 ∷ k.1 ≡ h.0 ∷ h.1 = only text (h.0 ∷ h.1) (k.0 ∷ k.1) h.2 k.2 in
    let first : k.0 ≡ h.0 = cc e in let rest : k.1 ≡ h.1 = cc e in
    let named : NameKind s.name ≡ NameKind t.name = sym h.3 ∙ ap (λ (x : Token). x.kind) (sym first) ∙ k.3 in
    same_said s t (cc named) (one_sensitivity k.1 t.amount s.amount k.4 (subst (λ ts. IsSensitivityOf ts s.amount) (sym rest) h.4))

saids_once : (texts : List (List ℕ)) (ss us : List Said) → AreSaidTexts texts ss → AreSaidTexts texts us → ss ≡ us
saids_once [] [] [] h k = refl
saids_once [] [] (u ∷ us) h k = absurd k
saids_once [] (s ∷ ss) us h k = absurd h
saids_once (text ∷ texts) [] us h k = absurd h
saids_once (text ∷ texts) (s ∷ ss) [] h k = absurd k
saids_once (text ∷ texts) (s ∷ ss) (u ∷ us) h k = λ i. said_once text s u h.0 k.0 i ∷ saids_once texts ss us h.1 k.1 i

pub pieces_once : (texts : List (List ℕ)) (l m : Line) → ArePieces texts l → ArePieces texts m → l ≡ m
pieces_once [] l m h k = absurd h
pieces_once (text ∷ texts) l m h k = λ i. record { ty = type_once text l.ty m.ty h.0 k.0 i; says = saids_once texts l.says m.says h.1 k.1 i }

pub line_once : (text : List ℕ) (l m : Line) → IsLineText text l → IsLineText text m → l ≡ m
line_once text l m h k = pieces_once (slice_split (λ b. b == bar) text) l m h.pieces k.pieces

-- the first LF is at one place

pub is_not : (c : ℕ) → not (c == c) ≡ true → ⊥
is_not c h = let e : (c == c) ≡ true = grind arith in cc

pub first_once : (c : ℕ) (v w x y : List ℕ) → lacks c v ≡ true → lacks c w ≡ true → v ++ c ∷ x ≡ w ++ c ∷ y → (v ≡ w) × (x ≡ y)
first_once c [] [] x y h k e = (refl, cc e)
first_once c [] (b ∷ w) x y h k e =
    let i : c ≡ b = cc e in absurd (is_not c (subst (λ a. not (a == c) ≡ true) (sym i) (both_true (not (b == c)) (lacks c w) k).0))
first_once c (a ∷ v) [] x y h k e =
    let i : a ≡ c = cc e in absurd (is_not c (subst (λ b. not (b == c) ≡ true) i (both_true (not (a == c)) (lacks c v) h).0))
first_once c (a ∷ v) (b ∷ w) x y h k e =
    let i : a ≡ b = cc e in
    let r = first_once c v w x y (both_true (not (a == c)) (lacks c v) h).1 (both_true (not (b == c)) (lacks c w) k).1 (cc e) in
    ((λ t. i t ∷ r.0 t), r.1)

-- of two beginnings the longer goes on from the shorter one
pub longer : (bytes : List ℕ) (L M : List Line) (u v : List ℕ) → BeginWith bytes L u → BeginWith bytes M v → length L ≤ length M → (N : List Line) × (M ≡ L ++ N) × BeginWith u N v
longer bytes [] M u v h k n = (M, refl, subst (λ w. BeginWith w M v) h k)
longer bytes (l ∷ L) [] u v h k n = absurd (omega (arith, n))
longer bytes (l ∷ L) (m ∷ M) u v h k n =
    let f = first_once line_feed h.0 k.0 h.1 k.1 h.3 k.3 (sym h.2 ∙ k.2) in
    let i : m ≡ l = line_once k.0 m l k.4 (subst (λ w. IsLineText w l) f.0 h.4) in
    let r = longer h.1 L M u v h.5 (subst (λ w. BeginWith w M v) (sym f.1) k.5) (omega (arith, n)) in
    (r.0, (λ t. i t ∷ r.1 t), r.2)

ended : (N : List Line) (u v : List ℕ) → NoLine u → BeginWith u N v → N ≡ []
ended [] u v h k = refl
ended (n ∷ N) u v h k = absurd (h k.0 k.1 n k.2 k.3 k.4)

empty_has_none : (w x : List ℕ) (c : ℕ) → [] ≡ w ++ c ∷ x → ⊥
empty_has_none [] x c h = cc
empty_has_none (a ∷ w) x c h = cc

nothing_more : (N : List Line) (v : List ℕ) → BeginWith [] N v → N ≡ []
nothing_more [] v h = refl
nothing_more (n ∷ N) v h = absurd (empty_has_none h.0 h.1 line_feed h.2)

pub lines_once : (bytes : List ℕ) (L M : List Line) → AreLines bytes L → AreLines bytes M → L ≡ M
lines_once bytes L M h k = go (cases_lt (length L) (length M))
  where
    go : (length L < length M) ⊎ (length M ≤ length L) → L ≡ M
    go (inl n) = let r = longer bytes L M [] [] h k (omega (arith, n)) in sym (r.1 ∙ ap (λ N. L ++ N) (nothing_more r.0 [] r.2) ∙ append-nil L)
    go (inr n) = let r = longer bytes M L [] [] k h n in r.1 ∙ ap (λ N. M ++ N) (nothing_more r.0 [] r.2) ∙ append-nil M

-- the longer of two beginnings, the shorter of which ends at a fault, is as long
at_fault : (bytes : List ℕ) (n k : ℕ) (f : IsFaultyLine bytes n k) (M : List Line) (v : List ℕ) → BeginWith bytes M v → k ≤ length M → length M ≤ n → (length M ≡ k) × (BeginWith f.1 [] v)
at_fault bytes n k f M v h i j =
    let r = longer bytes f.0 M f.1 v f.2 h (omega (arith, i, f.3)) in go r.0 r.1 r.2 f.4
  where
    go : (N : List Line) → M ≡ f.0 ++ N → BeginWith f.1 N v → ((k < n) × NoLine f.1) ⊎ ((k ≡ n) × (f.1 ≢ [])) → (length M ≡ k) × BeginWith f.1 [] v
    go N e b (inl x) =
        let none = ended N f.1 v x.1 b in
        (ap length e ∙ ap (λ K. length (f.0 ++ K)) none ∙ ap length (append-nil f.0) ∙ f.3, subst (λ K. BeginWith f.1 K v) none b)
    go [] e b (inr x) = (ap length e ∙ ap length (append-nil f.0) ∙ f.3, b)
    go (m ∷ N) e b (inr x) = let l = ap length e ∙ length-append f.0 (m ∷ N) in absurd (omega (arith, l, f.3, x.0, j))

fault_within : (bytes : List ℕ) (n k : ℕ) (f : IsFaultyLine bytes n k) → k ≤ n
fault_within bytes n k f = go f.4
  where
    go : ((k < n) × NoLine f.1) ⊎ ((k ≡ n) × (f.1 ≢ [])) → k ≤ n
    go (inl x) = omega (arith, x.0)
    go (inr x) = omega (arith, x.0)

pub fault_once : (bytes : List ℕ) (n j k : ℕ) → IsFaultyLine bytes n j → IsFaultyLine bytes n k → j ≡ k
fault_once bytes n j k f g = go (cases_lt j k)
  where
    go : (j < k) ⊎ (k ≤ j) → j ≡ k
    go (inl i) = let l = fault_within bytes n k g in let r = at_fault bytes n j f g.0 g.1 g.2 (omega (arith, i, g.3)) (omega (arith, l, g.3)) in sym r.0 ∙ g.3
    go (inr i) = let l = fault_within bytes n j f in let r = at_fault bytes n k g f.0 f.1 f.2 (omega (arith, i, f.3)) (omega (arith, l, f.3)) in sym f.3 ∙ r.0

pub lines_or_fault : (bytes : List ℕ) (n k : ℕ) (L : List Line) → AreLines bytes L → length L ≡ n → IsFaultyLine bytes n k → ⊥
lines_or_fault bytes n k L h e f =
    let l = fault_within bytes n k f in
    let r = at_fault bytes n k f L [] h (omega (arith, l, e)) (omega (arith, e)) in go r.0 r.1 f.4
  where
    go : length L ≡ k → f.1 ≡ [] → ((k < n) × NoLine f.1) ⊎ ((k ≡ n) × (f.1 ≢ [])) → ⊥
    go i z (inl x) = omega (arith, i, e, x.0)
    go i z (inr x) = x.1 z

-- a judgement is one
