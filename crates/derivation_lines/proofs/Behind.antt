-- What the pieces behind a line's first bar say, one after another.
use Rattle.std.proofs.Common.{◌≡◌, ℕ, suc, ◌<◌, List, [], ◌∷◌, ◌++◌, length, refl, sym, ap, subst, ◌∙◌, append_assoc, append-nil, arith}
use Rattle.std.specs.Prelude.{Option, Some, None, IfSome}
use Rattle.std.specs.Borrow.{Bor}
use Rattle.fz_lexer.proofs.Cuts.{only}
use Rattle.derivation_lines.specs.Lines.{Said as IsSaid, names_said, AreInOrder}
use Rattle.derivation_lines.specs.Texts.{IsSaidText, AreSaidTexts}
use Rattle.derivation_lines.specs.Pieces.{AreSaid, NoneSaid, NoSaidText}
use Rattle.derivation_lines.proofs.Says.{in_order_front, in_order_same, none_in_order}

-- how many bytes are left behind a bar, and one for the bar
abbrev pub left_over : Option (Bor (List ℕ)) → ℕ
left_over None = 0
left_over (Some rest) = suc (length rest.now)

pub shorter : (rest : Option (Bor (List ℕ))) (m n : ℕ) → m < n → IfSome rest (λ r. length r.now < m) → IfSome rest (λ r. length r.now < n)
shorter None m n l h = tt
shorter (Some r) m n l h = omega arith

-- of all pieces those that aren't left say this, in order
pub record AreRead (all left : List (List ℕ)) (says : List IsSaid) : Type 0 where
  pub done : List (List ℕ)
  pub cut : all ≡ done ++ left
  pub are : AreSaidTexts done says
  pub order : AreInOrder says

pub none_read : (all : List (List ℕ)) → AreRead all all []
none_read all = record { done = []; cut = refl; are = tt; order = none_in_order }

pub all_read : (all : List (List ℕ)) (says : List IsSaid) → AreRead all [] says → AreSaid all says
all_read all says r = record { are = subst (λ ps. AreSaidTexts ps says) (sym (r.cut ∙ append-nil r.done)) r.are; order = r.order }

one_more : (ps : List (List ℕ)) (ss : List IsSaid) (p : List ℕ) (s : IsSaid) → AreSaidTexts ps ss → IsSaidText p s → AreSaidTexts (ps ++ p ∷ []) (ss ++ s ∷ [])
one_more [] [] p s h k = (k, tt)
one_more (q ∷ ps) (t ∷ ss) p s h k = (h.0, one_more ps ss p s h.1 k)
one_more [] (t ∷ ss) p s h k = absurd h
one_more (q ∷ ps) [] p s h k = absurd h

pub more_read : (all left rest : List (List ℕ)) (says : List IsSaid) (p : List ℕ) (s : IsSaid) → AreRead all left says → left ≡ p ∷ rest → IsSaidText p s → AreInOrder (says ++ s ∷ []) → AreRead all rest (says ++ s ∷ [])
more_read all left rest says p s r e is up = record {
  done = r.done ++ p ∷ [];
  cut = r.cut ∙ ap (λ ps. r.done ++ ps) e ∙ sym (append_assoc r.done (p ∷ []) rest);
  are = one_more r.done says p s r.are is;
  order = up;
}

-- where the pieces say something, those that were read say the first of it
record IsParted (done left : List (List ℕ)) (says : List IsSaid) : Type 0 where
  front : List IsSaid
  back : List IsSaid
  is : says ≡ front ++ back
  first : AreSaidTexts done front
  rest : AreSaidTexts left back

parted : (done left : List (List ℕ)) (says : List IsSaid) → AreSaidTexts (done ++ left) says → IsParted done left says
parted [] left says h = record { front = []; back = says; is = refl; first = tt; rest = h }
parted (p ∷ done) left [] h = absurd h
parted (p ∷ done) left (s ∷ says) h =
    let r = parted done left says h.1 in
    record { front = s ∷ r.front; back = r.back; is = ap (λ xs. s ∷ xs) r.is; first = (h.0, r.first); rest = r.rest }

-- a piece says something of one name
one_name : (p : List ℕ) (s t : IsSaid) → IsSaidText p s → IsSaidText p t → s.name ≡ t.name
one_name p s t h k = let same : h.0 ∷ h.1 ≡ k.0 ∷ k.1 = only p (k.0 ∷ k.1) (h.0 ∷ h.1) k.2 h.2 in let first : h.0 ≡ k.0 = cc in cc

same_names : (ps : List (List ℕ)) (ss ts : List IsSaid) → AreSaidTexts ps ss → AreSaidTexts ps ts → names_said ss ≡ names_said ts
same_names [] [] [] h k = refl
same_names (p ∷ ps) (s ∷ ss) (t ∷ ts) h k =
    let first = one_name p s t h.0 k.0 in
    let rest = same_names ps ss ts h.1 k.1 in
    ap (λ x. x ∷ names_said ss) first ∙ ap (λ xs. t.name ∷ xs) rest
same_names [] (s ∷ ss) ts h k = absurd h
same_names [] [] (t ∷ ts) h k = absurd k
same_names (p ∷ ps) [] ts h k = absurd h
same_names (p ∷ ps) (s ∷ ss) [] h k = absurd k

pub nothing_said_here : (all left rest : List (List ℕ)) (says : List IsSaid) (p : List ℕ) → AreRead all left says → left ≡ p ∷ rest → NoSaidText p → NoneSaid all
nothing_said_here all left rest says p r e never said is =
    let q = parted r.done (p ∷ rest) said (subst (λ ps. AreSaidTexts ps said) (r.cut ∙ ap (λ ps. r.done ++ ps) e) is.are) in
    go q.back q.rest
  where
    go : (back : List IsSaid) → AreSaidTexts (p ∷ rest) back → ⊥
    go [] h = h
    go (s ∷ back) h = never s h.0

pub not_in_order : (all left rest : List (List ℕ)) (says : List IsSaid) (p : List ℕ) (s : IsSaid) → AreRead all left says → left ≡ p ∷ rest → IsSaidText p s → (AreInOrder (says ++ s ∷ []) → ⊥) → NoneSaid all
not_in_order all left rest says p s r e here never said is =
    let q = parted r.done (p ∷ rest) said (subst (λ ps. AreSaidTexts ps said) (r.cut ∙ ap (λ ps. r.done ++ ps) e) is.are) in
    go q.front q.back q.first q.rest (subst AreInOrder q.is is.order)
  where
    go : (front back : List IsSaid) → AreSaidTexts r.done front → AreSaidTexts (p ∷ rest) back → AreInOrder (front ++ back) → ⊥
    go front [] f h up = h
    go front (t ∷ back) f h up =
        let up' : AreInOrder (front ++ t ∷ []) = in_order_front (front ++ t ∷ []) back (subst AreInOrder (sym (append_assoc front (t ∷ []) back)) up) in
        never (in_order_same (front ++ t ∷ []) (says ++ s ∷ []) (same_names (r.done ++ p ∷ []) (front ++ t ∷ []) (says ++ s ∷ []) (one_more r.done front p t f h.0) (one_more r.done says p s r.are here)) up')
