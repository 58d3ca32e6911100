-- The lines of a derivation, one after another.
use Rattle.std.proofs.Common.{◌≡◌, ◌≢◌, ℕ, suc, ◌<◌, true, not, List, [], ◌∷◌, ◌++◌, length, refl, sym, ap, subst, ◌∙◌, inl, inr}
use Rattle.std.specs.Prelude.{◌==◌}
use Rattle.std.proofs.lemmas.Bool.{and_parts, eq-eqb, not-true}
use Rattle.fz_ast.specs.Arena.{Grows}
use Rattle.fz_ast.specs.Types.{Ty}
use Rattle.fz_ast.proofs.Arenas.{grows_known, grows_at}
use Rattle.derivation_lines.specs.Lines.{Line}
use Rattle.derivation_lines.specs.Texts.{line_feed, lacks, IsLineText, BeginWith, NoLine, IsFaultyLine}
use Rattle.derivation_lines.specs.Held.{line_in, lines_in, AreHeld}
use Rattle.derivation_lines.specs.Pieces.{NoLineText}
use Rattle.derivation_lines.specs.declared.line.Line.{Line as Kept}
use Rattle.derivation_lines.proofs.Once.{first_once}

-- Lines keep what they say in an arena that grows.
line_grows : (T U : List Ty) (l : Kept) → Grows T U → l.ty < length T → line_in U l ≡ line_in T l
line_grows T U l g h = rw (grows_at T U l.ty h g) refl

pub lines_grow : (T U : List Ty) (ls : List Kept) → Grows T U → AreHeld T ls → lines_in U ls ≡ lines_in T ls
lines_grow T U [] g h = refl
lines_grow T U (l ∷ ls) g h = ap (λ k. k ∷ lines_in U ls) (line_grows T U l g h.0) ∙ ap (λ ks. line_in T l ∷ ks) (lines_grow T U ls g h.1)

pub held_grow : (T U : List Ty) (ls : List Kept) → Grows T U → AreHeld T ls → AreHeld U ls
held_grow T U [] g h = tt
held_grow T U (l ∷ ls) g h = (grows_known T U l.ty h.0 g, held_grow T U ls g h.1)

pub held_more : (T : List Ty) (ls : List Kept) (l : Kept) → AreHeld T ls → l.ty < length T → AreHeld T (ls ++ l ∷ [])
held_more T [] l h k = (k, tt)
held_more T (m ∷ ls) l h k = (h.0, held_more T ls l h.1 k)

lines_more : (T : List Ty) (ls : List Kept) (l : Kept) → lines_in T (ls ++ l ∷ []) ≡ lines_in T ls ++ line_in T l ∷ []
lines_more T [] l = refl
lines_more T (m ∷ ls) l = ap (λ ks. line_in T m ∷ ks) (lines_more T ls l)

length_lines : (T : List Ty) (ls : List Kept) → length (lines_in T ls) ≡ length ls
length_lines T [] = refl
length_lines T (l ∷ ls) = ap suc (length_lines T ls)

-- one more line begins the bytes
begin_more : (bytes : List ℕ) (ls : List Line) (rest text more : List ℕ) (l : Line) → BeginWith bytes ls rest → rest ≡ text ++ line_feed ∷ more → lacks line_feed text ≡ true → IsLineText text l → BeginWith bytes (ls ++ l ∷ []) more
begin_more bytes [] rest text more l h e k is = (text, more, h ∙ e, k, is, refl)
begin_more bytes (m ∷ ls) rest text more l h e k is = (h.0, h.1, h.2, h.3, h.4, begin_more h.1 ls rest text more l h.5 e k is)

-- what the loop keeps: T the arena's types
pub record AreBegun (bytes : List ℕ) (T : List Ty) (lines : List Kept) (rest : List ℕ) : Type 0 where
  pub held : AreHeld T lines
  pub begin : BeginWith bytes (lines_in T lines) rest

pub none_begun : (bytes : List ℕ) (T : List Ty) → AreBegun bytes T [] bytes
none_begun bytes T = record { held = tt; begin = refl }

pub more_begun : (bytes : List ℕ) (T U : List Ty) (lines : List Kept) (rest text more : List ℕ) (l : Kept) → AreBegun bytes T lines rest → Grows T U
    → rest ≡ text ++ line_feed ∷ more → lacks line_feed text ≡ true → l.ty < length U → IsLineText text (line_in U l) → AreBegun bytes U (lines ++ l ∷ []) more
more_begun bytes T U lines rest text more l b g e k h is = record {
  held = held_more U lines l (held_grow T U lines g b.held) h;
  begin = subst (λ ls. BeginWith bytes ls more) (sym (lines_more U lines l))
      (begin_more bytes (lines_in U lines) rest text more (line_in U l) (subst (λ ls. BeginWith bytes ls rest) (sym (lines_grow T U lines g b.held)) b.begin) e k is);
}

-- a text that lacks a byte isn't cut at it
not_cut : (c : ℕ) (text front back : List ℕ) → lacks c text ≡ true → text ≡ front ++ c ∷ back → ⊥
not_cut c text front back h e = go front (subst (λ w. lacks c w ≡ true) e h)
  where
    go : (front : List ℕ) → lacks c (front ++ c ∷ back) ≡ true → ⊥
    go [] h = let (here, there) = and_parts (not (c == c)) (lacks c back) h in absurd (cc (not-true (c == c) here, eq-eqb c c refl))
    go (b ∷ front) h = let (here, there) = and_parts (not (b == c)) (lacks c (front ++ c ∷ back)) h in go front there

-- where no line feed is left, no line is; nor where the first isn't of the form
pub no_line_ended : (rest : List ℕ) → lacks line_feed rest ≡ true → NoLine rest
no_line_ended rest h text more l e k is = not_cut line_feed rest text more h e

pub no_line_formed : (rest text after : List ℕ) → rest ≡ text ++ line_feed ∷ after → lacks line_feed text ≡ true → NoLineText text → NoLine rest
no_line_formed rest text after e h never other more l f k is =
    never l (subst (λ w. IsLineText w l) (first_once line_feed other text more after k h (sym f ∙ e)).0 is)

module _ (bytes : List ℕ) (T : List Ty) (lines : List Kept) (rest : List ℕ) (b : AreBegun bytes T lines rest) where
  pub no_line_at : (n k : ℕ) → length lines ≡ k → k < n → NoLine rest → IsFaultyLine bytes n k
  no_line_at n k e l never = (lines_in T lines, rest, b.begin, length_lines T lines ∙ e, inl (l, never))

  pub bytes_left : (n : ℕ) → length lines ≡ n → (rest ≢ []) → IsFaultyLine bytes n n
  bytes_left n e more = (lines_in T lines, rest, b.begin, length_lines T lines ∙ e, inr (refl, more))
