-- Pieces that are still to be written.
use Rattle.std.proofs.Common.{◌≡◌, ℕ, ◌<◌, List, [], ◌∷◌, ◌++◌, length, refl, ap, sym, ◌∙◌, arith, append_assoc, length-append}
use Rattle.fz_ast.specs.Types.{Ty}
use Rattle.fz_ast.specs.TypeNodes.{type_at}
use Rattle.derivation_lines.specs.Pending.{AreHeldPieces, IsHeldPiece, Writes, pending, piece_text}
use Rattle.derivation_lines.specs.Written.{infix_text, type_text}
use Rattle.derivation_lines.specs.declared.write.Piece.{Piece}
use Rattle.derivation_lines.specs.declared.write.Piece.TheVariants.{Part, Close}

pub pending_append : (T : List Ty) (ps qs : List Piece) (rest : List ℕ) → pending T (ps ++ qs) rest ≡ pending T qs (pending T ps rest)
pending_append T [] qs rest = refl
pending_append T (p ∷ ps) qs rest = pending_append T ps qs (piece_text T p ++ rest)

pub held_append : (T : List Ty) (ps qs : List Piece) → AreHeldPieces T ps → AreHeldPieces T qs → AreHeldPieces T (ps ++ qs)
held_append T [] qs h k = k
held_append T (p ∷ ps) qs h k = (h.0, held_append T ps qs h.1 k)

-- a whole text is written
pub writes_all : (T : List Ty) (before text after : List ℕ) (left : List Piece) → 0 < length text → after ≡ before ++ text → AreHeldPieces T left → Writes T before text left after left
writes_all T before text after left l e h = record {
  same = rw e (append_assoc before text (pending T left []));
  longer = rw e (let x = length-append before text in omega (arith, x));
  held = h;
}

-- an infix type's parenthesis
pub writes_infix : (T : List Ty) (before after s : List ℕ) (left more : List Piece) (a b : ℕ) (sign : Piece) → piece_text T sign ≡ 32 ∷ (s ++ (32 ∷ [])) → IsHeldPiece T sign
    → after ≡ before ++ 40 ∷ [] → more ≡ left ++ Close ∷ Part b ∷ sign ∷ Part a ∷ [] → (a < length T) × (b < length T) → AreHeldPieces T left
    → Writes T before (infix_text s (type_text (type_at T a)) (type_text (type_at T b))) left after more
writes_infix T before after s left more a b sign e f g k l h =
    let A = type_text (type_at T a) in let B = type_text (type_at T b) in let rest = pending T left [] in
    let x : pending T more [] ≡ A ++ (piece_text T sign ++ (B ++ (41 ∷ rest))) = ap (λ z. pending T z []) k ∙ pending_append T left (Close ∷ Part b ∷ sign ∷ Part a ∷ []) [] in
    let y : (before ++ 40 ∷ []) ++ (A ++ ((32 ∷ (s ++ (32 ∷ []))) ++ (B ++ (41 ∷ rest)))) ≡ before ++ (infix_text s A B ++ rest) = simp append_assoc in
    record {
      same = rw (g, x, e) y;
      longer = rw g (let z = length-append before (40 ∷ []) in omega (arith, z));
      held = rw k (held_append T left (Close ∷ Part b ∷ sign ∷ Part a ∷ []) h (tt, (l.1, (f, (l.0, tt)))));
    }

-- what stands in front of a type's one part
pub writes_front : (T : List Ty) (before front after text : List ℕ) (left more : List Piece) (a : ℕ) → 0 < length front → after ≡ before ++ front → more ≡ left ++ Part a ∷ []
    → text ≡ front ++ type_text (type_at T a) → a < length T → AreHeldPieces T left → Writes T before text left after more
writes_front T before front after text left more a l e k t m h =
    let A = type_text (type_at T a) in let rest = pending T left [] in
    let x : pending T more [] ≡ A ++ rest = ap (λ z. pending T z []) k ∙ pending_append T left (Part a ∷ []) [] in
    let y : (before ++ front) ++ (A ++ rest) ≡ before ++ ((front ++ A) ++ rest) = simp append_assoc in
    record {
      same = rw (e, x, t) y;
      longer = rw e (let z = length-append before front in omega (arith, z));
      held = rw k (held_append T left (Part a ∷ []) h (m, tt));
    }

-- the last piece is taken off the pieces
pub held_last : (T : List Ty) (ps : List Piece) (p : Piece) → AreHeldPieces T (ps ++ p ∷ []) → AreHeldPieces T ps × IsHeldPiece T p
held_last T [] p h = (tt, h.0)
held_last T (q ∷ ps) p h = let r = held_last T ps p h.1 in ((h.0, r.0), r.1)

-- and written, or what it is made of is put there
pub writes_on : (T : List Ty) (before after whole : List ℕ) (left more all : List Piece) (p : Piece) → all ≡ left ++ p ∷ [] → before ++ pending T all [] ≡ whole → Writes T before (piece_text T p) left after more
    → (after ++ pending T more [] ≡ whole) × (length (pending T more []) < length (pending T all []))
writes_on T before after whole left more all p e h w =
    let x : pending T all [] ≡ piece_text T p ++ pending T left [] = ap (λ z. pending T z []) e ∙ pending_append T left (p ∷ []) [] in
    let y : after ++ pending T more [] ≡ before ++ pending T all [] = w.same ∙ ap (λ z. before ++ z) (sym x) in
    let l = length-append after (pending T more []) in let m = length-append before (pending T all []) in let n = ap length y in let o = w.longer in
    (y ∙ h, omega (arith, l, m, n, o))
