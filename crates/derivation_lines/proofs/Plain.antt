-- No bar and no LF stands inside what is written of a type, a name or an amount.
use Rattle.std.proofs.Common.{◌≡◌, ℕ, ◌<◌, ◌^◌, List, [], ◌∷◌, ◌++◌, Bool, true, false, refl, arith, subst, cond, inl, inr}
use Rattle.std.specs.Prelude.{◌&&◌, not, codes, decimal, nat_eq}
use Rattle.std.specs.List.{All}
use Rattle.std.proofs.lemmas.List.Elements.{All-cons}
use Rattle.std.proofs.lemmas.Bool.{and_parts, and_from, cases_Bool, eqb-true}
use Rattle.fz_frac.specs.Distance.{Distance, Fin, Inf}
use Rattle.fz_ast.specs.Types.{Ty, NumT, TextT, UnitT, TensorT, WithT, SumT, ArrowT, BangT, BagT}
use Rattle.fz_ast.specs.Limits.{IsBang, TypeLimits}
use Rattle.fz_lexer.specs.Bytes.{every_byte, is_digit, is_letter, is_name_byte}
use Rattle.derivation_lines.specs.Written.{type_text, amount_text, infix_text}
use Rattle.derivation_lines.proofs.Digits.{digits}

-- neither a bar nor LF
abbrev pub plain : ℕ → Bool
plain b = not (nat_eq b 124) && not (nat_eq b 10)

pub every_append : (f : ℕ → Bool) (a b : List ℕ) → every_byte f a ≡ true → every_byte f b ≡ true → every_byte f (a ++ b) ≡ true
every_append f [] b h k = k
every_append f (x ∷ a) b h k = let p = and_parts (f x) (every_byte f a) h in and_from (f x) (every_byte f (a ++ b)) p.0 (every_append f a b p.1 k)

pub every_of : (f g : ℕ → Bool) → ((b : ℕ) → f b ≡ true → g b ≡ true) → (a : List ℕ) → every_byte f a ≡ true → every_byte g a ≡ true
every_of f g h [] k = refl
every_of f g h (x ∷ a) k = let p = and_parts (f x) (every_byte f a) k in and_from (g x) (every_byte g a) (h x p.0) (every_of f g h a p.1)

other : (f : ℕ → Bool) (c b : ℕ) → f c ≡ false → f b ≡ true → not (nat_eq b c) ≡ true
other f c b n h = elim (cases_Bool (nat_eq b c)) [
  | inl e ↦ let k : f c ≡ true = subst (λ x. f x ≡ true) (eqb-true b c e) h in absurd (cc (n, k))
  | inr e ↦ rw e refl
]

pub name_plain : (b : ℕ) → is_name_byte b ≡ true → plain b ≡ true
unfolding is_name_byte is_letter is_digit
name_plain b h = and_from _ _ (other is_name_byte 124 b refl h) (other is_name_byte 10 b refl h)

digit_plain : (b : ℕ) → is_digit b ≡ true → plain b ≡ true
unfolding is_digit
digit_plain b h = and_from _ _ (other is_digit 124 b refl h) (other is_digit 10 b refl h)

number_plain : (n : ℕ) → n < 2 ^ 64 → every_byte plain (decimal n) ≡ true
number_plain n l = every_of is_digit plain digit_plain (decimal n) (digits n l).every

fraction_plain : (p q : ℕ) (b : Bool) → p < 2 ^ 64 → q < 2 ^ 64 → every_byte plain (cond b (decimal p) (decimal p ++ (47 ∷ decimal q))) ≡ true
fraction_plain p q true l m = number_plain p l
fraction_plain p q false l m = every_append plain (decimal p) (47 ∷ decimal q) (number_plain p l) (number_plain q m)

pub amount_plain : (d : Distance) → IsBang d → every_byte plain (amount_text d) ≡ true
amount_plain (Fin p q) l = fraction_plain p q (nat_eq q 1) (let x = l.1 in omega (arith, x)) (let x = l.3 in omega (arith, x))
amount_plain Inf l = refl

infix_plain : (s a b : List ℕ) → every_byte plain s ≡ true → every_byte plain a ≡ true → every_byte plain b ≡ true → every_byte plain (infix_text s a b) ≡ true
infix_plain s a b h f g =
    every_append plain a (32 ∷ (s ++ (32 ∷ (b ++ (41 ∷ []))))) f (every_append plain s (32 ∷ (b ++ (41 ∷ []))) h (every_append plain b (41 ∷ []) g refl))

pub type_plain : (A : Ty) → TypeLimits A → every_byte plain (type_text A) ≡ true
type_plain NumT l = refl
type_plain TextT l = refl
type_plain UnitT l = refl
type_plain (TensorT A B) l = infix_plain (codes "*") (type_text A) (type_text B) refl (type_plain A l.0) (type_plain B l.1)
type_plain (WithT A B) l = infix_plain (codes "&") (type_text A) (type_text B) refl (type_plain A l.0) (type_plain B l.1)
type_plain (SumT A B) l = infix_plain (codes "+") (type_text A) (type_text B) refl (type_plain A l.0) (type_plain B l.1)
type_plain (ArrowT A B) l = infix_plain (codes "-o") (type_text A) (type_text B) refl (type_plain A l.0) (type_plain B l.1)
type_plain (BangT r A) l = every_append plain (amount_text r) (codes "] " ++ type_text A) (amount_plain r l.0) (type_plain A l.1)
type_plain (BagT A) l = type_plain A l

-- so none is a bar, and none is LF
pub no_bar : (a : List ℕ) → every_byte plain a ≡ true → All (λ b. nat_eq b 124 ≡ false) a
no_bar [] h = λ k d l. absurd (omega (arith, l))
no_bar (x ∷ a) h =
    let p = and_parts (plain x) (every_byte plain a) h in
    All-cons (λ b. nat_eq b 124 ≡ false) x a (not_false (nat_eq x 124) (and_parts _ _ p.0).0) (no_bar a p.1)
  where
    not_false : (b : Bool) → not b ≡ true → b ≡ false
    not_false true e = cc e
    not_false false e = refl

pub no_line_feed : (a : List ℕ) → every_byte plain a ≡ true → every_byte (λ b. not (nat_eq b 10)) a ≡ true
no_line_feed a h = every_of plain (λ b. not (nat_eq b 10)) (λ b p. (and_parts (not (nat_eq b 124)) (not (nat_eq b 10)) p).1) a h
