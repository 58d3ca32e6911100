-- A list of tokens is answered in one way.
use Rattle.std.proofs.Common.{◌≡◌, ℕ, zero, suc, ◌+◌, ◌<◌, ◌≤◌, List, [], ◌∷◌, ◌++◌, refl, arith, sym, ap, ◌∙◌, subst, inl, inr, take, drop, append_assoc}
use Rattle.std.proofs.lemmas.List.{take-append-drop}
use Rattle.std.proofs.lemmas.Bool.{cases_order}
use Rattle.fz_ast.specs.Terms.{Term}
use Rattle.fz_ast.specs.Depth.{depth}
use Rattle.fz_lexer.specs.declared.token.Token.{Token}
use Rattle.fz_parser.specs.declared.fault.ParseFault.{ParseFault}
use Rattle.fz_parser.specs.declared.fault.ParseFault.TheVariants.{Stuck, TooNested, NoMemory}
use Rattle.fz_parser.specs.Grammar.{IsTerm}
use Rattle.fz_parser.specs.Reading.{IsParsed, Begins, IsStuckAs, ExplainsParse}
use Rattle.fz_parser.proofs.Machine.{one_only}

pub refused : (ts : List Token) (fault : ParseFault) (e : Term) → ExplainsParse ts fault → IsParsed ts e → fault ≡ NoMemory
refused ts (Stuck k) e x h = absurd (x.none e h.term)
refused ts (TooNested d) e x h =
    let s : e ≡ x.1 = one_only ts e x.1 h.term x.2 in
    absurd (omega (arith, x.0, x.3, h.nesting, ap depth s))
refused ts NoMemory e x h = refl

take-take : (m n : ℕ) (ts : List Token) → m ≤ n → take m (take n ts) ≡ take m ts
take-take zero n ts l = refl
take-take (suc m) zero ts l = absurd (omega arith)
take-take (suc m) (suc n) [] l = refl
take-take (suc m) (suc n) (t ∷ ts) l = ap (λ w. t ∷ w) (take-take m n ts (omega arith))

module _ (A : Type 0) (Is : List Token → A → Type 0) where
  -- what begins one still does where it is cut off
  begins_less : (m n : ℕ) (ts : List Token) → m ≤ n → Begins A Is (take n ts) → Begins A Is (take m ts)
  begins_less m n ts l b =
      let e : take n ts ≡ take m ts ++ drop m (take n ts) = sym (take-append-drop m (take n ts)) ∙ ap (λ w. w ++ drop m (take n ts)) (take-take m n ts l) in
      let f : take n ts ++ b.0 ≡ take m ts ++ (drop m (take n ts) ++ b.0) = ap (λ w. w ++ b.0) e ∙ append_assoc (take m ts) (drop m (take n ts)) b.0 in
      (drop m (take n ts) ++ b.0, b.1, subst (λ w. Is w b.1) f b.2)

  stuck_less : (ts : List Token) (k j : ℕ) → IsStuckAs A Is ts k → IsStuckAs A Is ts j → k < j → ⊥
  stuck_less ts k j x y l = x.not_with (omega (arith, y.within)) (begins_less (k + 1) j ts (omega arith) y.before)

  pub stuck_once : (ts : List Token) (k j : ℕ) → IsStuckAs A Is ts k → IsStuckAs A Is ts j → j ≡ k
  stuck_once ts k j x y = elim (cases_order j k) [ inl e ↦ e | inr o ↦ elim o [ inl l ↦ absurd (stuck_less ts j k y x l) | inr l ↦ absurd (stuck_less ts k j x y l) ] ]

pub once : (ts : List Token) (fault other : ParseFault) → ExplainsParse ts fault → ExplainsParse ts other → (fault ≡ NoMemory → ⊥) → (other ≡ NoMemory → ⊥) → other ≡ fault
once ts (Stuck k) (Stuck j) x y m n = ap Stuck (stuck_once Term IsTerm ts k j x y)
once ts (Stuck k) (TooNested d) x y m n = absurd (x.none y.1 y.2)
once ts (TooNested d) (Stuck k) x y m n = absurd (y.none x.1 x.2)
once ts (TooNested d) (TooNested f) x y m n = ap TooNested (sym y.3 ∙ ap depth (one_only ts y.1 x.1 y.2 x.2) ∙ x.3)
once ts (Stuck k) NoMemory x y m n = absurd (n refl)
once ts (TooNested d) NoMemory x y m n = absurd (n refl)
once ts NoMemory other x y m n = absurd (m refl)
