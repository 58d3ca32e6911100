-- The same by the places of names, without lines: as the typing rules, but each node may have any sensitivities that are at least those of its rule.
use Rattle.std.specs.Prelude.{◌≡◌, ℕ, true, false, List, [], ◌∷◌, ℤ, unsigned_abs, max, bytes_eq, ⊤}
use Rattle.fz_frac.specs.Distance.{Distance, Fin, Inf, ◌⊑◌, none, one, greater, quotient}
use Rattle.fz_ast.specs.Types.{Ty, NumT, TextT, UnitT, TensorT, WithT, SumT, ArrowT, BangT, BagT, BoolT, UnlimitedT, is_ground, is_flat, WellFormed, formed}
use Rattle.fz_ast.specs.declared.span.Span.{Span}
use Rattle.fz_ast.specs.Terms.{Name, Term, at, VarE, NumE, TextE, UnitE, PairE, WithE, FstE, SndE, LetPairE}
use Rattle.fz_ast.specs.Terms.{InlE, InrE, CaseE, IfE, FunE, FnE, AppE, BangE, LetBangE, LetE, PlusE, MinusE}
use Rattle.fz_ast.specs.Terms.{TimesE, LeE, EqE, ClipE, LeastE, GreatestE, SizeE, SumE, UnionE, MapE, FilterE, SplitE}
use Rattle.fz_ast.specs.Limits.{IsNumber, IsText, IsBang, TypeLimits}
use Rattle.term_meanings.specs.Sensitivities.{Sensitivities, first, rest, plus, join, scale, above_zero}
use Rattle.derivation_rows.specs.Numbers.{Amounts, without}
use Rattle.term_meanings.specs.Scopes.{Closed, Context, IsBound, IsType, Under, size_of, widest_of}

-- the numbers of the names in scope by their places: a hidden name is at 0
abbrev pub by_place : Context → Amounts → Sensitivities
by_place Closed D = []
by_place (Under x A Γ) D = D x ∷ by_place Γ (without x D)

-- each is at most what stands in its place
abbrev pub Within : Sensitivities → Sensitivities → Type 0
Within [] E = ⊤
Within (t ∷ D) E = (t ⊑ first E) × Within D (rest E)

-- E has at least as much in each place as D
pub record Covers (D E : Sensitivities) : Type 0 where
  pub each : Within D E

pub data Derivable : Context → Term → Ty → Sensitivities → Type 0 where
  -- x has its type, at 1
  is_var : {R : Sensitivities} {Γ : Context} {s : Span} {x : Name} {A : Ty}
      → {D : Sensitivities} → IsBound Γ x A D → Covers D R
      → Derivable Γ (at s (VarE x)) A R
  -- a number
  is_num : {R : Sensitivities} {Γ : Context} {s : Span} {z : ℤ} → IsNumber z → Covers [] R → Derivable Γ (at s (NumE z)) NumT R
  -- a text
  is_text : {R : Sensitivities} {Γ : Context} {s : Span} {t : List ℕ} → IsText t → Covers [] R → Derivable Γ (at s (TextE t)) TextT R
  -- ()
  is_unit : {R : Sensitivities} {Γ : Context} {s : Span} → Covers [] R → Derivable Γ (at s UnitE) UnitT R
  -- (a, b) : A * B, at Da + Db
  is_pair : {R : Sensitivities} {Γ : Context} {s : Span} {a b : Term} {A B : Ty}
      → {D E : Sensitivities} → Derivable Γ a A D → Derivable Γ b B E → Covers (plus D E) R
      → Derivable Γ (at s (PairE a b)) (TensorT A B) R
  -- <a, b> : A & B, at max(Da, Db)
  is_with : {R : Sensitivities} {Γ : Context} {s : Span} {a b : Term} {A B : Ty}
      → {D E : Sensitivities} → Derivable Γ a A D → Derivable Γ b B E → Covers (join D E) R
      → Derivable Γ (at s (WithE a b)) (WithT A B) R
  -- fst e : A where e : A & B, at De
  is_fst : {R : Sensitivities} {Γ : Context} {s : Span} {e : Term} {A B : Ty}
      → {D : Sensitivities} → Derivable Γ e (WithT A B) D → Covers D R
      → Derivable Γ (at s (FstE e)) A R
  -- snd e : B where e : A & B, at De
  is_snd : {R : Sensitivities} {Γ : Context} {s : Span} {e : Term} {A B : Ty}
      → {D : Sensitivities} → Derivable Γ e (WithT A B) D → Covers D R
      → Derivable Γ (at s (SndE e)) B R
  -- let (x, y) = e in b where e : A * B, at Db + r De, r being the greater of x and y in Db
  is_let_pair : {R : Sensitivities} {Γ : Context} {s : Span} {x y : Name} {e b : Term} {A B C : Ty}
      → {D E : Sensitivities} → Derivable Γ e (TensorT A B) E → Derivable (Under y B (Under x A Γ)) b C D
      → Covers (plus (rest (rest D)) (scale (greater (first (rest D)) (first D)) E)) R
      → Derivable Γ (at s (LetPairE x y e b)) C R
  -- inl[T] e : A + T, T and A ground, at De
  is_inl : {R : Sensitivities} {Γ : Context} {s u : Span} {e : Term} {A T : Ty}
      → {D : Sensitivities} → Derivable Γ e A D → IsType T → is_ground T ≡ true → is_ground A ≡ true → Covers D R
      → Derivable Γ (at s (InlE u T e)) (SumT A T) R
  -- inr[T] e : T + A, T and A ground, at De
  is_inr : {R : Sensitivities} {Γ : Context} {s u : Span} {e : Term} {A T : Ty}
      → {D : Sensitivities} → Derivable Γ e A D → IsType T → is_ground T ≡ true → is_ground A ≡ true → Covers D R
      → Derivable Γ (at s (InrE u T e)) (SumT T A) R
  -- case e of inl x => a | inr y => b where e : A + B, both branches of one ground type, at max(Da, Db) + r De,
  -- r being the greater of x in Da and y in Db, and 1 where that is 0
  is_case : {R : Sensitivities} {Γ : Context} {s : Span} {x y : Name} {e a b : Term} {A B C : Ty}
      → {D E F : Sensitivities} → Derivable Γ e (SumT A B) F → Derivable (Under x A Γ) a C D → Derivable (Under y B Γ) b C E → is_ground C ≡ true
      → Covers (plus (join (rest D) (rest E)) (scale (above_zero (greater (first D) (first E))) F)) R
      → Derivable Γ (at s (CaseE e x a y b)) C R
  -- if e then a else b where e : bool, both branches of one ground type, at max(Da, Db) + De
  is_if : {R : Sensitivities} {Γ : Context} {s : Span} {e a b : Term} {C : Ty}
      → {D E F : Sensitivities} → Derivable Γ e BoolT F → Derivable Γ a C D → Derivable Γ b C E → is_ground C ≡ true → Covers (plus (join D E) F) R
      → Derivable Γ (at s (IfE e a b)) C R
  -- fun (x : T) => e : T -o A where x is at most 1 in De, at De
  is_fun : {R : Sensitivities} {Γ : Context} {s u : Span} {x : Name} {e : Term} {T A : Ty}
      → {D : Sensitivities} → Derivable (Under x T Γ) e A D → IsType T → first D ⊑ one → Covers (rest D) R
      → Derivable Γ (at s (FunE x u T e)) (ArrowT T A) R
  -- fn (x : T) => e : T -> A, at De
  is_fn : {R : Sensitivities} {Γ : Context} {s u : Span} {x : Name} {e : Term} {T A : Ty}
      → {D : Sensitivities} → Derivable (Under x T Γ) e A D → IsType T → Covers (rest D) R
      → Derivable Γ (at s (FnE x u T e)) (UnlimitedT T A) R
  -- f a : B where f : A -o B and a : A, at Df + Da
  is_app : {R : Sensitivities} {Γ : Context} {s : Span} {f a : Term} {A B : Ty}
      → {D E : Sensitivities} → Derivable Γ f (ArrowT A B) D → Derivable Γ a A E → Covers (plus D E) R
      → Derivable Γ (at s (AppE f a)) B R
  -- ![r] e : ![r] A, at r De
  is_bang : {R : Sensitivities} {Γ : Context} {s : Span} {r : Distance} {e : Term} {A : Ty}
      → {D : Sensitivities} → Derivable Γ e A D → IsBang r → Covers (scale r D) R
      → Derivable Γ (at s (BangE r e)) (BangT r A) R
  -- let !x = e in b where e : ![r] A, at Db + k De, k being x in Db over r
  is_let_bang : {R : Sensitivities} {Γ : Context} {s : Span} {x : Name} {e b : Term} {r : Distance} {A B : Ty}
      → {D E : Sensitivities} → Derivable Γ e (BangT r A) E → Derivable (Under x A Γ) b B D
      → Covers (plus (rest D) (scale (quotient (first D) r) E)) R
      → Derivable Γ (at s (LetBangE x e b)) B R
  -- let x = e in b, at Db + r De, r being x in Db
  is_let : {R : Sensitivities} {Γ : Context} {s : Span} {x : Name} {e b : Term} {A B : Ty}
      → {D E : Sensitivities} → Derivable Γ e A E → Derivable (Under x A Γ) b B D → Covers (plus (rest D) (scale (first D) E)) R
      → Derivable Γ (at s (LetE x e b)) B R
  -- a + b : num, at Da + Db
  is_plus : {R : Sensitivities} {Γ : Context} {s : Span} {a b : Term}
      → {D E : Sensitivities} → Derivable Γ a NumT D → Derivable Γ b NumT E → Covers (plus D E) R
      → Derivable Γ (at s (PlusE a b)) NumT R
  -- a - b : num, at Da + Db
  is_minus : {R : Sensitivities} {Γ : Context} {s : Span} {a b : Term}
      → {D E : Sensitivities} → Derivable Γ a NumT D → Derivable Γ b NumT E → Covers (plus D E) R
      → Derivable Γ (at s (MinusE a b)) NumT R
  -- k * e : num, at |k| De
  is_times : {R : Sensitivities} {Γ : Context} {s : Span} {k : ℤ} {e : Term}
      → {D : Sensitivities} → Derivable Γ e NumT D → Covers (scale (size_of k) D) R
      → Derivable Γ (at s (TimesE k e)) NumT R
  -- a <= b : bool, at inf Da + inf Db
  is_at_most : {R : Sensitivities} {Γ : Context} {s : Span} {a b : Term}
      → {D E : Sensitivities} → Derivable Γ a NumT D → Derivable Γ b NumT E → Covers (plus (scale Inf D) (scale Inf E)) R
      → Derivable Γ (at s (LeE a b)) BoolT R
  -- a == b : bool of numbers, at inf Da + inf Db
  is_eq_num : {R : Sensitivities} {Γ : Context} {s : Span} {a b : Term}
      → {D E : Sensitivities} → Derivable Γ a NumT D → Derivable Γ b NumT E → Covers (plus (scale Inf D) (scale Inf E)) R
      → Derivable Γ (at s (EqE a b)) BoolT R
  -- a == b : bool of texts, at Da + Db
  is_eq_text : {R : Sensitivities} {Γ : Context} {s : Span} {a b : Term}
      → {D E : Sensitivities} → Derivable Γ a TextT D → Derivable Γ b TextT E → Covers (plus D E) R
      → Derivable Γ (at s (EqE a b)) BoolT R
  -- clip[lo,hi] e : num, at De
  is_clip : {R : Sensitivities} {Γ : Context} {s : Span} {lo hi : ℤ} {e : Term}
      → {D : Sensitivities} → Derivable Γ e NumT D → IsNumber lo → IsNumber hi → Covers D R
      → Derivable Γ (at s (ClipE lo hi e)) NumT R
  -- least e : num where e : num & num, at De
  is_least : {R : Sensitivities} {Γ : Context} {s : Span} {e : Term}
      → {D : Sensitivities} → Derivable Γ e (WithT NumT NumT) D → Covers D R
      → Derivable Γ (at s (LeastE e)) NumT R
  -- greatest e : num where e : num & num, at De
  is_greatest : {R : Sensitivities} {Γ : Context} {s : Span} {e : Term}
      → {D : Sensitivities} → Derivable Γ e (WithT NumT NumT) D → Covers D R
      → Derivable Γ (at s (GreatestE e)) NumT R
  -- size e : num where e : bag A, at De
  is_size : {R : Sensitivities} {Γ : Context} {s : Span} {e : Term} {A : Ty}
      → {D : Sensitivities} → Derivable Γ e (BagT A) D → Covers D R
      → Derivable Γ (at s (SizeE e)) NumT R
  -- sum[lo,hi] e : num where e : bag num, at max(|lo|, |hi|) De
  is_sum : {R : Sensitivities} {Γ : Context} {s : Span} {lo hi : ℤ} {e : Term}
      → {D : Sensitivities} → Derivable Γ e (BagT NumT) D → Covers (scale (widest_of lo hi) D) R
      → Derivable Γ (at s (SumE lo hi e)) NumT R
  -- union a b : bag A where both are, at Da + Db
  is_union : {R : Sensitivities} {Γ : Context} {s : Span} {a b : Term} {A : Ty}
      → {D E : Sensitivities} → Derivable Γ a (BagT A) D → Derivable Γ b (BagT A) E → Covers (plus D E) R
      → Derivable Γ (at s (UnionE a b)) (BagT A) R
  -- map f b : bag B where f : A -> B, B flat, and b : bag A, at inf Df + Db
  is_map : {R : Sensitivities} {Γ : Context} {s : Span} {f b : Term} {A B : Ty}
      → {D E : Sensitivities} → Derivable Γ f (UnlimitedT A B) D → is_flat B ≡ true → Derivable Γ b (BagT A) E → Covers (plus (scale Inf D) E) R
      → Derivable Γ (at s (MapE f b)) (BagT B) R
  -- filter f b : bag A where f : A -> bool and b : bag A, at inf Df + Db
  is_filter : {R : Sensitivities} {Γ : Context} {s : Span} {f b : Term} {A : Ty}
      → {D E : Sensitivities} → Derivable Γ f (UnlimitedT A BoolT) D → Derivable Γ b (BagT A) E → Covers (plus (scale Inf D) E) R
      → Derivable Γ (at s (FilterE f b)) (BagT A) R
  -- split f b : bag A * bag A where f : A -> bool and b : bag A, at inf Df + Db
  is_split : {R : Sensitivities} {Γ : Context} {s : Span} {f b : Term} {A : Ty}
      → {D E : Sensitivities} → Derivable Γ f (UnlimitedT A BoolT) D → Derivable Γ b (BagT A) E → Covers (plus (scale Inf D) E) R
      → Derivable Γ (at s (SplitE f b)) (TensorT (BagT A) (BagT A)) R
