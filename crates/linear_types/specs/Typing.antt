-- The typing rules: the type of a term in a context, and how sensitive its value is to each name.
-- One constructor a rule. Each scalar is the rule's own. De is the sensitivities of a part e, without the names that the rule binds.
use Rattle.std.specs.Prelude.{◌≡◌, ℕ, true, List, [], ℤ}
use Rattle.fz_frac.specs.Distance.{Distance, Inf, ◌⊑◌, one, greater, quotient}
use Rattle.fz_ast.specs.Types.{Ty, NumT, TextT, UnitT, TensorT, WithT, SumT, ArrowT, BangT, BagT, BoolT, UnlimitedT, is_ground, is_flat}
use Rattle.fz_ast.specs.declared.span.Span.{Span}
use Rattle.fz_ast.specs.Terms.{Name, Term, at, VarE, NumE, TextE, UnitE, PairE, WithE, FstE, SndE, LetPairE}
use Rattle.fz_ast.specs.Terms.{InlE, InrE, CaseE, IfE, FunE, FnE, AppE, BangE, LetBangE, LetE, PlusE, MinusE}
use Rattle.fz_ast.specs.Terms.{TimesE, LeE, EqE, ClipE, LeastE, GreatestE, SizeE, SumE, UnionE, MapE, FilterE, SplitE}
use Rattle.fz_ast.specs.Limits.{IsNumber, IsText, IsBang}
pub use Rattle.term_meanings.specs.Scopes.{Context, Closed, Under, IsBound, here, there, IsType, AllTypes, size_of, widest_of}
use Rattle.term_meanings.specs.Sensitivities.{Sensitivities, first, rest, plus, join, scale, above_zero}

pub data Typing : Context → Term → Ty → Sensitivities → Type 0 where
  -- x has its type, at 1
  is_var : {Γ : Context} {s : Span} {x : Name} {A : Ty} {D : Sensitivities} → IsBound Γ x A D → Typing Γ (at s (VarE x)) A D
  -- a number
  is_num : {Γ : Context} {s : Span} {z : ℤ} → IsNumber z → Typing Γ (at s (NumE z)) NumT []
  -- a text
  is_text : {Γ : Context} {s : Span} {t : List ℕ} → IsText t → Typing Γ (at s (TextE t)) TextT []
  -- ()
  is_unit : {Γ : Context} {s : Span} → Typing Γ (at s UnitE) UnitT []
  -- (a, b) : A * B, at Da + Db
  is_pair : {Γ : Context} {s : Span} {a b : Term} {A B : Ty} {D E : Sensitivities} → Typing Γ a A D → Typing Γ b B E
      → Typing Γ (at s (PairE a b)) (TensorT A B) (plus D E)
  -- <a, b> : A & B, at max(Da, Db)
  is_with : {Γ : Context} {s : Span} {a b : Term} {A B : Ty} {D E : Sensitivities} → Typing Γ a A D → Typing Γ b B E
      → Typing Γ (at s (WithE a b)) (WithT A B) (join D E)
  -- fst e : A where e : A & B, at De
  is_fst : {Γ : Context} {s : Span} {e : Term} {A B : Ty} {D : Sensitivities} → Typing Γ e (WithT A B) D → Typing Γ (at s (FstE e)) A D
  -- snd e : B where e : A & B, at De
  is_snd : {Γ : Context} {s : Span} {e : Term} {A B : Ty} {D : Sensitivities} → Typing Γ e (WithT A B) D → Typing Γ (at s (SndE e)) B D
  -- let (x, y) = e in b where e : A * B, at Db + r De, r being the greater of x and y in Db
  is_let_pair : {Γ : Context} {s : Span} {x y : Name} {e b : Term} {A B C : Ty} {D E : Sensitivities} → Typing Γ e (TensorT A B) E
      → Typing (Under y B (Under x A Γ)) b C D
      → Typing Γ (at s (LetPairE x y e b)) C (plus (rest (rest D)) (scale (greater (first (rest D)) (first D)) E))
  -- inl[T] e : A + T, T and A ground, at De
  is_inl : {Γ : Context} {s u : Span} {e : Term} {A T : Ty} {D : Sensitivities} → Typing Γ e A D → IsType T → is_ground T ≡ true → is_ground A ≡ true
      → Typing Γ (at s (InlE u T e)) (SumT A T) D
  -- inr[T] e : T + A, T and A ground, at De
  is_inr : {Γ : Context} {s u : Span} {e : Term} {A T : Ty} {D : Sensitivities} → Typing Γ e A D → IsType T → is_ground T ≡ true → is_ground A ≡ true
      → Typing Γ (at s (InrE u T e)) (SumT T A) D
  -- case e of inl x => a | inr y => b where e : A + B, both branches of one ground type, at max(Da, Db) + r De,
  -- r being the greater of x in Da and y in Db, and 1 where that is 0
  is_case : {Γ : Context} {s : Span} {x y : Name} {e a b : Term} {A B C : Ty} {D E F : Sensitivities}
      → Typing Γ e (SumT A B) F → Typing (Under x A Γ) a C D → Typing (Under y B Γ) b C E → is_ground C ≡ true
      → Typing Γ (at s (CaseE e x a y b)) C (plus (join (rest D) (rest E)) (scale (above_zero (greater (first D) (first E))) F))
  -- if e then a else b where e : bool, both branches of one ground type, at max(Da, Db) + De
  is_if : {Γ : Context} {s : Span} {e a b : Term} {C : Ty} {D E F : Sensitivities} → Typing Γ e BoolT F → Typing Γ a C D → Typing Γ b C E
      → is_ground C ≡ true → Typing Γ (at s (IfE e a b)) C (plus (join D E) F)
  -- fun (x : T) => e : T -o A where x is at most 1 in De, at De
  is_fun : {Γ : Context} {s u : Span} {x : Name} {e : Term} {T A : Ty} {D : Sensitivities} → Typing (Under x T Γ) e A D → IsType T → first D ⊑ one
      → Typing Γ (at s (FunE x u T e)) (ArrowT T A) (rest D)
  -- fn (x : T) => e : T -> A, at De
  is_fn : {Γ : Context} {s u : Span} {x : Name} {e : Term} {T A : Ty} {D : Sensitivities} → Typing (Under x T Γ) e A D → IsType T
      → Typing Γ (at s (FnE x u T e)) (UnlimitedT T A) (rest D)
  -- f a : B where f : A -o B and a : A, at Df + Da
  is_app : {Γ : Context} {s : Span} {f a : Term} {A B : Ty} {D E : Sensitivities} → Typing Γ f (ArrowT A B) D → Typing Γ a A E
      → Typing Γ (at s (AppE f a)) B (plus D E)
  -- ![r] e : ![r] A, at r De
  is_bang : {Γ : Context} {s : Span} {r : Distance} {e : Term} {A : Ty} {D : Sensitivities} → Typing Γ e A D → IsBang r
      → Typing Γ (at s (BangE r e)) (BangT r A) (scale r D)
  -- let !x = e in b where e : ![r] A, at Db + k De, k being x in Db over r
  is_let_bang : {Γ : Context} {s : Span} {x : Name} {e b : Term} {r : Distance} {A B : Ty} {D E : Sensitivities} → Typing Γ e (BangT r A) E
      → Typing (Under x A Γ) b B D
      → Typing Γ (at s (LetBangE x e b)) B (plus (rest D) (scale (quotient (first D) r) E))
  -- let x = e in b, at Db + r De, r being x in Db
  is_let : {Γ : Context} {s : Span} {x : Name} {e b : Term} {A B : Ty} {D E : Sensitivities} → Typing Γ e A E → Typing (Under x A Γ) b B D
      → Typing Γ (at s (LetE x e b)) B (plus (rest D) (scale (first D) E))
  -- a + b : num, at Da + Db
  is_plus : {Γ : Context} {s : Span} {a b : Term} {D E : Sensitivities} → Typing Γ a NumT D → Typing Γ b NumT E → Typing Γ (at s (PlusE a b)) NumT (plus D E)
  -- a - b : num, at Da + Db
  is_minus : {Γ : Context} {s : Span} {a b : Term} {D E : Sensitivities} → Typing Γ a NumT D → Typing Γ b NumT E → Typing Γ (at s (MinusE a b)) NumT (plus D E)
  -- k * e : num, at |k| De
  is_times : {Γ : Context} {s : Span} {k : ℤ} {e : Term} {D : Sensitivities} → Typing Γ e NumT D → Typing Γ (at s (TimesE k e)) NumT (scale (size_of k) D)
  -- a <= b : bool, at inf Da + inf Db
  is_at_most : {Γ : Context} {s : Span} {a b : Term} {D E : Sensitivities} → Typing Γ a NumT D → Typing Γ b NumT E
      → Typing Γ (at s (LeE a b)) BoolT (plus (scale Inf D) (scale Inf E))
  -- a == b : bool of numbers, at inf Da + inf Db
  is_eq_num : {Γ : Context} {s : Span} {a b : Term} {D E : Sensitivities} → Typing Γ a NumT D → Typing Γ b NumT E
      → Typing Γ (at s (EqE a b)) BoolT (plus (scale Inf D) (scale Inf E))
  -- a == b : bool of texts, at Da + Db
  is_eq_text : {Γ : Context} {s : Span} {a b : Term} {D E : Sensitivities} → Typing Γ a TextT D → Typing Γ b TextT E
      → Typing Γ (at s (EqE a b)) BoolT (plus D E)
  -- clip[lo,hi] e : num, at De
  is_clip : {Γ : Context} {s : Span} {lo hi : ℤ} {e : Term} {D : Sensitivities} → Typing Γ e NumT D → IsNumber lo → IsNumber hi
      → Typing Γ (at s (ClipE lo hi e)) NumT D
  -- least e : num where e : num & num, at De
  is_least : {Γ : Context} {s : Span} {e : Term} {D : Sensitivities} → Typing Γ e (WithT NumT NumT) D → Typing Γ (at s (LeastE e)) NumT D
  -- greatest e : num where e : num & num, at De
  is_greatest : {Γ : Context} {s : Span} {e : Term} {D : Sensitivities} → Typing Γ e (WithT NumT NumT) D → Typing Γ (at s (GreatestE e)) NumT D
  -- size e : num where e : bag A, at De
  is_size : {Γ : Context} {s : Span} {e : Term} {A : Ty} {D : Sensitivities} → Typing Γ e (BagT A) D → Typing Γ (at s (SizeE e)) NumT D
  -- sum[lo,hi] e : num where e : bag num, at max(|lo|, |hi|) De
  is_sum : {Γ : Context} {s : Span} {lo hi : ℤ} {e : Term} {D : Sensitivities} → Typing Γ e (BagT NumT) D
      → Typing Γ (at s (SumE lo hi e)) NumT (scale (widest_of lo hi) D)
  -- union a b : bag A where both are, at Da + Db
  is_union : {Γ : Context} {s : Span} {a b : Term} {A : Ty} {D E : Sensitivities} → Typing Γ a (BagT A) D → Typing Γ b (BagT A) E
      → Typing Γ (at s (UnionE a b)) (BagT A) (plus D E)
  -- map f b : bag B where f : A -> B, B flat, and b : bag A, at inf Df + Db
  is_map : {Γ : Context} {s : Span} {f b : Term} {A B : Ty} {D E : Sensitivities} → Typing Γ f (UnlimitedT A B) D → is_flat B ≡ true
      → Typing Γ b (BagT A) E → Typing Γ (at s (MapE f b)) (BagT B) (plus (scale Inf D) E)
  -- filter f b : bag A where f : A -> bool and b : bag A, at inf Df + Db
  is_filter : {Γ : Context} {s : Span} {f b : Term} {A : Ty} {D E : Sensitivities} → Typing Γ f (UnlimitedT A BoolT) D → Typing Γ b (BagT A) E
      → Typing Γ (at s (FilterE f b)) (BagT A) (plus (scale Inf D) E)
  -- split f b : bag A * bag A where f : A -> bool and b : bag A, at inf Df + Db
  is_split : {Γ : Context} {s : Span} {f b : Term} {A : Ty} {D E : Sensitivities} → Typing Γ f (UnlimitedT A BoolT) D → Typing Γ b (BagT A) E
      → Typing Γ (at s (SplitE f b)) (TensorT (BagT A) (BagT A)) (plus (scale Inf D) E)
