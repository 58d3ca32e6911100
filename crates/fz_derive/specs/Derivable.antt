-- What a term's lines may say: each node's line has the type that its rule makes of its parts' lines, and says of each name in scope
-- at least the rule's number, which is in range, and says no other name. A term's lines are its own and then its parts', in order.
use Rattle.std.specs.Prelude.{◌≡◌, true, false, List, [], ◌∷◌, ◌++◌, ℕ, ℤ, Option, Some, None, bytes_eq, ⊤}
use Rattle.fz_frac.specs.Distance.{Distance, Inf, ◌⊑◌, one, greater, quotient}
use Rattle.fz_frac.specs.Lowest.{is_out}
use Rattle.fz_ast.specs.Types.{Ty, NumT, TextT, UnitT, TensorT, WithT, SumT, ArrowT, BangT, BagT, BoolT, UnlimitedT, is_ground, is_flat, WellFormed, formed}
use Rattle.fz_ast.specs.declared.span.Span.{Span}
use Rattle.fz_ast.specs.Signature.{Signature}
use Rattle.fz_ast.specs.Terms.{Name, Term, at, VarE, NumE, TextE, UnitE, PairE, WithE, FstE, SndE, LetPairE}
use Rattle.fz_ast.specs.Terms.{InlE, InrE, CaseE, IfE, FunE, FnE, AppE, BangE, LetBangE, LetE, PlusE, MinusE}
use Rattle.fz_ast.specs.Terms.{TimesE, LeE, EqE, ClipE, LeastE, GreatestE, SizeE, SumE, UnionE, MapE, FilterE, SplitE}
use Rattle.term_meanings.specs.Scopes.{Context, Closed, Under, size_of, widest_of}
use Rattle.term_meanings.specs.Sensitivities.{above_zero}
use Rattle.fz_derive.specs.Judged.{names_of, is_bounded}
use Rattle.derivation_lines.specs.Lines.{Said, Line, amount_in}
use Rattle.derivation_rows.specs.Numbers.{Amounts, Numbers, says_at, without, greater_at, nothing, named, same_as, sums, products, bound_sums, endless_sums, endless_both}

-- x is in scope, and its innermost place has type A
pub data IsNamed : Context → Name → Ty → Type 0 where
  inmost : {x y : Name} {A : Ty} {Γ : Context} → bytes_eq y x ≡ true → IsNamed (Under y A Γ) x A
  outer : {x y : Name} {A B : Ty} {Γ : Context} → bytes_eq y x ≡ false → IsNamed Γ x A → IsNamed (Under y B Γ) x A

-- the number is in range, and at most d
abbrev pub IsAtMost : Option Distance → Distance → Type 0
IsAtMost None d = ⊥
IsAtMost (Some n) d = n ⊑ d

abbrev pub AreSaidNames : Context → List Said → Type 0
AreSaidNames Γ [] = ⊤
AreSaidNames Γ (s ∷ ss) = ((A : Ty) × IsNamed Γ s.name A) × AreSaidNames Γ ss

-- the line may stand where the rule makes the type A and the numbers n
pub record Allows (Γ : Context) (A : Ty) (n : Numbers) (l : Line) : Type 0 where
  pub type : l.ty ≡ A
  pub enough : (x : Name) (B : Ty) → IsNamed Γ x B → IsAtMost (n x) (amount_in l.says x)
  pub scope : AreSaidNames Γ l.says

pub data Derives : Context → Term → List Line → Type 0 where
  -- x has its type, at 1
  is_var : {Γ : Context} {s : Span} {x : Name} {A : Ty} {r : Line} → IsNamed Γ x A → Allows Γ A (named x) r → Derives Γ (at s (VarE x)) (r ∷ [])
  -- a number
  is_num : {Γ : Context} {s : Span} {z : ℤ} {r : Line} → Allows Γ NumT nothing r → Derives Γ (at s (NumE z)) (r ∷ [])
  -- a text
  is_text : {Γ : Context} {s : Span} {t : List ℕ} {r : Line} → Allows Γ TextT nothing r → Derives Γ (at s (TextE t)) (r ∷ [])
  -- ()
  is_unit : {Γ : Context} {s : Span} {r : Line} → Allows Γ UnitT nothing r → Derives Γ (at s UnitE) (r ∷ [])
  -- (a, b) : A * B, at Da + Db
  is_pair : {Γ : Context} {s : Span} {a b : Term} {l m : Line} {L M : List Line} {r : Line}
      → Derives Γ a (l ∷ L) → Derives Γ b (m ∷ M) → Allows Γ (TensorT l.ty m.ty) (sums (says_at l) (says_at m)) r
      → Derives Γ (at s (PairE a b)) (r ∷ (l ∷ L) ++ (m ∷ M))
  -- <a, b> : A & B, at max(Da, Db)
  is_with : {Γ : Context} {s : Span} {a b : Term} {l m : Line} {L M : List Line} {r : Line}
      → Derives Γ a (l ∷ L) → Derives Γ b (m ∷ M) → Allows Γ (WithT l.ty m.ty) (same_as (greater_at (says_at l) (says_at m))) r
      → Derives Γ (at s (WithE a b)) (r ∷ (l ∷ L) ++ (m ∷ M))
  -- fst e : A where e : A & B, at De
  is_fst : {Γ : Context} {s : Span} {e : Term} {A B : Ty} {l : Line} {L : List Line} {r : Line}
      → Derives Γ e (l ∷ L) → l.ty ≡ WithT A B → Allows Γ A (same_as (says_at l)) r
      → Derives Γ (at s (FstE e)) (r ∷ l ∷ L)
  -- snd e : B where e : A & B, at De
  is_snd : {Γ : Context} {s : Span} {e : Term} {A B : Ty} {l : Line} {L : List Line} {r : Line}
      → Derives Γ e (l ∷ L) → l.ty ≡ WithT A B → Allows Γ B (same_as (says_at l)) r
      → Derives Γ (at s (SndE e)) (r ∷ l ∷ L)
  -- let (x, y) = e in b where e : A * B, at Db + r De, r being the greater of x and y in Db
  is_let_pair : {Γ : Context} {s : Span} {x y : Name} {e b : Term} {A B : Ty} {l m : Line} {L M : List Line} {r : Line}
      → Derives Γ e (l ∷ L) → l.ty ≡ TensorT A B → Derives (Under y B (Under x A Γ)) b (m ∷ M)
      → Allows Γ m.ty (bound_sums (without x (without y (says_at m))) (greater (without y (says_at m) x) (says_at m y)) (says_at l)) r
      → Derives Γ (at s (LetPairE x y e b)) (r ∷ (l ∷ L) ++ (m ∷ M))
  -- inl[T] e : A + T, T well formed and ground, A ground, at De
  is_inl : {Γ : Context} {s u : Span} {e : Term} {T : Ty} {l : Line} {L : List Line} {r : Line}
      → Derives Γ e (l ∷ L) → formed T ≡ WellFormed → is_ground T ≡ true → is_ground l.ty ≡ true
      → Allows Γ (SumT l.ty T) (same_as (says_at l)) r
      → Derives Γ (at s (InlE u T e)) (r ∷ l ∷ L)
  -- inr[T] e : T + A, T well formed and ground, A ground, at De
  is_inr : {Γ : Context} {s u : Span} {e : Term} {T : Ty} {l : Line} {L : List Line} {r : Line}
      → Derives Γ e (l ∷ L) → formed T ≡ WellFormed → is_ground T ≡ true → is_ground l.ty ≡ true
      → Allows Γ (SumT T l.ty) (same_as (says_at l)) r
      → Derives Γ (at s (InrE u T e)) (r ∷ l ∷ L)
  -- case e of inl x => a | inr y => b where e : A + B, both branches of one ground type, at max(Da, Db) + r De,
  -- r being the greater of x in Da and y in Db, and 1 where that is 0
  is_case : {Γ : Context} {s : Span} {x y : Name} {e a b : Term} {A B : Ty} {l m n : Line} {L M N : List Line} {r : Line}
      → Derives Γ e (l ∷ L) → l.ty ≡ SumT A B → Derives (Under x A Γ) a (m ∷ M) → Derives (Under y B Γ) b (n ∷ N) → n.ty ≡ m.ty
      → is_ground m.ty ≡ true
      → Allows Γ m.ty (bound_sums (greater_at (without x (says_at m)) (without y (says_at n))) (above_zero (greater (says_at m x) (says_at n y))) (says_at l)) r
      → Derives Γ (at s (CaseE e x a y b)) (r ∷ (l ∷ L) ++ ((m ∷ M) ++ (n ∷ N)))
  -- if e then a else b where e : bool, both branches of one ground type, at max(Da, Db) + De
  is_if : {Γ : Context} {s : Span} {e a b : Term} {l m n : Line} {L M N : List Line} {r : Line}
      → Derives Γ e (l ∷ L) → l.ty ≡ BoolT → Derives Γ a (m ∷ M) → Derives Γ b (n ∷ N) → n.ty ≡ m.ty → is_ground m.ty ≡ true
      → Allows Γ m.ty (sums (greater_at (says_at m) (says_at n)) (says_at l)) r
      → Derives Γ (at s (IfE e a b)) (r ∷ (l ∷ L) ++ ((m ∷ M) ++ (n ∷ N)))
  -- fun (x : T) => e : T -o A, T well formed, where x is at most 1 in De, at De
  is_fun : {Γ : Context} {s : Span} {x : Name} {u : Span} {T : Ty} {e : Term} {l : Line} {L : List Line} {r : Line}
      → Derives (Under x T Γ) e (l ∷ L) → formed T ≡ WellFormed → says_at l x ⊑ one
      → Allows Γ (ArrowT T l.ty) (same_as (without x (says_at l))) r
      → Derives Γ (at s (FunE x u T e)) (r ∷ l ∷ L)
  -- fn (x : T) => e : T -> A, T well formed, at De
  is_fn : {Γ : Context} {s : Span} {x : Name} {u : Span} {T : Ty} {e : Term} {l : Line} {L : List Line} {r : Line}
      → Derives (Under x T Γ) e (l ∷ L) → formed T ≡ WellFormed → Allows Γ (UnlimitedT T l.ty) (same_as (without x (says_at l))) r
      → Derives Γ (at s (FnE x u T e)) (r ∷ l ∷ L)
  -- f a : B where f : A -o B and a : A, at Df + Da
  is_app : {Γ : Context} {s : Span} {f a : Term} {A B : Ty} {l m : Line} {L M : List Line} {r : Line}
      → Derives Γ f (l ∷ L) → l.ty ≡ ArrowT A B → Derives Γ a (m ∷ M) → m.ty ≡ A → Allows Γ B (sums (says_at l) (says_at m)) r
      → Derives Γ (at s (AppE f a)) (r ∷ (l ∷ L) ++ (m ∷ M))
  -- ![q] e : ![q] A, at q De
  is_bang : {Γ : Context} {s : Span} {q : Distance} {e : Term} {l : Line} {L : List Line} {r : Line}
      → Derives Γ e (l ∷ L) → Allows Γ (BangT q l.ty) (products q (says_at l)) r
      → Derives Γ (at s (BangE q e)) (r ∷ l ∷ L)
  -- let !x = e in b where e : ![q] A, at Db + k De, k being x in Db over q, in range
  is_let_bang : {Γ : Context} {s : Span} {x : Name} {e b : Term} {q : Distance} {A : Ty} {l m : Line} {L M : List Line} {r : Line}
      → Derives Γ e (l ∷ L) → l.ty ≡ BangT q A → Derives (Under x A Γ) b (m ∷ M) → is_out (quotient (says_at m x) q) ≡ false
      → Allows Γ m.ty (bound_sums (without x (says_at m)) (quotient (says_at m x) q) (says_at l)) r
      → Derives Γ (at s (LetBangE x e b)) (r ∷ (l ∷ L) ++ (m ∷ M))
  -- let x = e in b, at Db + k De, k being x in Db
  is_let : {Γ : Context} {s : Span} {x : Name} {e b : Term} {l m : Line} {L M : List Line} {r : Line}
      → Derives Γ e (l ∷ L) → Derives (Under x l.ty Γ) b (m ∷ M)
      → Allows Γ m.ty (bound_sums (without x (says_at m)) (says_at m x) (says_at l)) r
      → Derives Γ (at s (LetE x e b)) (r ∷ (l ∷ L) ++ (m ∷ M))
  -- a + b : num, at Da + Db
  is_plus : {Γ : Context} {s : Span} {a b : Term} {l m : Line} {L M : List Line} {r : Line}
      → Derives Γ a (l ∷ L) → l.ty ≡ NumT → Derives Γ b (m ∷ M) → m.ty ≡ NumT → Allows Γ NumT (sums (says_at l) (says_at m)) r
      → Derives Γ (at s (PlusE a b)) (r ∷ (l ∷ L) ++ (m ∷ M))
  -- a - b : num, at Da + Db
  is_minus : {Γ : Context} {s : Span} {a b : Term} {l m : Line} {L M : List Line} {r : Line}
      → Derives Γ a (l ∷ L) → l.ty ≡ NumT → Derives Γ b (m ∷ M) → m.ty ≡ NumT → Allows Γ NumT (sums (says_at l) (says_at m)) r
      → Derives Γ (at s (MinusE a b)) (r ∷ (l ∷ L) ++ (m ∷ M))
  -- k * e : num where |k| is in range, at |k| De
  is_times : {Γ : Context} {s : Span} {k : ℤ} {e : Term} {l : Line} {L : List Line} {r : Line}
      → Derives Γ e (l ∷ L) → l.ty ≡ NumT → is_out (size_of k) ≡ false → Allows Γ NumT (products (size_of k) (says_at l)) r
      → Derives Γ (at s (TimesE k e)) (r ∷ l ∷ L)
  -- a <= b : bool, at inf Da + inf Db
  is_at_most : {Γ : Context} {s : Span} {a b : Term} {l m : Line} {L M : List Line} {r : Line}
      → Derives Γ a (l ∷ L) → l.ty ≡ NumT → Derives Γ b (m ∷ M) → m.ty ≡ NumT → Allows Γ BoolT (endless_both (says_at l) (says_at m)) r
      → Derives Γ (at s (LeE a b)) (r ∷ (l ∷ L) ++ (m ∷ M))
  -- a == b : bool of numbers, at inf Da + inf Db
  is_eq_num : {Γ : Context} {s : Span} {a b : Term} {l m : Line} {L M : List Line} {r : Line}
      → Derives Γ a (l ∷ L) → l.ty ≡ NumT → Derives Γ b (m ∷ M) → m.ty ≡ NumT → Allows Γ BoolT (endless_both (says_at l) (says_at m)) r
      → Derives Γ (at s (EqE a b)) (r ∷ (l ∷ L) ++ (m ∷ M))
  -- a == b : bool of texts, at Da + Db
  is_eq_text : {Γ : Context} {s : Span} {a b : Term} {l m : Line} {L M : List Line} {r : Line}
      → Derives Γ a (l ∷ L) → l.ty ≡ TextT → Derives Γ b (m ∷ M) → m.ty ≡ TextT → Allows Γ BoolT (sums (says_at l) (says_at m)) r
      → Derives Γ (at s (EqE a b)) (r ∷ (l ∷ L) ++ (m ∷ M))
  -- clip[lo,hi] e : num, at De
  is_clip : {Γ : Context} {s : Span} {lo hi : ℤ} {e : Term} {l : Line} {L : List Line} {r : Line}
      → Derives Γ e (l ∷ L) → l.ty ≡ NumT → Allows Γ NumT (same_as (says_at l)) r
      → Derives Γ (at s (ClipE lo hi e)) (r ∷ l ∷ L)
  -- least e : num where e : num & num, at De
  is_least : {Γ : Context} {s : Span} {e : Term} {l : Line} {L : List Line} {r : Line}
      → Derives Γ e (l ∷ L) → l.ty ≡ WithT NumT NumT → Allows Γ NumT (same_as (says_at l)) r
      → Derives Γ (at s (LeastE e)) (r ∷ l ∷ L)
  -- greatest e : num where e : num & num, at De
  is_greatest : {Γ : Context} {s : Span} {e : Term} {l : Line} {L : List Line} {r : Line}
      → Derives Γ e (l ∷ L) → l.ty ≡ WithT NumT NumT → Allows Γ NumT (same_as (says_at l)) r
      → Derives Γ (at s (GreatestE e)) (r ∷ l ∷ L)
  -- size e : num where e : bag A, at De
  is_size : {Γ : Context} {s : Span} {e : Term} {A : Ty} {l : Line} {L : List Line} {r : Line}
      → Derives Γ e (l ∷ L) → l.ty ≡ BagT A → Allows Γ NumT (same_as (says_at l)) r
      → Derives Γ (at s (SizeE e)) (r ∷ l ∷ L)
  -- sum[lo,hi] e : num where e : bag num and max(|lo|, |hi|) is in range, at max(|lo|, |hi|) De
  is_sum : {Γ : Context} {s : Span} {lo hi : ℤ} {e : Term} {l : Line} {L : List Line} {r : Line}
      → Derives Γ e (l ∷ L) → l.ty ≡ BagT NumT → is_out (widest_of lo hi) ≡ false
      → Allows Γ NumT (products (widest_of lo hi) (says_at l)) r
      → Derives Γ (at s (SumE lo hi e)) (r ∷ l ∷ L)
  -- union a b : bag A where both are, at Da + Db
  is_union : {Γ : Context} {s : Span} {a b : Term} {A : Ty} {l m : Line} {L M : List Line} {r : Line}
      → Derives Γ a (l ∷ L) → l.ty ≡ BagT A → Derives Γ b (m ∷ M) → m.ty ≡ BagT A → Allows Γ (BagT A) (sums (says_at l) (says_at m)) r
      → Derives Γ (at s (UnionE a b)) (r ∷ (l ∷ L) ++ (m ∷ M))
  -- map f b : bag B where f : A -> B, B flat, and b : bag A, at inf Df + Db
  is_map : {Γ : Context} {s : Span} {f b : Term} {A B : Ty} {l m : Line} {L M : List Line} {r : Line}
      → Derives Γ f (l ∷ L) → l.ty ≡ UnlimitedT A B → is_flat B ≡ true → Derives Γ b (m ∷ M) → m.ty ≡ BagT A
      → Allows Γ (BagT B) (endless_sums (says_at l) (says_at m)) r
      → Derives Γ (at s (MapE f b)) (r ∷ (l ∷ L) ++ (m ∷ M))
  -- filter f b : bag A where f : A -> bool and b : bag A, at inf Df + Db
  is_filter : {Γ : Context} {s : Span} {f b : Term} {A : Ty} {l m : Line} {L M : List Line} {r : Line}
      → Derives Γ f (l ∷ L) → l.ty ≡ UnlimitedT A BoolT → Derives Γ b (m ∷ M) → m.ty ≡ BagT A
      → Allows Γ (BagT A) (endless_sums (says_at l) (says_at m)) r
      → Derives Γ (at s (FilterE f b)) (r ∷ (l ∷ L) ++ (m ∷ M))
  -- split f b : bag A * bag A where f : A -> bool and b : bag A, at inf Df + Db
  is_split : {Γ : Context} {s : Span} {f b : Term} {A : Ty} {l m : Line} {L M : List Line} {r : Line}
      → Derives Γ f (l ∷ L) → l.ty ≡ UnlimitedT A BoolT → Derives Γ b (m ∷ M) → m.ty ≡ BagT A
      → Allows Γ (TensorT (BagT A) (BagT A)) (endless_sums (says_at l) (says_at m)) r
      → Derives Γ (at s (SplitE f b)) (r ∷ (l ∷ L) ++ (m ∷ M))

-- the lines are a derivation of a program over the tables: a number, finite in each table
pub record IsDerivable (ts : Signature) (e : Term) (lines : List Line) : Type 0 where
  pub own : Line
  pub below : List Line
  pub are : lines ≡ own ∷ below
  pub derives : Derives (names_of ts) e lines
  pub bounded : is_bounded own ≡ true
