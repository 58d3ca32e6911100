-- What a form has by the rules for each row, from what its parts mean.
use Rattle.std.proofs.Common.{◌≡◌, ℕ, zero, suc, ◌<◌, ℤ, refl, ap, sym, subst, ◌∙◌, List, [], ◌∷◌, inl, inr}
use Rattle.std.specs.Prelude.{Option, None, Some, Result, Ok, Err, IfOk, IfSome, bytes_eq, cond, false, get_or, true, Bool}
use Rattle.fz_frac.specs.Distance.{Distance}
use Rattle.fz_ast.specs.Names.{name_of}
use Rattle.fz_ast.specs.Terms.{Name, AppE, BangE, ClipE, IfE, LetE, LetPairE, NumE, Term, TimesE, VarE, at}
use Rattle.fz_ast.specs.TermNodes.{binary, form_of, term_of, unary}
use Rattle.fz_ast.specs.Types.{Ty}
use Rattle.fz_ast.specs.declared.span.Span.{Span}
use Rattle.fz_ast.specs.declared.name.Name.{Name as Written}
use Rattle.fz_ast.specs.declared.term.Arrow.{Arrow}
use Rattle.fz_ast.specs.declared.term.Arrow.TheVariants.{Fun, Fn}
use Rattle.fz_ast.specs.declared.term.Binary.{Binary}
use Rattle.fz_ast.specs.declared.term.Binary.TheVariants.{Pair, With, App, Plus, Minus, AtMost, Equal, Union, Map, Filter, Split}
use Rattle.fz_ast.specs.declared.term.Form.{Form}
use Rattle.fz_ast.specs.declared.term.Form.TheVariants.{Inject, Lambda}
use Rattle.fz_ast.specs.declared.term.Side.{Side}
use Rattle.fz_ast.specs.declared.term.Side.TheVariants.{Inl, Inr}
use Rattle.fz_ast.specs.declared.term.Unary.{Unary}
use Rattle.fz_ast.specs.declared.term.Unary.TheVariants.{Fst, Snd, Least, Greatest, Size}
use Rattle.metric_law.specs.Means.{Applies, MeansIn, Rules, apply, apply_fn, find}
use Rattle.metric_values.specs.Values.{BangV, Bind, Env, FnV, FunV, InlV, InrV, NumV, PairV, TextV, UnitV, Value, truth}
use Rattle.run_values.specs.Parts.{banged_in, first_in, second_in}
use Rattle.flow_values.specs.Founds.{IsFoundFunction}
use Rattle.flow_values.specs.Views.{function_of}
use Rattle.flow_values.specs.declared.value.Closure.{Closure}
use Rattle.row_kernels.specs.declared.frames.Frame.{Frame}
use Rattle.row_kernels.specs.declared.lanes.Lanes.{Lanes}
use Rattle.row_kernels.specs.declared.lanes.Lanes.TheVariants.{Same}
use Rattle.row_kernels.specs.Calls.{IsArgument, IsCalled, IsUnitTerm}
use Rattle.row_kernels.specs.Lanes.{AllLong, AreChosen, AreGiven, AreHalves, AreLiterals, AreMade, AreMeant, AreNamed, AreSigned, AreWorded, IsFree, IsSameAt, IsSign, IsWord, clip_value, env_at, lane_at, sign_value, times_value, word_value}

-- what holds of an answer, by what held before
pub by_answer : {X E : Type 0} (r : Result (Option X) E) (P Q : X → Type 0) → IfOk r (λ o. IfSome o P) → ((l : X) → P l → Q l) → IfOk r (λ o. IfSome o Q)
by_answer (Ok (Some l)) P Q h f = f l h
by_answer (Ok None) P Q h f = tt
by_answer (Err e) P Q h f = tt

pub by_ok : {X E : Type 0} (r : Result X E) (P Q : X → Type 0) → IfOk r P → ((x : X) → P x → Q x) → IfOk r Q
by_ok (Ok x) P Q h f = f x h
by_ok (Err e) P Q h f = tt

abbrev value_or : Option Value → Value
value_or None = UnitV
value_or (Some v) = v

module _ (fs : List Frame) (γ : Env) (n : ℕ) where
  -- of a node, by its form
  pub form_meant : (t : Term) (ty : ℕ → Ty) (part : ℕ → Term) (s : Span) (f g : Form) → t ≡ term_of ty part s f → f ≡ g → (l : Lanes) → AreGiven fs γ (form_of ty part g) n l → AreMeant fs γ t n l
  form_meant t ty part s f g e h l k = subst (λ (t : Term). AreMeant fs γ t n l) (sym (e ∙ ap (term_of ty part s) h)) (record { long = k.long; each = step })
    where
      step : (j : ℕ) → j < n → (m : ℕ) (v : Value) → MeansIn m (env_at fs γ j) (term_of ty part s g) v → v ≡ lane_at l j
      step j lt zero v r = absurd r
      step j lt (suc m) v r = k.each j lt m v r

  pub var_given : (x : Name) (l : Lanes) → AreNamed fs γ x n l → AreGiven fs γ (VarE x) n l
  var_given x l k = record { long = k.long; each = λ j lt m v r. ap value_or (sym r ∙ k.each j) }

  pub num_given : (z : ℤ) → AreGiven fs γ (NumE z) n (Same z)
  num_given z = record { long = tt; each = λ j lt m v r. r }

  pub word_given : (o : Unary) (e : Term) (a l : Lanes) → AreMeant fs γ e n a → AreWorded o n a l → AreGiven fs γ (unary o e) n l
  word_given o e a l h k = record { long = k.long; each = λ j lt m v r. step o k.word j lt m v r ∙ sym (k.each j lt) }
    where
      step : (o : Unary) → IsWord o → (j : ℕ) → j < n → (m : ℕ) (v : Value) → Rules (MeansIn m) (env_at fs γ j) (unary o e) v → v ≡ word_value o (lane_at a j)
      step Fst w j lt m v r = ap first_in (h.each j lt m (PairV v r.0) r.1)
      step Snd w j lt m v r = ap second_in (h.each j lt m (PairV r.0 v) r.1)
      step Least w j lt m v r = r.3 ∙ ap (word_value Least) (h.each j lt m (PairV (NumV r.0) (NumV r.1)) r.2)
      step Greatest w j lt m v r = r.3 ∙ ap (word_value Greatest) (h.each j lt m (PairV (NumV r.0) (NumV r.1)) r.2)
      step Size w j lt m v r = absurd w

  pub times_given : (k : ℤ) (e : Term) (a l : Lanes) → AreMeant fs γ e n a → AreMade (times_value k) n a l → AreGiven fs γ (TimesE k e) n l
  times_given k e a l h g = record { long = g.long; each = λ j lt m v r. r.2 ∙ ap (times_value k) (h.each j lt m (NumV r.0) r.1) ∙ sym (g.each j lt) }

  pub clip_given : (lo hi : ℤ) (e : Term) (a l : Lanes) → AreMeant fs γ e n a → AreMade (clip_value lo hi) n a l → AreGiven fs γ (ClipE lo hi e) n l
  clip_given lo hi e a l h g = record { long = g.long; each = λ j lt m v r. r.2 ∙ ap (clip_value lo hi) (h.each j lt m (NumV r.0) r.1) ∙ sym (g.each j lt) }

  pub sign_given : (o : Binary) (a b : Term) (la lb l : Lanes) → AreMeant fs γ a n la → AreMeant fs γ b n lb → AreSigned o n la lb l → AreGiven fs γ (binary o a b) n l
  sign_given o a b la lb l ha hb k = record { long = k.long; each = λ j lt m v r. step o k.sign j lt m v r ∙ sym (k.each j lt) }
    where
      both : (o : Binary) (j : ℕ) → j < n → (m : ℕ) (u w : Value) → MeansIn m (env_at fs γ j) a u → MeansIn m (env_at fs γ j) b w → sign_value o u w ≡ sign_value o (lane_at la j) (lane_at lb j)
      both o j lt m u w p q = λ i. sign_value o (ha.each j lt m u p i) (hb.each j lt m w q i)

      step : (o : Binary) → IsSign o → (j : ℕ) → j < n → (m : ℕ) (v : Value) → Rules (MeansIn m) (env_at fs γ j) (binary o a b) v → v ≡ sign_value o (lane_at la j) (lane_at lb j)
      step Plus g j lt m v r = r.4 ∙ both Plus j lt m (NumV r.0) (NumV r.1) r.2 r.3
      step Minus g j lt m v r = r.4 ∙ both Minus j lt m (NumV r.0) (NumV r.1) r.2 r.3
      step AtMost g j lt m v r = r.4 ∙ both AtMost j lt m (NumV r.0) (NumV r.1) r.2 r.3
      step Equal g j lt m v (inl r) = r.4 ∙ both Equal j lt m (NumV r.0) (NumV r.1) r.2 r.3
      step Equal g j lt m v (inr r) = r.4 ∙ both Equal j lt m (TextV r.0) (TextV r.1) r.2 r.3
      step Pair g j lt m v r = r.4 ∙ both Pair j lt m r.0 r.1 r.2 r.3
      step With g j lt m v r = r.4 ∙ both With j lt m r.0 r.1 r.2 r.3
      step App g j lt m v r = absurd g
      step Union g j lt m v r = absurd g
      step Map g j lt m v r = absurd g
      step Filter g j lt m v r = absurd g
      step Split g j lt m v r = absurd g

  pub let_given : (x : Written) (e b : Term) (a l : Lanes) → AreMeant fs γ e n a → (inner : List Frame) → inner ≡ record { name = x; lanes = a } ∷ fs → AreMeant inner γ b n l → AreGiven fs γ (LetE (name_of x) e b) n l
  let_given x e b a l he inner hi hb = record {
    long = hb.long;
    each = λ j lt m v r.
        let q : Bind (name_of x) r.0 (env_at fs γ j) ≡ env_at inner γ j = ap (λ u. Bind (name_of x) u (env_at fs γ j)) (he.each j lt m r.0 r.1) ∙ ap (λ (fs : List Frame). env_at fs γ j) (sym hi) in
        hb.each j lt m v (subst (λ (δ : Env). MeansIn m δ b v) q r.2);
  }

  pub pair_given : (x y : Written) (e b : Term) (p a c l : Lanes) → AreMeant fs γ e n p → AreHalves n p a c → (inner : List Frame) → inner ≡ record { name = y; lanes = c } ∷ record { name = x; lanes = a } ∷ fs → AreMeant inner γ b n l → AreGiven fs γ (LetPairE (name_of x) (name_of y) e b) n l
  pair_given x y e b p a c l he hh inner hi hb = record {
    long = hb.long;
    each = λ j lt m v r.
        let h : PairV r.0 r.1 ≡ PairV (lane_at a j) (lane_at c j) = he.each j lt m (PairV r.0 r.1) r.2 ∙ hh.each j lt in
        let q : Bind (name_of y) r.1 (Bind (name_of x) r.0 (env_at fs γ j)) ≡ env_at inner γ j = (λ i. Bind (name_of y) (second_in (h i)) (Bind (name_of x) (first_in (h i)) (env_at fs γ j))) ∙ ap (λ (fs : List Frame). env_at fs γ j) (sym hi) in
        hb.each j lt m v (subst (λ (δ : Env). MeansIn m δ b v) q r.3);
  }

abbrev holds : Value → Bool
holds (InlV u) = true
holds v = false

holds_truth : (b : Bool) → holds (truth b) ≡ b
holds_truth true = refl
holds_truth false = refl

module _ (fs : List Frame) (γ : Env) (n : ℕ) where
  pub if_given : (e a b : Term) (le : Lanes) (bs : List Bool) → ((j : ℕ) → lane_at le j ≡ truth (get_or bs j false)) → (la lb l : Lanes) → AreMeant fs γ e n le → AreMeant fs γ a n la → AreMeant fs γ b n lb → AreChosen bs n la lb l → AreGiven fs γ (IfE e a b) n l
  if_given e a b le bs q la lb l he ha hb k = record { long = k.long; each = λ j lt m v r. step j lt m v r ∙ sym (k.each j lt) }
    where
      which : (j : ℕ) → j < n → (m : ℕ) (c : Value) → MeansIn m (env_at fs γ j) e c → holds c ≡ get_or bs j false
      which j lt m c r = ap holds (he.each j lt m c r ∙ q j) ∙ holds_truth (get_or bs j false)

      step : (j : ℕ) → j < n → (m : ℕ) (v : Value) → Rules (MeansIn m) (env_at fs γ j) (IfE e a b) v → v ≡ cond (get_or bs j false) (lane_at la j) (lane_at lb j)
      step j lt m v (inl r) = ha.each j lt m v r.1 ∙ ap (λ c. cond c (lane_at la j) (lane_at lb j)) (which j lt m (InlV UnitV) r.0)
      step j lt m v (inr r) = hb.each j lt m v r.1 ∙ ap (λ c. cond c (lane_at la j) (lane_at lb j)) (which j lt m (InrV UnitV) r.0)

  pub literal_given : (o : Side) (ty : ℕ → Ty) (part : ℕ → Term) (u : Span) (t e : ℕ) → IsUnitTerm (part e) → (l : Lanes) → AreLiterals o n l → AreGiven fs γ (form_of ty part (Inject o u t e)) n l
  literal_given Inl ty part u t e h l k = record { long = k.long; each = λ j lt m v r. r.2 ∙ ap InlV (h (env_at fs γ j) m r.0 r.1) ∙ sym (k.each j lt) }
  literal_given Inr ty part u t e h l k = record { long = k.long; each = λ j lt m v r. r.2 ∙ ap InrV (h (env_at fs γ j) m r.0 r.1) ∙ sym (k.each j lt) }

-- functions that are called

pub by_some : {X : Type 0} (o : Option X) (P Q : X → Type 0) → IfSome o P → ((x : X) → P x → Q x) → IfSome o Q
by_some (Some x) P Q h f = f x h
by_some None P Q h f = tt

pub bang_argument : (t : Term) (s : Span) (r : Distance) (e : Term) → t ≡ at s (BangE r e) → IsArgument Fn t e
bang_argument t s r e q γ m v k = go m (subst (λ (t : Term). MeansIn m γ t v) q k)
  where
    go : (m : ℕ) → MeansIn m γ (at s (BangE r e)) v → (k : ℕ) × (u : Value) × MeansIn k γ e u × (v ≡ BangV u)
    go zero k = absurd k
    go (suc m) k = (m, k.0, k.1, k.2)

pub called : (fs : List Frame) (γ : Env) (t : Term) (s : Span) (x : Name) (c : Closure) → t ≡ at s (VarE x) → IsFree fs x → IsFoundFunction γ x c → IsCalled fs γ t c
called fs γ t s x c q free h = record { known = h.2.known.known; each = λ j m v r. go j m v (subst (λ (t : Term). MeansIn m (env_at fs γ j) t v) q r) ∙ h.2.is }
  where
    go : (j m : ℕ) (v : Value) → MeansIn m (env_at fs γ j) (at s (VarE x)) v → v ≡ h.0
    go j zero v r = absurd r
    go j (suc m) v r = ap value_or (sym r ∙ free γ j ∙ h.1)

fun_parts : (m : ℕ) {x : Name} {e : Term} {γ : Env} {u v : Value} → Applies (MeansIn m) (FunV x e γ) u v → MeansIn m (Bind x u γ) e v
fun_parts m (apply k) = k

fn_parts : (m : ℕ) {x : Name} {e : Term} {γ : Env} {u v : Value} → Applies (MeansIn m) (FnV x e γ) u v → MeansIn m (Bind x (banged_in u) γ) e v
fn_parts m (apply_fn k) = k

module _ (fs : List Frame) (γ : Env) (n : ℕ) (f a : Term) (c : Closure) (ty : ℕ → Ty) (part : ℕ → Term) (s : Span) (o : Arrow) (x : Written) (sp : Span) (t b : ℕ) where
  -- what the function's name stands for
  bound : (o : Arrow) (g : Form) → function_of (term_of ty part s g) c.scope.means ≡ function_of (term_of ty part s (Lambda o x sp t b)) c.scope.means → (e : Term) → IsArgument o a e → (le : Lanes) → AreMeant fs γ e n le → (j : ℕ) → j < n → (m : ℕ) (w u v : Value) → w ≡ function_of (term_of ty part s g) c.scope.means → MeansIn m (env_at fs γ j) a u → Applies (MeansIn m) w u v → MeansIn m (Bind (name_of x) (lane_at le j) c.scope.means) (part b) v
  bound Fun g q e h le he j lt m w u v p r k =
      subst (λ u. MeansIn m (Bind (name_of x) u c.scope.means) (part b) v) (he.each j lt m u (subst (λ (t : Term). MeansIn m (env_at fs γ j) t u) h r))
      (fun_parts m (subst (λ (w : Value). Applies (MeansIn m) w u v) (p ∙ q) k))
  bound Fn g q e h le he j lt m w u v p r k =
      let d = h (env_at fs γ j) m u r in
      subst (λ u. MeansIn m (Bind (name_of x) u c.scope.means) (part b) v) (ap banged_in d.3 ∙ he.each j lt d.0 d.1 d.2)
      (fn_parts m (subst (λ (w : Value). Applies (MeansIn m) w u v) (p ∙ q) k))

  pub call_given : (whole : Term) (g : Form) → whole ≡ term_of ty part s g → g ≡ Lambda o x sp t b → ((j m : ℕ) (v : Value) → MeansIn m (env_at fs γ j) f v → v ≡ function_of whole c.scope.means) → (e : Term) → IsArgument o a e → (le : Lanes) → AreMeant fs γ e n le
      → (inner : List Frame) → inner ≡ record { name = x; lanes = le } ∷ [] → (l : Lanes) → AreMeant inner c.scope.means (part b) n l → AreGiven fs γ (AppE f a) n l
  call_given whole g p q hc e h le he inner hi l hb = record {
    long = hb.long;
    each = λ j lt m v r.
        let w : r.0 ≡ function_of (term_of ty part s g) c.scope.means = hc j m r.0 r.2 ∙ ap (λ (t : Term). function_of t c.scope.means) p in
        let k : MeansIn m (Bind (name_of x) (lane_at le j) c.scope.means) (part b) v = bound o g (ap (λ g. function_of (term_of ty part s g) c.scope.means) q) e h le he j lt m r.0 r.1 v w r.3 r.4 in
        hb.each j lt m v (subst (λ (δ : Env). MeansIn m δ (part b) v) (ap (λ (fs : List Frame). env_at fs c.scope.means j) (sym hi)) k);
  }

-- the innermost name is the one that is looked for
pub named_here : (all : List Frame) (f : Frame) (fs : List Frame) (γ : Env) (x : Name) (n : ℕ) (l : Lanes) → all ≡ f ∷ fs → AllLong n all → bytes_eq (name_of f.name) x ≡ true → IsSameAt l f.lanes → AreNamed all γ x n l
named_here all f fs γ x n l e h b k =
    subst (λ (all : List Frame). AreNamed all γ x n l) (sym e) (record {
      long = k.long n ((subst (λ (all : List Frame). AllLong n all) e h).0);
      each = λ j. ap (λ (b : Bool). cond b (Some (lane_at f.lanes j)) (find (env_at fs γ j) x)) b ∙ ap Some (sym (k.each j));
    })

-- a name that is none of the frames' behind another one
pub free_behind : (all : List Frame) (f : Frame) (fs : List Frame) (x : Name) → all ≡ f ∷ fs → bytes_eq (name_of f.name) x ≡ false → IsFree fs x → IsFree all x
free_behind all f fs x e b h =
    subst (λ (all : List Frame). IsFree all x) (sym e) (λ γ j. ap (λ (b : Bool). cond b (Some (lane_at f.lanes j)) (find (env_at fs γ j) x)) b ∙ h γ j)
