-- One more term, or one more type among the terms.
use Rattle.std.proofs.Common.{◌≡◌, ℕ, ℤ, suc, ◌+◌, ◌<◌, ◌≤◌, ap, refl, sym, subst, ◌∙◌, arith, max, List, [], ◌∷◌, ◌++◌, length, length-append, get_or, ◌⊎◌, inl, inr}
use Rattle.std.proofs.lemmas.List.{length-take}
use Rattle.std.proofs.Math.ListN.{get_or-append}
use Rattle.std.proofs.Math.Seq.{get_or-append_seam}
use Rattle.fz_frac.specs.declared.sens.Sens.{Sens}
use Rattle.fz_ast.specs.declared.span.Span.{Span}
use Rattle.fz_ast.specs.Types.{Ty}
use Rattle.fz_ast.specs.Terms.{Term, at, UnitE}
use Rattle.fz_ast.specs.Bare.{nowhere}
use Rattle.fz_ast.specs.Limits.{IsName, IsText, TypeLimits, TermLimits}
use Rattle.fz_ast.specs.Depth.{depth, type_depth}
use Rattle.fz_ast.specs.Names.{name_of, text_of}
use Rattle.fz_ast.specs.TypeNodes.{type_at, type_of, IsKnownType, HasBang}
use Rattle.fz_ast.specs.declared.types.TypeForm.{TypeForm}
use Rattle.fz_ast.specs.TermNodes.{term_at, unary, binary, form_of, term_of, IsKnown, FormLimits, terms_after, TermNotes, StandsForTerm, AreTerms}
use Rattle.fz_ast.specs.declared.name.Name.{Name}
use Rattle.fz_ast.specs.declared.name.Text.{Text as Words}
use Rattle.fz_ast.specs.declared.term.Unary.{Unary}
use Rattle.fz_ast.specs.declared.term.Unary.TheVariants.{Fst, Snd, Least, Greatest, Size}
use Rattle.fz_ast.specs.declared.term.Binary.{Binary}
use Rattle.fz_ast.specs.declared.term.Binary.TheVariants.{Pair, With, App, Plus, Minus, AtMost, Equal, Union, Map, Filter, Split}
use Rattle.fz_ast.specs.declared.term.Ranged.{Ranged}
use Rattle.fz_ast.specs.declared.term.Ranged.TheVariants.{Sum, Clip}
use Rattle.fz_ast.specs.declared.term.Side.{Side}
use Rattle.fz_ast.specs.declared.term.Side.TheVariants.{Inl, Inr}
use Rattle.fz_ast.specs.declared.term.Arrow.{Arrow}
use Rattle.fz_ast.specs.declared.term.Arrow.TheVariants.{Fun, Fn}
use Rattle.fz_ast.specs.declared.term.Form.{Form}
use Rattle.fz_ast.specs.declared.term.Form.TheVariants.{Var, Num, Text, Unit as One, Unary as Op, Binary as Op2, Times, Ranged as Bounded, Inject, Bang, Let, LetBang, LetPair, If, Case, Lambda}
use Rattle.fz_ast.specs.declared.term.Node.{Node}
use Rattle.fz_ast.proofs.TypeNodes.{type_at_old, type_at_new, split_last, limits_of}

pub term_at_old : (N U : List Term) (k : ℕ) → k < length N → term_at (N ++ U) k ≡ term_at N k
unfolding term_at
term_at_old N U k h = get_or-append N U (at nowhere UnitE) k h

pub term_at_new : (N : List Term) (e : Term) → term_at (N ++ e ∷ []) (length N) ≡ e
unfolding term_at
term_at_new N e = get_or-append_seam N e [] (at nowhere UnitE)

-- a form stands for the same term where its types and parts do
module _ (ty ty' : ℕ → Ty) (part part' : ℕ → Term) (m n : ℕ) (p : (k : ℕ) → k < m → ty k ≡ ty' k) (q : (k : ℕ) → k < n → part k ≡ part' k) where
  pub form_same : (form : Form) → IsKnown m n form → form_of ty part form ≡ form_of ty' part' form
  form_same (Var x) h = refl
  form_same (Num z) h = refl
  form_same (Text t) h = refl
  form_same One h = refl
  form_same (Op o e) h = rw (q e h) refl
  form_same (Op2 o a b) h = rw (q a h.0, q b h.1) refl
  form_same (Times k e) h = rw (q e h) refl
  form_same (Bounded Sum lo hi e) h = rw (q e h) refl
  form_same (Bounded Clip lo hi e) h = rw (q e h) refl
  form_same (Inject Inl u t e) h = rw (p t h.0, q e h.1) refl
  form_same (Inject Inr u t e) h = rw (p t h.0, q e h.1) refl
  form_same (Bang r e) h = rw (q e h) refl
  form_same (Let x e b) h = rw (q e h.0, q b h.1) refl
  form_same (LetBang x e b) h = rw (q e h.0, q b h.1) refl
  form_same (LetPair x y e b) h = rw (q e h.0, q b h.1) refl
  form_same (If e a b) h = rw (q e h.0, q a h.1, q b h.2) refl
  form_same (Case e x a y b) h = rw (q e h.0, q a h.1, q b h.2) refl
  form_same (Lambda Fun x u t e) h = rw (p t h.0, q e h.1) refl
  form_same (Lambda Fn x u t e) h = rw (p t h.0, q e h.1) refl

  pub term_same : (s : Span) (form : Form) → IsKnown m n form → term_of ty part s form ≡ term_of ty' part' s form
  term_same s form h = ap (at s) (form_same form h)

pub unary_limits : (o : Unary) (s : Span) (e : Term) → TermLimits e → TermLimits (at s (unary o e))
unary_limits Fst s e h = h
unary_limits Snd s e h = h
unary_limits Least s e h = h
unary_limits Greatest s e h = h
unary_limits Size s e h = h

pub binary_limits : (o : Binary) (s : Span) (a b : Term) → TermLimits a → TermLimits b → TermLimits (at s (binary o a b))
binary_limits Pair s a b h k = (h, k)
binary_limits With s a b h k = (h, k)
binary_limits App s a b h k = (h, k)
binary_limits Plus s a b h k = (h, k)
binary_limits Minus s a b h k = (h, k)
binary_limits AtMost s a b h k = (h, k)
binary_limits Equal s a b h k = (h, k)
binary_limits Union s a b h k = (h, k)
binary_limits Map s a b h k = (h, k)
binary_limits Filter s a b h k = (h, k)
binary_limits Split s a b h k = (h, k)

pub unary_depth : (o : Unary) (s : Span) (e : Term) → depth (at s (unary o e)) ≡ suc (depth e)
unary_depth Fst s e = refl
unary_depth Snd s e = refl
unary_depth Least s e = refl
unary_depth Greatest s e = refl
unary_depth Size s e = refl

pub binary_depth : (o : Binary) (s : Span) (a b : Term) → depth (at s (binary o a b)) ≡ suc (max (depth a) (depth b))
binary_depth Pair s a b = refl
binary_depth With s a b = refl
binary_depth App s a b = refl
binary_depth Plus s a b = refl
binary_depth Minus s a b = refl
binary_depth AtMost s a b = refl
binary_depth Equal s a b = refl
binary_depth Union s a b = refl
binary_depth Map s a b = refl
binary_depth Filter s a b = refl
binary_depth Split s a b = refl

pub is_name : (x : Name) → IsName (name_of x)
is_name x = let h : x.len ≤ 32 = x.short in omega (arith, length-take x.len x.bytes)

pub is_text : (t : Words) → IsText (text_of t)
is_text t = let h : t.len ≤ 64 = t.short in omega (arith, length-take t.len t.bytes)

-- the limits of a term from those of its parts
module _ (ty : ℕ → Ty) (part : ℕ → Term) (m n : ℕ) (p : (k : ℕ) → k < m → TypeLimits (ty k)) (q : (k : ℕ) → k < n → TermLimits (part k)) where
  pub term_limits_of : (s : Span) (form : Form) → IsKnown m n form → FormLimits form → TermLimits (term_of ty part s form)
  term_limits_of s (Var x) h b = is_name x
  term_limits_of s (Num z) h b = b
  term_limits_of s (Text t) h b = is_text t
  term_limits_of s One h b = tt
  term_limits_of s (Op o e) h b = unary_limits o s (part e) (q e h)
  term_limits_of s (Op2 o x y) h b = binary_limits o s (part x) (part y) (q x h.0) (q y h.1)
  term_limits_of s (Times k e) h b = (b, q e h)
  term_limits_of s (Bounded Sum lo hi e) h b = (b.0, b.1, q e h)
  term_limits_of s (Bounded Clip lo hi e) h b = (b.0, b.1, q e h)
  term_limits_of s (Inject Inl u t e) h b = (p t h.0, q e h.1)
  term_limits_of s (Inject Inr u t e) h b = (p t h.0, q e h.1)
  term_limits_of s (Bang r e) h b = (b, q e h)
  term_limits_of s (Let x e f) h b = (is_name x, q e h.0, q f h.1)
  term_limits_of s (LetBang x e f) h b = (is_name x, q e h.0, q f h.1)
  term_limits_of s (LetPair x y e f) h b = (is_name x, is_name y, q e h.0, q f h.1)
  term_limits_of s (If e x y) h b = (q e h.0, q x h.1, q y h.2)
  term_limits_of s (Case e x a y f) h b = (q e h.0, is_name x, q a h.1, is_name y, q f h.2)
  term_limits_of s (Lambda Fun x u t e) h b = (is_name x, p t h.0, q e h.1)
  term_limits_of s (Lambda Fn x u t e) h b = (is_name x, p t h.0, q e h.1)

pub is_known_more : (m m' n n' : ℕ) (form : Form) → m ≤ m' → n ≤ n' → IsKnown m n form → IsKnown m' n' form
is_known_more m m' n n' (Var x) i j h = tt
is_known_more m m' n n' (Num z) i j h = tt
is_known_more m m' n n' (Text t) i j h = tt
is_known_more m m' n n' One i j h = tt
is_known_more m m' n n' (Op o e) i j h = omega arith
is_known_more m m' n n' (Op2 o a b) i j h = (let k = h.0 in omega arith, let k = h.1 in omega arith)
is_known_more m m' n n' (Times k e) i j h = omega arith
is_known_more m m' n n' (Bounded o lo hi e) i j h = omega arith
is_known_more m m' n n' (Inject o u t e) i j h = (let k = h.0 in omega arith, let k = h.1 in omega arith)
is_known_more m m' n n' (Bang r e) i j h = omega arith
is_known_more m m' n n' (Let x e b) i j h = (let k = h.0 in omega arith, let k = h.1 in omega arith)
is_known_more m m' n n' (LetBang x e b) i j h = (let k = h.0 in omega arith, let k = h.1 in omega arith)
is_known_more m m' n n' (LetPair x y e b) i j h = (let k = h.0 in omega arith, let k = h.1 in omega arith)
is_known_more m m' n n' (If e a b) i j h = (let k = h.0 in omega arith, let k = h.1 in omega arith, let k = h.2 in omega arith)
is_known_more m m' n n' (Case e x a y b) i j h = (let k = h.0 in omega arith, let k = h.1 in omega arith, let k = h.2 in omega arith)
is_known_more m m' n n' (Lambda o x u t e) i j h = (let k = h.0 in omega arith, let k = h.1 in omega arith)

pub terms_after_push : (ty : ℕ → Ty) (N : List Term) (ns : List Node) (n : Node) → terms_after ty N (ns ++ n ∷ []) ≡ terms_after ty N ns ++ term_of ty (term_at (terms_after ty N ns)) n.span n.form ∷ []
terms_after_push ty N [] n = refl
terms_after_push ty N (m ∷ ns) n = terms_after_push ty (N ++ term_of ty (term_at N) m.span m.form ∷ []) ns n

-- more terms

pub stands_more : (T : List Ty) (N U : List Term) (k : ℕ) (n : Node) → k < length N → StandsForTerm T N k n → StandsForTerm T (N ++ U) k n
stands_more T N U k n h d =
    let e = term_at_old N U k h in
    record {
      form = e ∙ d.form ∙ term_same (type_at T) (type_at T) (term_at N) (term_at (N ++ U)) (length T) k (λ j i. refl) (λ j i. sym (term_at_old N U j (omega arith))) n.span n.form d.known;
      known = d.known;
      notes = subst (λ (a : Term). TermNotes a k n) (sym e) d.notes;
    }

pub stands_new : (T : List Ty) (N : List Term) (n : Node) → IsKnown (length T) (length N) n.form → TermNotes (term_of (type_at T) (term_at N) n.span n.form) (length N) n → StandsForTerm T (N ++ term_of (type_at T) (term_at N) n.span n.form ∷ []) (length N) n
stands_new T N n h d =
    let a = term_of (type_at T) (term_at N) n.span n.form in
    let e = term_at_new N a in
    record {
      form = e ∙ term_same (type_at T) (type_at T) (term_at N) (term_at (N ++ a ∷ [])) (length T) (length N) (λ j i. refl) (λ j i. sym (term_at_old N (a ∷ []) j i)) n.span n.form h;
      known = h;
      notes = subst (λ (b : Term). TermNotes b (length N) n) (sym e) d;
    }

pub are_terms_push : (T : List Ty) (N : List Term) (ns : List Node) (n : Node) → AreTerms T N ns → IsKnown (length T) (length N) n.form → TermNotes (term_of (type_at T) (term_at N) n.span n.form) (length N) n → AreTerms T (N ++ term_of (type_at T) (term_at N) n.span n.form ∷ []) (ns ++ n ∷ [])
are_terms_push T N ns n a h d = record {
  types = a.types;
  size = let i = a.size in omega (arith, length-append N (term_of (type_at T) (term_at N) n.span n.form ∷ []), length-append ns (n ∷ []));
  each = λ k m l. pick k m (split_last (length ns) k (let j : length (ns ++ n ∷ []) ≡ length ns + 1 = length-append ns (n ∷ []) in omega arith));
}
  where
    pick : (k : ℕ) (m : Node) → (k < length ns) ⊎ (k ≡ length ns) → StandsForTerm T (N ++ term_of (type_at T) (term_at N) n.span n.form ∷ []) k (get_or (ns ++ n ∷ []) k m)
    pick k m (inl l) = rw (get_or-append ns (n ∷ []) m k l) (stands_more T N (term_of (type_at T) (term_at N) n.span n.form ∷ []) k (get_or ns k m) (let i = a.size in omega arith) (a.each k m l))
    pick k m (inr e) = rw (e, get_or-append_seam ns n [] m, ← a.size) (stands_new T N n h d)

-- more types

stands_types : (T U : List Ty) (N : List Term) (k : ℕ) (n : Node) → StandsForTerm T N k n → StandsForTerm (T ++ U) N k n
stands_types T U N k n d = record {
  form = d.form ∙ term_same (type_at T) (type_at (T ++ U)) (term_at N) (term_at N) (length T) k (λ j i. sym (type_at_old T U j i)) (λ j i. refl) n.span n.form d.known;
  known = is_known_more (length T) (length (T ++ U)) k k n.form (omega (arith, length-append T U)) (omega arith) d.known;
  notes = d.notes;
}

pub are_terms_types : (T : List Ty) (A : Ty) (N : List Term) (ns : List Node) → AreTerms T N ns → TypeLimits A → AreTerms (T ++ A ∷ []) N ns
are_terms_types T A N ns a b = record {
  types = λ k h. pick k (split_last (length T) k (let j = length-append T (A ∷ []) in omega arith));
  size = a.size;
  each = λ k n h. stands_types T (A ∷ []) N k (get_or ns k n) (a.each k n h);
}
  where
    pick : (k : ℕ) → (k < length T) ⊎ (k ≡ length T) → TypeLimits (type_at (T ++ A ∷ []) k)
    pick k (inl h) = rw (type_at_old T (A ∷ []) k h) (a.types k h)
    pick k (inr e) = rw (e, type_at_new T A) b

-- what each node's types' numbers are below
abbrev AllBelow : ℕ → List Node → Type 0
AllBelow m ns = (k : ℕ) (d : Node) → k < length ns → (n : ℕ) × IsKnown m n (get_or ns k d).form

terms_after_same : (ty ty' : ℕ → Ty) (m : ℕ) → ((k : ℕ) → k < m → ty k ≡ ty' k) → (N : List Term) (ns : List Node) → AllBelow m ns → terms_after ty N ns ≡ terms_after ty' N ns
terms_after_same ty ty' m p N [] h = refl
terms_after_same ty ty' m p N (x ∷ ns) h =
    let b = h 0 x (omega arith) in
    rw (term_same ty ty' (term_at N) (term_at N) m b.0 p (λ k i. refl) x.span x.form b.1)
    (terms_after_same ty ty' m p (N ++ term_of ty' (term_at N) x.span x.form ∷ []) ns (λ k d i. h (suc k) d (omega arith)))

pub terms_after_types : (T U : List Ty) (N : List Term) (ns : List Node) → AreTerms T N ns → terms_after (type_at (T ++ U)) [] ns ≡ terms_after (type_at T) [] ns
terms_after_types T U N ns a = terms_after_same (type_at (T ++ U)) (type_at T) (length T) (λ k i. type_at_old T U k i) [] ns (λ k d i. (k, (a.each k d i).known))

-- what the calls leave: T the types, ns and ms the nodes before and after

pub term_pushed : (T : List Ty) (ns ms : List Node) (n : Node) → ms ≡ ns ++ n ∷ [] → terms_after (type_at T) [] ms ≡ terms_after (type_at T) [] ns ++ term_of (type_at T) (term_at (terms_after (type_at T) [] ns)) n.span n.form ∷ []
term_pushed T ns ms n e = rw (e, terms_after_push (type_at T) [] ns n) refl

pub notes_of : (T : List Ty) (N : List Term) (ns : List Node) (s : Span) (form : Form) (d : ℕ) → AreTerms T N ns → IsKnown (length T) (length N) form → FormLimits form → d ≡ depth (term_of (type_at T) (term_at N) s form) → d ≤ length N + 4294967296
    → TermNotes (term_of (type_at T) (term_at N) s form) (length N) (record { span = s; form = form; depth = d })
notes_of T N ns s form d a h b e i = record {
  limits = term_limits_of (type_at T) (term_at N) (length T) (length N) a.types (λ k j. (a.each k (record { span = s; form = form; depth = d }) (let z = a.size in omega arith)).notes.limits) s form h b;
  depth = e;
  shallow = i;
}

pub term_kept : (T : List Ty) (ns ms : List Node) (n : Node) → ms ≡ ns ++ n ∷ [] → AreTerms T (terms_after (type_at T) [] ns) ns → IsKnown (length T) (length (terms_after (type_at T) [] ns)) n.form
    → TermNotes (term_of (type_at T) (term_at (terms_after (type_at T) [] ns)) n.span n.form) (length (terms_after (type_at T) [] ns)) n → AreTerms T (terms_after (type_at T) [] ms) ms
term_kept T ns ms n e a h d = rw (e, terms_after_push (type_at T) [] ns n) (are_terms_push T (terms_after (type_at T) [] ns) ns n a h d)

pub type_pushed : (T U : List Ty) (ns : List Node) (A : Ty) → U ≡ T ++ A ∷ [] → AreTerms T (terms_after (type_at T) [] ns) ns → terms_after (type_at U) [] ns ≡ terms_after (type_at T) [] ns
type_pushed T U ns A e a = rw e (terms_after_types T (A ∷ []) (terms_after (type_at T) [] ns) ns a)

pub type_kept : (T U : List Ty) (ns : List Node) (form : TypeForm) → U ≡ T ++ type_of (type_at T) form ∷ [] → IsKnownType (length T) form → HasBang form → AreTerms T (terms_after (type_at T) [] ns) ns → AreTerms U (terms_after (type_at U) [] ns) ns
type_kept T U ns form e h b a = rw (type_pushed T U ns (type_of (type_at T) form) e a, e) (are_terms_types T (type_of (type_at T) form) (terms_after (type_at T) [] ns) ns a (limits_of (type_at T) (length T) form a.types h b))

-- the depth of a form's term, by how many parts the form has
module _ (ty : ℕ → Ty) (part : ℕ → Term) (f : Form) (s : Span) where
  abbrev form_depth : Form → ℕ
  form_depth g = depth (at s (form_of ty part g))

  pub depth_one : (e : ℕ) → ((o : Unary) × (f ≡ Op o e)) ⊎ (((k : ℤ) × (f ≡ Times k e)) ⊎ (((b : Ranged) × (lo : ℤ) × (hi : ℤ) × (f ≡ Bounded b lo hi e)) ⊎ ((r : Sens) × (f ≡ Bang r e)))) →
      form_depth f ≡ suc (depth (part e))
  depth_one e (inl (o, p)) = ap form_depth p ∙ unary_depth o s (part e)
  depth_one e (inr (inl (k, p))) = ap form_depth p
  depth_one e (inr (inr (inl (Sum, lo, hi, p)))) = ap form_depth p
  depth_one e (inr (inr (inl (Clip, lo, hi, p)))) = ap form_depth p
  depth_one e (inr (inr (inr (r, p)))) = ap form_depth p

  pub depth_two : (a b : ℕ) → ((o : Binary) × (f ≡ Op2 o a b)) ⊎ (((x : Name) × (f ≡ Let x a b)) ⊎ (((x : Name) × (f ≡ LetBang x a b)) ⊎ ((x : Name) × (y : Name) × (f ≡ LetPair x y a b)))) →
      form_depth f ≡ suc (max (depth (part a)) (depth (part b)))
  depth_two a b (inl (o, p)) = ap form_depth p ∙ binary_depth o s (part a) (part b)
  depth_two a b (inr (inl (x, p))) = ap form_depth p
  depth_two a b (inr (inr (inl (x, p)))) = ap form_depth p
  depth_two a b (inr (inr (inr (x, y, p)))) = ap form_depth p

  pub depth_three : (e a b : ℕ) → (f ≡ If e a b) ⊎ ((x : Name) × (y : Name) × (f ≡ Case e x a y b)) →
      form_depth f ≡ suc (max (depth (part e)) (max (depth (part a)) (depth (part b))))
  depth_three e a b (inl p) = ap form_depth p
  depth_three e a b (inr (x, y, p)) = ap form_depth p

  pub depth_typed : (t e : ℕ) → ((o : Side) × (u : Span) × (f ≡ Inject o u t e)) ⊎ ((o : Arrow) × (x : Name) × (u : Span) × (f ≡ Lambda o x u t e)) →
      form_depth f ≡ suc (max (type_depth (ty t)) (depth (part e)))
  depth_typed t e (inl (Inl, u, p)) = ap form_depth p
  depth_typed t e (inl (Inr, u, p)) = ap form_depth p
  depth_typed t e (inr (Fun, x, u, p)) = ap form_depth p
  depth_typed t e (inr (Fn, x, u, p)) = ap form_depth p
