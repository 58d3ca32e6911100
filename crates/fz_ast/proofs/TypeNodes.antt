-- One more type.
use Rattle.std.proofs.Common.{◌≡◌, ℕ, ◌+◌, ◌<◌, ◌≤◌, refl, sym, subst, ◌∙◌, arith, List, [], ◌∷◌, ◌++◌, length, length-append, get_or, ◌⊎◌, inl, inr, true}
use Rattle.std.proofs.Math.ListN.{get_or-append}
use Rattle.std.proofs.Math.Seq.{get_or-append_seam}
use Rattle.fz_ast.specs.Types.{Ty, NumT}
use Rattle.fz_ast.specs.Limits.{TypeLimits}
use Rattle.fz_ast.specs.TypeNodes.{type_at, type_of, IsKnownType, HasBang, types_after, Notes, Describes, AreTypes}
use Rattle.fz_ast.specs.declared.types.Formed.TheVariants.{WellFormed as Well}
use Rattle.fz_ast.specs.declared.types.TypeForm.{TypeForm}
use Rattle.fz_ast.specs.declared.types.TypeForm.TheVariants.{Num, Text, Unit as One, Tensor, With, Sum, Arrow, Bang, Bag}
use Rattle.fz_ast.specs.declared.types.TypeNode.{TypeNode}

pub type_at_old : (T U : List Ty) (k : ℕ) → k < length T → type_at (T ++ U) k ≡ type_at T k
unfolding type_at
type_at_old T U k h = get_or-append T U NumT k h

pub type_at_new : (T : List Ty) (A : Ty) → type_at (T ++ A ∷ []) (length T) ≡ A
unfolding type_at
type_at_new T A = get_or-append_seam T A [] NumT

-- a form stands for the same type where its parts do
pub type_of_same : (f g : ℕ → Ty) (n : ℕ) (form : TypeForm) → ((k : ℕ) → k < n → f k ≡ g k) → IsKnownType n form → type_of f form ≡ type_of g form
type_of_same f g n Num e h = refl
type_of_same f g n Text e h = refl
type_of_same f g n One e h = refl
type_of_same f g n (Tensor a b) e h = rw (e a h.0, e b h.1) refl
type_of_same f g n (With a b) e h = rw (e a h.0, e b h.1) refl
type_of_same f g n (Sum a b) e h = rw (e a h.0, e b h.1) refl
type_of_same f g n (Arrow a b) e h = rw (e a h.0, e b h.1) refl
type_of_same f g n (Bang r a) e h = rw (e a h) refl
type_of_same f g n (Bag a) e h = rw (e a h) refl

pub known_more : (m n : ℕ) (form : TypeForm) → m ≤ n → IsKnownType m form → IsKnownType n form
known_more m n Num e h = tt
known_more m n Text e h = tt
known_more m n One e h = tt
known_more m n (Tensor a b) e h = (let i = h.0 in omega arith, let i = h.1 in omega arith)
known_more m n (With a b) e h = (let i = h.0 in omega arith, let i = h.1 in omega arith)
known_more m n (Sum a b) e h = (let i = h.0 in omega arith, let i = h.1 in omega arith)
known_more m n (Arrow a b) e h = (let i = h.0 in omega arith, let i = h.1 in omega arith)
known_more m n (Bang r a) e h = omega arith
known_more m n (Bag a) e h = omega arith

pub limits_of : (f : ℕ → Ty) (n : ℕ) (form : TypeForm) → ((k : ℕ) → k < n → TypeLimits (f k)) → IsKnownType n form → HasBang form → TypeLimits (type_of f form)
limits_of f n Num e h b = tt
limits_of f n Text e h b = tt
limits_of f n One e h b = tt
limits_of f n (Tensor x y) e h b = (e x h.0, e y h.1)
limits_of f n (With x y) e h b = (e x h.0, e y h.1)
limits_of f n (Sum x y) e h b = (e x h.0, e y h.1)
limits_of f n (Arrow x y) e h b = (e x h.0, e y h.1)
limits_of f n (Bang r x) e h b = (b, e x h)
limits_of f n (Bag x) e h b = e x h

pub types_after_push : (T : List Ty) (ns : List TypeNode) (n : TypeNode) → types_after T (ns ++ n ∷ []) ≡ types_after T ns ++ type_of (type_at (types_after T ns)) n.form ∷ []
types_after_push T [] n = refl
types_after_push T (m ∷ ns) n = types_after_push (T ++ type_of (type_at T) m.form ∷ []) ns n

pub describes_more : (T U : List Ty) (k : ℕ) (n : TypeNode) → k < length T → Describes T k n → Describes (T ++ U) k n
describes_more T U k n h d =
    let e = type_at_old T U k h in
    record {
      form = e ∙ d.form ∙ type_of_same (type_at T) (type_at (T ++ U)) k n.form (λ j i. sym (type_at_old T U j (omega arith))) d.known;
      known = d.known;
      notes = subst (λ (A : Ty). Notes A k n) (sym e) d.notes;
    }

pub describes_new : (T : List Ty) (n : TypeNode) → IsKnownType (length T) n.form → Notes (type_of (type_at T) n.form) (length T) n → Describes (T ++ type_of (type_at T) n.form ∷ []) (length T) n
describes_new T n h d =
    let A = type_of (type_at T) n.form in
    let e = type_at_new T A in
    record {
      form = e ∙ type_of_same (type_at T) (type_at (T ++ A ∷ [])) (length T) n.form (λ j i. sym (type_at_old T (A ∷ []) j i)) h;
      known = h;
      notes = subst (λ (B : Ty). Notes B (length T) n) (sym e) d;
    }

pub split_last : (n k : ℕ) → k < n + 1 → (k < n) ⊎ (k ≡ n)
split_last n k h = grind (arith)

pub are_types_push : (T : List Ty) (ns : List TypeNode) (n : TypeNode) → AreTypes T ns → IsKnownType (length T) n.form → Notes (type_of (type_at T) n.form) (length T) n → AreTypes (T ++ type_of (type_at T) n.form ∷ []) (ns ++ n ∷ [])
are_types_push T ns n a h d = record {
  size = let i = a.size in omega (arith, length-append T (type_of (type_at T) n.form ∷ []), length-append ns (n ∷ []));
  each = λ k m l. pick k m (split_last (length ns) k (let j : length (ns ++ n ∷ []) ≡ length ns + 1 = length-append ns (n ∷ []) in omega arith));
}
  where
    pick : (k : ℕ) (m : TypeNode) → (k < length ns) ⊎ (k ≡ length ns) → Describes (T ++ type_of (type_at T) n.form ∷ []) k (get_or (ns ++ n ∷ []) k m)
    pick k m (inl l) = rw (get_or-append ns (n ∷ []) m k l) (describes_more T (type_of (type_at T) n.form ∷ []) k (get_or ns k m) (let i = a.size in omega arith) (a.each k m l))
    pick k m (inr e) = rw (e, get_or-append_seam ns n [] m, ← a.size) (describes_new T n h d)

abbrev nothing : TypeNode
nothing = record { form = Num; ground = true; flat = true; formed = Well; depth = 1 }

pub limits_at : (T : List Ty) (ns : List TypeNode) → AreTypes T ns → (k : ℕ) → k < length T → TypeLimits (type_at T k)
limits_at T ns a k h = (a.each k nothing (let i = a.size in omega arith)).notes.limits

-- what a push leaves: T the types before, ns and ms the nodes before and after

pub pushed : (T : List Ty) (ns ms : List TypeNode) (n : TypeNode) (form : TypeForm) → types_after [] ns ≡ T → ms ≡ ns ++ n ∷ [] → n.form ≡ form → types_after [] ms ≡ T ++ type_of (type_at T) form ∷ []
pushed T ns ms n form v e f = rw (e, types_after_push [] ns n, v, f) refl

pub kept_pushed : (T : List Ty) (ns ms : List TypeNode) (n : TypeNode) (form : TypeForm) → types_after [] ns ≡ T → ms ≡ ns ++ n ∷ [] → n.form ≡ form → AreTypes (types_after [] ns) ns → IsKnownType (length T) form → Notes (type_of (type_at T) form) (length T) n → AreTypes (types_after [] ms) ms
kept_pushed T ns ms n form v e f a h d = rw (pushed T ns ms n form v e f, e) (go form f (rw v at a) h d)
  where
    go : (form : TypeForm) → n.form ≡ form → AreTypes T ns → IsKnownType (length T) form → Notes (type_of (type_at T) form) (length T) n → AreTypes (T ++ type_of (type_at T) form ∷ []) (ns ++ n ∷ [])
    go form f a h d = rw (← f) (are_types_push T ns n a (rw (← f) at h) (rw (← f) at d))
