-- What the code's entries stand for, one by one.
use Rattle.std.proofs.Common.{◌≡◌, ℕ, zero, suc, ◌-◌, ◌<◌, ◌≤◌, List, [], ◌∷◌, ◌++◌, refl, arith, sym, ap, ◌∙◌, subst, get_or, length, reverse, length-append}
use Rattle.std.proofs.lemmas.List.{get_or-reverse, length-reverse, get_or_append_left}
use Rattle.std.proofs.Math.ListN.{get_or-eq_default}
use Rattle.std.proofs.Math.Seq.{get_or-append_seam}
use Rattle.fz_ast.specs.declared.span.Span.{Span}
use Rattle.fz_ast.specs.Types.{Ty}
use Rattle.fz_ast.specs.Terms.{Term}
use Rattle.fz_ast.specs.Parts.{Parts}
use Rattle.fz_ast.specs.TypeNodes.{type_at}
use Rattle.fz_ast.specs.TermNodes.{term_at}
use Rattle.fz_parser.specs.declared.reader.Held.{Held}
use Rattle.fz_parser.specs.declared.reader.Held.TheVariants.{Begun, Name, Number, Positive, Text, Integer, Factor, Written, Term as HeldTerm}
use Rattle.fz_parser.specs.declared.reader.Entry.{Entry}
use Rattle.fz_parser.specs.declared.reader.Reader.{Reader}
use Rattle.fz_parser.specs.Parts.{StackPart, part, nothing, start_at, TypePart, TermPart}
use Rattle.fz_parser.specs.Grammar.{empty}
use Rattle.fz_parser.specs.Kept.{what_of, parts_in, state_of, IsHeld, AllHeld, IsInOrder, Makes}

length-parts : (N : Parts) (xs : List Entry) → length (parts_in N xs) ≡ length xs
length-parts N [] = refl
length-parts N (x ∷ xs) = ap suc (length-parts N xs)

abbrev image : Parts → Entry → StackPart
image N x = record { from = x.from; what = what_of N x.held }

image_at : (N : Parts) (xs : List Entry) (i : ℕ) (d : Entry) → i < length xs → get_or (parts_in N xs) i nothing ≡ image N (get_or xs i d)
image_at N [] i d l = absurd (omega arith)
image_at N (x ∷ xs) zero d l = refl
image_at N (x ∷ xs) (suc i) d l = image_at N xs i d (omega arith)

held_in : (N : Parts) (xs : List Entry) (i : ℕ) (d : Entry) → i < length xs → AllHeld N xs → IsHeld N (get_or xs i d).held
held_in N [] i d l h = absurd (omega arith)
held_in N (x ∷ xs) zero d l h = h.0
held_in N (x ∷ xs) (suc i) d l h = held_in N xs i d (omega arith) h.1

pub part_is : (r : Reader) (i : ℕ) (d : Entry) → i < length r.entries.items → part i (state_of r) ≡ image r.nodes (get_or r.entries.items (length r.entries.items - 1 - i) d)
unfolding state_of
part_is r i d l =
    let m : i < length (reverse r.entries.items) = omega (arith, length-reverse r.entries.items) in
    image_at r.nodes (reverse r.entries.items) i d m ∙ ap (image r.nodes) (get_or-reverse r.entries.items i d l)

pub held_is : (r : Reader) (i : ℕ) (d : Entry) → i < length r.entries.items → IsInOrder r → IsHeld r.nodes (get_or r.entries.items (length r.entries.items - 1 - i) d).held
held_is r i d l h =
    let m : i < length (reverse r.entries.items) = omega (arith, length-reverse r.entries.items) in
    subst (λ x. IsHeld r.nodes x.held) (get_or-reverse r.entries.items i d l) (held_in r.nodes (reverse r.entries.items) i d m h.held)

pub no_part : (r : Reader) (i : ℕ) → length r.entries.items ≤ i → part i (state_of r) ≡ nothing
unfolding state_of
no_part r i l = get_or-eq_default (parts_in r.nodes (reverse r.entries.items)) nothing (omega (arith, length-parts r.nodes (reverse r.entries.items), length-reverse r.entries.items))

pub new_state : (r : Reader) → r.entries.items ≡ [] → r.last ≡ (record { from = 0; to = 0 }) → state_of r ≡ empty
unfolding state_of
new_state r e l = cc (ap (λ xs. parts_in r.nodes (reverse xs)) e, l)

pub new_kept : (r : Reader) → r.entries.items ≡ [] → IsInOrder r
new_kept r e = record { held = subst (λ xs. AllHeld r.nodes (reverse xs)) (sym e) tt }

-- where parts begin
pub start_zero : (r : Reader) (n : ℕ) → n ≡ 0 → r.last.from ≡ start_at n (state_of r)
unfolding state_of
start_zero r n e = rw e refl

pub start_some : (r : Reader) (n : ℕ) (d : Entry) → 0 < n → n ≤ length r.entries.items → (get_or r.entries.items (length r.entries.items - n) d).from ≡ start_at n (state_of r)
start_some r zero d p l = absurd (omega arith)
start_some r (suc n) d p l =
    let e : length r.entries.items - 1 - n ≡ length r.entries.items - suc n = omega arith in
    ap (λ j. (get_or r.entries.items j d).from) (sym e) ∙ sym (ap (λ p. p.from) (part_is r n d (omega arith)))

pub start_none : (r : Reader) (n : ℕ) → 0 < n → length r.entries.items < n → 0 ≡ start_at n (state_of r)
start_none r zero p l = absurd (omega arith)
start_none r (suc n) p l = sym (ap (λ p. p.from) (no_part r n (omega arith)))

-- a node more changes nothing of what was there
abbrev pub more_terms : Parts → Term → Parts
more_terms N e = record { types = N.types; terms = N.terms ++ e ∷ [] }

abbrev pub more_types : Parts → Ty → Parts
more_types N t = record { types = N.types ++ t ∷ []; terms = N.terms }

pub term_stays : (xs : List Term) (e : Term) (i : ℕ) → i < length xs → term_at (xs ++ e ∷ []) i ≡ term_at xs i
unfolding term_at
term_stays xs e i l = get_or_append_left xs (e ∷ []) _ i l

term_added : (xs : List Term) (e : Term) (i : ℕ) → i ≡ length xs → term_at (xs ++ e ∷ []) i ≡ e
unfolding term_at
term_added xs e i l = rw l (get_or-append_seam xs e [] _)

pub type_stays : (xs : List Ty) (e : Ty) (i : ℕ) → i < length xs → type_at (xs ++ e ∷ []) i ≡ type_at xs i
unfolding type_at
type_stays xs e i l = get_or_append_left xs (e ∷ []) _ i l

type_added : (xs : List Ty) (e : Ty) (i : ℕ) → i ≡ length xs → type_at (xs ++ e ∷ []) i ≡ e
unfolding type_at
type_added xs e i l = rw l (get_or-append_seam xs e [] _)

abbrev Stays : Parts → Parts → Held → Type 0
Stays N M h = IsHeld M h × (what_of M h ≡ what_of N h)

held_stays : (N : Parts) (e : Term) (h : Held) → IsHeld N h → Stays N (more_terms N e) h
held_stays N e Begun k = (k, refl)
held_stays N e (Name x) k = (k, refl)
held_stays N e (Number n) k = (k, refl)
held_stays N e (Positive n) k = (k, refl)
held_stays N e (Text t) k = (k, refl)
held_stays N e (Integer z) k = (k, refl)
held_stays N e (Factor r) k = (k, refl)
held_stays N e (Written u i) k = (k, refl)
held_stays N e (HeldTerm i) k = (omega (arith, k, length-append N.terms (e ∷ [])), ap TermPart (term_stays N.terms e i k))

held_stays' : (N : Parts) (t : Ty) (h : Held) → IsHeld N h → Stays N (more_types N t) h
held_stays' N t Begun k = (k, refl)
held_stays' N t (Name x) k = (k, refl)
held_stays' N t (Number n) k = (k, refl)
held_stays' N t (Positive n) k = (k, refl)
held_stays' N t (Text s) k = (k, refl)
held_stays' N t (Integer z) k = (k, refl)
held_stays' N t (Factor r) k = (k, refl)
held_stays' N t (Written u i) k = (omega (arith, k, length-append N.types (t ∷ [])), ap (TypePart u) (type_stays N.types t i k))
held_stays' N t (HeldTerm i) k = (k, refl)

module _ (N M : Parts) (one : (h : Held) → IsHeld N h → Stays N M h) where
  all_stay : (xs : List Entry) → AllHeld N xs → AllHeld M xs × (parts_in M xs ≡ parts_in N xs)
  all_stay [] h = (tt, refl)
  all_stay (x ∷ xs) h =
      let a = one x.held h.0 in
      let b = all_stay xs h.1 in
      ((a.0, b.0), cc (a.1, b.1))

abbrev Same : Reader → Reader → Type 0
Same old new = (new.last ≡ old.last) × (new.entries.items ≡ old.entries.items)

pub stays : (old new : Reader) (N : Parts) → old.nodes ≡ N → ((h : Held) → IsHeld N h → Stays N new.nodes h) → Same old new → IsInOrder old → IsInOrder new × (state_of new ≡ state_of old)
unfolding state_of
stays old new N n one s h =
    let k : AllHeld N (reverse old.entries.items) = subst (λ x. AllHeld x (reverse old.entries.items)) n h.held in
    let a = all_stay N new.nodes one (reverse old.entries.items) k in (
      record { held = subst (λ xs. AllHeld new.nodes (reverse xs)) (sym s.1) a.0 },
      cc (s.0, ap (λ xs. parts_in new.nodes (reverse xs)) s.1, a.1, ap (λ x. parts_in x (reverse old.entries.items)) n),
    )

pub term_makes : (old new : Reader) (n : ℕ) (e : Term) → Same old new → IsInOrder old → n ≡ length old.nodes.terms → new.nodes ≡ more_terms old.nodes e → Makes old new (HeldTerm n) (TermPart e)
term_makes old new n e s h l g =
    let x = stays old new old.nodes refl (λ k i. subst (λ M. Stays old.nodes M k) (sym g) (held_stays old.nodes e k i)) s h in
    record {
      kept = x.0;
      entries = s.1;
      state = x.1;
      known = omega (arith, l, ap (λ M. length M.terms) g, length-append old.nodes.terms (e ∷ []));
      is = ap TermPart (ap (λ M. term_at M.terms n) g ∙ term_added old.nodes.terms e n l);
    }

pub type_makes : (old new : Reader) (n : ℕ) (u : Span) (t : Ty) → Same old new → IsInOrder old → n ≡ length old.nodes.types → new.nodes ≡ more_types old.nodes t → Makes old new (Written u n) (TypePart u t)
type_makes old new n u t s h l g =
    let x = stays old new old.nodes refl (λ k i. subst (λ M. Stays old.nodes M k) (sym g) (held_stays' old.nodes t k i)) s h in
    record {
      kept = x.0;
      entries = s.1;
      state = x.1;
      known = omega (arith, l, ap (λ M. length M.types) g, length-append old.nodes.types (t ∷ []));
      is = ap (TypePart u) (ap (λ M. type_at M.types n) g ∙ type_added old.nodes.types t n l);
    }

-- the same, of what the code reads
pub entry_what : (r : Reader) (i n m : ℕ) (x : Entry) → i < n → n ≡ length r.entries.items → m ≡ length r.entries.items → x ≡ get_or r.entries.items (m - 1 - i) x → what_of r.nodes x.held ≡ (part i (state_of r)).what
entry_what r i n m x l e f h =
    let g : x ≡ get_or r.entries.items (length r.entries.items - 1 - i) x = h ∙ ap (λ k. get_or r.entries.items (k - 1 - i) x) f in
    ap (λ y. what_of r.nodes y.held) g ∙ sym (ap (λ p. p.what) (part_is r i x (omega arith)))

pub entry_known : (r : Reader) (i n m : ℕ) (x : Entry) → i < n → n ≡ length r.entries.items → m ≡ length r.entries.items → x ≡ get_or r.entries.items (m - 1 - i) x → IsInOrder r → IsHeld r.nodes x.held
entry_known r i n m x l e f h k =
    let g : x ≡ get_or r.entries.items (length r.entries.items - 1 - i) x = h ∙ ap (λ k. get_or r.entries.items (k - 1 - i) x) f in
    subst (λ y. IsHeld r.nodes y.held) (sym g) (held_is r i x (omega arith) k)

pub entry_from : (r : Reader) (i n m : ℕ) (x : Entry) → i ≤ n → 0 < i → n ≡ length r.entries.items → m ≡ length r.entries.items → x ≡ get_or r.entries.items (m - i) x → x.from ≡ start_at i (state_of r)
entry_from r i n m x l p e f h =
    let g : x ≡ get_or r.entries.items (length r.entries.items - i) x = h ∙ ap (λ k. get_or r.entries.items (k - i) x) f in
    ap (λ y. y.from) g ∙ start_some r i x p (omega arith)
