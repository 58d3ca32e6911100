-- Chains and strands put together, and laid out.
use Rattle.std.proofs.Common.{◌≡◌, ℕ, ◌<◌, ◌+◌, Bool, List, None, [], ◌∷◌, ◌++◌, Option, length, get_or, refl, ap, arith, sym, subst, ◌∙◌, append_assoc, append-nil}
use Rattle.std.specs.Prelude.{max, reverse, take}
use Rattle.std.proofs.lemmas.List.{take_more}
use Rattle.metric_values.specs.Values.{Flat}
use Rattle.flow_values.specs.Held.{HeldChain}
use Rattle.flow_values.specs.Strands.{AreAppended, AreStaged, IsLonger, IsSameStrand}
use Rattle.flow_values.specs.Steps.{AllGo, AreAllMaps, Step, all_through}
use Rattle.flow_values.specs.Views.{AllKnown, IsFlow, flow_of, stages_deep, step_by, step_of, steps_of, strands_deep}
use Rattle.flow_values.specs.declared.value.Closure.{Closure}
use Rattle.flow_values.specs.declared.value.Stage.{Stage}
use Rattle.flow_values.specs.declared.value.Strand.{Strand}
use Rattle.flow_values.proofs.Gone.{all_more, go_left, go_more, go_none, go_right, through_both, through_none}

pub steps_more : (ss : List Stage) (s : Stage) → steps_of (ss ++ s ∷ []) ≡ steps_of ss ++ step_of s ∷ []
steps_more [] s = refl
steps_more (t ∷ ss) s = ap (λ xs. step_of t ∷ xs) (steps_more ss s)

pub maps_more : (ss : List Step) (s : Step) → AreAllMaps ss → s.keeps ≡ None → AreAllMaps (ss ++ s ∷ [])
maps_more [] s h k = (k, tt)
maps_more (t ∷ ss) s h k = (h.0, maps_more ss s h.1 k)

-- stages from the last one on: those that are met, and the steps of those that are left
abbrev pub AreMet : HeldChain → HeldChain → List Stage → Type 0
AreMet all left out =
    (left.steps ++ steps_of (reverse out) ≡ all.steps) × AllKnown (reverse out) × (stages_deep left.deep (reverse out) ≡ all.deep)

-- the elements of a strand
abbrev pub strand_of : Strand → List Flat
strand_of s = all_through s.chain.steps s.table.value

pub flow_more : (ss : List Strand) (s : Strand) → flow_of (ss ++ s ∷ []) ≡ flow_of ss ++ strand_of s
flow_more [] s = append-nil (strand_of s)
flow_more (x ∷ ss) s = ap (λ xs. strand_of x ++ xs) (flow_more ss s) ∙ sym (append_assoc (strand_of x) (flow_of ss) (strand_of s))

deep_more : (ss : List Strand) (s : Strand) → strands_deep (ss ++ s ∷ []) ≡ max (strands_deep ss) s.chain.deep
deep_more [] s = omega arith
deep_more (x ∷ ss) s = omega (arith, deep_more ss s)

abbrev pub IsStrand : Strand → Type 0
IsStrand s = AllGo s.chain.steps s.table.value

pub walk_more : (ss : List Strand) (s : Strand) → IsFlow ss → IsStrand s → IsFlow (ss ++ s ∷ [])
walk_more [] s h k = (k, tt)
walk_more (x ∷ ss) s h k = (h.0, walk_more ss s h.1 k)

walk_left : (ss ts : List Strand) → IsFlow (ss ++ ts) → IsFlow ss
walk_left [] ts h = tt
walk_left (x ∷ ss) ts h = (h.0, walk_left ss ts h.1)

walk_last : (ss : List Strand) (s : Strand) → IsFlow (ss ++ s ∷ []) → IsStrand s
walk_last [] s h = h.0
walk_last (x ∷ ss) s h = walk_last ss s h.1

taken : (ss : List Strand) (i : ℕ) (s : Strand) → i < length ss → s ≡ get_or ss i s → take (i + 1) ss ≡ take i ss ++ s ∷ []
taken ss i s h e = take_more ss i s h ∙ ap (λ x. take i ss ++ x ∷ []) (sym e)

module _ (c : Closure) (l : ℕ) (k : Option Bool) where
  longer_elements : (a b : Strand) → IsLonger a b c l k → strand_of a ≡ all_through (step_by c l k ∷ []) (strand_of b)
  longer_elements a b h = (λ i. all_through (h.steps i) (h.table i)) ∙ all_more b.chain.steps (step_by c l k) b.table.value

  longer_goes : (a b : Strand) → IsLonger a b c l k → IsStrand b → AllGo (step_by c l k ∷ []) (strand_of b) → IsStrand a
  longer_goes a b h g w =
      subst (λ (ss : List Step). AllGo ss a.table.value) (sym h.steps)
      (subst (λ (rows : List Flat). AllGo (b.chain.steps ++ step_by c l k ∷ []) rows) (sym h.table) (go_more b.chain.steps (step_by c l k) b.table.value g w))

  staged_one : (ss out : List Strand) (x s : Strand) → AreStaged c l k ss out → IsLonger s x c l k → AreStaged c l k (ss ++ x ∷ []) (out ++ s ∷ [])
  staged_one ss out x s inv is = record {
    elements =
        flow_more out s ∙ (λ i. inv.elements i ++ longer_elements s x is i) ∙ sym (through_both (step_by c l k ∷ []) (flow_of ss) (strand_of x))
        ∙ ap (all_through (step_by c l k ∷ [])) (sym (flow_more ss x));
    walked = λ f g.
        let h = subst (λ (xs : List Flat). AllGo (step_by c l k ∷ []) xs) (flow_more ss x) g in
        walk_more out s (inv.walked (walk_left ss (x ∷ []) f) (go_left (step_by c l k ∷ []) (flow_of ss) (strand_of x) h))
        (longer_goes s x is (walk_last ss x f) (go_right (step_by c l k ∷ []) (flow_of ss) (strand_of x) h));
    deep = omega (arith, deep_more out s, deep_more ss x, inv.deep, is.deep);
  }

  pub staged_none : AreStaged c l k [] []
  staged_none = record { elements = refl; walked = λ f g. tt; deep = omega arith }

  pub staged_more : (ss : List Strand) (i : ℕ) (x : Strand) → i < length ss → x ≡ get_or ss i x → (out more : List Strand) (s : Strand)
      → AreStaged c l k (take i ss) out → more ≡ out ++ s ∷ [] → IsLonger s x c l k → AreStaged c l k (take (i + 1) ss) more
  staged_more ss i x h e out more s inv p is =
      subst (λ (xs : List Strand). AreStaged c l k xs more) (sym (taken ss i x h e))
      (subst (λ (ys : List Strand). AreStaged c l k (take i ss ++ x ∷ []) ys) (sym p) (staged_one (take i ss) out x s inv is))

pub appended_none : (ss : List Strand) → AreAppended ss [] ss
appended_none ss = record { elements = sym (append-nil (flow_of ss)); walked = λ f g. f; deep = omega arith }

appended_one : (start out ss : List Strand) (x s : Strand) → AreAppended start ss out → IsSameStrand s x → AreAppended start (ss ++ x ∷ []) (out ++ s ∷ [])
appended_one start out ss x s inv is = record {
  elements =
      flow_more out s ∙ (λ i. inv.elements i ++ all_through (is.steps i) (is.table i)) ∙ append_assoc (flow_of start) (flow_of ss) (strand_of x)
      ∙ ap (λ xs. flow_of start ++ xs) (sym (flow_more ss x));
  walked = λ f g.
      walk_more out s (inv.walked f (walk_left ss (x ∷ []) g))
      (subst (λ (steps : List Step). AllGo steps s.table.value) (sym is.steps) (subst (λ (rows : List Flat). AllGo x.chain.steps rows) (sym is.table) (walk_last ss x g)));
  deep = omega (arith, deep_more out s, deep_more ss x, inv.deep, is.deep);
}

pub appended_more : (ss : List Strand) (i : ℕ) (x : Strand) → i < length ss → x ≡ get_or ss i x → (start out more : List Strand) (s : Strand)
    → AreAppended start (take i ss) out → more ≡ out ++ s ∷ [] → IsSameStrand s x → AreAppended start (take (i + 1) ss) more
appended_more ss i x h e start out more s inv p is =
    subst (λ (xs : List Strand). AreAppended start xs more) (sym (taken ss i x h e))
    (subst (λ (ys : List Strand). AreAppended start (take i ss ++ x ∷ []) ys) (sym p) (appended_one start out (take i ss) x s inv is))

-- the one strand of a table
pub one_walked : (ss out : List Strand) (s : Strand) → ss ≡ [] → out ≡ ss ++ s ∷ [] → s.chain.steps ≡ [] → IsFlow out
one_walked ss out s p q e =
    let o : out ≡ s ∷ [] = q ∙ ap (λ xs. xs ++ s ∷ []) p in
    subst IsFlow (sym o) (subst (λ (steps : List Step). AllGo steps s.table.value) (sym e) (go_none s.table.value), tt)

pub one_rows : (ss out : List Strand) (s : Strand) → ss ≡ [] → out ≡ ss ++ s ∷ [] → s.chain.steps ≡ [] → flow_of out ≡ s.table.value
one_rows ss out s p q e =
    let o : out ≡ s ∷ [] = q ∙ ap (λ xs. xs ++ s ∷ []) p in
    ap flow_of o ∙ append-nil (strand_of s) ∙ ap (λ steps. all_through steps s.table.value) e ∙ through_none s.table.value
