-- What a stop leaves, from one moment to another.
use Rattle.std.proofs.Common.{◌⊎◌, ℕ, suc, ◌≤◌, List, [], ◌∷◌, ◌++◌, length, refl, sym, ◌∙◌, ap, subst, arith, inl, inr, ⊎_elim, append_assoc, length-append}
use Rattle.outside_disks.specs.Disks.{Step, Trace, after, moment, seen, IsImage, WasImage, WasImageOf, Leaves, Passes}
use Rattle.outside_disks.specs.Disks.Step.{Wrote, Synced}
use Rattle.outside_disks.proofs.Overlaid.{overlaid-torn}

-- what reads give is what a stop may leave
pub seen-image : (start : List ℕ) (steps : List Step) → IsImage start steps (seen start steps)
seen-image start [] = refl
seen-image start (Wrote place bytes ∷ earlier) = (seen start earlier, seen-image start earlier, overlaid-torn (seen start earlier) place bytes)
seen-image start (Synced ∷ earlier) = refl

-- since this moment there is no other
pub was-now : (start : List ℕ) (steps : List Step) (c : List ℕ) → WasImage (length steps) start steps c → IsImage start steps c
was-now start [] c was = was
was-now start (step ∷ earlier) c (inl now) = now
was-now start (step ∷ earlier) c (inr before) = let le : suc (length earlier) ≤ length earlier = before.0 in absurd (omega arith)

-- this moment is one of those since an earlier one
pub now-was : (since : ℕ) (start : List ℕ) (steps : List Step) (c : List ℕ) → IsImage start steps c → WasImage since start steps c
now-was since start [] c is = is
now-was since start (step ∷ earlier) c is = inl is

-- a stop since an earlier moment was before this one or since
pub was-split : (n : ℕ) (start : List ℕ) (more steps : List Step) (c : List ℕ) → n ≤ length steps → WasImage n start (more ++ steps) c
    → WasImage n start steps c ⊎ WasImage (length steps) start (more ++ steps) c
was-split n start [] steps c le was = inl was
was-split n start (step ∷ more) steps c le (inl now) = inr (inl now)
was-split n start (step ∷ more) steps c le (inr before) = ⊎_elim (λ early. inl early) (λ late. inr (inr (omega (arith, length-append more steps), late)))
    (was-split n start more steps c le before.1)

pub was-kept : (n : ℕ) (start : List ℕ) (more steps : List Step) (c : List ℕ) → n ≤ length steps → WasImage n start steps c → WasImage n start (more ++ steps) c
was-kept n start [] steps c le was = was
was-kept n start (step ∷ more) steps c le was = inr (omega (arith, length-append more steps), was-kept n start more steps c le was)

-- before the first step
pub passes-none : (P : List ℕ → Type 0) (t : Trace) → Leaves P t → Passes P t t
passes-none P t leaves = record { more = []; grew = refl; each = λ c was. leaves c (was-now t.start t.steps c was) }

-- one step more, after which a stop leaves what has P
pub passes-step : (P : List ℕ → Type 0) (t u : Trace) (step : Step) → Passes P t u → Leaves P (after step u) → Passes P t (after step u)
passes-step P t u step p leaves = record {
  more = step ∷ p.more;
  grew = ap (after step) p.grew;
  each = λ c was. ⊎_elim (leaves c) (λ before. p.each c before.1) was;
}

-- what holds since a moment, and from a later one on
pub passes-both : (P : List ℕ → Type 0) (t u v : Trace) → Passes P t u → Passes P u v → Passes P t v
passes-both P t u v p q = record {
  more = q.more ++ p.more;
  grew = q.grew ∙ ap (λ (w : Trace). record { start = w.start; steps = q.more ++ w.steps }) p.grew
      ∙ ap (λ (steps : List Step). record { start = t.start; steps = steps }) (sym (append_assoc q.more p.more t.steps));
  each = λ c was.
      let in_v : WasImageOf (moment t) (record { start = u.start; steps = q.more ++ u.steps }) c = subst
      (λ (w : Trace). WasImageOf (moment t) w c) q.grew was in
      let later : moment t ≤ moment u = omega (arith, ap moment p.grew, length-append p.more t.steps) in
      ⊎_elim (p.each c) (λ late. q.each c (subst (λ (w : Trace). WasImageOf (moment u) w c) (sym q.grew) late))
      (was-split (moment t) u.start q.more u.steps c later in_v);
}

pub passes-weaker : (P Q : List ℕ → Type 0) (t u : Trace) → ((c : List ℕ) → P c → Q c) → Passes P t u → Passes Q t u
passes-weaker P Q t u weaker p = record { more = p.more; grew = p.grew; each = λ c was. weaker c (p.each c was) }

-- From an earlier moment on: what held up to here, and what holds from here on.
pub since-both : (n : ℕ) (P Q : List ℕ → Type 0) (t u : Trace) → n ≤ moment t → ((c : List ℕ) → WasImageOf n t c → Q c) → ((c : List ℕ) → P c → Q c)
    → Passes P t u → (c : List ℕ) → WasImageOf n u c → Q c
since-both n P Q t u le before weaker p c was =
    let in_u : WasImageOf n (record { start = t.start; steps = p.more ++ t.steps }) c = subst (λ (w : Trace). WasImageOf n w c) p.grew was in
    ⊎_elim (before c) (λ late. weaker c (p.each c (subst (λ (w : Trace). WasImageOf (moment t) w c) (sym p.grew) late)))
    (was-split n t.start p.more t.steps c le in_u)
