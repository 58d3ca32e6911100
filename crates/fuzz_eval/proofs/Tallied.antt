-- Sizes and sums of bags.
use Rattle.std.proofs.Common.{◌≡◌, ℤ, refl, ap, sym, subst, ◌∙◌}
use Rattle.fz_ast.specs.declared.term.Ranged.{Ranged}
use Rattle.fz_ast.specs.declared.term.Ranged.TheVariants.{Clip, Sum as Summed}
use Rattle.fz_ast.specs.declared.term.Unary.{Unary}
use Rattle.fz_ast.specs.declared.term.Unary.TheVariants.{Fst, Snd, Least, Greatest, Size as Sized}
use Rattle.metric_values.specs.Numbers.{clamp, clipped_sum}
use Rattle.metric_values.specs.Values.{NumV, Value}
use Rattle.run_values.specs.Parts.{IsBag, elements}
use Rattle.row_kernels.specs.declared.gather.Gather.TheVariants.{Size, Sum}
use Rattle.row_kernels.specs.Gathers.{AllWeighed, gathered, held}
use Rattle.row_kernels.proofs.Gathered.{all_sized, all_summed, counted, summed}
use Rattle.fuzz_eval.specs.Steps.{Can1, CanRanged, Gives1, GivesRanged, WalksNot}

pub size_weighed : (u : Value) → AllWeighed Size (elements u)
size_weighed u = all_sized (elements u)

module _ (o : Unary) (u : Value) (e : o ≡ Sized) (k : Can1 o u) where
  said : Gives1 Sized u k.value
  said = subst (λ (o : Unary). Gives1 o u k.value) e k.gives

  pub size_bag : IsBag u
  size_bag = subst IsBag (sym said.1) refl

  pub size_gives : (v : Value) → v ≡ NumV (clamp (gathered Size (elements u))) → Gives1 o u v
  size_gives v h = subst (λ (o : Unary). Gives1 o u v) (sym e) (elements u, size_bag, h ∙ ap (λ n. NumV (clamp n)) (counted (elements u)))

pub walks_not : (o : Unary) → (o ≡ Sized → ⊥) → WalksNot o
walks_not Fst h = tt
walks_not Snd h = tt
walks_not Least h = tt
walks_not Greatest h = tt
walks_not Sized h = absurd (h refl)

module _ (o : Ranged) (lo hi : ℤ) (u : Value) (e : o ≡ Summed) (k : CanRanged o lo hi u) where
  sum_said : GivesRanged Summed lo hi u k.value
  sum_said = subst (λ (o : Ranged). GivesRanged o lo hi u k.value) e k.gives

  pub sum_bag : IsBag u
  sum_bag = subst IsBag (sym sum_said.1) refl

  pub sum_weighed : (p q : ℤ) → AllWeighed (Sum p q) (elements u)
  sum_weighed p q = subst (λ (u : Value). AllWeighed (Sum p q) (elements u)) (sym sum_said.1) (all_summed p q sum_said.0)

  pub sum_gives : (p q : ℤ) → held p ≡ lo → held q ≡ hi → (v : Value) → v ≡ NumV (clamp (gathered (Sum p q) (elements u))) → GivesRanged o lo hi u v
  sum_gives p q low high v h =
      subst (λ (o : Ranged). GivesRanged o lo hi u v) (sym e) (
        sum_said.0,
        sum_said.1,
        h ∙ ap (λ n. NumV (clamp n)) (ap (λ u. gathered (Sum p q) (elements u)) sum_said.1 ∙ summed p q sum_said.0 ∙ (λ i. clipped_sum (low i) (high i) sum_said.0)),
      )

-- a number kept within bounds, where the bounds are those that are held
module _ (o : Ranged) (lo hi : ℤ) (u : Value) (e : o ≡ Clip) (p q : ℤ) (low : p ≡ lo) (high : q ≡ hi) where
  pub clip_can : CanRanged o lo hi u → CanRanged Clip p q u
  clip_can k =
      subst (λ (lo : ℤ). CanRanged Clip lo q u) (sym low) (subst (λ (hi : ℤ). CanRanged Clip lo hi u) (sym high) (subst (λ (o : Ranged). CanRanged o lo hi u) e k))

  pub clip_gives : (v : Value) → GivesRanged Clip p q u v → GivesRanged o lo hi u v
  clip_gives v g =
      subst (λ (o : Ranged). GivesRanged o lo hi u v) (sym e) (subst (λ (lo : ℤ). GivesRanged Clip lo hi u v) low (subst (λ (hi : ℤ). GivesRanged Clip p hi u v) high g))
