-- Terms that need no evaluation.
use Rattle.std.proofs.Common.{ℕ, zero, suc}
use Rattle.fz_ast.specs.TermNodes.{binary}
use Rattle.fz_ast.specs.Terms.{LetPairE, Name, Term}
use Rattle.fz_ast.specs.declared.term.Binary.{Binary}
use Rattle.fz_ast.specs.declared.term.Binary.TheVariants.{Pair, With, App, Plus, Minus, AtMost, Equal, Union, Map, Filter, Split}
use Rattle.metric_law.specs.Means.{MeansIn, Rules}
use Rattle.metric_values.specs.Values.{Env, Value}
use Rattle.fuzz_eval.specs.Operands.{GivesAtOnce, GivesSign, MeansAtOnce, TakesApart}
use Rattle.fuzz_eval.specs.Steps.{Gives2, HasFormWithin, HasValueWithin}
use Rattle.fuzz_eval.proofs.TwoParts.{binary_means, first_has, pair_has, pair_inside, pair_means, second_has}

sign_gives : (n : ℕ) (o : Binary) (u w v : Value) → GivesSign o u w v → Gives2 (MeansIn n) o u w v
sign_gives n Plus u w v g = g
sign_gives n Minus u w v g = g
sign_gives n AtMost u w v g = g
sign_gives n Equal u w v g = g
sign_gives n Pair u w v g = absurd g
sign_gives n With u w v g = absurd g
sign_gives n App u w v g = absurd g
sign_gives n Union u w v g = absurd g
sign_gives n Map u w v g = absurd g
sign_gives n Filter u w v g = absurd g
sign_gives n Split u w v g = absurd g

stands_here : (n : ℕ) (γ : Env) (t : Term) (v : Value) → HasValueWithin n γ t → MeansAtOnce γ t v → MeansIn n γ t v
stands_here zero γ t v k h = absurd k.does
stands_here (suc n) γ t v k h = h n

pub at_once_means : (n : ℕ) (γ : Env) (o : Binary) (a b : Term) → HasFormWithin n γ (binary o a b) → (v : Value) → GivesAtOnce γ o a b v → Rules (MeansIn n) γ (binary o a b) v
at_once_means n γ o a b k v g =
    let c = stands_here n γ a g.0 (first_has n γ o a b k) g.2 in
    let d = stands_here n γ b g.1 (second_has n γ o a b k) g.3 in
    binary_means n γ o a b k g.0 g.1 c d v (sign_gives n o g.0 g.1 v g.4)

-- `let (x, y) = e in b`
module _ (n : ℕ) (γ : Env) (x y : Name) (e b : Term) (k : HasFormWithin n γ (LetPairE x y e b)) (δ : Env) (h : TakesApart γ x y e δ) where
  pair_here : MeansIn n γ e h.0
  pair_here = stands_here n γ e h.0 (pair_has n γ x y e b k) h.1

  pub apart_inside : HasValueWithin n δ b
  apart_inside = pair_inside n γ x y e b k h.0 pair_here δ h.2

  pub apart_means : (v : Value) → MeansIn n δ b v → Rules (MeansIn n) γ (LetPairE x y e b) v
  apart_means v g = pair_means n γ x y e b k h.0 pair_here δ h.2 v g
