use Rattle.std.proofs.Common.{◌≡◌, ◌<◌, ℕ, List, [], ◌∷◌, ◌++◌, length, map, take, Option, sym, ◌∙◌, ap, arith}
use Rattle.owner_catalog.specs.Entries.{limit_for, owner_entry_at}
use Rattle.owner_house.proofs.Owners.{limits_more, limits_all}
use Rattle.owner_house.proofs.entry.limits_in.Goals as goal

pub loop-analyst-preserved : goal.loop-analyst-preserved
loop-analyst-preserved c =
    let owner = owner_entry_at c.args.catalog.now c.args.owner in
    let analysts = c.args.catalog.now.analysts in
    let a = c.loop-analyst.analyst in
    let within : a < length analysts = omega (arith, c.loop-analyst-test.true, c.requires.analysts) in
    c.in_ok-push.ensures.items ∙ ap (λ (xs : List (Option ℕ)). xs ++ c.limit.result ∷ []) c.loop-analyst.invariant
    ∙ ap (λ (limit : Option ℕ). map (limit_for owner) (take a analysts) ++ limit ∷ []) c.limit.ensures ∙ sym (limits_more owner analysts a within)

pub returns : goal.returns
returns c =
    let analysts = c.args.catalog.now.analysts in
    let whole : c.loop-analyst.analyst ≡ length analysts = omega (arith, c.requires.analysts) in
    c.loop-analyst.invariant ∙ limits_all (owner_entry_at c.args.catalog.now c.args.owner) analysts c.loop-analyst.analyst whole
