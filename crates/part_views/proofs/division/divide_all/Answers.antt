-- One partition more.
use Rattle.std.proofs.Common.{◌≡◌, ◌<◌, ◌∙◌, ◌++◌, [], ◌∷◌, length, map, ap, sym, subst, arith, rules}
use Rattle.std.specs.List.{All}
use Rattle.std.proofs.lemmas.List.{map-append, take_more}
use Rattle.std.proofs.lemmas.List.Elements.{All-push}
use Rattle.owner_catalog.specs.Entries.{owner_entry_at}
use Rattle.part_views.specs.Divisions.{IsDivision, partition_of}
use Rattle.part_views.proofs.division.divide_all.Goals as goal

pub loop-p-preserved : goal.loop-p-preserved
loop-p-preserved c =
    let all = (owner_entry_at c.args.catalog.now c.args.owner).partitions in
    let low : c.loop-p.p < length all = omega (arith, c.partitions-p-end.ensures.partitions) in
    let pushed : c.push.new.self.items ≡ c.loop-p.divisions.items ++ c.in_ok-division.division ∷ [] = search rules in
    record {
      so_far = ap (map partition_of) pushed ∙ map-append partition_of c.loop-p.divisions.items (c.in_ok-division.division ∷ [])
          ∙ (λ i. c.loop-p.invariant.so_far i ++ c.in_ok-division.ensures.partition i ∷ []) ∙ sym (take_more all c.loop-p.p _ low);
      each = subst (All (IsDivision c.args.sig.now c.args.tables.now)) (sym pushed)
          (All-push (IsDivision c.args.sig.now c.args.tables.now) c.loop-p.divisions.items c.in_ok-division.division c.loop-p.invariant.each
          c.in_ok-division.ensures.parts);
    }
