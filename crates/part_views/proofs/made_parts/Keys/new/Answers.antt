-- One more key.
use Rattle.std.proofs.Common.{◌≡◌, true, rules}
use Rattle.std.specs.Result.{is_ok}
use Rattle.part_views.proofs.Chains.{one_more_key}
use Rattle.part_views.proofs.made_parts.Keys.new.Goals as goal

pub loop-i-preserved : goal.loop-i-preserved
loop-i-preserved c =
    let good : is_ok c.insert.result ≡ true = search rules in
    record {
      so_far = one_more_key c.args.texts.now c.loop-i.numbered.keys c.insert.new.self.keys c.loop-i.i _ c.requires c.loop-i-test.true c.loop-i.invariant.so_far
          c.insert.result good c.insert.ensures.keys;
    }
