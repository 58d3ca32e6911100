use Rattle.std.proofs.Common.{◌∙◌, ◌+◌, [], drop, sym, ap, subst}
use Rattle.session_core.specs.OwnerHouse.House.{house_of}
use Rattle.session_core.specs.Bundles.{Bundle}
use Rattle.session_core.specs.Code.{ArePasses}
use Rattle.script_workers.specs.Starts.{blocks_at}
use Rattle.script_workers.proofs.Blocks.{next_start, no_start}
use Rattle.script_workers.proofs.Served.{IsServing, serving_first, serving_own, serving_others, serving_room, serving_all}
use Rattle.script_workers.proofs.worker.serve.Goals as goal
use Rattle.script_workers.proofs.worker.serve.Goals.{then-number-count, else-number-count}

pub loop-number-init : goal.loop-number-init
loop-number-init g c = record {
  here = c.requires.here;
  passes = c.requires.passes;
  serving = serving_first (house_of c.args.server.now.house.now) (g.S.Streams.given c.args.server.now.streams.now) c.args.count c.args.index (blocks_at c.args.starts.now) c.args.worker.now.passes c.args.worker.now.texts c.requires.room;
}

pub serve_block-requires-clause-bytes : goal.serve_block-requires-clause-bytes
serve_block-requires-clause-bytes g c =
    (serving_room _ _ _ _ _ _ _ _ _ _ c.loop-number.invariant.serving _ _ (next_start c.args.starts.now c.loop-number.number (record { ref_ptr = (0, 0); now = [] }) c.loop-number-test.true) c.if-number-count.true).0

pub serve_block-requires-clause-ends : goal.serve_block-requires-clause-ends
serve_block-requires-clause-ends g c =
    (serving_room _ _ _ _ _ _ _ _ _ _ c.loop-number.invariant.serving _ _ (next_start c.args.starts.now c.loop-number.number (record { ref_ptr = (0, 0); now = [] }) c.loop-number-test.true) c.if-number-count.true).1

pub loop-number-preserved : goal.loop-number-preserved
loop-number-preserved g c =
    let house = house_of c.args.server.now.house.now in
    let draws = g.S.Streams.given c.args.server.now.streams.now in
    let all = blocks_at c.args.starts.now in
    let k = c.loop-number.number in
    let serving = c.loop-number.invariant.serving in
    let next = next_start c.args.starts.now k (record { ref_ptr = (0, 0); now = [] }) c.loop-number-test.true in
    elim c.if-number-count.branch [
      | then-number-count w ↦
          let block = w.serve_block in
          let served = block.ensures.served in
          let own = serving_own _ _ _ _ _ _ _ _ _ _ serving _ _ next w.if-number-count.true served.0 block.new.worker.passes block.new.worker.texts (served.1, served.3) served.2 served.4 block.ensures.stays block.ensures.capacity in
          record {
            here = ap (λ v. v.passes.locks) w.worker-is ∙ ap (λ (b : Bundle). b.locks) block.ensures.stays ∙ c.loop-number.invariant.here;
            passes = subst (λ v. ArePasses house v.passes.knows) (sym w.worker-is) block.ensures.passes;
            serving = subst (λ v. IsServing house draws c.args.count c.args.index all (k + 1) (drop (k + 1) all) c.args.worker.now.passes v.passes v.texts) (sym w.worker-is) own;
          }
      | else-number-count w ↦
          let others = serving_others _ _ _ _ _ _ _ _ _ _ serving _ _ next w.if-number-count.false in
          record {
            here = ap (λ v. v.passes.locks) w.worker-is ∙ c.loop-number.invariant.here;
            passes = subst (λ v. ArePasses house v.passes.knows) (sym w.worker-is) c.loop-number.invariant.passes;
            serving = subst (λ v. IsServing house draws c.args.count c.args.index all (k + 1) (drop (k + 1) all) c.args.worker.now.passes v.passes v.texts) (sym w.worker-is) others;
          }
    ]

pub returns : goal.returns
returns g c = record { done = serving_all _ _ _ _ _ _ _ _ _ _ c.loop-number.invariant.serving (no_start c.args.starts.now c.loop-number.number c.loop-number-test.false) }
