use Rattle.std.proofs.Common.{rules, arith, ◌≡◌, ◌+◌, ◌*◌, min, length, sym}
use Rattle.std.proofs.lemmas.Grind.{common_steps}
use Rattle.std.proofs.lemmas.Int.{to_z-of_z}
use Rattle.flow_values.specs.Views.{steps_of}
use Rattle.row_kernels.specs.Flows.{IsChunkTotal}
use Rattle.row_kernels.proofs.Gathered.{flat_at, flat_more, flat_none}
use Rattle.row_kernels.proofs.flows.flat_total.Goals as goal

pub loop-chunk-init : goal.loop-chunk-init
loop-chunk-init c =
    let rows = c.args.table.now.value in
    let e : 0 ≡ min (0 * 1024) (length rows) = grind arith in
    flat_at c.args.gather (steps_of c.args.stages.now) rows 0 (min (0 * 1024) (length rows)) e (flat_none c.args.gather (steps_of c.args.stages.now) rows)

pub loop-chunk-preserved : goal.loop-chunk-preserved
loop-chunk-preserved c =
    let g = c.args.gather in
    let ss = steps_of c.args.stages.now in
    let rows = c.args.table.now.value in
    let first = c.min-first.result in
    let n = c.min-len.result in
    let all = min ((c.loop-chunk.chunk + 1) * 1024) (length rows) in
    let here : first ≡ min (c.loop-chunk.chunk * 1024) (length rows) = search (rules, arith) in
    let sum : first + n ≡ all = grind arith in
    let h : IsChunkTotal g ss rows first n c.in-Some.more = search rules in
    let t = flat_at g ss rows (min (c.loop-chunk.chunk * 1024) (length rows)) first (sym here) c.loop-chunk.invariant in
    flat_more g ss rows first n all sum (grind arith) c.in-Some.more t h (grind (arith, to_z-of_z, common_steps, c.in_ok-total.ensures))
