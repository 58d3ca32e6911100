-- What the blocks of each worker ask for, counted in one pass.
use Rattle.std.proofs.Common.{◌≡◌, ◌≢◌, ℕ, ◌+◌, ◌-◌, ◌^◌, ◌%◌, ◌≤◌, List, [], ◌∷◌, length, sum_by, ap, arith}
use Rattle.std.specs.Prelude.{min}
use Rattle.std.proofs.lemmas.List.Sums.{sum_by-cons}
use Rattle.session_core.specs.Blocks.{own_blocks}
use Rattle.session_core.specs.Code.{room_for_lines}
use Rattle.script_workers.specs.Crews.{AreNeeds, own_room}
use Rattle.script_workers.specs.declared.needs.Needs.{Needs}
use Rattle.script_workers.proofs.Blocks.{own_next, others_next}

-- A worker's blocks among those that were passed over ask for so much, where these are left, the first of them block k.
pub record AreCounted (count i k : ℕ) (all left : List (List (List ℕ))) (needs : Needs) : Type 0 where
  pub sum : ℕ
  pub room : needs.room ≡ min (2 ^ 64 - 1) sum
  pub whole : own_room count i 0 all ≡ sum + own_room count i k left
  pub dealt : length (own_blocks count i 0 all) ≡ needs.blocks + length (own_blocks count i k left)
  pub few : needs.blocks ≤ k

-- at first nothing is asked for
pub none_counted : (count i : ℕ) (all : List (List (List ℕ))) (needs : Needs) → needs.room ≡ 0 → needs.blocks ≡ 0 → AreCounted count i 0 all all needs
none_counted count i all needs room blocks = record {
  sum = 0;
  room = omega (arith, room);
  whole = omega arith;
  dealt = omega (arith, blocks);
  few = omega (arith, blocks);
}

-- and in the end all is
pub all_counted : (count i k : ℕ) (all left : List (List (List ℕ))) (needs : Needs) → left ≡ [] → AreCounted count i k all left needs → AreNeeds count i all needs
all_counted count i k all left needs none counted = record {
  room = omega (arith, counted.room, counted.whole, ap (own_room count i k) none);
  blocks = omega (arith, counted.dealt, ap (λ bs. length (own_blocks count i k bs)) none);
}

module _ (count i k : ℕ) (all left : List (List (List ℕ))) (block : List (List ℕ)) (blocks : List (List (List ℕ))) (next : left ≡ block ∷ blocks)
    (needs : Needs) (counted : AreCounted count i k all left needs) where
  -- a block of another worker
  pub others_counted : k % count ≢ i → AreCounted count i (k + 1) all blocks needs
  others_counted other =
      let others = others_next count i k left block blocks next other in
      record {
        sum = counted.sum;
        room = counted.room;
        whole = omega (arith, counted.whole, ap (sum_by room_for_lines) others);
        dealt = omega (arith, counted.dealt, ap length others);
        few = omega (arith, counted.few);
      }

  -- a block of its own
  pub own_counted : k % count ≡ i → (more : Needs) → (room : ℕ) → room ≡ min (2 ^ 64 - 1) (room_for_lines block)
      → more.room ≡ min (2 ^ 64 - 1) (needs.room + room) → more.blocks ≡ needs.blocks + 1 → AreCounted count i (k + 1) all blocks more
  own_counted mine more room asked added one =
      let own = own_next count i k left block blocks next mine in
      let rest : List (List (List ℕ)) = own_blocks count i (k + 1) blocks in
      record {
        sum = counted.sum + room_for_lines block;
        room = omega (arith, added, asked, counted.room);
        whole = omega (arith, counted.whole, ap (sum_by room_for_lines) own, sum_by-cons room_for_lines block rest);
        dealt = omega (arith, counted.dealt, ap length own, one);
        few = omega (arith, counted.few, one);
      }
