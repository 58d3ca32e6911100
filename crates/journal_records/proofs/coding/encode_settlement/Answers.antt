use Rattle.std.proofs.Common.{◌≡◌, ℕ, [], ◌∷◌, ◌++◌, replicate, length, arith, refl, ap, ◌∙◌}
use Rattle.std.specs.Int.{w32, w64, to_be_bytes}
use Rattle.journal_records.specs.Encoding.{gate, outcome_byte}
use Rattle.journal_records.proofs.Puts.{first, next, whole}
use Rattle.journal_records.proofs.coding.encode_settlement.Goals as goal

pub returns : goal.returns
returns c =
    let long : length c.put-5.new.out ≡ 64 = omega arith in
    let s1 = first 4 _ _ (gate ∷ 2 ∷ outcome_byte c.args.settlement.now.outcome ∷ 0 ∷ []) c.put.ensures (λ i. gate ∷ 2 ∷ c.outcome_parts-kind.ensures.byte i ∷ 0 ∷ []) refl in
    let s2 = next 4 8 _ _ _ _ _ s1 c.put-2.ensures c.to_be_bytes.ensures refl in
    let s3 = next 8 16 _ _ _ _ _ s2 c.put-3.ensures c.to_be_bytes-2.ensures refl in
    let s4 = next 16 24 _ _ _ _ _ s3 c.put-4.ensures c.to_be_bytes-3.ensures refl in
    let s5 = next 24 64 _ _ _ _ _ s4 c.put-5.ensures refl refl in
    let front = (gate ∷ 2 ∷ outcome_byte c.args.settlement.now.outcome ∷ 0 ∷ []) ++ to_be_bytes w32 c.args.settlement.now.number in
    whole 64 _ _ long (s5 ∙ ap (λ (n : ℕ). front ++ to_be_bytes w64 n ++ to_be_bytes w64 c.args.settlement.now.returned ++ replicate 40 0) c.outcome_parts-kind.ensures.number)
