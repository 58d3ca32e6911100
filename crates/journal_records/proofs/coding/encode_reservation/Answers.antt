use Rattle.std.proofs.Common.{◌≡◌, [], ◌∷◌, length, arith, refl}
use Rattle.journal_records.specs.Encoding.{gate, partition_byte, part_low_byte}
use Rattle.journal_records.proofs.Puts.{first, next, whole}
use Rattle.journal_records.proofs.coding.encode_reservation.Goals as goal

pub returns : goal.returns
returns c =
    let long : length c.put-9.new.out ≡ 64 = omega arith in
    let digest : length c.args.reservation.now.digest ≡ 32 = omega arith in
    let s1 = first 4 _ _ (gate ∷ 1 ∷ partition_byte c.args.reservation.now.view ∷ part_low_byte c.args.reservation.now.view ∷ []) c.put.ensures
    (λ i. gate ∷ 1 ∷ c.view_bytes-partition.ensures.partition i ∷ c.view_bytes-partition.ensures.low i ∷ []) refl in
    let s2 = next 4 8 _ _ _ _ _ s1 c.put-2.ensures c.to_be_bytes.ensures refl in
    let s3 = next 8 12 _ _ _ _ _ s2 c.put-3.ensures c.to_be_bytes-2.ensures refl in
    let s4 = next 12 16 _ _ _ _ _ s3 c.put-4.ensures c.to_be_bytes-3.ensures refl in
    let s5 = next 16 20 _ _ _ _ _ s4 c.put-5.ensures c.to_be_bytes-4.ensures refl in
    let s6 = next 20 28 _ _ _ _ _ s5 c.put-6.ensures c.to_be_bytes-5.ensures refl in
    let s7 = next 28 30 _ _ _ _ _ s6 c.put-7.ensures c.to_be_bytes-6.ensures refl in
    let s8 = next 30 32 _ _ _ _ _ s7 c.put-8.ensures (λ i. c.view_bytes-partition.ensures.high i ∷ 0 ∷ []) refl in
    let s9 = next 32 64 _ _ _ _ _ s8 c.put-9.ensures refl (omega (arith, digest)) in
    whole 64 _ _ long s9
