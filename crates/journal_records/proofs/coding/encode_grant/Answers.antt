use Rattle.std.proofs.Common.{◌≡◌, [], ◌∷◌, length, arith, refl}
use Rattle.journal_records.specs.Encoding.{gate}
use Rattle.journal_records.proofs.Puts.{first, next, whole}
use Rattle.journal_records.proofs.coding.encode_grant.Goals as goal

pub returns : goal.returns
returns c =
    let long : length c.put-4.new.out ≡ 64 = omega arith in
    let s1 = first 4 _ _ (gate ∷ 3 ∷ 0 ∷ 0 ∷ []) c.put.ensures refl refl in
    let s2 = next 4 8 _ _ _ _ _ s1 c.put-2.ensures c.to_be_bytes.ensures refl in
    let s3 = next 8 16 _ _ _ _ _ s2 c.put-3.ensures c.to_be_bytes-2.ensures refl in
    let s4 = next 16 64 _ _ _ _ _ s3 c.put-4.ensures refl refl in
    whole 64 _ _ long s4
