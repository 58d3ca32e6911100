use Rattle.std.proofs.Common.{ℕ, List, take, drop, ◌∙◌, ap}
use Rattle.std.specs.Int.{w32, w64, from_be_bytes}
use Rattle.std.proofs.lemmas.Nat.{from_be_bytes-to_be_bytes_4, from_be_bytes-to_be_bytes_8}
use Rattle.journal_records.specs.declared.records.Record.TheVariants.{Grant}
use Rattle.journal_records.proofs.decoding.grant_of.Goals as goal

pub returns-clause-only : goal.returns-clause-only
returns-clause-only c g valid is =
    let n = c.u32_at.ensures ∙ ap (λ (b : List ℕ). from_be_bytes w32 (take 4 (drop 4 b))) is ∙ from_be_bytes-to_be_bytes_4 g.number valid.numbered in
    let a = c.u64_at.ensures ∙ ap (λ (b : List ℕ). from_be_bytes w64 (take 8 (drop 8 b))) is ∙ from_be_bytes-to_be_bytes_8 g.amount valid.bounded in
    λ i. Grant (record { number = n i; amount = a i })
