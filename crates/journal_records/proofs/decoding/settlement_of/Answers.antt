use Rattle.std.proofs.Common.{◌≡◌, ℕ, ◌<◌, ◌^◌, ℤ, pos, negsuc, FitsSigned, List, Some, take, drop, slice_index, ◌∙◌, ap, arith}
use Rattle.std.specs.Int.{w32, w64, from_be_bytes, cast_unsigned}
use Rattle.std.proofs.lemmas.Int.{ints}
use Rattle.std.proofs.lemmas.Nat.{from_be_bytes-to_be_bytes_4, from_be_bytes-to_be_bytes_8}
use Rattle.std.proofs.lemmas.Option.{same_Some}
use Rattle.journal_records.specs.declared.records.Outcome.{Outcome}
use Rattle.journal_records.specs.declared.records.Settlement.{Settlement}
use Rattle.journal_records.specs.declared.records.Record.TheVariants.{Settle}
use Rattle.journal_records.specs.declared.records.Outcome.TheVariants.{Answered, Exhausted, Lost}
use Rattle.journal_records.specs.Encoding.{encoded, answer_number, IsOutcome, IsSettlement}
use Rattle.journal_records.proofs.decoding.settlement_of.Goals as goal

fits : (z : ℤ) → FitsSigned w64 z → cast_unsigned w64 z < 2 ^ 64
fits (pos n) h = omega (arith, ints)
fits (negsuc n) h = omega (arith, ints)

answer-fits : (outcome : Outcome) → IsOutcome outcome → answer_number outcome < 2 ^ 64
answer-fits (Answered z) valid = fits z valid
answer-fits Exhausted valid = omega arith
answer-fits Lost valid = omega arith

answer : (bytes : List ℕ) (n : ℕ) (s : Settlement) → IsSettlement s → n ≡ from_be_bytes w64 (take 8 (drop 8 bytes))
    → bytes ≡ encoded (Settle s) → n ≡ answer_number s.outcome
answer bytes n s valid read is = read ∙ ap (λ (b : List ℕ). from_be_bytes w64 (take 8 (drop 8 b))) is
    ∙ from_be_bytes-to_be_bytes_8 (answer_number s.outcome) (answer-fits s.outcome valid.settled)

back : (bytes : List ℕ) (n : ℕ) (s : Settlement) → IsSettlement s → n ≡ from_be_bytes w64 (take 8 (drop 16 bytes))
    → bytes ≡ encoded (Settle s) → n ≡ s.returned
back bytes n s valid read is = read ∙ ap (λ (b : List ℕ). from_be_bytes w64 (take 8 (drop 16 b))) is ∙ from_be_bytes-to_be_bytes_8 s.returned valid.bounded

pub returns-clause-only : goal.returns-clause-only
returns-clause-only c s valid is =
    let n = c.u32_at-number.ensures ∙ ap (λ (b : List ℕ). from_be_bytes w32 (take 4 (drop 4 b))) is ∙ from_be_bytes-to_be_bytes_4 s.number valid.numbered in
    let o = c.in_ok-outcome.ensures.only s.outcome valid.settled (ap (λ (b : List ℕ). slice_index b 2) is)
    (answer c.args.bytes.now _ s valid c.u64_at.ensures is) in
    let w : c.in_ok-outcome.outcome ≡ s.outcome = same_Some _ _ o in
    let r = back c.args.bytes.now _ s valid c.u64_at-returned.ensures is in
    λ i. Some (Settle (record { number = n i; outcome = w i; returned = r i }))

pub returns-in_err-outcome-clause-only : goal.returns-in_err-outcome-clause-only
returns-in_err-outcome-clause-only c s valid is =
    let o = c.in_err-outcome.ensures.only s.outcome valid.settled (ap (λ (b : List ℕ). slice_index b 2) is)
    (answer c.args.bytes.now _ s valid c.u64_at.ensures is) in
    absurd cc
