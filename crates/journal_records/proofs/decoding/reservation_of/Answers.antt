use Rattle.std.proofs.Common.{◌≡◌, ℕ, List, Some, take, drop, slice_index, sym, subst, true, false, ◌∙◌, ap, arith, rules}
use Rattle.std.specs.Int.{w16, w32, w64, from_be_bytes}
use Rattle.std.proofs.lemmas.Nat.{from_be_bytes-to_be_bytes_2, from_be_bytes-to_be_bytes_4, from_be_bytes-to_be_bytes_8}
use Rattle.std.proofs.lemmas.List.{take_all}
use Rattle.std.proofs.lemmas.Option.{same_Some}
use Rattle.journal_records.specs.Encoding.{AreChargeTerms}
use Rattle.journal_records.specs.declared.records.Record.TheVariants.{Reserve}
use Rattle.journal_records.proofs.decoding.reservation_of.Goals as goal

pub returns-clause-only : goal.returns-clause-only
returns-clause-only c r valid is =
    let n = c.u32_at-number.ensures ∙ ap (λ (b : List ℕ). from_be_bytes w32 (take 4 (drop 4 b))) is ∙ from_be_bytes-to_be_bytes_4 r.number valid.numbered in
    let e' = c.u32_at-e.ensures ∙ ap (λ (b : List ℕ). from_be_bytes w32 (take 4 (drop 8 b))) is
    ∙ from_be_bytes-to_be_bytes_4 r.e (omega (arith, valid.terms.most)) in
    let p' = c.u32_at-p.ensures ∙ ap (λ (b : List ℕ). from_be_bytes w32 (take 4 (drop 12 b))) is ∙ from_be_bytes-to_be_bytes_4 r.p valid.narrow.0 in
    let q' = c.u32_at-q.ensures ∙ ap (λ (b : List ℕ). from_be_bytes w32 (take 4 (drop 16 b))) is ∙ from_be_bytes-to_be_bytes_4 r.q valid.narrow.1 in
    let t' = c.u64_at-taken.ensures ∙ ap (λ (b : List ℕ). from_be_bytes w64 (take 8 (drop 20 b))) is ∙ from_be_bytes-to_be_bytes_8 r.taken valid.charged in
    let a' = c.u16_at-analyst.ensures ∙ ap (λ (b : List ℕ). from_be_bytes w16 (take 2 (drop 28 b))) is ∙ from_be_bytes-to_be_bytes_2 r.analyst valid.asked in
    let h' = c.digest_at-digest.ensures.value ∙ ap (λ (b : List ℕ). take 32 (drop 32 b)) is ∙ take_all 32 r.digest (omega (arith, valid.hashed.0)) in
    let v' = c.in_ok-view.ensures.only r.view valid.viewed (ap (λ (b : List ℕ). slice_index b 2) is) (ap (λ (b : List ℕ). slice_index b 3) is)
    (ap (λ (b : List ℕ). slice_index b 30) is) in
    let w : c.in_ok-view.view ≡ r.view = same_Some _ _ v' in
    λ i. Some (Reserve (record { number = n i; view = w i; e = e' i; p = p' i; q = q' i; taken = t' i; analyst = a' i; digest = h' i }))

pub returns-then-not-are_terms-clause-only : goal.returns-then-not-are_terms-clause-only
returns-then-not-are_terms-clause-only c r valid is =
    let e' = c.u32_at-e.ensures ∙ ap (λ (b : List ℕ). from_be_bytes w32 (take 4 (drop 8 b))) is
    ∙ from_be_bytes-to_be_bytes_4 r.e (omega (arith, valid.terms.most)) in
    let p' = c.u32_at-p.ensures ∙ ap (λ (b : List ℕ). from_be_bytes w32 (take 4 (drop 12 b))) is ∙ from_be_bytes-to_be_bytes_4 r.p valid.narrow.0 in
    let q' = c.u32_at-q.ensures ∙ ap (λ (b : List ℕ). from_be_bytes w32 (take 4 (drop 16 b))) is ∙ from_be_bytes-to_be_bytes_4 r.q valid.narrow.1 in
    let terms : AreChargeTerms c.u32_at-e.result c.u32_at-p.result c.u32_at-q.result
    = subst (λ (x : ℕ). AreChargeTerms x c.u32_at-p.result c.u32_at-q.result) (sym e')
    (subst (λ (x : ℕ). AreChargeTerms r.e x c.u32_at-q.result) (sym p') (subst (λ (x : ℕ). AreChargeTerms r.e r.p x) (sym q') valid.terms)) in
    let yes : c.are_terms.result ≡ true = c.are_terms.ensures.1 terms in
    let no : c.are_terms.result ≡ false = c.if-not-are_terms.true in
    absurd cc

pub returns-clause-valid : goal.returns-clause-valid
returns-clause-valid c = record {
  numbered = omega arith;
  viewed = search rules;
  terms = search rules;
  narrow = (omega arith, omega arith);
  charged = omega arith;
  asked = omega arith;
  hashed = c.digest_at-digest.ensures.fits;
}
