-- What is read of a number's text.
use Rattle.std.proofs.Common.{◌≡◌, ℕ, Bool, true, false, List, [], ◌∷◌, length, Option, Some, None, refl, lt-ltb, ltb-true, nat_lt, ap, cond}
use Rattle.std.specs.Prelude.{◌^◌, ◌&&◌, Result, ⊤}
use Rattle.std.specs.Char.{digit_value}
use Rattle.std.specs.List.{list_all}
use Rattle.std.specs.Str.Parse.{AllDigits, ParsesUnsigned, ExplainsUnsignedError, HasUnsignedDigitsIfOk, digits_value, without_leading_plus}
use Rattle.std.specs.declared.num.ParseIntError.{ParseIntError}
use Rattle.clap.specs.Words.{ReadsOne}
use Rattle.clap.specs.ValueTests.{is_numeral}
use Rattle.clap.proofs.WalkLemmas.{both}
use Rattle.command_words.specs.Command.{number_of_bits}

digits_pass : (ds : List ℕ) → AllDigits 10 ds → list_all (λ d. nat_lt (digit_value d) 10) ds ≡ true
digits_pass [] h = refl
digits_pass (d ∷ ds) h = rw (lt-ltb (digit_value d) 10 h.0) (digits_pass ds h.1)

digits_from : (ds : List ℕ) → list_all (λ d. nat_lt (digit_value d) 10) ds ≡ true → AllDigits 10 ds
digits_from [] e = tt
digits_from (d ∷ ds) e =
    let parts = both _ _ e in
    (ltb-true _ _ parts.0, digits_from ds parts.1)

abbrev is_number : (bits : ℕ) → List ℕ → Bool
is_number bits ds = is_numeral ds && nat_lt (digits_value 10 ds) (2 ^ bits)

abbrev pub gives : (bits : ℕ) → List ℕ → Result ℕ ParseIntError → Type 0
gives bits text r = ParsesUnsigned bits 10 text r × ExplainsUnsignedError 10 text r × HasUnsignedDigitsIfOk text r

pub number_read : (bits : ℕ) (text : List ℕ) (r : Option ℕ) → ReadsOne (gives bits) text r → r ≡ number_of_bits bits text
number_read bits text (Some n) h =
    let ds = without_leading_plus text in
    rw (lt-ltb 0 (length ds) h.0.0.0.0, digits_pass ds h.0.0.0.1, lt-ltb (digits_value 10 ds) (2 ^ bits) h.0.0.1) (ap Some h.0.1)
number_read bits text None h = go (is_number bits (without_leading_plus text)) refl
  where
    go : (b : Bool) → is_number bits (without_leading_plus text) ≡ b → None ≡ number_of_bits bits text
    go false t = rw t refl
    go true t =
        let outer = both _ _ t in
        let inner = both _ _ outer.0 in
        absurd (h.1.0 ((ltb-true _ _ inner.0, digits_from (without_leading_plus text) inner.1), ltb-true _ _ outer.1))

-- and so `number_of_bits` reads it
pub number_reads : (bits : ℕ) (text : List ℕ) → ReadsOne {T = ℕ} {E = ⊤} (ParsesUnsigned bits 10) text (number_of_bits bits text)
number_reads bits text = go (is_number bits (without_leading_plus text)) refl
  where
    go : (b : Bool) → is_number bits (without_leading_plus text) ≡ b
        → ReadsOne {T = ℕ} {E = ⊤} (ParsesUnsigned bits 10) text (cond b (Some (digits_value 10 (without_leading_plus text))) None)
    go true t =
        let outer = both _ _ t in
        let inner = both _ _ outer.0 in
        (((ltb-true _ _ inner.0, digits_from (without_leading_plus text) inner.1), ltb-true _ _ outer.1), refl)
    go false t = (
      tt,
      λ h.
          let is : is_number bits (without_leading_plus text) ≡ true =
          rw (lt-ltb 0 (length (without_leading_plus text)) h.0.0, digits_pass (without_leading_plus text) h.0.1, lt-ltb (digits_value 10 (without_leading_plus text)) (2 ^ bits) h.1) refl in
          cc (t, is),
    )
