-- A number's text is accepted exactly where it is a number in range.
use Rattle.std.proofs.Common.{◌≡◌, ◌≤◌, ◌<◌, ℕ, Bool, cond, true, false, refl, sym, ap, subst, [], ◌∷◌, ◌∙◌, Option, Some, None, arith}
use Rattle.std.specs.Prelude.{◌^◌, ◌&&◌, ⊤, nat_le, option_and_then}
use Rattle.std.specs.Str.Parse.{ParsesUnsigned, digits_value, starts_with_minus, without_leading_plus}
use Rattle.std.proofs.lemmas.Bool.{le-leb, leb-true}
use Rattle.std.proofs.lemmas.Int.{ints}
use Rattle.clap.specs.Lexer.{without_minus}
use Rattle.clap.specs.Words.{ReadsOne, Text}
use Rattle.clap.specs.ValueTests.{accepts}
use Rattle.clap.proofs.ValueTestLemmas.{Accepts-accepts}
use Rattle.clap.proofs.WalkLemmas.{both}
use Rattle.command_words.specs.Program.{from_to}
use Rattle.command_words.specs.Command.{number_of_bits}
use Rattle.command_words.specs.Table.{begins_with_hyphen, said_within}
use Rattle.command_words.proofs.Numbers.{number_reads}
use Rattle.command_words.proofs.Accepted.{IsBetween, count_read}

abbrev pub IsPlainWord : Text → Type 0
IsPlainWord word = begins_with_hyphen word ≡ false

same_text : (text : Text) → IsPlainWord text → without_minus text ≡ text
same_text [] plain = refl
same_text (x ∷ xs) plain = rw plain refl

no_minus : (text : Text) → IsPlainWord text → starts_with_minus text ≡ false
no_minus [] plain = refl
no_minus (x ∷ xs) plain = plain

module _ (bits low high : ℕ) (small : high < 2 ^ bits) (fits : high < 2 ^ 63) (text : Text) (plain : IsPlainWord text) where
  abbrev is_accepted : Bool
  is_accepted = accepts false (from_to low high) text

  in_range : (n : ℕ) → number_of_bits bits text ≡ Some n → IsBetween low high n → is_accepted ≡ true
  in_range n is within =
      let read : ReadsOne {T = ℕ} {E = ⊤} (ParsesUnsigned bits 10) text (Some n) = subst (λ (o : Option ℕ). ReadsOne {T = ℕ} {E = ⊤} (ParsesUnsigned bits 10) text o) is (number_reads bits text) in
      let value : n ≡ digits_value 10 (without_leading_plus text) = read.1 in
      Accepts-accepts false (from_to low high) text
      (rw (no_minus text plain) (read.0.0, record { sfits = omega (arith, value, within.1, fits) }, omega (arith, ints, value, within.0), omega (arith, ints, value, within.1)))

  abbrev within : ℕ → Option ℕ
  within n = cond (nat_le low n && nat_le n high) (Some n) None

  outside : (n : ℕ) → number_of_bits bits text ≡ Some n → is_accepted ≡ false → (r : Bool) → (nat_le low n && nat_le n high) ≡ r → cond r (Some n) None ≡ None
  outside n is e false f = refl
  outside n is e true f =
      let parts = both _ _ f in
      let yes = in_range n is (leb-true _ _ parts.0, leb-true _ _ parts.1) in
      cc (e, yes)

  unread : (o : Option ℕ) → number_of_bits bits text ≡ o → is_accepted ≡ false → option_and_then within o ≡ None
  unread None is e = refl
  unread (Some n) is e = outside n is e (nat_le low n && nat_le n high) refl

  -- what an accepted text says
  pub accepted_says : is_accepted ≡ true → (n : ℕ) × (number_of_bits bits (without_minus text) ≡ Some n) × (said_within low high (number_of_bits bits text) ≡ Some n)
  accepted_says e =
      let count = count_read bits low high small text e in
      let here : number_of_bits bits text ≡ Some count.0 = ap (number_of_bits bits) (sym (same_text text plain)) ∙ count.1 in
      let counted : within count.0 ≡ Some count.0 = rw (le-leb low count.0 count.2.0, le-leb count.0 high count.2.1) refl in
      (count.0, count.1, ap (λ (o : Option ℕ). option_and_then within o) here ∙ counted)

  pub refused_says : is_accepted ≡ false → said_within low high (number_of_bits bits text) ≡ None
  refused_says e = unread (number_of_bits bits text) refl e
