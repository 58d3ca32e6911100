-- what is derived of a program is judged yes of it
use Rattle.std.proofs.Common.{◌≡◌, ◌∙◌, ℕ, Bool, cond, true, false, List, [], ◌∷◌, length, map, nat_le, Some, ap, refl, subst, sym}
use Rattle.std.specs.Prelude.{Ok}
use Rattle.std.specs.List.{AllByRecursion}
use Rattle.std.proofs.lemmas.List.Elements.{recursion_from_All}
use mathlib.Core.Logic.{inl}
use Rattle.fz_ast.specs.Signature.{IsSignature, Signature}
use Rattle.fz_ast.specs.Terms.{Term}
use Rattle.fz_frac.specs.Distance.{Distance}
use Rattle.fz_frac.specs.Lowest.{lowest}
use Rattle.owner_catalog.specs.Catalog.{owner_signature, OwnerEntry}
use Rattle.owner_catalog.specs.Entries.{TableEntry, table_type_of}
use Rattle.owner_catalog.specs.Lawful.{IsOwner, IsTableEntry}
use Rattle.derivation_commands.proofs.TableNames.{a_table_s_name_is_a_token}
use Rattle.answer_path.specs.Reading.{IsReading, Reading, nested, read, stuck, unlexed}
use Rattle.answer_path.specs.Admission.{Admission, accepted, admission_of, refused_for, walks_too_much}
use Rattle.answer_path.proofs.Programs.{accepted_is, read_limits}
use Rattle.catalog_loading.specs.Files.{ReadsToCome}
use Rattle.catalog_loading.specs.Steps.{done}
use Rattle.catalog_loading.proofs.Pairs.{inverted}
use Rattle.fz_derive.specs.Judged.{IsJudged, names_of}
use Rattle.fz_derive.specs.Least.{Derived, least, lines_of}
use Rattle.fz_derive.specs.Names.{EveryName}
use Rattle.derivation_lines.specs.Readable.{IsWord}
use Rattle.derivation_lines.specs.Written.{derivation_text, longest}
use Rattle.fz_derive.proofs.Names.{words_are_read}
use Rattle.least_derivation.specs.Law.{AreWords}
use Rattle.least_derivation.proofs.Judged.{judged as derived_is_judged}
use Rattle.derivation_commands.specs.Promise.{WhatIsDerivedIsJudgedYes}
use Rattle.derivation_commands.specs.Task.{Subject, derive_steps, subject_read, to_derive, to_judge}
use Rattle.derivation_commands.specs.Outcome.{IsDerivedBy, IsJudgeOutcome, if_short, too_long, written, yes_text}
use Rattle.derivation_commands.proofs.Bounded.{IsSubject, subject_lawful}

-- the names of tables are names of the language, and so are those of a program that was read
tables_are_words : (tables : List TableEntry) → AllByRecursion IsTableEntry tables → AreWords (map table_type_of tables)
tables_are_words [] of = tt
tables_are_words (table ∷ tables) of = (a_table_s_name_is_a_token table.name of.0.name, tables_are_words tables of.1)

owner_is_words : (owner : OwnerEntry) → IsOwner owner → AreWords (owner_signature owner)
owner_is_words owner of = tables_are_words owner.tables (recursion_from_All IsTableEntry owner.tables of.tables)

program_is_words : (program : List ℕ) (e : Term) → IsReading program (read e) → EveryName IsWord e
unfolding IsReading
program_is_words program e (ts, lexed, parsed) = words_are_read program ts e lexed.tokens parsed.term

-- a text that is written isn't too long
text_is : (text whole : List ℕ) → written text ≡ if_short whole → text ≡ whole
text_is text whole is = go (nat_le (length whole) longest) is
  where
    go : (b : Bool) → written text ≡ cond b (written whole) too_long → text ≡ whole
    go true is = cc is
    go false is = cc is

-- by the program's reading
module _ (tables : Signature) (program text : List ℕ) (signed : IsSignature tables) (words : AreWords tables) where
  abbrev IsYes : Type 0
  IsYes = (e : Term) × (r : Distance) × IsReading program (read e) × (admission_of tables (read e) ≡ accepted e r)
      × IsJudgeOutcome tables program text (written (yes_text r))

  read_so : (e t : Term) (r : Distance) (d : Derived) → IsReading program (read e) → admission_of tables (read e) ≡ accepted t r
      → least (names_of tables) t ≡ Some d → text ≡ derivation_text (lines_of d) → IsYes
  read_so e t r d reads admits is whole =
      let found = accepted_is tables e t r admits in
      let same : t ≡ e = found.3 in
      let lowest_is : r ≡ lowest found.1 = found.4 in
      let judged = derived_is_judged tables e found.0 found.1 d signed words (read_limits program e reads) (program_is_words program e reads) found.2
      (subst (λ (u : Term). least (names_of tables) u ≡ Some d) same is) in
      let of_text = subst (λ (w : List ℕ). IsJudged tables e w (lowest found.1)) (sym whole) judged in (
        e,
        r,
        reads,
        admits ∙ ap (λ (u : Term). accepted u r) same,
        record { reading = read e; reads = reads; due = inl (r, subst (λ (n : Distance). IsJudged tables e text n) (sym lowest_is) of_text, refl) },
      )

  by_reading : (reading : Reading) (t : Term) (r : Distance) (d : Derived) → IsReading program reading → admission_of tables reading ≡ accepted t r
      → least (names_of tables) t ≡ Some d → text ≡ derivation_text (lines_of d) → IsYes
  unfolding admission_of
  by_reading (unlexed place) t r d reads admits is whole = absurd (cc admits)
  by_reading (stuck token) t r d reads admits is whole = absurd (cc admits)
  by_reading (nested depth) t r d reads admits is whole = absurd (cc admits)
  by_reading (read e) t r d reads admits is whole = read_so e t r d reads admits is whole

  derived_yes : (reading : Reading) (admission : Admission) → IsReading program reading → admission_of tables reading ≡ admission → IsDerivedBy admission tables (written text) → IsYes
  derived_yes reading (refused_for refusal) reads admits is = absurd (cc is)
  derived_yes reading walks_too_much reads admits is = absurd is
  derived_yes reading (accepted t r) reads admits (d, is, at) = by_reading reading t r d reads admits is (text_is text (derivation_text (lines_of d)) at)

pub yes_of_derived : WhatIsDerivedIsJudgedYes
yes_of_derived catalog owner file reads subject text given of =
    let read = inverted (subject_read catalog owner file) (λ s. done (to_derive s)) reads (to_derive subject) given in
    let same : read.0 ≡ subject = cc read.2 in
    let lawful = subst IsSubject same (subject_lawful catalog owner file reads read.0 read.1) in
    derived_yes subject.tables subject.program text lawful.signed (subst AreWords lawful.is (owner_is_words lawful.owner lawful.of)) of.reading
    (admission_of subject.tables of.reading) of.reads refl of.due
