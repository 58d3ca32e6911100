-- a yes bounds the values of the program
use Rattle.std.proofs.Common.{◌≡◌, ◌∙◌, ℕ, List, length, slice_get, get_or, Option, Some, None, ap, refl, subst, sym}
use Rattle.std.specs.Prelude.{find, Ok, ok_or}
use Rattle.std.specs.List.{position_or_len}
use Rattle.std.specs.Str.{bytes_eq}
use Rattle.std.proofs.lemmas.List.Folds.{find_at}
use Rattle.std.proofs.lemmas.Option.{slice_get-get_or, slice_get_within}
use mathlib.Core.Logic.{inl, inr}
use Rattle.fz_ast.specs.Signature.{IsSignature, Signature}
use Rattle.fz_ast.specs.Terms.{Term}
use Rattle.fz_frac.specs.Distance.{Distance}
use Rattle.owner_catalog.specs.Catalog.{Catalog, IsCatalog, OwnerEntry, owner_signature}
use Rattle.owner_catalog.specs.Lawful.{IsOwner}
use Rattle.owner_house.proofs.Signed.{signature_signed}
use Rattle.answer_path.specs.Reading.{IsReading, Reading, nested, read, stuck, unlexed}
use Rattle.answer_path.proofs.Programs.{read_limits}
use Rattle.catalog_loading.specs.Files.{ReadsToCome}
use Rattle.catalog_loading.specs.Steps.{◌>>=◌, done, file_read, from}
use Rattle.catalog_loading.specs.Loaded.{catalog_read, entry_named}
use Rattle.catalog_loading.proofs.Loaded.{catalog_lawful}
use Rattle.catalog_loading.proofs.Pairs.{inverted}
use Rattle.fz_derive.specs.Bound.{HasBound}
use Rattle.fz_derive.proofs.Exactly.{judged_has_bound}
use Rattle.derivation_commands.specs.Promise.{AYesBoundsTheValues}
use Rattle.derivation_commands.specs.Task.{Subject, subject_read, judge_steps, to_judge}
use Rattle.derivation_commands.specs.Outcome.{IsJudgedBy, written, yes_text}

-- an owner that was found by its name keeps the rules
entry_lawful : (catalog : Catalog) → IsCatalog catalog → (name : List ℕ) (entry : OwnerEntry) → entry_named catalog name ≡ Ok entry → IsOwner entry
entry_lawful catalog lawful name entry is = go (find (λ (owner : OwnerEntry). bytes_eq name owner.name) catalog.owners) refl is
  where
    place : ℕ
    place = position_or_len (λ (owner : OwnerEntry). bytes_eq name owner.name) catalog.owners

    go : (found : Option OwnerEntry) → find (λ (owner : OwnerEntry). bytes_eq name owner.name) catalog.owners ≡ found → ok_or found name ≡ Ok entry → IsOwner entry
    go None was given = cc given
    go (Some owner) was given =
        let same : owner ≡ entry = cc given in
        let there : slice_get catalog.owners place ≡ Some owner = sym (find_at (λ (o : OwnerEntry). bytes_eq name o.name) catalog.owners) ∙ was in
        let within = slice_get_within catalog.owners place owner there in
        let its : get_or catalog.owners place owner ≡ owner = cc (there, slice_get-get_or catalog.owners place owner within) in
        subst IsOwner (its ∙ same) (lawful.owners place owner within)

-- What was read for a task: the tables are those of an owner that keeps the rules.
pub record IsSubject (subject : Subject) : Type 0 where
  pub owner : OwnerEntry
  pub of : IsOwner owner
  pub is : owner_signature owner ≡ subject.tables
  pub signed : IsSignature subject.tables

pub subject_lawful : (catalog owner file : List ℕ) (reads : ReadsToCome) (subject : Subject) → (subject_read catalog owner file reads).given ≡ Ok subject → IsSubject subject
subject_lawful catalog owner file reads subject is =
    let house = inverted (catalog_read catalog) _ reads subject is in
    let rest = (catalog_read catalog reads).rest in
    let entry = inverted (from (entry_named house.0 owner)) _ rest subject house.2 in
    let program = inverted (file_read file) (λ bytes. done (record { tables = owner_signature entry.0; program = bytes })) rest subject entry.2 in
    let same : owner_signature entry.0 ≡ subject.tables = cc program.2 in
    let lawful = entry_lawful house.0 (catalog_lawful catalog reads house.0 house.1) owner entry.0 entry.1 in
    record { owner = entry.0; of = lawful; is = same; signed = subst IsSignature same (signature_signed entry.0 lawful) }

judged_signed : (catalog owner file derivation : List ℕ) (reads : ReadsToCome) (subject : Subject) (bytes : List ℕ)
    → (judge_steps catalog owner file derivation reads).given ≡ Ok (to_judge subject bytes) → IsSignature subject.tables
judged_signed catalog owner file derivation reads subject bytes is =
    let read = inverted (subject_read catalog owner file) (λ s. file_read derivation >>= (λ b. done (to_judge s b))) reads (to_judge subject bytes) is in
    let last = inverted (file_read derivation) (λ b. done (to_judge read.0 b)) (subject_read catalog owner file reads).rest (to_judge subject bytes) read.2 in
    let same : read.0 ≡ subject = cc last.2 in
    subst (λ (s : Subject). IsSignature s.tables) same (subject_lawful catalog owner file reads read.0 read.1).signed

-- a yes of the program's reading
yes_of : (reading : Reading) (tables : Signature) (program bytes text : List ℕ) → IsSignature tables → IsReading program reading → IsJudgedBy reading tables bytes (written text)
    → (e : Term) × (r : Distance) × IsReading program (read e) × (text ≡ yes_text r) × HasBound tables e r
yes_of (unlexed place) tables program bytes text signed reads is = cc is
yes_of (stuck token) tables program bytes text signed reads is = cc is
yes_of (nested depth) tables program bytes text signed reads is = cc is
yes_of (read e) tables program bytes text signed reads (inl (r, judged, is)) =
    let same : text ≡ yes_text r = cc is in
    (e, r, reads, same, judged_has_bound tables e bytes r signed (read_limits program e reads) judged)
yes_of (read e) tables program bytes text signed reads (inr (k, wrong, is)) = cc is

pub yes_bounds : AYesBoundsTheValues
yes_bounds catalog owner file derivation reads subject bytes text given of =
    yes_of of.reading subject.tables subject.program bytes text (judged_signed catalog owner file derivation reads subject bytes given) of.reads of.due
