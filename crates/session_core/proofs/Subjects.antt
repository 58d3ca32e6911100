-- what the names of a line's query look at: an owner of the house, and a view of it
use Rattle.std.proofs.Common.{◌≡◌, ℕ, List, slice_get, Option, Some, None, refl, subst}
use Rattle.std.specs.Prelude.{Result, Ok, ok_or}
use Rattle.partition_charge.specs.declared.view.View.TheVariants.{Whole, Part}
use Rattle.wire_lines.specs.Request.{◌>>=◌}
use Rattle.wire_lines.specs.declared.refusal.LineRefusal.{LineRefusal}
use Rattle.wire_lines.specs.declared.refusal.LineRefusal.TheVariants.{Unknown}
use Rattle.owner_history.specs.PartViews.Partitions.{HasPart}
use Rattle.owner_history.specs.OwnerHouse.House.{House, owner_named, partition_named, partition_at, key_named}
use Rattle.owner_history.proofs.OwnerHouse.Found.{owner_stands, part_there}
use Rattle.session_core.specs.Meant.{Subject, whole_named, part_named}

-- the subject's owner is one of the house's, and its view one of that owner's
pub record IsSubjectOf (house : House) (subject : Subject) : Type 0 where
  pub stands : slice_get house.owners subject.number ≡ Some subject.owner
  pub part : HasPart subject.owner.partitions subject.view

-- What comes of a word comes of what it names.
named : {A : Type 0} (found : Option A) (word : ℕ) (rest : A → Result Subject LineRefusal) (subject : Subject)
    → (ok_or found (Unknown word) >>= rest) ≡ Ok subject
    → (a : A) × (found ≡ Some a) × (rest a ≡ Ok subject)
named None word rest subject is = absurd (cc (is))
named (Some a) word rest subject is = (a, refl, is)

pub whole_stands : (house : House) (name : List ℕ) (subject : Subject) → whole_named house name ≡ Ok subject → IsSubjectOf house subject
whole_stands house name subject is =
    let f = named (owner_named house name) 1 _ subject is in
    let same : record { number = f.0.0; owner = f.0.1; view = Whole } ≡ subject = cc (f.2) in
    subst (IsSubjectOf house) same (record { stands = owner_stands house name f.0 f.1; part = tt })

pub part_stands : (house : House) (name partition key : List ℕ) (subject : Subject) → part_named house name partition key ≡ Ok subject → IsSubjectOf house subject
part_stands house name partition key subject is =
    let f = named (owner_named house name) 1 _ subject is in
    let p = named (partition_named f.0.1 partition) 2 _ subject f.2 in
    let j = named (key_named (partition_at f.0.1 p.0) key) 3 _ subject p.2 in
    let same : record { number = f.0.0; owner = f.0.1; view = Part p.0 j.0 } ≡ subject = cc (j.2) in
    subst (IsSubjectOf house) same (record { stands = owner_stands house name f.0 f.1; part = part_there f.0.1 partition key p.0 j.0 p.1 j.1 })
