-- what a query's refusal for its owner's disk says of that disk
use Rattle.std.proofs.Common.{◌≡◌, Some, ap, arith}
use Rattle.word_streams.specs.Draws.{draws_of}
use Rattle.outside_disks.specs.Stored.{Stored}
use Rattle.budget_ledger.specs.declared.failure.Failure.{Failure}
use Rattle.wire_lines.specs.Reply.{Replied, refused}
use Rattle.wire_lines.specs.Refusal.{by_disk}
use Rattle.wire_lines.specs.declared.refusal.DiskRefusal.{DiskRefusal}
use Rattle.wire_lines.specs.declared.refusal.DiskRefusal.TheVariants.{Closed, Fault}
use Rattle.owner_house.specs.House.{house_of, owner_at}
use Rattle.owner_house.proofs.Owners.{owner_there, owners_length}
use Rattle.generated_run.specs.AnswerPath.Shut.{IsPendingOf, disk_word}
use Rattle.generated_run.specs.Causes.{AreCaused}
use Rattle.generated_run.proofs.Causes.{caused}
use Rattle.owner_books.specs.Shelves.{AreLost}
use Rattle.query_server.specs.Laws.{DiskRefusalsHaveCauses}

pub disk_refusals_caused : DiskRefusalsHaveCauses
disk_refusals_caused loading key workers old new found script text ran lawful k o x owner query refusal within at meant reply = here refusal reply
  where
    its : AreCaused (house_of loading.register) (draws_of key) o ran.exchanges (ran.closed o)
    its =
        let there = owner_there loading.register o (omega (arith, within, owners_length loading.register lawful.register)) in
        caused (house_of loading.register) (draws_of key) o workers ran.crew ran.exchanges (ran.closed o) (ran.shut o (owner_at (house_of loading.register) o) there)

    risen : (failure : Failure) → ran.closed o ≡ Some failure → (before : Stored) → old o ≡ Some before → (after : Stored) × (new o ≡ Some after) × AreLost before after
    risen failure shut before was = let after = ran.disks.owned o before within was in (after.0, after.1, (after.2.failed failure shut).0)

    here : (refusal : DiskRefusal) → x.reply ≡ refused (by_disk refusal)
        → ((before : Stored) → old o ≡ Some before → (after : Stored) × (new o ≡ Some after) × AreLost before after)
        × (refusal ≡ Fault → (failure : Failure) × (ran.closed o ≡ Some failure) × IsPendingOf owner (draws_of key o) query x.told failure.pending)
    here (Closed failed_at) is =
        let shut = its.seen k owner query failed_at (record { x = x; stands = at; meant = meant; word_is = ap (λ (r : Replied). disk_word r) is }) in
        (risen shut.0 shut.1, λ wrong. cc)
    here Fault is =
        let shut = its.failed k owner query (record { x = x; stands = at; meant = meant; word_is = ap (λ (r : Replied). disk_word r) is }) in
        (risen shut.0 shut.1, λ same. shut)
