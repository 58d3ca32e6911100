use Rattle.std.proofs.Common.{◌≡◌, ◌∙◌, ◌+◌, ◌<◌, ◌≤◌, [], refl, sym, ap, rules, arith}
use Rattle.std.specs.Prelude.{Err}
use Rattle.owner_catalog.specs.Entries.{OwnerEntry}
use Rattle.catalog_loading.specs.Loaded.{entry_in, header_in, owners_in}
use Rattle.owner_books.specs.Opened.{IsOpened}
use Rattle.owner_books.specs.Books.{IsOpenStop}
use Rattle.owner_books.proofs.Disks.{same_still}
use Rattle.query_server.proofs.Counted.{all_counted, counted_on, none_counted, one_counted, one_left, one_still, lost_since, more_left, opened_as, rose_since, still_elsewhere, stop_passed}
use Rattle.query_server.proofs.Ran.{passed_disk}
use Rattle.owner_books.proofs.Stops.{book_stopped}
use Rattle.query_server.proofs.audit.count_all.Goals as goal

pub loop-owner-init : goal.loop-owner-init
loop-owner-init g c = record {
  counted = none_counted (entry_in c.args.opened.now.loading) (λ o journal. IsOpened (entry_in c.args.opened.now.loading o journal.0)
      (header_in c.args.opened.now.loading c.args.opened.now.key o journal.0) (g.B.Bay.shelf c.args.bay.now o) (g.B.Bay.shelf c.args.bay.now o) journal.1) c.args.opened.now.loading.register.catalog.owners c.new-lines.result.items c.new-lines.ensures.items;
  disks = record { owned = λ o before less at. absurd (omega (arith, less)); others = λ o past. refl };
  still = λ o. same_still o (g.B.Bay.shelf c.args.bay.now) (g.B.Bay.shelf c.args.bay.now) refl;
  owners = refl;
  faults = omega arith;
}

pub count_owner-requires-clause-header : goal.count_owner-requires-clause-header
count_owner-requires-clause-header g c =
    let within : c.loop-owner.owner < owners_in c.args.opened.now.loading = omega (arith, c.loop-owner-test.true, c.len-owner-end.ensures, c.in_ok-headers.ensures.count) in
    search (rules, c.in_ok-headers.ensures.headers c.loop-owner.owner c.index.result.now within)

pub count_owner-requires-clause-known : goal.count_owner-requires-clause-known
count_owner-requires-clause-known g c =
    let few : c.loop-owner.owner < 64 = omega (arith, c.loop-owner-test.true, c.len-owner-end.ensures, c.in_ok-headers.ensures.few) in
    omega (arith, (c.requires.home c.loop-owner.owner few).0, c.loop-owner.invariant.owners)

pub returns-in_err-count_owner-clause-stop : goal.returns-in_err-count_owner-clause-stop
returns-in_err-count_owner-clause-stop g c =
    let loading = c.args.opened.now.loading in
    let counted = c.loop-owner.invariant.counted in
    let stop = c.in_err-count_owner.field-0.0 in
    stop_passed (IsOpenStop loading c.args.opened.now.key (g.B.Bay.shelf c.args.bay.now) (g.B.Bay.shelf c.count_owner.new.bay)) stop
    c.from_residual-in_err-count_owner.result c.from_residual-in_err-count_owner.ensures.1
    (book_stopped loading c.args.opened.now.key c.loop-owner.owner (g.B.Bay.shelf c.args.bay.now) (g.B.Bay.shelf c.loop-owner.bay) (g.B.Bay.shelf c.count_owner.new.bay) (g.B.Bay.shelf c.count_owner.new.bay) stop
    (omega (arith, c.loop-owner-test.true, c.len-owner-end.ensures, c.in_ok-headers.ensures.count)) (c.loop-owner.invariant.disks.others c.loop-owner.owner (omega arith)) refl
    (λ p less. ((counted.0 p).0, (counted.0 p).1, opened_as _ _ _ _ _ _ _ refl (sym (c.in_err-count_owner.ensures.left.elsewhere p (λ same. omega (arith, less, same)))) (counted.1 p less))) (still_elsewhere _ _ _ _ c.loop-owner.invariant.still c.in_err-count_owner.ensures.left) c.in_err-count_owner.ensures.stop)

pub returns-in_err-count_owner-clause-disk : goal.returns-in_err-count_owner-clause-disk
returns-in_err-count_owner-clause-disk g c line is =
    let few : c.loop-owner.owner < 64 = omega (arith, c.loop-owner-test.true, c.len-owner-end.ensures, c.in_ok-headers.ensures.few) in
    let same = passed_disk c.in_err-count_owner.field-0.0 c.from_residual-in_err-count_owner.result line c.from_residual-in_err-count_owner.ensures.1 is in
    rose_since c.loop-owner.owner (g.B.Bay.shelf c.args.bay.now) (g.B.Bay.shelf c.loop-owner.bay) (g.B.Bay.shelf c.count_owner.new.bay)
    (g.B.Bay.faults c.args.bay.now) (g.B.Bay.faults c.loop-owner.bay) (g.B.Bay.faults c.count_owner.new.bay) c.loop-owner.invariant.faults c.in_err-count_owner.ensures.bay.1
    (λ p less. (c.requires.home p (omega (arith, less, few))).1) c.loop-owner.invariant.disks c.in_err-count_owner.ensures.left (c.in_err-count_owner.ensures.cause line (ap Err same))

pub returns-in_err-count_owner-clause-disks : goal.returns-in_err-count_owner-clause-disks
returns-in_err-count_owner-clause-disks g c =
    let o = c.loop-owner.owner in
    let within : o + 1 ≤ owners_in c.args.opened.now.loading = omega (arith, c.loop-owner-test.true, c.len-owner-end.ensures, c.in_ok-headers.ensures.count) in
    more_left (o + 1) (owners_in c.args.opened.now.loading) (g.B.Bay.shelf c.args.bay.now) (g.B.Bay.shelf c.count_owner.new.bay) within
    (one_left o (g.B.Bay.shelf c.args.bay.now) (g.B.Bay.shelf c.loop-owner.bay) (g.B.Bay.shelf c.count_owner.new.bay) c.loop-owner.invariant.disks c.in_err-count_owner.ensures.left)

abbrev no_owner : OwnerEntry
no_owner = record { name = []; budget = 0; capacity = 0; tables = []; partitions = []; limits = []; text = [] }

pub loop-owner-preserved : goal.loop-owner-preserved
loop-owner-preserved g c =
    let loading = c.args.opened.now.loading in
    let o = c.loop-owner.owner in
    let within : o < owners_in loading = omega (arith, c.loop-owner-test.true, c.len-owner-end.ensures, c.in_ok-headers.ensures.count) in
    let found = c.in_ok-count_owner.ensures.counted in
    let key = c.args.opened.now.key in
    record {
      counted = one_counted (entry_in loading) (λ p journal. IsOpened (entry_in loading p journal.0) (header_in loading key p journal.0) (g.B.Bay.shelf c.args.bay.now p) (g.B.Bay.shelf c.count_owner.new.bay p) journal.1)
          c.args.opened.now.loading.register.catalog.owners o no_owner (found.0, found.1) c.loop-owner.lines.items c.count_owner.new.lines.items within
          (counted_on (entry_in loading) (λ p journal. IsOpened (entry_in loading p journal.0) (header_in loading key p journal.0) (g.B.Bay.shelf c.args.bay.now p) (g.B.Bay.shelf c.loop-owner.bay p) journal.1) _
          loading.register.catalog.owners o c.loop-owner.lines.items
          (λ p less journal known. opened_as _ _ _ _ _ _ _ refl (sym (c.in_ok-count_owner.ensures.left.elsewhere p (λ same. omega (arith, less, same)))) known) c.loop-owner.invariant.counted)
          (opened_as (entry_in loading o found.0) (header_in loading key o found.0) (g.B.Bay.shelf c.loop-owner.bay o) (g.B.Bay.shelf c.args.bay.now o) (g.B.Bay.shelf c.count_owner.new.bay o)
          (g.B.Bay.shelf c.count_owner.new.bay o) found.1 (c.loop-owner.invariant.disks.others o (omega arith)) refl found.2) found.3;
      disks = one_left o (g.B.Bay.shelf c.args.bay.now) (g.B.Bay.shelf c.loop-owner.bay) (g.B.Bay.shelf c.count_owner.new.bay) c.loop-owner.invariant.disks c.in_ok-count_owner.ensures.left;
      still = one_still o (g.B.Bay.shelf c.args.bay.now) (g.B.Bay.shelf c.loop-owner.bay) (g.B.Bay.shelf c.count_owner.new.bay) c.loop-owner.invariant.still
          (c.loop-owner.invariant.disks.others o (omega arith)) c.in_ok-count_owner.ensures.still c.in_ok-count_owner.ensures.left;
      owners = c.in_ok-count_owner.ensures.bay.0 ∙ c.loop-owner.invariant.owners;
      faults = omega (arith, c.loop-owner.invariant.faults, c.in_ok-count_owner.ensures.bay.1);
    }

pub returns-clause-counted : goal.returns-clause-counted
returns-clause-counted g c =
    let loading = c.args.opened.now.loading in
    let all : c.loop-owner.owner ≡ owners_in loading = omega (arith, c.loop-owner-test.false, c.len-owner-end.ensures, c.in_ok-headers.ensures.count) in
    all_counted loading c.args.opened.now.key (g.B.Bay.shelf c.args.bay.now) (g.B.Bay.shelf c.loop-owner.bay) c.loop-owner.owner c.loop-owner.lines.items all
    (omega (arith, c.in_ok-headers.ensures.few, c.in_ok-headers.ensures.count)) c.loop-owner.invariant.counted

pub returns-in_err-count_owner-clause-lost : goal.returns-in_err-count_owner-clause-lost
returns-in_err-count_owner-clause-lost g c line is =
    let few : c.loop-owner.owner < 64 = omega (arith, c.loop-owner-test.true, c.len-owner-end.ensures, c.in_ok-headers.ensures.few) in
    let same = passed_disk c.in_err-count_owner.field-0.0 c.from_residual-in_err-count_owner.result line c.from_residual-in_err-count_owner.ensures.1 is in
    lost_since c.loop-owner.owner (g.B.Bay.shelf c.args.bay.now) (g.B.Bay.shelf c.loop-owner.bay) (g.B.Bay.shelf c.count_owner.new.bay)
    (g.B.Bay.faults c.args.bay.now) (g.B.Bay.faults c.loop-owner.bay) (g.B.Bay.faults c.count_owner.new.bay) c.loop-owner.invariant.faults c.in_err-count_owner.ensures.bay.1
    (λ p less. (c.requires.home p (omega (arith, less, few))).1) c.loop-owner.invariant.disks c.in_err-count_owner.ensures.left (c.in_err-count_owner.ensures.lost line (ap Err same))
