use Rattle.std.proofs.Common.{◌≡◌, ◌∙◌, ℕ, length, refl, ap, subst, arith}
use Rattle.budget_ledger.specs.Account.{Account}
use Rattle.session_core.specs.Bundles.{bundle_of}
use Rattle.owner_books.specs.Books.{ArePutBack, GaveBook}
use Rattle.owner_books.proofs.Back.{back_all, back_begun, back_more, changed_to, left_few}
use Rattle.owner_books.proofs.Bundled.{known_last, locks_popped, many_known, many_locks, one_fewer, whole_popped}
use Rattle.owner_books.proofs.books.put_back.Goals as goal

pub loop-pass-init : goal.loop-pass-init
loop-pass-init g c = record {
  back = back_begun _ _ (λ o less. c.requires.taken o (omega (arith, less, many_known c.args.passes.items)));
  here = c.requires.here;
  whole = c.requires.whole;
  owners = refl;
  faults = refl;
}

pub overflow_cast-owner : goal.overflow_cast-owner
overflow_cast-owner g c =
    let fewer = one_fewer _ _ _ c.in-Some.ensures.items in
    omega (arith, fewer, left_few _ _ _ _ c.loop-pass.invariant.back, many_known c.loop-pass.rest.items, many_known c.args.passes.items, c.requires.few, c.len-owner.ensures, c.pop.new.self.ok)

pub unreachable-requires : goal.unreachable-requires
unreachable-requires g c =
    let fewer = one_fewer _ _ _ c.in-Some.ensures.items in
    omega (arith, fewer, many_locks c.loop-pass.rest.items, ap length c.loop-pass.invariant.here, c.in_default-pop.ensures.cases)

pub unreachable-unreachable : goal.unreachable-unreachable
unreachable-unreachable g c = c.unreachable.result

pub close-requires-clause-here : goal.close-requires-clause-here
close-requires-clause-here g c = (locks_popped _ _ _ _ _ _ c.in-Some.ensures.items c.in-Some-pop.ensures.items c.loop-pass.invariant.here).1

pub close-requires-clause-whole : goal.close-requires-clause-whole
close-requires-clause-whole g c = (whole_popped _ _ _ c.in-Some.ensures.items c.loop-pass.invariant.whole).1

pub put_back-requires-clause-owner : goal.put_back-requires-clause-owner
put_back-requires-clause-owner g c =
    let fewer = one_fewer _ _ _ c.in-Some.ensures.items in
    omega (arith, fewer, left_few _ _ _ _ c.loop-pass.invariant.back, many_known c.loop-pass.rest.items, many_known c.args.passes.items, c.requires.known, c.loop-pass.invariant.owners, c.len-owner.ensures, c.pop.new.self.ok)

pub put_back-requires-clause-taken : goal.put_back-requires-clause-taken
put_back-requires-clause-taken g c =
    let fewer = one_fewer _ _ _ c.in-Some.ensures.items in
    c.loop-pass.invariant.back.taken c.len-owner.result (omega (arith, fewer, many_known c.loop-pass.rest.items, c.len-owner.ensures, c.pop.new.self.ok))

pub loop-pass-smaller : goal.loop-pass-smaller
loop-pass-smaller g c = let fewer = one_fewer _ _ _ c.in-Some.ensures.items in omega (arith, fewer)

pub loop-pass-preserved : goal.loop-pass-preserved
loop-pass-preserved g c =
    let here : c.len-owner.result ≡ length (bundle_of c.pop.new.self.items).knows = omega (arith, c.len-owner.ensures, c.pop.new.self.ok, many_known c.pop.new.self.items) in
    let gave : GaveBook c.in-Some.pass.knows c.close.result = record {
      ledger = c.close.ensures.ledger;
      closed = record { all = c.close.ensures.records; later = c.close.ensures.later; faults = c.close.ensures.closed; failure = c.close.ensures.failure };
      went = c.close.ensures.went;
      untouched = c.close.ensures.untouched;
      sound = c.close.ensures.book;
    } in
    record {
      back = back_more _ _ (bundle_of c.pop.new.self.items).knows c.in-Some.pass.knows c.close.result _ _ _ (known_last _ _ _ c.in-Some.ensures.items) c.loop-pass.invariant.back
          (changed_to _ _ _ _ _ _ here c.into_disks.ensures.stored c.put_back.ensures.home) gave;
      here = (locks_popped _ _ _ _ _ _ c.in-Some.ensures.items c.in-Some-pop.ensures.items c.loop-pass.invariant.here).0;
      whole = (whole_popped _ _ _ c.in-Some.ensures.items c.loop-pass.invariant.whole).0;
      owners = c.put_back.ensures.owners ∙ c.loop-pass.invariant.owners;
      faults = c.put_back.ensures.passed ∙ c.loop-pass.invariant.faults;
    }

pub returns-clause-back : goal.returns-clause-back
returns-clause-back g c =
    let knows = (bundle_of c.args.passes.items).knows in
    let none : length (bundle_of c.loop-pass.rest.items).knows ≡ 0 = omega (arith, many_known c.loop-pass.rest.items, c.in_default.ensures.cases) in
    subst (λ (n : ℕ). (books : ℕ → Account) × ArePutBack n knows books (g.B.Bay.shelf c.args.bay.now) (g.B.Bay.shelf c.loop-pass.bay)) (many_known c.args.passes.items)
    (back_all _ _ _ _ none c.loop-pass.invariant.back)

pub returns-clause-owners : goal.returns-clause-owners
returns-clause-owners g c = c.loop-pass.invariant.owners

pub returns-clause-faults : goal.returns-clause-faults
returns-clause-faults g c = c.loop-pass.invariant.faults
