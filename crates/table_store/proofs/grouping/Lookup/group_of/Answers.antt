-- A key that is guessed is the one, and a number is no key.
use Rattle.std.proofs.Common.{sym, subst}
use Rattle.table_store.specs.Lookup.{IsKey}
use Rattle.table_store.proofs.GroupLemmas.{first_key, position-nowhere}
use Rattle.table_store.proofs.grouping.Lookup.group_of.Goals as goal

pub returns-in-Number-clause-first : goal.returns-in-Number-clause-first
returns-in-Number-clause-first c = rw c.in-Number.is (sym (position-nowhere c.args.self.now.numbered.keys))

pub returns-in-Some-clause-first : goal.returns-in-Some-clause-first
returns-in-Some-clause-first c =
    let keys = c.args.self.now.numbered.keys in
    let text = c.in-Text.text.now in
    let key = subst (IsKey c.in-Some.group text) c.requires.lookup.copies c.in-Some.ensures in
    rw c.in-Text.is (sym (first_key keys text c.in-Some.group c.requires.distinct key))
