-- What an object holds is what its members hold.
use Rattle.std.proofs.Common.{not, string_bytes, Bool, String}
use Rattle.std.specs.declared.alloc.Global.{Global}
use Rattle.std.specs.Map.{keys_of}
use Rattle.owner_catalog.specs.Fault.{is_known}
use Rattle.owner_catalog.proofs.Values.{plain_object, none_found}
use Rattle.owner_catalog.proofs.parts.object.Goals as goal

pub returns-clause-plain : goal.returns-clause-plain
returns-clause-plain c =
    let known : String Global → Bool = λ k. not (is_known c.args.expected.now (string_bytes k)) in
    let none = none_found (λ k. k.now) c.first_unknown.result known (keys_of c.in-Some.members.now.entries) c.first_unknown.ensures.unknown
    c.in_default-first_unknown.is in
    plain_object _ _ _ c.in-Some.ensures c.first_unknown.ensures.ordered none
