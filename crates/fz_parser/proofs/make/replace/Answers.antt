use Rattle.std.proofs.Common.{◌≡◌, ◌∙◌, ◌-◌, [], ◌∷◌, ◌++◌, refl, ap, arith, take, length}
use Rattle.fz_parser.proofs.Making.{replace_kept, replace_state}
use Rattle.fz_parser.proofs.make.replace.Goals as goal

pub returns-clause-kept : goal.returns-clause-kept
returns-clause-kept c =
    let m : c.saturating_sub-rest.result ≡ length c.args.reader.now.entries.items - c.args.count = omega arith in
    replace_kept c.args.reader.now _ c.args.count c.args.entry refl (c.in_ok-push.ensures ∙ ap (λ xs. xs ++ c.args.entry ∷ []) (c.truncate.ensures.items ∙ ap (λ k. take k c.args.reader.now.entries.items) m)) c.requires.kept c.requires.held

pub returns-clause-state : goal.returns-clause-state
returns-clause-state c =
    let m : c.saturating_sub-rest.result ≡ length c.args.reader.now.entries.items - c.args.count = omega arith in
    replace_state c.args.reader.now _ c.args.count c.args.entry refl refl (c.in_ok-push.ensures ∙ ap (λ xs. xs ++ c.args.entry ∷ []) (c.truncate.ensures.items ∙ ap (λ k. take k c.args.reader.now.entries.items) m))
