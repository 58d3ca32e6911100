use Rattle.std.proofs.Common.{◌≡◌, ◌∙◌, List, ℕ, take, slice_index, sym, ap, subst, arith}
use Rattle.std.proofs.lemmas.List.{get_or-take}
use Rattle.journal_records.specs.Encoding.{encoded_header}
use Rattle.budget_journal.specs.declared.form.Form.{Form}
use Rattle.budget_journal.specs.Areas.{version_in, form_in}
use Rattle.budget_journal.specs.Journals.{as_found, Differ}
use Rattle.budget_journal.proofs.Gates.{version-again, kept-version, kept-form, kept-header}
use Rattle.budget_journal.proofs.opening.judge_header.Goals as goal

pub returns-in-Some-clause-judged : goal.returns-in-Some-clause-judged
returns-in-Some-clause-judged c bytes long is =
    let header = as_found c.args.header.now bytes in
    let found = c.in-Some.ensures in
    let version : c.version_named-version.result ≡ version_in bytes = c.version_named-version.ensures ∙ kept-version c.args.kept.now bytes is in
    let out : c.encode_header.new.out ≡ encoded_header header = c.encode_header.ensures ∙ ap (λ (v : ℕ). encoded_header (record header { version = v })) version in
    let form : c.of.result ≡ form_in bytes = c.of.ensures ∙ kept-form c.args.kept.now bytes is in
    let head = kept-header c.of.result header c.in-Some.live.number c.args.kept.now c.encode_header.new.out bytes (version-again (slice_index bytes 9))
    (omega arith) (omega (arith, long, c.requires)) is form out found.alike in
    (long, omega (arith, long, c.requires), head.0, found.form ∙ form, found.capacity, head.1, version)

pub returns-in-None-clause-judged : goal.returns-in-None-clause-judged
returns-in-None-clause-judged c bytes long is =
    let header = as_found c.args.header.now bytes in
    let version : c.version_named-version.result ≡ version_in bytes = c.version_named-version.ensures ∙ kept-version c.args.kept.now bytes is in
    let form : c.of.result ≡ form_in bytes = c.of.ensures ∙ kept-form c.args.kept.now bytes is in (
      omega (arith, long, c.requires),
      sym (get_or-take 128 bytes 0 0 (omega arith)) ∙ ap (λ (l : List ℕ). slice_index l 0) (sym is) ∙ c.if-kept-ne-GATE.false,
      is,
      c.encode_header.ensures ∙ ap (λ (v : ℕ). encoded_header (record header { version = v })) version,
      subst (λ (v : Form). Differ v header.capacity c.args.kept.now c.encode_header.new.out) form c.in-None.ensures.differ,
    )
