use Rattle.std.proofs.Common.{◌∙◌, [], Some, refl, ap, map, string_bytes, arith}
use Rattle.command_words.specs.Command.{audit, check, command_of, derive, gap, gen, grant, init, judge, run, serve}
use Rattle.command_words.specs.Meant.{command_meant}
use Rattle.command_words.proofs.Accepted.{in_range}
use Rattle.query_server.proofs.Diskless.{command_no_disk}
use Rattle.std.specs.Prelude.{None, Err}
use mathlib.Core.Logic.{inl, inr}
use Rattle.catalog_loading.specs.declared.stops.Stop.TheVariants.{NoMemory}
use Rattle.derivation_commands.specs.Task.{derive_steps, judge_steps}
use Rattle.query_server.specs.Work.{to_generate}
use Rattle.query_server.proofs.Derived.{derived_end, derived_fault}
use Rattle.query_server.proofs.Outcomes.{command_end, faulty_end, fileless_end, unread_end, unread_taken}
use Rattle.query_server.proofs.Services.{doorless, listens, posted_end, posted_service, serve_cause, served_words, unserved_words}
use Rattle.query_server.proofs.server.run_command.Goals as goal

pub returns-in-Err-Usage-clause-end : goal.returns-in-Err-Usage-clause-end
returns-in-Err-Usage-clause-end g c = faulty_end _ _ _ _ _ (c.in-Err-Usage.ensures.refused c.in-Err-Usage.field-0-is)

pub returns-in-Err-NoMemory-clause-end : goal.returns-in-Err-NoMemory-clause-end
returns-in-Err-NoMemory-clause-end g c = unread_end (map string_bytes c.args.words.now) _ _ _ _

pub returns-in-Err-NoMemory-clause-taken : goal.returns-in-Err-NoMemory-clause-taken
returns-in-Err-NoMemory-clause-taken g c = unread_taken (command_of (map string_bytes c.args.words.now)) _

pub returns-in-Ok-Init-clause-end : goal.returns-in-Ok-Init-clause-end
returns-in-Ok-Init-clause-end g c =
    let r = c.in-Ok-Init in command_end _ (Some (init r.catalog.now r.key.now)) _ _ _ _ _ _ _ (r.ensures.read ∙ ap (λ command. Some (command_meant command)) r.field-0-is) (c.list_owners.ensures.end (g.S.Source.left c.args.source.now))

pub returns-in-Ok-Audit-clause-end : goal.returns-in-Ok-Audit-clause-end
returns-in-Ok-Audit-clause-end g c =
    let r = c.in-Ok-Audit in command_end _ (Some (audit r.catalog.now r.key.now)) _ _ _ _ _ _ _ (r.ensures.read ∙ ap (λ command. Some (command_meant command)) r.field-0-is) (c.list_owners-in-Ok-Audit.ensures.end (g.S.Source.left c.args.source.now))

pub grant_budget-requires-clause-amount : goal.grant_budget-requires-clause-amount
grant_budget-requires-clause-amount g c κs _ =
    let r = c.in-Ok-Grant in
    let within = in_range (map string_bytes c.args.words.now) (grant r.catalog.now r.key.now r.owner.now r.amount) (r.ensures.read ∙ ap (λ command. Some (command_meant command)) r.field-0-is) in
    record { least = omega (arith, within.0); most = omega (arith, within.1) }

pub returns-in-Ok-Grant-clause-end : goal.returns-in-Ok-Grant-clause-end
returns-in-Ok-Grant-clause-end g c =
    let r = c.in-Ok-Grant in command_end _ (Some (grant r.catalog.now r.key.now r.owner.now r.amount)) _ _ _ _ _ _ _ (r.ensures.read ∙ ap (λ command. Some (command_meant command)) r.field-0-is) (c.grant_budget.ensures.end (g.S.Source.left c.args.source.now))

pub returns-in-Ok-Grant-clause-service : goal.returns-in-Ok-Grant-clause-service
returns-in-Ok-Grant-clause-service g c =
    let r = c.in-Ok-Grant in doorless _ (Some (grant r.catalog.now r.key.now r.owner.now r.amount)) (r.ensures.read ∙ ap (λ command. Some (command_meant command)) r.field-0-is) (λ listens. cc listens)

pub returns-in-Ok-Run-clause-end : goal.returns-in-Ok-Run-clause-end
returns-in-Ok-Run-clause-end g c =
    let r = c.in-Ok-Run in command_end _ (Some (run r.catalog.now r.key.now r.workers)) _ _ _ _ _ _ _ (r.ensures.read ∙ ap (λ command. Some (command_meant command)) r.field-0-is) c.run_script.ensures.end

pub run_script-requires-clause-workers : goal.run_script-requires-clause-workers
run_script-requires-clause-workers g c κs _ =
    let r = c.in-Ok-Run in
    in_range (map string_bytes c.args.words.now) (run r.catalog.now r.key.now r.workers) (r.ensures.read ∙ ap (λ command. Some (command_meant command)) r.field-0-is)

pub new-post-requires : goal.new-post-requires
new-post-requires g c =
    let r = c.in-Ok-Serve in
    let within = in_range (map string_bytes c.args.words.now) (serve r.catalog.now r.key.now r.address.now r.port r.workers r.each) (r.ensures.read ∙ ap (λ command. Some (command_meant command)) r.field-0-is) in
    omega (arith, within.0.1)

pub serve_doors-requires-clause-workers : goal.serve_doors-requires-clause-workers
serve_doors-requires-clause-workers g c κs _ =
    let r = c.in-Ok-Serve in
    let within = in_range (map string_bytes c.args.words.now) (serve r.catalog.now r.key.now r.address.now r.port r.workers r.each) (r.ensures.read ∙ ap (λ command. Some (command_meant command)) r.field-0-is) in
    (omega (arith, within.1.0, c.new-post.ensures.workers), omega (arith, within.1.1, c.new-post.ensures.workers))

pub serve_doors-requires-clause-some : goal.serve_doors-requires-clause-some
serve_doors-requires-clause-some g c κs _ =
    let r = c.in-Ok-Serve in
    let within = in_range (map string_bytes c.args.words.now) (serve r.catalog.now r.key.now r.address.now r.port r.workers r.each) (r.ensures.read ∙ ap (λ command. Some (command_meant command)) r.field-0-is) in
    omega (arith, within.2.0, c.new-post.ensures.each)

pub serve_doors-requires-clause-ports : goal.serve_doors-requires-clause-ports
serve_doors-requires-clause-ports g c κs _ =
    let r = c.in-Ok-Serve in
    let within = in_range (map string_bytes c.args.words.now) (serve r.catalog.now r.key.now r.address.now r.port r.workers r.each) (r.ensures.read ∙ ap (λ command. Some (command_meant command)) r.field-0-is) in
    omega (arith, within.0.1, within.1.1, c.new-post.ensures.port, c.new-post.ensures.workers)

pub generate-requires-clause-asks : goal.generate-requires-clause-asks
generate-requires-clause-asks g c κs _ =
    let r = c.in-Ok-Gen in
    (in_range (map string_bytes c.args.words.now) (gen r.seed r.asks r.workers) (r.ensures.read ∙ ap (λ command. Some (command_meant command)) r.field-0-is)).1

pub generate-requires-clause-workers : goal.generate-requires-clause-workers
generate-requires-clause-workers g c κs _ =
    let r = c.in-Ok-Gen in
    (in_range (map string_bytes c.args.words.now) (gen r.seed r.asks r.workers) (r.ensures.read ∙ ap (λ command. Some (command_meant command)) r.field-0-is)).2

pub returns-in-Ok-Serve-clause-end : goal.returns-in-Ok-Serve-clause-end
returns-in-Ok-Serve-clause-end g c =
    let r = c.in-Ok-Serve in command_end _ (Some (serve r.catalog.now r.key.now r.address.now r.port r.workers r.each)) _ _ _ _ _ _ _ (r.ensures.read ∙ ap (λ command. Some (command_meant command)) r.field-0-is)
    (posted_end _ (g.S.Source.left c.args.source.now) _ _ _ _ r.catalog.now r.key.now _ _ _ _ c.serve_doors.result c.new-post.ensures.workers c.new-post.ensures.each
    (c.serve_doors.ensures.end (g.S.Source.left c.args.source.now)))

pub returns-in-Ok-Gen-clause-end : goal.returns-in-Ok-Gen-clause-end
returns-in-Ok-Gen-clause-end g c =
    let r = c.in-Ok-Gen in
    command_end _ (Some (gen r.seed r.asks r.workers)) _ _ _ _ _ _ _ (r.ensures.read ∙ ap (λ command. Some (command_meant command)) r.field-0-is)
    (fileless_end _ _ _ _ (to_generate r.seed r.asks) _ (λ script. c.generate.ensures.end (g.B.Bay.shelf c.args.bay.now) script))

pub returns-in-Err-Usage-clause-service : goal.returns-in-Err-Usage-clause-service
returns-in-Err-Usage-clause-service g c = doorless _ None (c.in-Err-Usage.ensures.refused c.in-Err-Usage.field-0-is) (λ listens. cc listens)

pub returns-in-Err-NoMemory-clause-service : goal.returns-in-Err-NoMemory-clause-service
returns-in-Err-NoMemory-clause-service g c = λ listens.
    unserved_words (map string_bytes c.args.words.now) _ _ (g.B.Bay.shelf c.args.bay.now) _ (Err NoMemory) (λ done. cc done)

pub returns-in-Ok-Init-clause-service : goal.returns-in-Ok-Init-clause-service
returns-in-Ok-Init-clause-service g c =
    let r = c.in-Ok-Init in doorless _ (Some (init r.catalog.now r.key.now)) (r.ensures.read ∙ ap (λ command. Some (command_meant command)) r.field-0-is) (λ listens. cc listens)

pub returns-in-Ok-Audit-clause-service : goal.returns-in-Ok-Audit-clause-service
returns-in-Ok-Audit-clause-service g c =
    let r = c.in-Ok-Audit in doorless _ (Some (audit r.catalog.now r.key.now)) (r.ensures.read ∙ ap (λ command. Some (command_meant command)) r.field-0-is) (λ listens. cc listens)

pub returns-in-Ok-Run-clause-service : goal.returns-in-Ok-Run-clause-service
returns-in-Ok-Run-clause-service g c =
    let r = c.in-Ok-Run in doorless _ (Some (run r.catalog.now r.key.now r.workers)) (r.ensures.read ∙ ap (λ command. Some (command_meant command)) r.field-0-is) (λ listens. cc listens)

pub returns-in-Ok-Check-clause-service : goal.returns-in-Ok-Check-clause-service
returns-in-Ok-Check-clause-service g c =
    let r = c.in-Ok-Check in doorless _ (Some (check r.catalog.now r.owner.now r.file.now)) (r.ensures.read ∙ ap (λ command. Some (command_meant command)) r.field-0-is) (λ listens. cc listens)

pub returns-in-Ok-Gap-clause-service : goal.returns-in-Ok-Gap-clause-service
returns-in-Ok-Gap-clause-service g c =
    let r = c.in-Ok-Gap in doorless _ (Some (gap r.catalog.now r.owner.now r.second_catalog.now r.file.now)) (r.ensures.read ∙ ap (λ command. Some (command_meant command)) r.field-0-is) (λ listens. cc listens)

pub returns-in-Ok-Gen-clause-service : goal.returns-in-Ok-Gen-clause-service
returns-in-Ok-Gen-clause-service g c =
    let r = c.in-Ok-Gen in doorless _ (Some (gen r.seed r.asks r.workers)) (r.ensures.read ∙ ap (λ command. Some (command_meant command)) r.field-0-is) (λ listens. cc listens)

pub returns-in-Ok-Serve-clause-service : goal.returns-in-Ok-Serve-clause-service
returns-in-Ok-Serve-clause-service g c = λ listens.
    let r = c.in-Ok-Serve in
    served_words (map string_bytes c.args.words.now) (Some (serve r.catalog.now r.key.now r.address.now r.port r.workers r.each)) _ (g.S.Source.left c.args.source.now) _ _ _ _ c.serve_doors.result
    (r.ensures.read ∙ ap (λ command. Some (command_meant command)) r.field-0-is)
    (posted_service _ (g.S.Source.left c.args.source.now) r.catalog.now r.key.now _ _ _ _ _ _ _ _ c.serve_doors.result c.new-post.ensures.workers c.new-post.ensures.each
    (c.serve_doors.ensures.service (g.S.Source.left c.args.source.now)))

pub returns-in-Ok-Check-clause-end : goal.returns-in-Ok-Check-clause-end
returns-in-Ok-Check-clause-end g c =
    let r = c.in-Ok-Check in command_end _ (Some (check r.catalog.now r.owner.now r.file.now)) _ _ _ _ _ _ _ (r.ensures.read ∙ ap (λ command. Some (command_meant command)) r.field-0-is) (c.check_file.ensures.end (g.S.Source.left c.args.source.now) (g.B.Bay.shelf c.args.bay.now))

pub returns-in-Ok-Gap-clause-end : goal.returns-in-Ok-Gap-clause-end
returns-in-Ok-Gap-clause-end g c =
    let r = c.in-Ok-Gap in command_end _ (Some (gap r.catalog.now r.owner.now r.second_catalog.now r.file.now)) _ _ _ _ _ _ _ (r.ensures.read ∙ ap (λ command. Some (command_meant command)) r.field-0-is) (c.compare_files.ensures.end (g.S.Source.left c.args.source.now) (g.B.Bay.shelf c.args.bay.now))

pub returns-in-Ok-Check-clause-disk : goal.returns-in-Ok-Check-clause-disk
returns-in-Ok-Check-clause-disk g c = λ line is.
    let r = c.in-Ok-Check in
    let due = c.check_file.ensures.end (g.S.Source.left c.args.source.now) (g.B.Bay.shelf c.args.bay.now) in
    absurd (command_no_disk (Some (check r.catalog.now r.owner.now r.file.now)) _ _ _ _ _ _ c.check_file.result line (λ takes. cc takes) is due)

pub returns-in-Ok-Gap-clause-disk : goal.returns-in-Ok-Gap-clause-disk
returns-in-Ok-Gap-clause-disk g c = λ line is.
    let r = c.in-Ok-Gap in
    let due = c.compare_files.ensures.end (g.S.Source.left c.args.source.now) (g.B.Bay.shelf c.args.bay.now) in
    absurd (command_no_disk (Some (gap r.catalog.now r.owner.now r.second_catalog.now r.file.now)) _ _ _ _ _ _ c.compare_files.result line (λ takes. cc takes) is due)

pub returns-in-Ok-Gen-clause-disk : goal.returns-in-Ok-Gen-clause-disk
returns-in-Ok-Gen-clause-disk g c = λ line is.
    let r = c.in-Ok-Gen in
    let shelf = g.B.Bay.shelf c.args.bay.now in
    absurd (command_no_disk (Some (gen r.seed r.asks r.workers)) None None [] [] shelf shelf c.generate.result line (λ takes. cc takes) is
    (fileless_end None None [] shelf (to_generate r.seed r.asks) c.generate.result (λ script. c.generate.ensures.end shelf script)))

pub returns-in-Ok-Serve-clause-doors : goal.returns-in-Ok-Serve-clause-doors
returns-in-Ok-Serve-clause-doors g c =
    let r = c.in-Ok-Serve in
    inr (
      listens _ (Some (serve r.catalog.now r.key.now r.address.now r.port r.workers r.each)) (r.ensures.read ∙ ap (λ command. Some (command_meant command)) r.field-0-is) refl,
      c.serve_doors.ensures.doors,
    )

pub returns-in-Ok-Serve-clause-cause : goal.returns-in-Ok-Serve-clause-cause
returns-in-Ok-Serve-clause-cause g c = λ is.
    let r = c.in-Ok-Serve in
    serve_cause (listens _ (Some (serve r.catalog.now r.key.now r.address.now r.port r.workers r.each)) (r.ensures.read ∙ ap (λ command. Some (command_meant command)) r.field-0-is) refl)
    (c.serve_doors.ensures.cause is)

pub returns-in-Ok-Check-clause-lost : goal.returns-in-Ok-Check-clause-lost
returns-in-Ok-Check-clause-lost g c = λ line is.
    let r = c.in-Ok-Check in
    let due = c.check_file.ensures.end (g.S.Source.left c.args.source.now) (g.B.Bay.shelf c.args.bay.now) in
    absurd (command_no_disk (Some (check r.catalog.now r.owner.now r.file.now)) _ _ _ _ _ _ c.check_file.result line (λ takes. cc takes) is due)

pub returns-in-Ok-Gap-clause-lost : goal.returns-in-Ok-Gap-clause-lost
returns-in-Ok-Gap-clause-lost g c = λ line is.
    let r = c.in-Ok-Gap in
    let due = c.compare_files.ensures.end (g.S.Source.left c.args.source.now) (g.B.Bay.shelf c.args.bay.now) in
    absurd (command_no_disk (Some (gap r.catalog.now r.owner.now r.second_catalog.now r.file.now)) _ _ _ _ _ _ c.compare_files.result line (λ takes. cc takes) is due)

pub returns-in-Ok-Gen-clause-lost : goal.returns-in-Ok-Gen-clause-lost
returns-in-Ok-Gen-clause-lost g c = λ line is.
    let r = c.in-Ok-Gen in
    let shelf = g.B.Bay.shelf c.args.bay.now in
    absurd (command_no_disk (Some (gen r.seed r.asks r.workers)) None None [] [] shelf shelf c.generate.result line (λ takes. cc takes) is
    (fileless_end None None [] shelf (to_generate r.seed r.asks) c.generate.result (λ script. c.generate.ensures.end shelf script)))

pub returns-in-Ok-Init-clause-lost : goal.returns-in-Ok-Init-clause-lost
returns-in-Ok-Init-clause-lost g c = λ line is.
    let r = c.in-Ok-Init in inl (r.catalog.now, r.key.now, r.ensures.read ∙ ap (λ command. Some (command_meant command)) r.field-0-is)

pub returns-in-Ok-Audit-clause-lost : goal.returns-in-Ok-Audit-clause-lost
returns-in-Ok-Audit-clause-lost g c = λ line is. inr (c.list_owners-in-Ok-Audit.ensures.lost refl line is)

pub returns-in-Ok-Grant-clause-lost : goal.returns-in-Ok-Grant-clause-lost
returns-in-Ok-Grant-clause-lost g c = λ line is. inr (c.grant_budget.ensures.lost line is)

pub returns-in-Ok-Run-clause-lost : goal.returns-in-Ok-Run-clause-lost
returns-in-Ok-Run-clause-lost g c = λ line is. inr (c.run_script.ensures.lost line is)

pub returns-in-Ok-Serve-clause-lost : goal.returns-in-Ok-Serve-clause-lost
returns-in-Ok-Serve-clause-lost g c = λ line is. inr (c.serve_doors.ensures.lost line is)

pub returns-in-Ok-Derive-clause-end : goal.returns-in-Ok-Derive-clause-end
returns-in-Ok-Derive-clause-end g c =
    let r = c.in-Ok-Derive in command_end _ (Some (derive r.catalog.now r.owner.now r.file.now)) _ _ _ _ _ _ _ (r.ensures.read ∙ ap (λ command. Some (command_meant command)) r.field-0-is)
    (derived_end _ (g.S.Source.left c.args.source.now) _ _ (g.B.Bay.shelf c.args.bay.now) (derive_steps r.catalog.now r.owner.now r.file.now) _ _ c.ended.ensures c.derive_file.ensures.end)

pub returns-in-Ok-Derive-clause-service : goal.returns-in-Ok-Derive-clause-service
returns-in-Ok-Derive-clause-service g c =
    let r = c.in-Ok-Derive in doorless _ (Some (derive r.catalog.now r.owner.now r.file.now)) (r.ensures.read ∙ ap (λ command. Some (command_meant command)) r.field-0-is) (λ listens. cc listens)

pub returns-in-Ok-Derive-clause-disk : goal.returns-in-Ok-Derive-clause-disk
returns-in-Ok-Derive-clause-disk g c = λ line is.
    let r = c.in-Ok-Derive in
    let due = derived_end _ (g.S.Source.left c.args.source.now) _ _ (g.B.Bay.shelf c.args.bay.now) (derive_steps r.catalog.now r.owner.now r.file.now) _ _ c.ended.ensures c.derive_file.ensures.end in
    absurd (command_no_disk (Some (derive r.catalog.now r.owner.now r.file.now)) _ _ _ _ _ _ c.ended.result line (λ takes. cc takes) is due)

pub returns-in-Ok-Derive-clause-lost : goal.returns-in-Ok-Derive-clause-lost
returns-in-Ok-Derive-clause-lost g c = λ line is.
    let r = c.in-Ok-Derive in
    let due = derived_end _ (g.S.Source.left c.args.source.now) _ _ (g.B.Bay.shelf c.args.bay.now) (derive_steps r.catalog.now r.owner.now r.file.now) _ _ c.ended.ensures c.derive_file.ensures.end in
    absurd (command_no_disk (Some (derive r.catalog.now r.owner.now r.file.now)) _ _ _ _ _ _ c.ended.result line (λ takes. cc takes) is due)

pub returns-in-Ok-Derive-clause-cause : goal.returns-in-Ok-Derive-clause-cause
returns-in-Ok-Derive-clause-cause g c = λ is. inl (c.derive_file.ensures.cause (derived_fault _ _ c.ended.ensures is))

pub returns-in-Ok-Judge-clause-end : goal.returns-in-Ok-Judge-clause-end
returns-in-Ok-Judge-clause-end g c =
    let r = c.in-Ok-Judge in command_end _ (Some (judge r.catalog.now r.owner.now r.file.now r.derivation.now)) _ _ _ _ _ _ _ (r.ensures.read ∙ ap (λ command. Some (command_meant command)) r.field-0-is)
    (derived_end _ (g.S.Source.left c.args.source.now) _ _ (g.B.Bay.shelf c.args.bay.now) (judge_steps r.catalog.now r.owner.now r.file.now r.derivation.now) _ _ c.ended-in-Ok-Judge.ensures c.judge_file.ensures.end)

pub returns-in-Ok-Judge-clause-service : goal.returns-in-Ok-Judge-clause-service
returns-in-Ok-Judge-clause-service g c =
    let r = c.in-Ok-Judge in doorless _ (Some (judge r.catalog.now r.owner.now r.file.now r.derivation.now)) (r.ensures.read ∙ ap (λ command. Some (command_meant command)) r.field-0-is) (λ listens. cc listens)

pub returns-in-Ok-Judge-clause-disk : goal.returns-in-Ok-Judge-clause-disk
returns-in-Ok-Judge-clause-disk g c = λ line is.
    let r = c.in-Ok-Judge in
    let due = derived_end _ (g.S.Source.left c.args.source.now) _ _ (g.B.Bay.shelf c.args.bay.now) (judge_steps r.catalog.now r.owner.now r.file.now r.derivation.now) _ _ c.ended-in-Ok-Judge.ensures c.judge_file.ensures.end in
    absurd (command_no_disk (Some (judge r.catalog.now r.owner.now r.file.now r.derivation.now)) _ _ _ _ _ _ c.ended-in-Ok-Judge.result line (λ takes. cc takes) is due)

pub returns-in-Ok-Judge-clause-lost : goal.returns-in-Ok-Judge-clause-lost
returns-in-Ok-Judge-clause-lost g c = λ line is.
    let r = c.in-Ok-Judge in
    let due = derived_end _ (g.S.Source.left c.args.source.now) _ _ (g.B.Bay.shelf c.args.bay.now) (judge_steps r.catalog.now r.owner.now r.file.now r.derivation.now) _ _ c.ended-in-Ok-Judge.ensures c.judge_file.ensures.end in
    absurd (command_no_disk (Some (judge r.catalog.now r.owner.now r.file.now r.derivation.now)) _ _ _ _ _ _ c.ended-in-Ok-Judge.result line (λ takes. cc takes) is due)

pub returns-in-Ok-Judge-clause-cause : goal.returns-in-Ok-Judge-clause-cause
returns-in-Ok-Judge-clause-cause g c = λ is. inl (c.judge_file.ensures.cause (derived_fault _ _ c.ended-in-Ok-Judge.ensures is))
