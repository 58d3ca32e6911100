use Rattle.command_words.specs.Program.{audit_app, check_app, derive_app, gap_app, gen_app, grant_app, init_app, judge_app, run_app, serve_app}
use Rattle.command_words.proofs.commands.program_command.Goals as goal

pub returns : goal.returns
returns c =
    c.with_command.ensures _ judge_app (
    c.with_command-program-9.ensures _ derive_app (
    c.with_command-program-8.ensures _ gen_app (
    c.with_command-program-7.ensures _ serve_app (
    c.with_command-program-6.ensures _ gap_app (
    c.with_command-program-5.ensures _ grant_app (
    c.with_command-program-4.ensures _ audit_app (
    c.with_command-program-3.ensures _ run_app (
    c.with_command-program-2.ensures _ init_app (
    c.with_command-program.ensures _ check_app c.bare_program.ensures c.program_file_command.ensures) c.init_command.ensures) c.run_command.ensures) c.audit_command.ensures) c.grant_command.ensures) c.gap_command.ensures) c.serve_command.ensures) c.gen_command.ensures) c.program_file_command-2.ensures) c.judge_command.ensures
