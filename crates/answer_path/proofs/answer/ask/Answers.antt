use Rattle.std.proofs.Common.{[], ap, refl, subst, sym}
use Rattle.fz_ast.specs.Signature.{Signature}
use Rattle.wire_lines.specs.Refusal.{refusal_at}
use Rattle.wire_lines.specs.Reply.{refused, replied}
use Rattle.part_views.specs.Views.{signature_in}
use Rattle.owner_house.specs.Names.{AreNames}
use Rattle.owner_house.specs.Owner.{Owner, IsOwnerOf}
use Rattle.owner_desk.specs.Passes.{Pass}
use Rattle.answer_path.specs.Turn.{IsTurn}
use Rattle.answer_path.specs.Code.{IsAdmitted, IsProgramRefusal, query_of}
use Rattle.answer_path.proofs.Told.{admitted_walks_little, names_in_view, undecided_told, walks_refused}
use Rattle.answer_path.proofs.Turns.{due_by, of_owner, refused_turn, shuts_by}
use Rattle.answer_path.proofs.Answering.{owner_with}
use Rattle.answer_path.proofs.answer.ask.Goals as goal

pub decide-requires : goal.decide-requires
decide-requires g c = subst AreNames (sym c.sig.ensures.tables) (names_in_view c.args.dataset.now.tables c.args.dataset.now.partitions c.args.query.now.view c.requires.names)

pub answer_admitted-requires-clause-reads : goal.answer_admitted-requires-clause-reads
answer_admitted-requires-clause-reads g c = c.in-Ok.ensures.decided.reads

pub answer_admitted-requires-clause-digest : goal.answer_admitted-requires-clause-digest
answer_admitted-requires-clause-digest g c = c.in-Ok.ensures.decided.digest

pub answer_admitted-requires-clause-admitted : goal.answer_admitted-requires-clause-admitted
answer_admitted-requires-clause-admitted g c =
    subst (λ (ts : Signature). IsAdmitted ts (c.in-Ok.decided.admitted.checked.term.now) c.in-Ok.decided.admitted) c.sig.ensures.tables c.in-Ok.ensures.decided.admitted

-- its program is refused
pub returns-in-Err : goal.returns-in-Err
returns-in-Err g c =
    let pass : Pass = c.args.pass.now.knows in
    let dataset = c.args.dataset.now in
    let query = query_of c.args.query.now in
    let draws = g.S.Streams.given c.args.streams.now c.args.owner in
    let refusal = refusal_at c.told.result in
    let why = subst (λ (tables : Signature). IsProgramRefusal tables query.program refusal) c.sig.ensures.tables
    (undecided_told c.sig.result.now query.program c.in-Err.unadmitted refusal c.in-Err.ensures.undecided c.told.ensures) in
    let turn : (owner : Owner) → IsOwnerOf pass.opened.ledger.entry dataset owner → IsTurn owner draws query pass (refused refusal) pass =
    of_owner (λ (owner : Owner). IsTurn owner draws query pass (refused refusal) pass) pass dataset
    (λ name. refused_turn (owner_with name pass.opened.ledger.entry dataset) draws query pass refusal why) in
    record {
      step = λ owner is. let one = turn owner is in (one.told, one.asked, one.own);
      shuts = λ owner is other own. shuts_by owner draws query pass pass (refused refusal) (turn owner is) other own;
      said_open = (turn (owner_with [] pass.opened.ledger.entry dataset) (record { entry_is = refl; tables_are = refl; rows_are = refl; partitions_are = refl })).said_open;
      due = λ owner is other own. due_by owner draws query pass pass (refused refusal) (turn owner is) other own;
      same = λ unasked. refl;
      walks = λ walks. ap refused (walks_refused (signature_in dataset.tables dataset.partitions query.view) query.program refusal walks why);
      kept = record { lock = refl; share = refl; opened = refl };
      fits = tt;
    }

pub returns-in-Ok-clause-step : goal.returns-in-Ok-clause-step
returns-in-Ok-clause-step g c = λ owner is. let turn = c.answer_admitted.ensures.turn owner is in (turn.told, turn.asked, turn.own)

pub returns-in-Ok-clause-shuts : goal.returns-in-Ok-clause-shuts
returns-in-Ok-clause-shuts g c = λ owner is other own.
    shuts_by owner _ _ c.args.pass.now.knows c.answer_admitted.new.pass.knows (replied c.answer_admitted.result) (c.answer_admitted.ensures.turn owner is) other own

pub returns-in-Ok-clause-said_open : goal.returns-in-Ok-clause-said_open
returns-in-Ok-clause-said_open g c =
    (c.answer_admitted.ensures.turn (owner_with [] c.args.pass.now.knows.opened.ledger.entry c.args.dataset.now) (record { entry_is = refl; tables_are = refl; rows_are = refl; partitions_are = refl })).said_open

pub returns-in-Ok-clause-due : goal.returns-in-Ok-clause-due
returns-in-Ok-clause-due g c = λ owner is other own.
    due_by owner _ _ c.args.pass.now.knows c.answer_admitted.new.pass.knows (replied c.answer_admitted.result) (c.answer_admitted.ensures.turn owner is) other own

pub returns-in-Ok-clause-same : goal.returns-in-Ok-clause-same
returns-in-Ok-clause-same g c = λ unasked. absurd (c.answer_admitted.ensures.asked unasked)

pub returns-in-Ok-clause-walks : goal.returns-in-Ok-clause-walks
returns-in-Ok-clause-walks g c = λ walks.
    let query = query_of c.args.query.now in
    let decided = c.in-Ok.ensures.decided in
    let admitted = c.in-Ok.decided.admitted in
    absurd (admitted_walks_little (signature_in c.args.dataset.now.tables c.args.dataset.now.partitions query.view) query.program admitted.checked.term.now admitted decided.reads
    (subst (λ (ts : Signature). IsAdmitted ts (admitted.checked.term.now) admitted) c.sig.ensures.tables decided.admitted) walks)
