use Rattle.answer_path.proofs.Told.{unadmitted_told}
use Rattle.answer_path.proofs.program.admit.Goals as goal

pub returns-in-Err-clause-refused : goal.returns-in-Err-clause-refused
returns-in-Err-clause-refused c = unadmitted_told c.args.sig.now c.args.term.now c.in-Err.unadmitted _ c.in-Err.ensures.unadmitted c.told.ensures
