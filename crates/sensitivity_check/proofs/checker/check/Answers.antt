use Rattle.linear_types.specs.Program.{context_of}
use Rattle.linear_types.specs.Rule.{rule}
use Rattle.sensitivity_check.proofs.Programs.{first_fault}
use Rattle.sensitivity_check.proofs.checker.check.Goals as goal

-- a fault that has its types is the program's first one
pub returns-in-Err-clause-fault : goal.returns-in-Err-clause-fault
returns-in-Err-clause-fault c = first_fault c.args.sig.now c.args.term.now c.with_types.result
    (c.with_types.ensures c.args.sig.now (rule (context_of c.args.sig.now) c.args.term.now) c.in-Err.ensures.says)
