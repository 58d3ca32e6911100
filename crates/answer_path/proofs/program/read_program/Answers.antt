use Rattle.std.proofs.Common.{subst}
use Rattle.fz_parser.specs.Reading.{IsParsed, ExplainsParse}
use Rattle.answer_path.proofs.Told.{is_read, no_term_read, no_tokens, unlexed_refused, unparsed_refused}
use Rattle.answer_path.proofs.program.read_program.Goals as goal

pub returns-in-Err-clause-refused : goal.returns-in-Err-clause-refused
returns-in-Err-clause-refused c = unlexed_refused c.args.bytes.now c.in-Err.fault _ c.in-Err.ensures.fault c.lex_refusal.ensures

pub returns-in-Err-clause-unread : goal.returns-in-Err-clause-unread
returns-in-Err-clause-unread c = no_tokens c.args.bytes.now c.in-Err.fault _ c.in-Err.ensures.fault c.lex_refusal.ensures

pub returns-in-Ok-parse-clause-term : goal.returns-in-Ok-parse-clause-term
returns-in-Ok-parse-clause-term c = is_read c.args.bytes.now _ c.in-Ok-parse.term c.in-Ok.ensures.tokens (subst (λ us. IsParsed us c.in-Ok-parse.term) c.deref.ensures.value c.in-Ok-parse.ensures.term)

pub returns-clause-refused : goal.returns-clause-refused
returns-clause-refused c =
    unparsed_refused c.args.bytes.now _ c.in-Err-parse.fault _ c.in-Ok.ensures.tokens (subst (λ us. ExplainsParse us c.in-Err-parse.fault) c.deref.ensures.value c.in-Err-parse.ensures.fault) c.parse_refusal.ensures

pub returns-clause-unread : goal.returns-clause-unread
returns-clause-unread c =
    no_term_read c.args.bytes.now _ c.in-Err-parse.fault _ c.in-Ok.ensures.tokens (subst (λ us. ExplainsParse us c.in-Err-parse.fault) c.deref.ensures.value c.in-Err-parse.ensures.fault) c.parse_refusal.ensures
