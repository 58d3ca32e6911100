use Rattle.command_words.proofs.Parses.{found_by, refused_by, taken_by}
use Rattle.command_words.proofs.words.matches_of.Goals as goal

pub returns-in-OutOfMemory-clause-refused : goal.returns-in-OutOfMemory-clause-refused
returns-in-OutOfMemory-clause-refused c is = cc is

pub returns-in-Ok-try_get_matches_from-clause-taken : goal.returns-in-Ok-try_get_matches_from-clause-taken
returns-in-Ok-try_get_matches_from-clause-taken c = taken_by _ _ c.in-Ok.ensures c.in-Ok-try_get_matches_from.ensures.kinds

pub returns-in-Ok-try_get_matches_from-clause-found : goal.returns-in-Ok-try_get_matches_from-clause-found
returns-in-Ok-try_get_matches_from-clause-found c = found_by _ _ c.in-Ok.ensures c.in-Ok-try_get_matches_from.matches c.in-Ok-try_get_matches_from.ensures.matches

pub returns : goal.returns
returns c = record {
  taken = tt;
  found = tt;
  refused = λ is none. refused_by _ _ c.in-Ok.ensures c.in-Err.error c.kind.result c.in-Err.ensures.kinds c.kind.ensures c.in_default-kind.not-OutOfMemory none;
}
