-- What the ends of `derive` and `judge` mean.
use Rattle.std.specs.Prelude.{Result, Ok, Err}
use Rattle.catalog_loading.specs.declared.stops.Stop.{Stop}
use Rattle.derivation_commands.specs.declared.ending.Ending.{Ending}
use Rattle.derivation_commands.specs.declared.ending.Ending.TheVariants.{Refused, TooLong, Written}
use Rattle.query_server.specs.Ends.{Ended}
use Rattle.query_server.specs.declared.end.End.{End}
use Rattle.query_server.specs.declared.end.End.TheVariants.{DerivationTooLong, Done, ProgramRefused}

-- a command ends as the derivation that it wrote or judged
abbrev pub end_as : Ending → End
end_as (Written text) = Done text
end_as (Refused line) = ProgramRefused line
end_as TooLong = DerivationTooLong

abbrev pub ended_as : Result Ending Stop → Ended
ended_as (Ok ending) = Ok (end_as ending)
ended_as (Err stop) = Err stop
