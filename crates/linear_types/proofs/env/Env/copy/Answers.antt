-- What is left to prove of env::Env::copy.
use Rattle.linear_types.proofs.Entries.{in_range_at}
use Rattle.linear_types.proofs.env.Env.copy.Goals as goal

pub returns-in_err-push-clause-in_range : goal.returns-in_err-push-clause-in_range
returns-in_err-push-clause-in_range c = in_range_at c.args.self.now c.self.inside.entries.items c.self.view_is

pub returns-clause-in_range : goal.returns-clause-in_range
returns-clause-in_range c = in_range_at c.args.self.now c.self.inside.entries.items c.self.view_is
