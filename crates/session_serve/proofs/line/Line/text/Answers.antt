use Rattle.session_serve.proofs.Kept.{long_text}
use Rattle.session_serve.proofs.line.Line.text.Goals as goal

pub returns-then-self : goal.returns-then-self
returns-then-self c = λ raw text keeps one. long_text c.args.self.now.long c.args.self.now.kept.items raw text c.if-self.true keeps one
