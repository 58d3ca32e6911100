use Rattle.wire_lines.proofs.Replies.{texts_tell, streams_tell}
use Rattle.wire_lines.proofs.laws.replies_differ_in_their_texts.Goals as goal

pub returns-clause-one : goal.returns-clause-one
returns-clause-one c = texts_tell

pub returns-clause-stream : goal.returns-clause-stream
returns-clause-stream c = streams_tell
