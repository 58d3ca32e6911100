use Rattle.query_server.proofs.Contents.{at_held}
use Rattle.worked_row.proofs.GrantRow.{granted}
use Rattle.worked_row.proofs.rows.grant_row.Goals as goal

pub returns : goal.returns
returns g c =
    let files = c.requires.files in
    let line = c.run_server.ensures.line in
    let some = at_held files.0 _ _ _ files.1 line.2 in
    granted _ files.0 some.0 _ _ _ line.0 _ _ c.requires.words files.2 c.requires.made c.requires.sink line.1 some.1.0
