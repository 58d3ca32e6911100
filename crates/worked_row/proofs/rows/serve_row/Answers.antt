use Rattle.query_server.proofs.Contents.{at_held}
use Rattle.worked_row.proofs.ServeRow.{of_doors, served}
use Rattle.worked_row.proofs.rows.serve_row.Goals as goal

pub returns : goal.returns
returns g c done =
    let files = c.requires.files in
    let some = at_held files.0 _ _ _ files.1 (c.run_server.ensures.service (of_doors _ c.requires.words)) in
    served _ files.0 _ _ _ _ _ _ _ c.requires.words files.2 c.requires.made c.requires.comes done some.1
