use Rattle.std.proofs.Common.{◌≡◌, drop}
use Rattle.fz_outside.specs.Files.{bytes_of}
use Rattle.fz_outside.proofs.files.find.Given as goal

-- the files so far have other names
abbrev pub invariant-loop-file : goal.invariant-loop-file
invariant-loop-file l = bytes_of (drop l.file-index l.files) l.name ≡ bytes_of l.files l.name
