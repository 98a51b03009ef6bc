use Rattle.std.proofs.Common.{◌≡◌, ◌++◌, take}
use Rattle.dl_digest.specs.Write.{files_text}
use Rattle.dl_digest.proofs.write.push_files.Given as goal

-- the lines of the files so far were added
abbrev pub invariant-loop-file : goal.invariant-loop-file
invariant-loop-file g l = l.text.items ≡ l.fn.text.items ++ files_text l.log (take l.file-index l.files)
