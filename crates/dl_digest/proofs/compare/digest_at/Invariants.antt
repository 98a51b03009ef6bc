use Rattle.std.proofs.Common.{◌≡◌, drop}
use Rattle.dl_digest.specs.Compare.{digest_at}
use Rattle.dl_digest.proofs.compare.digest_at.Given as goal

-- no file so far has the generation
abbrev pub invariant-loop-file : goal.invariant-loop-file
invariant-loop-file l = digest_at l.generation l.files ≡ digest_at l.generation (drop l.file-index l.files)
