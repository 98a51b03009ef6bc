-- The digests of a log as lines.
use Rattle.std.specs.Prelude.{ℕ, List, [], ◌∷◌, ◌++◌}
use Rattle.std.specs.List.{flat_map}
use Rattle.dl_types.specs.declared.name.Name.{Name}
use Rattle.dl_digest.specs.declared.files.FileDigest.{FileDigest}
use Rattle.dl_digest.specs.declared.line.Extent.TheVariants.{File, All}
use Rattle.dl_digest.specs.declared.log.LogDigests.{LogDigests}
use Rattle.dl_digest.specs.Line.{line_text}

-- the line of the digest of a file, and its line feed
abbrev pub file_line : Name → FileDigest → List ℕ
file_line log file = line_text (record { log = log; extent = File file.generation; digest = file.digest }) ++ 10 ∷ []

-- a line for each of these files
abbrev pub files_text : Name → List FileDigest → List ℕ
files_text log files = flat_map (file_line log) files

module _ {Z : Type 0} where
  -- a line for each file, and one for all
  abbrev pub digests_text : Name → LogDigests Z → List ℕ
  digests_text log digests =
      files_text log digests.files.items ++ (line_text (record { log = log; extent = All; digest = digests.all }) ++ 10 ∷ [])
