-- The items of a log, file by file.
use Rattle.std.specs.Prelude.{◌≡◌, ◌==◌, ℕ, List, [], ◌∷◌, ◌++◌, Option, Some, None, map, if◌then◌else◌}
use Rattle.dl_types.specs.declared.reply.Outcome.{Outcome}
use Rattle.dl_types.specs.declared.reply.Reply.{Reply}
use Rattle.dl_types.specs.declared.reply.Reply.TheVariants as reply
use Rattle.dl_digest.specs.declared.files.FileDigest.{FileDigest}
use Rattle.dl_digest.specs.declared.files.FileDigests.{FileDigests}
use Rattle.dl_digest.specs.declared.files.OpenFile.{OpenFile}
use Rattle.dl_digest.specs.Digest.{digest_of, Holds}

-- items of the file of a generation
pub record FileItems : Type 0 where
  pub generation : ℕ
  pub items : List (List ℕ)

-- the digest of the items of a file
abbrev pub file_digest : FileItems → FileDigest
file_digest file = record { generation = file.generation; digest = digest_of file.items }

-- some items before those of files: of the first file, or of one before it
abbrev pub before_files : FileItems → List FileItems → List FileItems
before_files part [] = part ∷ []
before_files part (file ∷ files) =
    if part.generation == file.generation
    then record { generation = file.generation; items = part.items ++ file.items } ∷ files
    else part ∷ file ∷ files

-- parts that stand one after another, those of one generation as one file
abbrev pub by_file : List FileItems → List FileItems
by_file [] = []
by_file (part ∷ parts) = before_files part (by_file parts)

-- the items of a chunk, which are of the file that the place after them is in
abbrev pub part_in : {Z : Type 0} → Reply Z → List FileItems
part_in (reply.Items next items bad) = record { generation = next.generation; items = items } ∷ []
part_in other = []

-- the items of each chunk
abbrev pub parts_of : {Z : Type 0} → List (Outcome Z) → List FileItems
parts_of [] = []
parts_of (o ∷ os) = part_in o.reply ++ parts_of os

-- the digests of files, and a last one that goes on: these items of it were taken
pub record HoldsLast (done : List FileDigest) (last : OpenFile) (files : List FileItems) : Type 0 where
  pub fronts : List FileItems
  pub items : List (List ℕ)
  pub whole : files ≡ fronts ++ record { generation = last.generation; items = items } ∷ []
  pub digests : done ≡ map file_digest fronts
  pub taken : Holds last.hashing items

-- the digests of files, and a last one if there is any
abbrev pub HoldsAll : List FileDigest → Option OpenFile → List FileItems → Type 0
HoldsAll done None files = (done ≡ []) × (files ≡ [])
HoldsAll done (Some last) files = HoldsLast done last files

-- the digests of files, and the one that more items of this generation go to: of it these items were taken
pub record GoesOn (done : List FileDigest) (last : OpenFile) (parts : List FileItems) (generation : ℕ) : Type 0 where
  pub fronts : List FileItems
  pub items : List (List ℕ)
  pub whole : (more : List (List ℕ)) → by_file (parts ++ record { generation = generation; items = more } ∷ []) ≡ fronts ++ record { generation = generation; items = items ++ more } ∷ []
  pub same : last.generation ≡ generation
  pub digests : done ≡ map file_digest fronts
  pub taken : Holds last.hashing items

module _ {A : Type 0} where
  -- the items of these files were taken
  abbrev pub HoldsFiles : FileDigests A → List FileItems → Type 0
  HoldsFiles digests files = HoldsAll digests.done.items digests.last files
