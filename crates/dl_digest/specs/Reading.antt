-- What was taken of a log that is read.
use Rattle.std.specs.Prelude.{◌≡◌, List}
use Rattle.dl_types.specs.declared.reply.Outcome.{Outcome}
use Rattle.dl_pipe.specs.Reading.{gaps_of, items_of}
use Rattle.dl_digest.specs.declared.reading.Reading.{Reading}
use Rattle.dl_digest.specs.Digest.{Holds}
use Rattle.dl_digest.specs.Files.{by_file, parts_of, HoldsFiles}

module _ {Z : Type 0} where
  -- the items that these chunks gave were taken, file by file and in all, and the bad bytes that they report
  pub record HasTaken (reading : Reading Z) (given : List (Outcome Z)) : Type 0 where
    pub files : HoldsFiles reading.files (by_file (parts_of given))
    pub all : Holds reading.all (items_of given)
    pub gaps : reading.gaps.items ≡ gaps_of 0 given
