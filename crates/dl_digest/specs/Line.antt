-- Digests as lines of text.
use Rattle.std.specs.Prelude.{◌≡◌, ◌<◌, ◌^◌, ⊤, ℕ, List, ◌∷◌, ◌++◌, codes, length}
use Rattle.std.specs.Fmt.{decimal}
use Rattle.hex.specs.Hex.{encode_lower, IsBytes}
use Rattle.dl_types.specs.Name.{name_of, name_text, IsNameText}
use Rattle.dl_digest.specs.declared.digest.ItemsDigest.{ItemsDigest}
use Rattle.dl_digest.specs.declared.line.DigestLine.{DigestLine}
use Rattle.dl_digest.specs.declared.line.Extent.{Extent}
use Rattle.dl_digest.specs.declared.line.Extent.TheVariants.{File, All}

-- the generation, or `all`
abbrev pub extent_text : Extent → List ℕ
extent_text (File generation) = decimal generation
extent_text All = codes "all"

-- how many items there are, a space, and the hash in hexadecimal digits
abbrev pub digest_text : ItemsDigest → List ℕ
digest_text digest = decimal digest.items ++ 32 ∷ encode_lower digest.hash

-- a line, without its line feed
abbrev pub line_text : DigestLine → List ℕ
line_text line = name_text line.log ++ 32 ∷ (extent_text line.extent ++ 32 ∷ digest_text line.digest)

-- a generation that a file may have, or all
abbrev pub IsExtent : Extent → Type 0
IsExtent (File generation) = generation < 2 ^ 64
IsExtent All = ⊤

-- a number of 64 bits, and a hash of 32 bytes
pub record IsDigest (digest : ItemsDigest) : Type 0 where
  pub items : digest.items < 2 ^ 64
  pub bytes : IsBytes digest.hash
  pub hash : length digest.hash ≡ 32

-- a name as it is parsed, and values of the types
pub record IsLine (line : DigestLine) : Type 0 where
  pub name : IsNameText (name_text line.log)
  pub padded : line.log ≡ name_of (name_text line.log)
  pub extent : IsExtent line.extent
  pub digest : IsDigest line.digest
