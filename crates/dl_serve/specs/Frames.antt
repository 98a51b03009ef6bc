-- Frames as they stand in a stream.
use Rattle.std.specs.Prelude.{◌≡◌, ◌⊎◌, ◌<◌, ◌≤◌, ◌+◌, ℕ, List, ◌++◌, Option, Some, None, ⊤, length, take, drop, nat_lt, if◌then◌else◌}
use Rattle.std.specs.List.{flat_map}
use Rattle.std.specs.Int.{w32, from_be_bytes}
use Rattle.dl_wire.specs.declared.limits.TheConstants.{FRAME_LIMIT}
use Rattle.dl_wire.specs.Answer.{frame_text}
use Rattle.dl_serve.specs.declared.frames.Front.{Front}
use Rattle.dl_serve.specs.declared.frames.Front.TheVariants as front

-- the length that a frame begins with
abbrev pub front_number : List ℕ → ℕ
front_number bytes = from_be_bytes w32 (take 4 bytes)

-- what begins as a frame that is too long
pub record IsLong (bytes : List ℕ) : Type 0 where
  pub begun : 4 ≤ length bytes
  pub long : FRAME_LIMIT < front_number bytes

-- less than a whole frame: less than its length, or fewer bytes than the length says
abbrev pub IsPartial : List ℕ → Type 0
IsPartial bytes = (length bytes < 4) ⊎ (length bytes < 4 + front_number bytes)

-- what a reader has left is the frames of these texts, and then the rest, if its bytes are known
abbrev pub HasFrames : Option (List ℕ) → List (List ℕ) → List ℕ → Type 0
HasFrames None texts rest = ⊤
HasFrames (Some bytes) texts rest = bytes ≡ flat_map frame_text texts ++ rest

-- the tag of a text, if it is long enough to have one, and else 0
abbrev pub tag_of : List ℕ → ℕ
tag_of text = if nat_lt (length text) 4 then 0 else front_number text

-- what stands at the front of some bytes
abbrev pub IsFront : List ℕ → Front → Type 0
IsFront bytes (front.Whole text) = (length text.now ≤ FRAME_LIMIT) × (4 + length text.now ≤ length bytes) × (bytes ≡ frame_text text.now ++ drop (4 + length text.now) bytes)
IsFront bytes front.Partial = IsPartial bytes
IsFront bytes front.Long = IsLong bytes
