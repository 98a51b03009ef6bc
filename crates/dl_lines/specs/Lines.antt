-- Lines of a text, and of a reader.
use Rattle.std.specs.Prelude.{◌≡◌, ◌<◌, ℕ, List, [], ◌∷◌, ◌++◌, ◌==◌, Option, Some, None, ⊤, length, if◌then◌else◌}
use Rattle.std.specs.List.{onto_first}
use Rattle.std.specs.Io.KnownBytes.{Consumes, IsAtEnd}
use Rattle.dl_lines.specs.declared.lines.Part.{Part}
use Rattle.dl_lines.specs.declared.lines.Part.TheVariants.{More, Feed, End}

-- the lines of a text: each ends with a line feed, which the last may lack
abbrev pub lines_of : List ℕ → List (List ℕ)
lines_of [] = []
lines_of (b ∷ bytes) = if b == 10 then [] ∷ lines_of bytes else onto_first b (lines_of bytes)

-- these are the lines of what a reader has left, if its bytes are known
abbrev pub HasLines : Option (List ℕ) → List (List ℕ) → Type 0
HasLines None lines = ⊤
HasLines (Some text) lines = lines_of text ≡ lines

-- these lines were taken from a reader
abbrev pub TakesLines : Option (List ℕ) → Option (List ℕ) → List (List ℕ) → Type 0
TakesLines None new lines = ⊤
TakesLines (Some text) None lines = ⊥
TakesLines (Some text) (Some rest) lines = lines_of text ≡ lines ++ lines_of rest

-- the next line of a reader has more bytes than the limit
abbrev pub IsNextTooLong : ℕ → Option (List ℕ) → Type 0
IsNextTooLong limit known = (line : List ℕ) × (others : List (List ℕ)) × HasLines known (line ∷ others) × (limit < length line)

-- what a part of a line with these bytes takes from a reader
abbrev pub TakesPart : Part → Option (List ℕ) → Option (List ℕ) → List ℕ → Type 0
TakesPart More old new bytes = Consumes old new bytes
TakesPart Feed old new bytes = Consumes old new (bytes ++ 10 ∷ [])
TakesPart End old new bytes = (bytes ≡ []) × IsAtEnd old × Consumes old new []
