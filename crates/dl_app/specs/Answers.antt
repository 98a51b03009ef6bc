-- Answers as bytes.
use Rattle.std.specs.Prelude.{◌≡◌, ℕ, List, [], ◌∷◌, ◌++◌, codes}
use Rattle.std.specs.Fmt.{decimal}
use Rattle.std.specs.List.{flat_map}
use Rattle.dl_types.specs.declared.place.Continuation.{Continuation}
use Rattle.dl_types.specs.declared.refusal.Refusal.{Refusal}
use Rattle.dl_types.specs.declared.reply.Reply.{Reply}
use Rattle.dl_types.specs.declared.reply.Reply.TheVariants as reply
use Rattle.dl_types.specs.declared.reply.Turn.{Turn}
use Rattle.dl_types.specs.declared.reply.Turn.TheVariants.{Drained, Idle, Fault}
use Rattle.dl_types.specs.Name.{name_text}
use Rattle.dl_types.specs.Printed.{characters_of, refusal_text}
use Rattle.dl_lines.specs.Digits.{hex}
use Rattle.dl_app.specs.InfoText.{info_text}

-- an item after a space: each byte in two digits, or `-` if it is empty
abbrev pub item_text : List ℕ → List ℕ
item_text [] = 32 ∷ 45 ∷ []
item_text (b ∷ bytes) = 32 ∷ flat_map hex (b ∷ bytes)

-- a number of bad bytes, and then items
abbrev pub items_text : ℕ → List (List ℕ) → List ℕ
items_text bad items = codes "items " ++ decimal bad ++ flat_map item_text items

-- the generation of the file that a place is in, and how many of its items are passed
abbrev pub place_text : Continuation → List ℕ
place_text place = codes "at " ++ decimal place.generation ++ codes " " ++ decimal place.passed

-- a text says this refusal
abbrev pub IsRefusalText : Refusal → List ℕ → Type 0
IsRefusalText refusal text = text ≡ refusal_text refusal

-- how many items were kept, and how many bytes cut
abbrev pub repaired_text : ℕ → ℕ → List ℕ
repaired_text recovered bad = codes "repaired " ++ decimal recovered ++ codes " " ++ decimal bad

-- what became of the oldest block
abbrev pub turn_text : Turn → List ℕ
turn_text (Drained log) = codes "turn drained " ++ characters_of (name_text log)
turn_text Idle = codes "turn idle"
turn_text (Fault log) = codes "turn fault " ++ characters_of (name_text log)

-- a text says this reply
abbrev pub IsReplyText : {Z : Type 0} → Reply Z → List ℕ → Type 0
IsReplyText reply.Opened text = text ≡ codes "opened"
IsReplyText (reply.Repaired recovered bad) text = text ≡ repaired_text recovered bad
IsReplyText reply.Done text = text ≡ codes "done"
IsReplyText reply.Suspended text = text ≡ codes "suspended"
IsReplyText reply.Held text = text ≡ codes "held"
IsReplyText (reply.Items next items bad) text = text ≡ items_text bad items
IsReplyText reply.Eof text = text ≡ codes "eof"
IsReplyText (reply.At place) text = text ≡ place_text place
IsReplyText (reply.Info info) text = text ≡ info_text info
IsReplyText (reply.Turn turn) text = text ≡ turn_text turn
IsReplyText (reply.Refused refusal) text = IsRefusalText refusal text
IsReplyText reply.OutOfMemory text = text ≡ codes "out of memory"

-- a text of this meaning, and a line feed
abbrev pub IsLineOf : (List ℕ → Type 0) → List ℕ → Type 0
IsLineOf Says bytes = (text : List ℕ) × Says text × (bytes ≡ text ++ 10 ∷ [])
