-- The answer to a sync of many logs.
use Rattle.std.specs.Prelude.{ℕ, List, ◌∷◌, ◌++◌}
use Rattle.dl_types.specs.Name.{name_text}
use Rattle.dl_wire.specs.declared.unsynced.Unsynced.{Unsynced}
use Rattle.dl_wire.specs.Answer.{reply_text}
use Rattle.dl_wire.specs.Parts.{u32_text, short_text, list_text}

module _ {Z : Type 0} where
  -- a log that was not put on the device, and what its sync was answered
  abbrev pub unsynced_text : Unsynced Z → List ℕ
  unsynced_text unsynced = short_text (name_text unsynced.log) ++ reply_text unsynced.reply

  -- a tag, the kind of this answer, and the logs that were not put on the device after their number
  abbrev pub unsynced_answer : ℕ → List (Unsynced Z) → List ℕ
  unsynced_answer tag unsynced = u32_text tag ++ (12 ∷ list_text unsynced_text unsynced)
