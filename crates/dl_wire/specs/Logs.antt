-- The answer to a request for the logs that are open.
use Rattle.std.specs.Prelude.{ℕ, List, ◌∷◌, ◌++◌}
use Rattle.dl_types.specs.declared.name.Name.{Name}
use Rattle.dl_types.specs.Name.{name_text}
use Rattle.dl_wire.specs.Parts.{u32_text, short_text, list_text}

-- a tag, the kind of this answer, and the names of the logs after their number
abbrev pub logs_answer : ℕ → List Name → List ℕ
logs_answer tag logs = u32_text tag ++ (14 ∷ list_text (λ log. short_text (name_text log)) logs)
