-- The parts of the clients of a script.
use Rattle.std.specs.Prelude.{◌≡◌, ℕ, List, [], ◌∷◌, true}
use Rattle.dl_types.specs.declared.name.ClientId.{ClientId}
use Rattle.dl_app.specs.declared.command.Command.{Command}
use Rattle.dl_server.specs.declared.client.Done.{Done}
use Rattle.dl_threads.specs.declared.part.Part.{Part}
use Rattle.dl_threads.specs.Commands.{AreCommands}
use Rattle.dl_threads.specs.Lines.{texts_of}
use Rattle.dl_threads.specs.Played.{Plays}

-- a client made the calls that it has in these lines, in order
abbrev pub PlaysLines : {A : Type 0} → ClientId → List (List ℕ) → Done A → Type 0
PlaysLines own lines done = (commands : List Command) × AreCommands lines commands × Plays own commands done

-- a part was played, if what clients do is kept
abbrev pub FillsPart : {A : Type 0} → Part → Done A → Type 0
FillsPart part done = part.kept ≡ true → PlaysLines part.own (texts_of part.lines.now) done

-- parts were played, one after another
abbrev pub FillParts : {A : Type 0} → List Part → List (Done A) → Type 0
FillParts [] dones = dones ≡ []
FillParts {A} (part ∷ parts) dones = (first : Done A) × (others : List (Done A)) × FillsPart part first × FillParts parts others × (dones ≡ first ∷ others)

-- each of these clients made its calls in these lines, in the same order
abbrev pub ArePlayed : {A : Type 0} → List (List ℕ) → List ClientId → List (Done A) → Type 0
ArePlayed lines [] dones = dones ≡ []
ArePlayed {A} lines (own ∷ clients) dones = (first : Done A) × (others : List (Done A)) × PlaysLines own lines first × ArePlayed lines clients others × (dones ≡ first ∷ others)
