-- What the lines of a script ask for, and of whom.
use Rattle.std.specs.Prelude.{◌≡◌, ◌⊎◌, ℕ, List, [], ◌∷◌, Option, Some, None, if◌then◌else◌, fold}
use Rattle.dl_types.specs.declared.name.ClientId.{ClientId}
use Rattle.dl_types.specs.declared.name.Name.{Name}
use Rattle.dl_types.specs.Name.{same_client}
use Rattle.dl_app.specs.declared.command.Command.{Command}
use Rattle.dl_app.specs.declared.command.Command.TheVariants as command
use Rattle.dl_app.specs.declared.command.Request.{Request}
use Rattle.dl_app.specs.Command.{IsForm}
use Rattle.dl_app.specs.Words.{words_of}
use Rattle.indexmap.specs.IndexSet.{insert_key}

-- a line of no form
abbrev pub HasNoCommand : List ℕ → Type 0
HasNoCommand line = (command : Command) → IsForm (words_of line) command → ⊥

-- the commands of the lines that have one, in order
abbrev pub AreCommands : List (List ℕ) → List Command → Type 0
AreCommands [] commands = commands ≡ []
AreCommands (line ∷ lines) commands =
    (HasNoCommand line × AreCommands lines commands)
    ⊎ ((first : Command) × (others : List Command) × IsForm (words_of line) first × AreCommands lines others × (commands ≡ first ∷ others))

-- whose command it is; nobody's is a flush, or that a file is shown
abbrev pub client_of : Command → Option ClientId
client_of (command.Call client log request) = Some client
client_of (command.Exit client) = Some client
client_of (command.File file) = None
client_of command.Flush = None

-- clients, and after them this one, unless it is there
abbrev pub with_client : List ClientId → Option ClientId → List ClientId
with_client clients None = clients
with_client clients (Some client) = insert_key same_client clients client

-- the clients of commands, each once, in order of first appearance
abbrev pub clients_of : List Command → List ClientId
clients_of commands = fold (λ clients command. with_client clients (client_of command)) [] commands

-- a call that a client is to make
pub record Asking : Type 0 where
  pub log : Name
  pub request : Request

-- the calls of one client, in order, up to its exit
abbrev pub calls_of : ClientId → List Command → List Asking
calls_of own [] = []
calls_of own (command.Call client log request ∷ commands) =
    if same_client client own then record { log = log; request = request } ∷ calls_of own commands else calls_of own commands
calls_of own (command.Exit client ∷ commands) = if same_client client own then [] else calls_of own commands
calls_of own (command.File file ∷ commands) = calls_of own commands
calls_of own (command.Flush ∷ commands) = calls_of own commands
