-- Commands of lines, and the calls of a client, one line or command at a time.
use Rattle.std.proofs.Common.{◌≡◌, ◌<◌, ◌+◌, length, get_or, drop, ℕ, Bool, true, false, List, [], ◌∷◌, ◌++◌, ◌⊎◌, inl, inr, refl, sym, ap, subst, ◌∙◌, append_assoc, append-nil, if◌then◌else◌}
use Rattle.dl_types.specs.declared.name.ClientId.{ClientId}
use Rattle.dl_types.specs.declared.name.Name.{Name}
use Rattle.dl_types.specs.Name.{same_client}
use Rattle.dl_app.specs.declared.command.Command.{Command}
use Rattle.dl_app.specs.declared.command.Command.TheVariants as command
use Rattle.dl_app.specs.declared.command.Request.{Request}
use Rattle.dl_app.specs.Command.{IsForm}
use Rattle.dl_app.specs.Words.{words_of}
use Rattle.dl_threads.specs.Commands.{AreCommands, HasNoCommand, Asking, calls_of}
use Rattle.dl_threads.proofs.Slices.{left_by}

-- these commands are those of the lines before the rest
abbrev pub ReadsOn : List (List ℕ) → List Command → List (List ℕ) → Type 0
ReadsOn lines commands rest = (later : List Command) → AreCommands rest later → AreCommands lines (commands ++ later)

pub reads_more : (lines : List (List ℕ)) (commands : List Command) (line : List ℕ) (rest : List (List ℕ)) (one : Command) → ReadsOn lines commands (line ∷ rest) → IsForm (words_of line) one → ReadsOn lines (commands ++ one ∷ []) rest
reads_more lines commands line rest one before form = λ later all.
    subst (AreCommands lines) (sym (append_assoc commands (one ∷ []) later)) (before (one ∷ later) (inr (one, later, form, all, refl)))

pub reads_past : (lines : List (List ℕ)) (commands : List Command) (line : List ℕ) (rest : List (List ℕ)) → ReadsOn lines commands (line ∷ rest) → HasNoCommand line → ReadsOn lines commands rest
reads_past lines commands line rest before none = λ later all. before later (inl (none, all))

pub reads_all : (lines : List (List ℕ)) (commands : List Command) → ReadsOn lines commands [] → AreCommands lines commands
reads_all lines commands before = subst (AreCommands lines) (append-nil commands) (before [] refl)

-- the next command, by whom it is
pub own_call : (own client : ClientId) (log : Name) (request : Request) (rest : List Command) → same_client client own ≡ true
    → calls_of own (command.Call client log request ∷ rest) ≡ record { log = log; request = request } ∷ calls_of own rest
own_call own client log request rest same = ap (λ (b : Bool). if b then record { log = log; request = request } ∷ calls_of own rest else calls_of own rest) same

pub other_call : (own client : ClientId) (log : Name) (request : Request) (rest : List Command) → same_client client own ≡ false
    → calls_of own (command.Call client log request ∷ rest) ≡ calls_of own rest
other_call own client log request rest same = ap (λ (b : Bool). if b then record { log = log; request = request } ∷ calls_of own rest else calls_of own rest) same

pub own_exit : (own client : ClientId) (rest : List Command) → same_client client own ≡ true → calls_of own (command.Exit client ∷ rest) ≡ []
own_exit own client rest same = ap (λ (b : Bool). if b then [] else calls_of own rest) same

pub other_exit : (own client : ClientId) (rest : List Command) → same_client client own ≡ false → calls_of own (command.Exit client ∷ rest) ≡ calls_of own rest
other_exit own client rest same = ap (λ (b : Bool). if b then [] else calls_of own rest) same

-- the calls from a command on, by what the command is
pub calls_at : (own : ClientId) (commands : List Command) (i : ℕ) (other one : Command) → i < length commands → get_or commands i other ≡ one → calls_of own (drop i commands) ≡ calls_of own (one ∷ drop (i + 1) commands)
calls_at own commands i other one inside is = ap (calls_of own) (left_by commands i other one inside is)
