-- The forms of a line, and the call that its words ask for.
use Rattle.std.specs.Prelude.{◌≡◌, ℕ, ℤ, Bool, true, false, List, [], ◌∷◌, map, Option, Some, None, codes}
use Rattle.std.specs.Borrow.{Bor}
use Rattle.std.specs.List.{list_all}
use Rattle.dl_types.specs.declared.call.Call.{Call}
use Rattle.dl_types.specs.declared.call.Act.TheVariants as act
use Rattle.dl_types.specs.declared.call.Call.TheVariants as call
use Rattle.dl_types.specs.declared.name.Base.{Base}
use Rattle.dl_types.specs.declared.name.ClientId.{ClientId}
use Rattle.dl_types.specs.declared.name.Name.{Name}
use Rattle.dl_types.specs.declared.place.Place.{Place}
use Rattle.dl_types.specs.declared.place.Place.TheVariants as place
use Rattle.dl_types.specs.declared.refusal.Refusal.{Refusal}
use Rattle.dl_types.specs.declared.size.Kind.{Kind}
use Rattle.dl_types.specs.declared.size.Size.{Size}
use Rattle.dl_types.specs.Mode.{plain_args}
use Rattle.dl_types.specs.Name.{IsNameText, name_of, base_from}
use Rattle.dl_types.specs.Printed.{kind_word}
use Rattle.dl_types.specs.FileText.{IsFileName, file_text}
use Rattle.dl_app.specs.declared.command.Command.{Command}
use Rattle.dl_app.specs.declared.command.Command.TheVariants as command
use Rattle.dl_app.specs.declared.command.Request.{Request}
use Rattle.dl_app.specs.declared.command.Request.TheVariants as request
use Rattle.dl_app.specs.declared.command.Start.{Start}
use Rattle.dl_app.specs.declared.command.Start.TheVariants as start
use Rattle.dl_app.specs.Words.{words_left, number_in, client_of, whole_in, step_of, WritesSize}
use Rattle.dl_app.specs.declared.options.Settings.{Settings}
use Rattle.dl_app.specs.Options.{SetAll}
use Rattle.dl_app.specs.Settings.{args_of}
use Rattle.dl_app.specs.Items.{is_item, item_bytes, refusal_of, head_bytes, head_refusal}

-- how a log is to be opened: the word of its kind, and then its options
abbrev pub GivesArgs : List (List ℕ) → Kind → Settings → Type 0
GivesArgs words kind settings = (options : List (List ℕ)) × SetAll options settings × (words ≡ kind_word kind ∷ options)

-- the word for where a chunk or a step is to begin
abbrev pub start_word : Start → List ℕ
start_word start.First = codes "start"
start_word start.Next = codes "next"

-- where a chunk is to begin, and then how many items it may have
abbrev pub GivesChunk : List (List ℕ) → Start → ℕ → Type 0
GivesChunk words from most = (count : List ℕ) × (number_in count ≡ Some most) × (words ≡ start_word from ∷ count ∷ [])

-- where a step is to begin, and then how many files on by age it leads
abbrev pub GivesStep : List (List ℕ) → Start → ℤ → Type 0
GivesStep words from by = (count : List ℕ) × (step_of (whole_in count) ≡ Some by) × (words ≡ start_word from ∷ count ∷ [])

-- a word of an item, or no word
abbrev pub GivesHead : List (List ℕ) → Option (Bor (List ℕ)) → Type 0
GivesHead words None = words ≡ []
GivesHead words (Some word) = (is_item word.now ≡ true) × (words ≡ word.now ∷ [])

-- a base, and then a word of an item, or no word
abbrev pub GivesMove : List (List ℕ) → Base → Option (Bor (List ℕ)) → Type 0
GivesMove words target head = (base : List ℕ) × (others : List (List ℕ)) × IsNameText base × (target ≡ base_from base) × GivesHead others head × (words ≡ base ∷ others)

-- a size
abbrev pub GivesSize : List (List ℕ) → Size → Type 0
GivesSize words size = (word : List ℕ) × WritesSize word size × (words ≡ word ∷ [])

-- the word for what becomes of the calls that a block stops
abbrev pub block_word : Bool → List ℕ
block_word true = codes "queue"
block_word false = codes "refuse"

-- what becomes of the calls that a block stops
abbrev pub GivesBlock : List (List ℕ) → Bool → Type 0
GivesBlock words queue = words ≡ block_word queue ∷ []

-- the word of a call
abbrev pub request_word : Request → List ℕ
request_word (request.Open kind settings) = codes "open"
request_word (request.Log items) = codes "log"
request_word (request.Alog items) = codes "alog"
request_word (request.Chunk from most) = codes "chunk"
request_word (request.ChunkStep from by) = codes "step"
request_word (request.Truncate head) = codes "truncate"
request_word (request.Reopen target head) = codes "reopen"
request_word request.NextFile = codes "nextfile"
request_word (request.ChangeSize size) = codes "size"
request_word request.Sync = codes "sync"
request_word (request.Block queue) = codes "block"
request_word request.Unblock = codes "unblock"
request_word request.Info = codes "info"
request_word request.Close = codes "close"

-- a call that words may follow
abbrev pub takes_words : Request → Bool
takes_words request.NextFile = false
takes_words request.Sync = false
takes_words request.Unblock = false
takes_words request.Info = false
takes_words request.Close = false
takes_words other = true

-- the words of a call after the name of its log
abbrev pub GivesRequest : List (List ℕ) → Request → Type 0
GivesRequest words (request.Open kind settings) = GivesArgs words kind settings
GivesRequest words (request.Log items) = (list_all is_item words ≡ true) × (words_left items ≡ words)
GivesRequest words (request.Alog items) = (list_all is_item words ≡ true) × (words_left items ≡ words)
GivesRequest words (request.Chunk from most) = GivesChunk words from most
GivesRequest words (request.ChunkStep from by) = GivesStep words from by
GivesRequest words (request.Truncate head) = GivesHead words head
GivesRequest words (request.Reopen target head) = GivesMove words target head
GivesRequest words request.NextFile = words ≡ []
GivesRequest words (request.ChangeSize size) = GivesSize words size
GivesRequest words request.Sync = words ≡ []
GivesRequest words (request.Block queue) = GivesBlock words queue
GivesRequest words request.Unblock = words ≡ []
GivesRequest words request.Info = words ≡ []
GivesRequest words request.Close = words ≡ []

-- a client, the word of a call, the name of a log, and the other words of the call
abbrev pub IsCallForm : List (List ℕ) → ClientId → Name → Request → Type 0
IsCallForm words client log asked =
    (first : List ℕ) × (name : List ℕ) × (others : List (List ℕ)) × (client_of (number_in first) ≡ Some client) × IsNameText name × (log ≡ name_of name) × GivesRequest others asked
    × (words ≡ first ∷ request_word asked ∷ name ∷ others)

-- the words of a line have the form of this command
abbrev pub IsForm : List (List ℕ) → Command → Type 0
IsForm words (command.Call client log asked) = IsCallForm words client log asked
IsForm words (command.Exit client) = (first : List ℕ) × (client_of (number_in first) ≡ Some client) × (words ≡ first ∷ codes "exit" ∷ [])
IsForm words (command.File file) = IsFileName file × (words ≡ codes "file" ∷ file_text file ∷ [])
IsForm words command.Flush = words ≡ codes "flush" ∷ []

-- where a chunk or a step begins
abbrev pub place_from : Start → Place → Place
place_from start.First next = place.Start
place_from start.Next next = next

-- the call that a request asks for
abbrev pub call_in : {Z : Type 0} → Request → Place → Call Z
call_in (request.Open kind settings) next = call.Open (args_of settings (plain_args kind))
call_in (request.Log items) next = call.Act (act.Log (map item_bytes (words_left items)))
call_in (request.Alog items) next = call.Alog (map item_bytes (words_left items))
call_in (request.Chunk from most) next = call.Act (act.Chunk (place_from from next) most)
call_in (request.ChunkStep from by) next = call.Act (act.ChunkStep (place_from from next) by)
call_in (request.Truncate head) next = call.Act (act.Truncate (head_bytes head))
call_in (request.Reopen target head) next = call.Reopen target (head_bytes head)
call_in request.NextFile next = call.Act act.NextFile
call_in (request.ChangeSize size) next = call.Act (act.ChangeSize size)
call_in request.Sync next = call.Act act.Sync
call_in (request.Block queue) next = call.Block queue
call_in request.Unblock next = call.Unblock
call_in request.Info next = call.Act act.Info
call_in request.Close next = call.Close

-- why a request is refused before it is a call
abbrev pub refusal_in : Request → Option Refusal
refusal_in (request.Open kind settings) = head_refusal settings.head
refusal_in (request.Log items) = refusal_of (words_left items)
refusal_in (request.Alog items) = refusal_of (words_left items)
refusal_in (request.Chunk from most) = None
refusal_in (request.ChunkStep from by) = None
refusal_in (request.Truncate head) = head_refusal head
refusal_in (request.Reopen target head) = head_refusal head
refusal_in request.NextFile = None
refusal_in (request.ChangeSize size) = None
refusal_in request.Sync = None
refusal_in (request.Block queue) = None
refusal_in request.Unblock = None
refusal_in request.Info = None
refusal_in request.Close = None
