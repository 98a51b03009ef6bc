-- What a script does and answers, line by line.
use Rattle.std.specs.Prelude.{◌≡◌, ◌⊎◌, ◌+◌, ◌<◌, ◌≤◌, ℕ, List, [], ◌∷◌, ◌++◌, true, false, IsTrue, Option, Some, None, Result, Ok, Err, IfOk, codes, length}
use Rattle.std.specs.List.{flat_map}
use Rattle.std.specs.FinMap as map
use Rattle.std.specs.Io.KnownBytes.{Appends}
use Rattle.dl_types.specs.declared.call.Call.{Call}
use Rattle.dl_types.specs.declared.event.Event.{Event}
use Rattle.dl_types.specs.declared.event.Event.TheVariants as event
use Rattle.dl_types.specs.declared.file.FileName.{FileName}
use Rattle.dl_types.specs.declared.name.ClientId.{ClientId}
use Rattle.dl_types.specs.declared.name.Name.{Name}
use Rattle.dl_types.specs.declared.place.Place.{Place}
use Rattle.dl_types.specs.declared.place.Place.TheVariants.{Start}
use Rattle.dl_types.specs.declared.refusal.Refusal.{Refusal}
use Rattle.dl_types.specs.declared.refusal.Refusal.TheVariants.{DeviceFault}
use Rattle.dl_types.specs.declared.reply.Outcome.{Outcome}
use Rattle.dl_disk.specs.Acts.{ActsOn}
use Rattle.dl_disk.specs.Disk.{DiskState, Rises}
use Rattle.dl_hub.specs.declared.fault.FileFault.{FileFault}
use Rattle.dl_hub.specs.declared.fault.FileFault.TheVariants as fault
use Rattle.dl_hub.specs.View.{HubView}
use Rattle.dl_hub.specs.Run.{IsRun}
use Rattle.dl_lines.specs.Digits.{hex}
use Rattle.dl_app.specs.declared.command.Command.{Command}
use Rattle.dl_app.specs.declared.command.Command.TheVariants as command
use Rattle.dl_app.specs.declared.script.TheConstants.{LINE_LIMIT, LINES_LIMIT}
use Rattle.dl_app.specs.Answers.{IsLineOf, IsRefusalText}
use Rattle.dl_app.specs.Notices.{IsOutcomeText}
use Rattle.dl_app.specs.Command.{IsForm, call_in, refusal_in}
use Rattle.dl_app.specs.Lines.{is_passed_over}
use Rattle.dl_app.specs.Places.{places_after}
use Rattle.dl_app.specs.Words.{words_of}

-- what a script has come to: a hub, and where each client goes on in each log
pub record Stage (D : Type 0) : Type 0 where
  pub hub : HubView D
  pub places : ClientId → Name → Place

-- the beginning of a script, where each client goes on at the start
abbrev pub first_stage : {D : Type 0} → HubView D → Stage D
first_stage hub = record { hub = hub; places = λ c l. Start }

-- a text says what was read of a file; there is none if memory was refused
abbrev pub IsShown : FileName → Result (Option (List ℕ)) FileFault → List ℕ → Type 0
IsShown file (Ok (Some bytes)) text = text ≡ flat_map hex bytes
IsShown file (Ok None) text = text ≡ codes "no file"
IsShown file (Err fault.Device) text = IsRefusalText (DeviceFault file) text
IsShown file (Err fault.OutOfMemory) text = ⊥

module _ {D : Type 0} (state : D → DiskState) where
  -- a file was read: the logs that are open, those that linger, their owners, what waits and the files stay, and what was read is what the file has
  pub record HasRead (file : FileName) (old new : HubView D) (shown : Result (Option (List ℕ)) FileFault) : Type 0 where
    pub logs : new.logs ≡ old.logs
    pub lingering : new.lingering ≡ old.lingering
    pub cache : new.cache ≡ old.cache
    pub owners : new.owners ≡ old.owners
    pub opened : new.opened ≡ old.opened
    pub files : IsTrue (state new.disk).honest → (state new.disk).content ≡ (state old.disk).content
    pub acts : ActsOn file.base (state old.disk) (state new.disk)
    pub text : IsTrue (state new.disk).honest → IfOk shown (λ text. text ≡ map.get (state old.disk).content file)
    pub fault : shown ≡ Err fault.Device → Rises ((state old.disk).faults file.base) ((state new.disk).faults file.base)

  -- a file is shown
  abbrev pub ShowsFile : FileName → HubView D → HubView D → List ℕ → Type 0
  ShowsFile file old new answer = (shown : Result (Option (List ℕ)) FileFault) × HasRead file old new shown × IsLineOf (IsShown file shown) answer

module _ {D : Type 0} (state : D → DiskState) (Z : Type 0) where
  -- an event is run by itself, and the answer is its reply with the notices
  pub record AnswersEvent (event : Event Z) (outcome : Outcome Z) (old new : HubView D) (answer : List ℕ) : Type 0 where
    pub run : IsRun state old new (event ∷ []) (outcome ∷ [])
    pub line : IsLineOf (IsOutcomeText outcome) answer

  -- a call is run as an event; one that is refused before that changes nothing
  abbrev pub IsCalled : Option Refusal → ClientId → Name → Call Z → Stage D → Stage D → List ℕ → Type 0
  IsCalled (Some refusal) client log call old new answer = (new ≡ old) × IsLineOf (IsRefusalText refusal) answer
  IsCalled None client log call old new answer =
      (outcome : Outcome Z) × AnswersEvent (event.Call client log call) outcome old.hub new.hub answer × (new.places ≡ places_after outcome.reply client log old.places)

  -- an event that is no call was run, and moves no client's place
  abbrev pub IsStepped : Event Z → Stage D → Stage D → List ℕ → Type 0
  IsStepped event old new answer = (outcome : Outcome Z) × AnswersEvent event outcome old.hub new.hub answer × (new.places ≡ old.places)

  -- what a command does
  abbrev pub IsDone : Command → Stage D → Stage D → List ℕ → Type 0
  IsDone (command.Call client log request) old new answer = IsCalled (refusal_in request) client log (call_in request (old.places client log)) old new answer
  IsDone (command.Exit client) old new answer = IsStepped (event.Exit client) old new answer
  IsDone (command.File file) old new answer = (new.places ≡ old.places) × ShowsFile state file old.hub new.hub answer
  IsDone command.Flush old new answer = IsStepped event.Flush old new answer

  -- what a line does: nothing, or what its command does
  abbrev pub IsLine : List ℕ → Stage D → Stage D → List ℕ → Type 0
  IsLine line old new answer =
      ((is_passed_over line ≡ true) × (new ≡ old) × (answer ≡ []))
      ⊎ ((is_passed_over line ≡ false) × ((command : Command) × IsForm (words_of line) command × IsDone command old new answer))

  -- what lines do, one after another, and their answers
  abbrev pub IsScript : List (List ℕ) → Stage D → Stage D → List ℕ → Type 0
  IsScript [] old new answers = (new ≡ old) × (answers ≡ [])
  IsScript (line ∷ lines) old new answers =
      (length line ≤ LINE_LIMIT) × ((mid : Stage D) × (first : List ℕ) × (others : List ℕ) × IsLine line old mid first × IsScript lines mid new others × (answers ≡ first ++ others))

  -- lines were run, and their answers are written
  abbrev pub Runs : List (List ℕ) → Stage D → Stage D → Option (List ℕ) → Option (List ℕ) → Type 0
  Runs lines old new written after = (answers : List ℕ) × IsScript lines old new answers × Appends written after answers

  -- a script of these lines was run on a hub
  abbrev pub RunsOn : List (List ℕ) → HubView D → HubView D → Option (List ℕ) → Option (List ℕ) → Type 0
  RunsOn lines old new written after = (places : ClientId → Name → Place) × Runs lines (first_stage old) (record { hub = new; places = places }) written after

-- a line of no form
abbrev pub HasNoForm : List ℕ → Type 0
HasNoForm line = (is_passed_over line ≡ false) × ((command : Command) → IsForm (words_of line) command → ⊥)

-- line k is too long, of no form, or one too many
abbrev pub IsBadLine : ℕ → List ℕ → Type 0
IsBadLine k line = (LINE_LIMIT < length line) ⊎ (HasNoForm line ⊎ (k ≡ LINES_LIMIT + 1))
