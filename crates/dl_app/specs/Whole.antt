-- A script as one run of its hub.
use Rattle.std.specs.Prelude.{◌≡◌, ◌⊎◌, ℕ, List, [], ◌∷◌, ◌++◌, Option, Some, None, ⊤}
use Rattle.dl_types.specs.declared.event.Event.{Event}
use Rattle.dl_types.specs.declared.event.Event.TheVariants as event
use Rattle.dl_types.specs.declared.file.FileName.{FileName}
use Rattle.dl_types.specs.declared.place.Place.{Place}
use Rattle.dl_types.specs.declared.refusal.Refusal.{Refusal}
use Rattle.dl_types.specs.declared.reply.Outcome.{Outcome}
use Rattle.dl_disk.specs.Disk.{DiskState}
use Rattle.dl_hub.specs.View.{HubView}
use Rattle.dl_hub.specs.Run.{IsRun}
use Rattle.dl_app.specs.declared.command.Command.{Command}
use Rattle.dl_app.specs.declared.command.Command.TheVariants as command
use Rattle.dl_app.specs.Answers.{IsLineOf, IsRefusalText}
use Rattle.dl_app.specs.Notices.{IsOutcomeText}
use Rattle.dl_app.specs.Command.{IsForm, call_in}
use Rattle.dl_app.specs.Words.{words_of}

-- a line that does not show a file
abbrev pub ShowsNoFile : List ℕ → Type 0
ShowsNoFile line = (file : FileName) → IsForm (words_of line) (command.File file) → ⊥

-- none of these lines shows a file
abbrev pub ShowNoFile : List (List ℕ) → Type 0
ShowNoFile [] = ⊤
ShowNoFile (line ∷ lines) = ShowsNoFile line × ShowNoFile lines

module _ (Z : Type 0) where
  -- an event is that of a command, whose call goes on from some place
  abbrev pub IsEventOf : Command → Event Z → Type 0
  IsEventOf (command.Call client log request) e = (from : Place) × (e ≡ event.Call client log (call_in request from))
  IsEventOf (command.Exit client) e = e ≡ event.Exit client
  IsEventOf (command.File file) e = ⊥
  IsEventOf command.Flush e = e ≡ event.Flush

  -- an event, and its outcome
  pub record Deed : Type 0 where
    pub event : Event Z
    pub outcome : Outcome Z

  -- the answer of a line: that of the event of its command, or, if there was none, no line or a refusal
  abbrev pub IsAnswered : List ℕ → Option Deed → List ℕ → Type 0
  IsAnswered line None answer = (answer ≡ []) ⊎ ((refusal : Refusal) × IsLineOf (IsRefusalText refusal) answer)
  IsAnswered line (Some deed) answer = ((command : Command) × IsForm (words_of line) command × IsEventOf command deed.event) × IsLineOf (IsOutcomeText deed.outcome) answer

  -- the answers of lines, one after another
  abbrev pub AreAnswered : List (List ℕ) → List (Option Deed) → List ℕ → Type 0
  AreAnswered [] [] answers = answers ≡ []
  AreAnswered [] (deed ∷ deeds) answers = ⊥
  AreAnswered (line ∷ lines) [] answers = ⊥
  AreAnswered (line ∷ lines) (deed ∷ deeds) answers =
      (first : List ℕ) × (others : List ℕ) × IsAnswered line deed first × AreAnswered lines deeds others × (answers ≡ first ++ others)

  -- the events of the lines that have one
  abbrev pub events_of : List (Option Deed) → List (Event Z)
  events_of [] = []
  events_of (None ∷ deeds) = events_of deeds
  events_of (Some deed ∷ deeds) = deed.event ∷ events_of deeds

  -- the outcomes of these events
  abbrev pub outcomes_of : List (Option Deed) → List (Outcome Z)
  outcomes_of [] = []
  outcomes_of (None ∷ deeds) = outcomes_of deeds
  outcomes_of (Some deed ∷ deeds) = deed.outcome ∷ outcomes_of deeds

  -- lines are one run of a hub, and these are their answers
  pub record IsWhole {D : Type 0} (state : D → DiskState) (lines : List (List ℕ)) (old new : HubView D) (answers : List ℕ) : Type 0 where
    pub deeds : List (Option Deed)
    pub run : IsRun state old new (events_of deeds) (outcomes_of deeds)
    pub answered : AreAnswered lines deeds answers
