-- A script that shows no file is one run.
use Rattle.std.proofs.Common.{◌≡◌, inl, inr, ℕ, List, [], ◌∷◌, ◌++◌, Option, Some, None, refl, ap, subst}
use Rattle.dl_types.specs.declared.event.Event.{Event}
use Rattle.dl_types.specs.declared.event.Event.TheVariants as event
use Rattle.dl_types.specs.declared.name.ClientId.{ClientId}
use Rattle.dl_types.specs.declared.name.Name.{Name}
use Rattle.dl_types.specs.declared.refusal.Refusal.{Refusal}
use Rattle.dl_types.specs.declared.reply.Outcome.{Outcome}
use Rattle.dl_disk.specs.Disk.{DiskState}
use Rattle.dl_hub.specs.View.{HubView}
use Rattle.dl_hub.specs.Run.{IsRun}
use Rattle.dl_types.specs.declared.place.Place.{Place}
use Rattle.dl_app.specs.declared.command.Command.{Command}
use Rattle.dl_app.specs.declared.command.Command.TheVariants as command
use Rattle.dl_app.specs.declared.command.Request.{Request}
use Rattle.dl_app.specs.Command.{IsForm, call_in, refusal_in}
use Rattle.dl_app.specs.Script.{Stage, AnswersEvent, IsCalled, IsDone, IsLine, IsScript}
use Rattle.dl_app.specs.Whole.{ShowsNoFile, ShowNoFile, IsEventOf, Deed, IsAnswered, events_of, outcomes_of, IsWhole}
use Rattle.dl_app.specs.Words.{words_of}

module _ {D : Type 0} (state : D → DiskState) (Z : Type 0) (line : List ℕ) (lines : List (List ℕ)) (old mid new : HubView D) (first others answers : List ℕ) (is : answers ≡ first ++ others) where
  -- a line that ran no event
  unrun : mid ≡ old → IsAnswered Z line None first → IsWhole Z state lines mid new others → IsWhole Z state (line ∷ lines) old new answers
  unrun same answered rest = record {
    deeds = None ∷ rest.deeds;
    run = subst (λ (v : HubView D). IsRun state v new (events_of Z rest.deeds) (outcomes_of Z rest.deeds)) same rest.run;
    answered = (first, others, answered, rest.answered, is);
  }

  -- a line that ran an event
  ran : (cmd : Command) (e : Event Z) (o : Outcome Z) → IsForm (words_of line) cmd → IsEventOf Z cmd e → AnswersEvent state Z e o old mid first → IsWhole Z state lines mid new others
      → IsWhole Z state (line ∷ lines) old new answers
  ran cmd e o form of did rest =
      let deed : Deed Z = record { event = e; outcome = o } in
      record {
        deeds = Some deed ∷ rest.deeds;
        run = (did.run.0, did.run.1, subst (λ (v : HubView D). IsRun state v new (events_of Z rest.deeds) (outcomes_of Z rest.deeds)) did.run.2 rest.run);
        answered = (first, others, ((cmd, form, of), did.line), rest.answered, is);
      }

module _ {D : Type 0} (state : D → DiskState) (Z : Type 0) (line : List ℕ) (lines : List (List ℕ)) (old mid new : Stage D) (first others answers : List ℕ) (is : answers ≡ first ++ others) (rest : IsWhole Z state lines mid.hub new.hub others) where
  abbrev Whole : Type 0
  Whole = IsWhole Z state (line ∷ lines) old.hub new.hub answers

  -- a call, which may be refused before it is an event
  called : (client : ClientId) (log : Name) (request : Request) (from : Place) (refused : Option Refusal) → IsForm (words_of line) (command.Call client log request)
      → IsCalled state Z refused client log (call_in request from) old mid first → Whole
  called client log request from (Some refusal) form did = unrun state Z line lines old.hub mid.hub new.hub first others answers is (ap (λ (s : Stage D). s.hub) did.0) (inr (refusal, did.1)) rest
  called client log request from None form did =
      ran state Z line lines old.hub mid.hub new.hub first others answers is (command.Call client log request) (event.Call client log (call_in request from)) did.0 form (from, refl) did.1 rest

  -- what its command does
  commanded : (cmd : Command) → IsForm (words_of line) cmd → ShowsNoFile line → IsDone state Z cmd old mid first → Whole
  commanded (command.Call client log request) form none did = called client log request (old.places client log) (refusal_in request) form did
  commanded (command.Exit client) form none did = ran state Z line lines old.hub mid.hub new.hub first others answers is (command.Exit client) (event.Exit client) did.0 form refl did.1 rest
  commanded (command.File file) form none did = absurd (none file form)
  commanded command.Flush form none did = ran state Z line lines old.hub mid.hub new.hub first others answers is command.Flush event.Flush did.0 form refl did.1 rest

  -- a line
  lined : ShowsNoFile line → IsLine state Z line old mid first → Whole
  lined none (inl (passed, same, empty)) = unrun state Z line lines old.hub mid.hub new.hub first others answers is (ap (λ (s : Stage D). s.hub) same) (inl empty) rest
  lined none (inr (read, (cmd, form, did))) = commanded cmd form none did

-- lines that show no file are one run
pub whole : {D : Type 0} (state : D → DiskState) (Z : Type 0) (lines : List (List ℕ)) (old new : Stage D) (answers : List ℕ) → IsScript state Z lines old new answers → ShowNoFile lines
    → IsWhole Z state lines old.hub new.hub answers
whole {D} state Z [] old new answers script none = record { deeds = []; run = ap (λ (s : Stage D). s.hub) script.0; answered = script.1 }
whole state Z (line ∷ lines) old new answers (short, (mid, first, others, did, script, is)) none =
    lined state Z line lines old mid new first others answers is (whole state Z lines mid new others script none.1) none.0 did
