-- Scripts, and one line more.
use Rattle.std.proofs.Common.{◌≡◌, ◌≤◌, ℕ, List, [], ◌∷◌, ◌++◌, Option, Some, None, Result, Ok, Err, OnOk, IfSome, IfNone, length, refl, sym, ap, subst, ◌∙◌, append_assoc, append-nil}
use Rattle.std.specs.Io.KnownBytes.{Appends, Keeps}
use Rattle.dl_types.specs.declared.refusal.Fail.{Fail}
use Rattle.dl_types.specs.declared.refusal.Fail.TheVariants.{Refused, OutOfMemory}
use Rattle.dl_types.specs.declared.refusal.Refusal.{Refusal}
use Rattle.dl_hub.specs.View.{HubView}
use Rattle.dl_types.specs.declared.name.ClientId.{ClientId}
use Rattle.dl_types.specs.declared.name.Name.{Name}
use Rattle.dl_types.specs.declared.place.Place.{Place}
use Rattle.dl_types.specs.declared.place.Place.TheVariants.{Start}
use Rattle.std.proofs.KnownBytes.{Appends-trans, Appends-kept}
use Rattle.dl_disk.specs.Disk.{DiskState}
use Rattle.dl_app.specs.declared.script.TheConstants.{LINE_LIMIT, LINES_LIMIT}
use Rattle.dl_lines.specs.Lines.{HasLines}
use Rattle.dl_app.specs.Script.{Stage, IsLine, IsScript, Runs, RunsOn}

-- an answer that was written
pub answered : {A E : Type 0} (r : Result A E) (Says Written : List ℕ → Type 0) (answer : List ℕ) → Says answer → OnOk r (Written answer) → OnOk r ((x : List ℕ) × Says x × Written x)
answered (Ok x) Says Written answer says written = (answer, says, written)
answered (Err e) Says Written answer says written = tt

-- what is known in any case is known of a success
pub known_of : {A E : Type 0} (r : Result A E) (Known : Type 0) → Known → OnOk r Known
known_of (Ok x) Known known = known
known_of (Err e) Known known = tt

-- the same of an answer of which more is known
pub answers_so : {A E : Type 0} (r : Result A E) (Is Says Written : List ℕ → Type 0) (Known : Type 0) → OnOk r ((x : List ℕ) × Is x × Written x) → OnOk r Known → (Known → (x : List ℕ) → Is x → Says x) → OnOk r ((x : List ℕ) × Says x × Written x)
answers_so (Ok x) Is Says Written Known given known says = (given.0, says known given.0 given.1, given.2)
answers_so (Err e) Is Says Written Known given known says = tt

-- a call that was refused before it was an event
pub refused_is : (A : Type 0) (o : Option Refusal) (fail : Fail) (refusal : Refusal) → fail ≡ Refused refusal → IfSome o (λ r. ◌≡◌ {A = Result A Fail} (Err fail) (Err (Refused r))) → IfNone o (fail ≡ OutOfMemory)
    → o ≡ Some refusal
refused_is A None fail refusal is some none = cc
refused_is A (Some r) fail refusal is some none = cc

-- a call that was an event was not refused
pub called_is : {X : Type 0} (o : Option Refusal) (event : X) → IfSome o (λ r. ◌≡◌ {A = Result X Fail} (Ok event) (Err (Refused r))) → o ≡ None
called_is None event some = refl
called_is (Some r) event some = let bad : ⊥ = cc in absurd bad

module _ {D : Type 0} (state : D → DiskState) (Z : Type 0) where
  -- a script and a line after it are a script
  pub script_more : (lines : List (List ℕ)) (old mid new : Stage D) (answers : List ℕ) (line answer : List ℕ) → IsScript state Z lines old mid answers
      → length line ≤ LINE_LIMIT → IsLine state Z line mid new answer → IsScript state Z (lines ++ line ∷ []) old new (answers ++ answer)
  script_more [] old mid new answers line answer script short step = (
    short,
    (
      new,
      answer,
      [],
      subst (λ (s : Stage D). IsLine state Z line s new answer) script.0 step,
      (refl, refl),
      ap (λ (l : List ℕ). l ++ answer) script.1 ∙ sym (append-nil answer),
    ),
  )
  script_more (first ∷ lines) old mid new answers line answer script short step =
      let rest = script.1 in (
        script.0,
        (
          rest.0,
          rest.1,
          rest.2 ++ answer,
          rest.3,
          script_more lines rest.0 mid new rest.2 line answer rest.4 short step,
          ap (λ (l : List ℕ). l ++ answer) rest.5 ∙ append_assoc rest.1 rest.2 answer,
        ),
      )

  -- lines and one after them were run
  pub runs_more : (lines : List (List ℕ)) (old mid new : Stage D) (line answer : List ℕ) (a b c : Option (List ℕ)) → Runs state Z lines old mid a b
      → length line ≤ LINE_LIMIT → IsLine state Z line mid new answer → Appends b c answer → Runs state Z (lines ++ line ∷ []) old new a c
  runs_more lines old mid new line answer a b c runs short step written =
      (runs.0 ++ answer, script_more lines old mid new runs.0 line answer runs.1 short step, Appends-trans a b c runs.0 answer runs.2 written)

  -- a script that began where no place was given
  pub runs_on : (lines : List (List ℕ)) (old new : HubView D) (start places : ClientId → Name → Place) (a b c : Option (List ℕ)) → start ≡ (λ client log. Start)
      → Runs state Z lines (record { hub = old; places = start }) (record { hub = new; places = places }) a b → Keeps b c → RunsOn state Z lines old new a c
  runs_on lines old new start places a b c is runs kept =
      let at = subst (λ (p : ClientId → Name → Place). Runs state Z lines (record { hub = old; places = p }) (record { hub = new; places = places }) a b) is runs in
      (places, (at.0, at.1, Appends-kept a b c at.0 at.2 kept))

  pub whole_on : {E : Type 0} (r : Result (Unit {0}) E) (old new : HubView D) (start places : ClientId → Name → Place) (input a b c : Option (List ℕ)) → start ≡ (λ client log. Start) → Keeps b c
      → OnOk r ((lines : List (List ℕ)) × HasLines input lines × (length lines ≤ LINES_LIMIT) × Runs state Z lines (record { hub = old; places = start }) (record { hub = new; places = places }) a b)
      → OnOk r ((lines : List (List ℕ)) × HasLines input lines × (length lines ≤ LINES_LIMIT) × RunsOn state Z lines old new a c)
  whole_on (Ok x) old new start places input a b c is kept h = (h.0, h.1, h.2, runs_on h.0 old new start places a b c is h.3 kept)
  whole_on (Err e) old new start places input a b c is kept h = tt
