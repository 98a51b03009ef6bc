-- Parts of clients, one after another.
use Rattle.std.proofs.Common.{◌≡◌, ℕ, Vec, Option, Some, None, IfSome, Result, Ok, Err, IfOk, Global, Bool, true, List, [], ◌∷◌, ◌++◌, map, refl, sym, ap, subst, ◌∙◌, append_assoc, append-nil}
use Rattle.std.proofs.lemmas.List.{map-append}
use Rattle.std.proofs.lemmas.List.Elements.{All-head, All-tail}
use Rattle.std.specs.declared.thread.PromisedHandle.{PromisedHandle}
use Rattle.std.specs.Prelude.{All}
use Rattle.dl_types.specs.declared.name.ClientId.{ClientId}
use Rattle.dl_app.specs.declared.command.Command.{Command}
use Rattle.dl_server.specs.declared.client.Done.{Done}
use Rattle.dl_threads.specs.declared.part.Part.{Part}
use Rattle.dl_threads.specs.Parts.{PlaysLines, FillsPart, FillParts, ArePlayed}
use Rattle.dl_threads.specs.Commands.{AreCommands}
use Rattle.dl_threads.specs.Lines.{texts_of}
use Rattle.dl_threads.specs.Played.{Plays}

-- a part that a client has in these lines
abbrev pub IsAmong : List (Vec ℕ Global) → Bool → Part → Type 0
IsAmong lines kept part = (part.lines.now ≡ lines) × (part.kept ≡ kept)

module _ {A : Type 0} where
  -- the parts of threads
  abbrev pub promises : List (PromisedHandle (Option (Done A)) Part) → List Part
  promises handles = map (λ (handle : PromisedHandle (Option (Done A)) Part). handle.promise) handles

  pub promises_more : (handles pushed : List (PromisedHandle (Option (Done A)) Part)) (handle : PromisedHandle (Option (Done A)) Part) → pushed ≡ handles ++ handle ∷ [] → promises pushed ≡ promises handles ++ handle.promise ∷ []
  promises_more handles pushed handle is = ap promises is ∙ map-append (λ (h : PromisedHandle (Option (Done A)) Part). h.promise) handles (handle ∷ [])

  -- these were done by the parts before the rest
  abbrev pub FillsOn : List Part → List (Done A) → List Part → Type 0
  FillsOn parts dones rest = (later : List (Done A)) → FillParts rest later → FillParts parts (dones ++ later)

  pub fills_none : (parts : List Part) → FillsOn parts [] parts
  fills_none parts = λ later all. all

  pub fills_more : (parts : List Part) (dones : List (Done A)) (part : Part) (rest : List Part) (done : Done A) → FillsOn parts dones (part ∷ rest) → FillsPart part done → FillsOn parts (dones ++ done ∷ []) rest
  fills_more parts dones part rest done before plays = λ later all.
      subst (FillParts parts) (sym (append_assoc dones (done ∷ []) later)) (before (done ∷ later) (done, later, plays, all, refl))

  pub fills_all : (parts : List Part) (dones : List (Done A)) → FillsOn parts dones [] → FillParts parts dones
  fills_all parts dones before = subst (FillParts parts) (append-nil dones) (before [] refl)

  -- what a client did by the commands of lines it did by the lines
  pub reads_plays : (played : Option (Done A)) (own : ClientId) (lines : List (List ℕ)) (commands : List Command) (kept : Bool) → AreCommands lines commands → IfSome played (λ done. kept ≡ true → Plays own commands done)
      → IfSome played (λ done. kept ≡ true → PlaysLines own lines done)
  reads_plays None own lines commands kept are plays = tt
  reads_plays (Some done) own lines commands kept are plays = λ is. (commands, are, plays is)

  -- parts in these lines that were played, if what clients do is kept
  pub played_parts : (lines : List (Vec ℕ Global)) (kept : Bool) (parts : List Part) (dones : List (Done A)) → kept ≡ true → All (IsAmong lines kept) parts → FillParts parts dones → ArePlayed (texts_of lines) (map (λ part. part.own) parts) dones
  played_parts lines kept [] dones is among all = all
  played_parts lines kept (part ∷ parts) dones is among all =
      let here : IsAmong lines kept part = All-head (IsAmong lines kept) part parts among in (
        all.0,
        all.1,
        subst (λ (ls : List (Vec ℕ Global)). PlaysLines part.own (texts_of ls) all.0) here.0 (all.2 (here.1 ∙ is)),
        played_parts lines kept parts all.1 is (All-tail (IsAmong lines kept) part parts among) all.3,
        all.4,
      )

  pub played : {E Z : Type 0} (lines : List (Vec ℕ Global)) (kept : Bool) (clients : List ClientId) (parts : List Part) (result : Result (Vec (Done A) Z) E) → map (λ part. part.own) parts ≡ clients → All (IsAmong lines kept) parts
      → IfOk result (λ dones. FillParts parts dones.items) → IfOk result (λ dones. kept ≡ true → ArePlayed (texts_of lines) clients dones.items)
  played lines kept clients parts (Err e) owns among all = tt
  played lines kept clients parts (Ok dones) owns among all = λ is. subst (λ (cs : List ClientId). ArePlayed (texts_of lines) cs dones.items) owns (played_parts lines kept parts dones.items is among all)
