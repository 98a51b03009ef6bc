-- Calls of a client, one after another.
use Rattle.std.proofs.Common.{◌≡◌, ◌≢◌, ℕ, List, [], ◌∷◌, ◌++◌, ◌⊎◌, inl, inr, refl, sym, ap, subst, ◌∙◌, append_assoc, append-nil, true, Option, Some, None, Result, Ok, Err, OnOk}
use Rattle.dl_types.specs.declared.event.Event.{Event}
use Rattle.dl_types.specs.declared.name.ClientId.{ClientId}
use Rattle.dl_types.specs.declared.name.Name.{Name}
use Rattle.dl_types.specs.declared.place.Place.{Place}
use Rattle.dl_types.specs.declared.reply.Reply.{Reply}
use Rattle.dl_types.specs.declared.reply.Reply.TheVariants.{OutOfMemory}
use Rattle.dl_server.specs.declared.client.Did.{Did}
use Rattle.dl_server.specs.declared.client.Did.TheVariants.{Call}
use Rattle.dl_types.specs.declared.call.Call.{Call as Asked}
use Rattle.dl_types.specs.declared.call.Call.TheVariants as call
use Rattle.dl_types.specs.declared.event.Event.TheVariants as event
use Rattle.dl_types.specs.declared.place.Place.TheVariants.{Start}
use Rattle.dl_types.specs.declared.refusal.Refusal.{Refusal}
use Rattle.dl_app.specs.declared.command.Command.{Command}
use Rattle.dl_app.specs.Places.{places_after}
use Rattle.dl_server.specs.declared.client.Done.{Done}
use Rattle.dl_server.specs.Calls.{Adds, Answers, Tries, IsAnswered, Leaves, exited, suspended}
use Rattle.dl_server.specs.Client.{ClientView}
use Rattle.dl_threads.specs.Commands.{Asking, calls_of}
use Rattle.dl_threads.specs.Played.{MakesCall, MakesUnless, Makes, MakesAll, IsSame, GoesOn, Plays}

module _ {A : Type 0} where
  tried : (before after : List (Did A)) (e : Event A) (r : Reply A) (n : ℕ) → Tries (before ++ suspended n e) e r after
      → (mine : List (Did A)) × Adds [] e r mine × (after ≡ before ++ mine)
  tried before after e r n (inl out) = (suspended n e, (n, inl (out.0, refl)), out.1)
  tried before after e r n (inr one) = (suspended n e ++ Call e r ∷ [], (n, inr (one.0, refl)), one.1 ∙ append_assoc before (suspended n e) (Call e r ∷ []))

  -- what a call adds to what was done is what it adds to nothing
  pub apart : (before after : List (Did A)) (e : Event A) (r : Reply A) → Adds before e r after → (mine : List (Did A)) × Adds [] e r mine × (after ≡ before ++ mine)
  apart before after e r adds = tried before after e r adds.0 adds.1

  -- this was done by the calls before the rest, and led to where the client goes on now
  abbrev pub GoesOnBy : ClientId → List Asking → (ClientId → Name → Place) → List (Did A) → List Asking → (ClientId → Name → Place) → Type 0
  GoesOnBy id calls start did rest now = (later : List (Did A)) → MakesAll id rest now later → MakesAll id calls start (did ++ later)

  pub goes_none : (id : ClientId) (calls : List Asking) (start : ClientId → Name → Place) → GoesOnBy id calls start [] calls start
  goes_none id calls start = λ later all. all

  pub goes_more : (id : ClientId) (calls : List Asking) (start now mid : ClientId → Name → Place) (did first : List (Did A)) (asking : Asking) (rest : List Asking)
      → GoesOnBy id calls start did (asking ∷ rest) now → Makes id asking.log asking.request now first mid → GoesOnBy id calls start (did ++ first) rest mid
  goes_more id calls start now mid did first asking rest before makes = λ later all.
      subst (MakesAll id calls start) (sym (append_assoc did first later)) (before (first ++ later) (first, mid, later, makes, all, refl))

  pub goes_all : (id : ClientId) (calls : List Asking) (start now : ClientId → Name → Place) (did : List (Did A)) → GoesOnBy id calls start did [] now → MakesAll id calls start did
  goes_all id calls start now did before = subst (MakesAll id calls start) (append-nil did) (before [] refl)

  -- a call that has a reply
  pub replied : (id : ClientId) (log : Name) (asked : Asked A) (before after : ClientId → Name → Place) (did : List (Did A)) (r : Reply A) → IsAnswered asked → r ≢ OutOfMemory
      → Adds [] (event.Call id log asked) r did → after ≡ places_after r id log before → MakesCall id log asked before did after
  replied id log (call.Alog items) before after did r not memory adds is = absurd (not items refl)
  replied id log other before after did r not memory adds is = (r, memory, adds, is)

  -- a client that made a call is the one that it was
  pub answers_same : (old new : ClientView A) (e : Event A) (r : Reply A) → Answers old e r new → IsSame old new
  answers_same old new e r answers = record { id = ap (λ (v : ClientView A). v.id) answers.same; kept = ap (λ (v : ClientView A). v.kept) answers.same }

  -- a call that was waited for, after which the place that it gave was kept
  pub asked : {T E : Type 0} (kept : Result T E) (old new : ClientView A) (i : ClientId) (log : Name) (made : Asked A) (before after : ClientId → Name → Place) (r : Reply A) → IsAnswered made
      → Answers old (event.Call old.id log made) r new → r ≢ OutOfMemory → i ≡ new.id → OnOk kept (after ≡ places_after r i log before)
      → OnOk kept (old.kept ≡ true → (did : List (Did A)) × MakesCall old.id log made before did after × GoesOn old did new)
  asked (Ok done) old new i log made before after r not answers memory own is = λ keeps.
      let one = apart old.did new.did (event.Call old.id log made) r (answers.did keeps) in
      let place : after ≡ places_after r old.id log before =
      subst (λ (j : ClientId). after ≡ places_after r j log before) (own ∙ (answers_same old new (event.Call old.id log made) r answers).id) is in
      (one.0, replied old.id log made before after one.0 r not memory one.1 place, one.2)
  asked (Err e) old new i log made before after r not answers memory own is = tt

  -- a call that is not refused before
  pub unrefused : (refusal : Option Refusal) (id : ClientId) (log : Name) (asked : Asked A) (before after : ClientId → Name → Place) (did : List (Did A)) → refusal ≡ None → MakesCall id log asked before did after
      → MakesUnless refusal id log asked before did after
  unrefused None id log asked before after did is makes = makes
  unrefused (Some refusal) id log asked before after did is makes = let bad : ⊥ = cc in absurd bad

  -- a client of the server made the calls before the rest, and goes on at these places
  abbrev pub Comes : ClientView A → ClientView A → List Asking → List Asking → (ClientId → Name → Place) → Type 0
  Comes old now all rest places = (did : List (Did A)) × GoesOn old did now × GoesOnBy old.id all (λ c l. Start) did rest places

  -- a command that is no call of the client
  pub passed : (old mid new : ClientView A) (all rest others : List Asking) (before after : ClientId → Name → Place) → new ≡ mid → after ≡ before → rest ≡ others → Comes old mid all rest before → Comes old new all others after
  passed old mid new all rest others before after is place calls comes = (
    comes.0,
    ap (λ (v : ClientView A). v.did) is ∙ comes.1,
    subst (λ (r : List Asking). GoesOnBy old.id all (λ c l. Start) comes.0 r after) calls (subst (λ (p : ClientId → Name → Place). GoesOnBy old.id all (λ c l. Start) comes.0 rest p) (sym place) comes.2),
  )

  -- a command that is a call of the client
  pub called : (old mid next new : ClientView A) (all rest others : List Asking) (asking : Asking) (before between after : ClientId → Name → Place) → new ≡ next → after ≡ between → rest ≡ asking ∷ others → mid.id ≡ old.id
      → Comes old mid all rest before → (first : List (Did A)) × Makes mid.id asking.log asking.request before first between × GoesOn mid first next → Comes old new all others after
  called old mid next new all rest others asking before between after is place calls same comes made =
      let makes : Makes old.id asking.log asking.request before made.0 after =
      subst (λ (p : ClientId → Name → Place). Makes old.id asking.log asking.request before made.0 p) (sym place) (subst (λ (i : ClientId). Makes i asking.log asking.request before made.0 between) same made.1) in (
        comes.0 ++ made.0,
        ap (λ (v : ClientView A). v.did) is ∙ (made.2 ∙ (ap (λ xs. xs ++ made.0) comes.1 ∙ append_assoc old.did comes.0 made.0)),
        goes_more old.id all (λ c l. Start) before after comes.0 made.0 asking others (subst (λ (r : List Asking). GoesOnBy old.id all (λ c l. Start) comes.0 r before) calls comes.2) makes,
      )

  -- no call is left
  pub ended : (old now : ClientView A) (all rest : List Asking) (places : ClientId → Name → Place) → rest ≡ [] → Comes old now all rest places → (did : List (Did A)) × MakesAll old.id all (λ c l. Start) did × GoesOn old did now
  ended old now all rest places none comes = (
    comes.0,
    goes_all old.id all (λ c l. Start) places comes.0 (subst (λ (r : List Asking). GoesOnBy old.id all (λ c l. Start) comes.0 r places) none comes.2),
    comes.1,
  )

  -- a client that did nothing before, made its calls and left
  pub plays : (own : ClientId) (commands : List Command) (old new : ClientView A) (done : Done A) (did : List (Did A)) → old.did ≡ [] → IsSame old new
      → MakesAll old.id (calls_of own commands) (λ c l. Start) did → GoesOn old did new → Leaves new done → new.kept ≡ true → Plays own commands done
  plays own commands old new done did none same makes goes leaves kept =
      let all : new.did ≡ did = goes ∙ ap (λ xs. xs ++ did) none in (
        did,
        subst (λ i. MakesAll i (calls_of own commands) (λ c l. Start) did) (sym (leaves.id ∙ same.id)) makes,
        leaves.did kept ∙ (ap (λ xs. exited xs new.id) all ∙ ap (λ i. exited did i) (sym leaves.id)),
      )
