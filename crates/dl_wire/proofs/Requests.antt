-- Requests are read where they are written, each from its own text.
use Rattle.std.proofs.Common.{◌≡◌, ◌<◌, ◌^◌, ℕ, List, [], ◌∷◌, ◌++◌, cond, eqb, length, Some, Result, Ok, Err, refl, sym, ap, subst, ◌∙◌}
use Rattle.std.specs.Prelude.{⊤}
use Rattle.std.specs.List.{slice_get}
use Rattle.std.proofs.lemmas.Bool.{eqb-true}
use Rattle.std.proofs.lemmas.List.{append-nil, nil_from_length}
use Rattle.dl_types.specs.declared.call.Call.{Call}
use Rattle.dl_types.specs.declared.event.Event.{Event}
use Rattle.dl_types.specs.declared.event.Event.TheVariants as event
use Rattle.dl_types.specs.declared.name.ClientId.{ClientId}
use Rattle.dl_types.specs.declared.name.Name.{Name}
use Rattle.dl_types.specs.Name.{name_text}
use Rattle.dl_wire.specs.declared.op.Op.{Op}
use Rattle.dl_wire.specs.declared.op.Op.TheVariants as op
use Rattle.dl_wire.specs.declared.op.Verb.{Verb}
use Rattle.dl_wire.specs.declared.op.Verb.TheVariants as verb
use Rattle.dl_wire.specs.declared.request.Ask.{Ask}
use Rattle.dl_wire.specs.declared.request.Ask.TheVariants as ask
use Rattle.dl_wire.specs.declared.request.Request.{Request}
use Rattle.dl_wire.specs.Decode.{ops, client_at, call_at, called_at, asked_at, whole_at}
use Rattle.dl_wire.specs.Fits.{IsEvent, IsAsk, IsRequest}
use Rattle.dl_wire.specs.Parts.{u16_text, u32_text, short_text}
use Rattle.dl_wire.specs.Reading.{Read, ◌>>=◌, choice_at, name_at}
use Rattle.dl_wire.specs.Request.{call_code, call_text, ask_text, request_text}
use Rattle.dl_wire.proofs.Calls.{verb_code, verb_of, code_of_verb, call_takes, call_again}
use Rattle.dl_wire.proofs.Many.{names_text, reads_names}
use Rattle.dl_wire.proofs.Names.{reads_name}
use Rattle.dl_wire.proofs.Parts.{IsBytes, bind_ok, wanted_ok, done, ok_is, made_of, Takes, Takes-then, TakesAs, Reads, first_then, first_again, one_takes, one_again, two_takes, two_again, reads_u16, reads_u32, reads_choice}

-- ---- what is asked for, by its number

abbrev op_code : Op → ℕ
op_code op.Hello = 0
op_code (op.Call verb) = verb_code verb
op_code op.Exit = 15
op_code op.Flush = 16
op_code op.All = 17
op_code op.SyncAll = 18
op_code op.Reason = 19
op_code op.Logs = 20

op_found : (o : Op) → slice_get ops (op_code o) ≡ Some o
op_found op.Hello = refl
op_found (op.Call verb.Open) = refl
op_found (op.Call verb.Log) = refl
op_found (op.Call verb.Alog) = refl
op_found (op.Call verb.Chunk) = refl
op_found (op.Call verb.ChunkStep) = refl
op_found (op.Call verb.Truncate) = refl
op_found (op.Call verb.Reopen) = refl
op_found (op.Call verb.NextFile) = refl
op_found (op.Call verb.ChangeSize) = refl
op_found (op.Call verb.Sync) = refl
op_found (op.Call verb.Block) = refl
op_found (op.Call verb.Unblock) = refl
op_found (op.Call verb.Info) = refl
op_found (op.Call verb.Close) = refl
op_found op.Exit = refl
op_found op.Flush = refl
op_found op.All = refl
op_found op.SyncAll = refl
op_found op.Reason = refl
op_found op.Logs = refl

reads_op : Reads (choice_at ops) (λ o. op_code o ∷ []) (λ o. ⊤)
reads_op =
    reads_choice op_code ops
    (refl, (refl, (refl, (refl, (refl, (refl, (refl, (refl, (refl, (refl, (refl, (refl, (refl, (refl, (refl, (refl, (refl, (refl, (refl, (refl, (refl, tt)))))))))))))))))))))
    op_found

-- ---- clients

abbrev client_of : ℕ → ClientId
client_of n = record { 0 = n }

client_takes : (bytes : List ℕ) (x : ClientId × List ℕ) → IsBytes bytes → client_at bytes ≡ Ok x → TakesAs (λ c. u32_text c.0) (λ c. c.0 < 2 ^ 32) bytes x
unfolding client_at
client_takes = one_takes reads_u32 client_of (λ c. u32_text c.0) (λ c. c.0 < 2 ^ 32) (λ n fit. refl) (λ n fit. fit)

client_again : (c : ClientId) (rest : List ℕ) → c.0 < 2 ^ 32 → client_at (u32_text c.0 ++ rest) ≡ Ok (c, rest)
unfolding client_at
client_again c rest fit = one_again reads_u32 client_of c.0 rest fit

reads_client : Reads client_at (λ c. u32_text c.0) (λ c. c.0 < 2 ^ 32)
reads_client = record { takes = client_takes; again = client_again }

-- ---- requests

module _ {Z : Type 0} where
  -- the number of what is asked for, and its parts
  abbrev ask_code : Ask Z → ℕ
  ask_code (ask.Hello version) = 0
  ask_code (ask.Event (event.Call client log call)) = call_code call
  ask_code (ask.Event (event.Exit client)) = 15
  ask_code (ask.Event event.Flush) = 16
  ask_code ask.All = 17
  ask_code (ask.SyncAll client logs) = 18
  ask_code ask.Reason = 19
  ask_code ask.Logs = 20

  abbrev ask_parts : Ask Z → List ℕ
  ask_parts (ask.Hello version) = u16_text version
  ask_parts (ask.Event (event.Call client log call)) = u32_text client.0 ++ (short_text (name_text log) ++ call_text call)
  ask_parts (ask.Event (event.Exit client)) = u32_text client.0
  ask_parts (ask.Event event.Flush) = []
  ask_parts ask.All = []
  ask_parts (ask.SyncAll client logs) = u32_text client.0 ++ names_text logs
  ask_parts ask.Reason = []
  ask_parts ask.Logs = []

  ask_split : (a : Ask Z) → ask_text a ≡ ask_code a ∷ ask_parts a
  ask_split (ask.Hello version) = refl
  ask_split (ask.Event (event.Call client log call)) = refl
  ask_split (ask.Event (event.Exit client)) = refl
  ask_split (ask.Event event.Flush) = refl
  ask_split ask.All = refl
  ask_split (ask.SyncAll client logs) = refl
  ask_split ask.Reason = refl
  ask_split ask.Logs = refl

  -- what has this number
  abbrev IsOfOp : Op → Ask Z → Type 0
  IsOfOp o a = IsAsk a × (ask_code a ≡ op_code o)

  abbrev op_of : Ask Z → Op
  op_of (ask.Hello version) = op.Hello
  op_of (ask.Event (event.Call client log call)) = op.Call (verb_of call)
  op_of (ask.Event (event.Exit client)) = op.Exit
  op_of (ask.Event event.Flush) = op.Flush
  op_of ask.All = op.All
  op_of (ask.SyncAll client logs) = op.SyncAll
  op_of ask.Reason = op.Reason
  op_of ask.Logs = op.Logs

  code_of_op : (a : Ask Z) → op_code (op_of a) ≡ ask_code a
  code_of_op (ask.Hello version) = refl
  code_of_op (ask.Event (event.Call client log call)) = code_of_verb call
  code_of_op (ask.Event (event.Exit client)) = refl
  code_of_op (ask.Event event.Flush) = refl
  code_of_op ask.All = refl
  code_of_op (ask.SyncAll client logs) = refl
  code_of_op ask.Reason = refl
  code_of_op ask.Logs = refl

  abbrev call_on : ClientId → Name → Call Z → Event Z
  call_on client log call = event.Call client log call

  abbrev after_log : Verb → ClientId → Name × List ℕ → Read (Event Z)
  after_log verb client log = call_at verb log.0 log.1 >>= made_of (call_on client log.0)

  abbrev after_client : Verb → ClientId × List ℕ → Read (Event Z)
  after_client verb client = name_at client.1 >>= after_log verb client.0

  called_takes : (verb : Verb) (bytes : List ℕ) (y : Event Z × List ℕ) → IsBytes bytes → called_at verb bytes ≡ Ok y
      → TakesAs (λ e. ask_parts (ask.Event e)) (λ e. IsOfOp (op.Call verb) (ask.Event e)) bytes y
  unfolding called_at
  called_takes verb bytes y fits e =
      first_then reads_client (after_client verb) bytes y fits e (λ client r1 t1 f1 e1.
      first_then reads_name (after_log verb client) r1 y t1.rest_fits e1 (λ log r2 t2 f2 e2.
      let c = bind_ok (call_at verb log r2) (made_of (call_on client log)) y e2 in
      let t = call_takes verb log r2 c.0 t2.rest_fits c.1 in
      let later = Takes-then r1 (short_text (name_text log)) r2 (call_text c.0.0) c.0.1 t2 t.0 in
      let all = Takes-then bytes (u32_text client.0) r1 (short_text (name_text log) ++ call_text c.0.0) c.0.1 t1 later in
      subst (λ (z : Event Z × List ℕ). TakesAs (λ e. ask_parts (ask.Event e)) (λ e. IsOfOp (op.Call verb) (ask.Event e)) bytes z) (ok_is (call_on client log c.0.0, c.0.1) y c.2)
      (all, ((f1, f2, t.1.0), t.1.1))))

  called_again : (client : ClientId) (log : Name) (c : Call Z) (rest : List ℕ) → IsEvent (call_on client log c)
      → called_at (verb_of c) (ask_parts (ask.Event (call_on client log c)) ++ rest) ≡ Ok (call_on client log c, rest)
  unfolding called_at
  called_again client log c rest fit =
      first_again reads_client (after_client (verb_of c)) client (short_text (name_text log) ++ call_text c) rest fit.0
      ∙ first_again reads_name (after_log (verb_of c) client) log (call_text c) rest fit.1
      ∙ ap (λ (r : Read (Call Z)). r >>= made_of (call_on client log)) (call_again log c rest fit.2)

  bare_takes : (o : Op) (a : Ask Z) → ask_parts a ≡ [] → IsOfOp o a → (bytes : List ℕ) (y : Ask Z × List ℕ) → IsBytes bytes → done (a, bytes) ≡ Ok y → TakesAs ask_parts (IsOfOp o) bytes y
  bare_takes o a none is bytes y fits e =
      subst (λ (z : Ask Z × List ℕ). TakesAs ask_parts (IsOfOp o) bytes z) (ok_is (a, bytes) y e)
      (subst (λ (t : List ℕ). Takes bytes t bytes) (sym none) (record { parts = refl; rest_fits = fits }), is)

  abbrev sync_all : ClientId → List Name → Ask Z
  sync_all client logs = ask.SyncAll client logs

  asked_takes : (o : Op) (bytes : List ℕ) (y : Ask Z × List ℕ) → IsBytes bytes → asked_at o bytes ≡ Ok y → TakesAs ask_parts (IsOfOp o) bytes y
  unfolding asked_at
  asked_takes op.Hello = one_takes reads_u16 ask.Hello ask_parts (IsOfOp op.Hello) (λ n fit. refl) (λ n fit. (fit, refl))
  asked_takes (op.Call verb) = λ bytes y fits e.
      let p = bind_ok (called_at verb bytes) (made_of ask.Event) y e in
      subst (λ (z : Ask Z × List ℕ). TakesAs ask_parts (IsOfOp (op.Call verb)) bytes z) (ok_is (ask.Event p.0.0, p.0.1) y p.2) (called_takes verb bytes p.0 fits p.1)
  asked_takes op.Exit = one_takes reads_client (λ c. ask.Event (event.Exit c)) ask_parts (IsOfOp op.Exit) (λ c fit. refl) (λ c fit. (fit, refl))
  asked_takes op.Flush = bare_takes op.Flush (ask.Event event.Flush) refl (tt, refl)
  asked_takes op.All = bare_takes op.All ask.All refl (tt, refl)
  asked_takes op.SyncAll = two_takes reads_client reads_names sync_all ask_parts (IsOfOp op.SyncAll) (λ client logs. refl) (λ client logs fit also. ((fit, also), refl))
  asked_takes op.Reason = bare_takes op.Reason ask.Reason refl (tt, refl)
  asked_takes op.Logs = bare_takes op.Logs ask.Logs refl (tt, refl)

  asked_again : (a : Ask Z) (rest : List ℕ) → IsAsk a → asked_at (op_of a) (ask_parts a ++ rest) ≡ Ok (a, rest)
  unfolding asked_at
  asked_again (ask.Hello version) rest fit = one_again reads_u16 ask.Hello version rest fit
  asked_again (ask.Event (event.Call client log call)) rest fit = ap (λ (r : Read (Event Z)). r >>= made_of ask.Event) (called_again client log call rest fit)
  asked_again (ask.Event (event.Exit client)) rest fit = one_again reads_client (λ c. ask.Event (event.Exit c)) client rest fit
  asked_again (ask.Event event.Flush) rest fit = refl
  asked_again ask.All rest fit = refl
  asked_again (ask.SyncAll client logs) rest fit = two_again reads_client reads_names sync_all client logs rest fit.0 fit.1
  asked_again ask.Reason rest fit = refl
  asked_again ask.Logs rest fit = refl

  -- a request of a tag
  abbrev tagged : ℕ → Ask Z → Request Z
  tagged tag a = record { tag = tag; ask = a }

  abbrev ended : ℕ → Ask Z × List ℕ → Result (Request Z) ℕ
  ended tag a = cond (eqb (length a.1) 0) (Ok (tagged tag a.0)) (Err (length a.1))

  abbrev after_op : ℕ → Op × List ℕ → Result (Request Z) ℕ
  after_op tag o = asked_at o.0 o.1 >>= ended tag

  abbrev after_tag : ℕ × List ℕ → Result (Request Z) ℕ
  after_tag tag = choice_at ops tag.1 >>= after_op tag.0

  pub whole_takes : (bytes : List ℕ) (r : Request Z) → IsBytes bytes → whole_at bytes ≡ Ok r → IsRequest r × (bytes ≡ request_text r)
  unfolding whole_at
  whole_takes bytes r fits e =
      let p = bind_ok _ after_tag r e in
      let t1 = reads_u32.takes bytes p.0 fits p.1 in
      let q = bind_ok (choice_at ops p.0.1) (after_op p.0.0) r p.2 in
      let t2 = reads_op.takes p.0.1 q.0 t1.0.rest_fits q.1 in
      let a = bind_ok (asked_at q.0.0 q.0.1) (ended p.0.0) r q.2 in
      let t3 = asked_takes q.0.0 q.0.1 a.0 t2.0.rest_fits a.1 in
      let g = wanted_ok (eqb (length a.0.1) 0) (length a.0.1) (Ok (tagged p.0.0 a.0.0)) r a.2 in
      let nothing : a.0.1 ≡ [] = nil_from_length a.0.1 (eqb-true _ _ g.0) in
      let later = Takes-then p.0.1 (op_code q.0.0 ∷ []) q.0.1 (ask_parts a.0.0) a.0.1 t2.0 t3.0 in
      let all = Takes-then bytes (u32_text p.0.0) p.0.1 (op_code q.0.0 ∷ ask_parts a.0.0) a.0.1 t1.0 later in
      let coded : op_code q.0.0 ∷ ask_parts a.0.0 ≡ ask_text a.0.0 = ap (λ (n : ℕ). n ∷ ask_parts a.0.0) (sym t3.1.1) ∙ sym (ask_split a.0.0) in
      let whole : bytes ≡ request_text (tagged p.0.0 a.0.0) =
      all.parts ∙ ap (λ (t : List ℕ). (u32_text p.0.0 ++ (op_code q.0.0 ∷ ask_parts a.0.0)) ++ t) nothing
      ∙ append-nil (u32_text p.0.0 ++ (op_code q.0.0 ∷ ask_parts a.0.0)) ∙ ap (λ (t : List ℕ). u32_text p.0.0 ++ t) coded in
      subst (λ (s : Request Z). IsRequest s × (bytes ≡ request_text s)) (ok_is (tagged p.0.0 a.0.0) r g.1) ((t1.1, t3.1.0), whole)

  pub whole_again : (r : Request Z) → IsRequest r → whole_at (request_text r) ≡ Ok r
  unfolding whole_at
  whole_again r fit =
      ap (λ (x : Read ℕ). x >>= after_tag) (reads_u32.again r.tag (ask_text r.ask) fit.0)
      ∙ ap (λ (t : List ℕ). choice_at ops t >>= after_op r.tag) (ask_split r.ask ∙ ap (λ (n : ℕ). n ∷ ask_parts r.ask) (sym (code_of_op r.ask)))
      ∙ ap (λ (x : Read Op). x >>= after_op r.tag) (reads_op.again (op_of r.ask) (ask_parts r.ask) tt)
      ∙ ap (λ (x : Read (Ask Z)). x >>= ended r.tag) (ap (asked_at (op_of r.ask)) (sym (append-nil (ask_parts r.ask))) ∙ asked_again r.ask [] fit.1)
