-- Requests as they are read.
use Rattle.std.specs.Prelude.{◌≡◌, ◌-◌, ◌==◌, ℕ, zero, suc, List, [], ◌∷◌, length, Bool, true, false, Result, Ok, Err, if◌then◌else◌}
use Rattle.std.specs.Int.{w16, w32, w64}
use Rattle.dl_types.specs.declared.call.Call.{Call}
use Rattle.dl_types.specs.declared.call.Act.TheVariants as act
use Rattle.dl_types.specs.declared.call.Call.TheVariants as call
use Rattle.dl_types.specs.declared.event.Event.{Event}
use Rattle.dl_types.specs.declared.event.Event.TheVariants as event
use Rattle.dl_types.specs.declared.name.ClientId.{ClientId}
use Rattle.dl_types.specs.declared.name.Name.{Name}
use Rattle.dl_types.specs.declared.place.Continuation.{Continuation}
use Rattle.dl_types.specs.declared.place.Place.{Place}
use Rattle.dl_types.specs.declared.place.Place.TheVariants.{Start, At}
use Rattle.dl_types.specs.declared.size.Kind.{Kind}
use Rattle.dl_types.specs.declared.size.Kind.TheVariants as kind
use Rattle.dl_types.specs.declared.size.Link.{Link}
use Rattle.dl_types.specs.declared.size.Link.TheVariants as link
use Rattle.dl_types.specs.declared.size.Mode.{Mode}
use Rattle.dl_types.specs.declared.size.Mode.TheVariants as mode
use Rattle.dl_types.specs.declared.size.OpenArgs.{OpenArgs}
use Rattle.dl_types.specs.declared.size.Repair.{Repair}
use Rattle.dl_types.specs.declared.size.Repair.TheVariants as repair
use Rattle.dl_wire.specs.declared.fault.DecodeFault.{DecodeFault}
use Rattle.dl_wire.specs.declared.fault.DecodeFault.TheVariants as fault
use Rattle.dl_wire.specs.declared.op.Op.{Op}
use Rattle.dl_wire.specs.declared.op.Op.TheVariants as op
use Rattle.dl_wire.specs.declared.op.Verb.{Verb}
use Rattle.dl_wire.specs.declared.op.Verb.TheVariants as verb
use Rattle.dl_wire.specs.declared.request.Ask.{Ask}
use Rattle.dl_wire.specs.declared.request.Ask.TheVariants as ask
use Rattle.dl_wire.specs.declared.request.Request.{Request}
use Rattle.dl_wire.specs.Reading.{Read, ◌>>=◌, number_at, i32_at, choice_at, name_at, base_at, item_at, list_at, names_at, option_at, size_at}

abbrev pub bools : List Bool
bools = false ∷ true ∷ []

abbrev pub kinds : List Kind
kinds = kind.Halt ∷ kind.Wrap ∷ []

abbrev pub modes : List Mode
modes = mode.ReadWrite ∷ mode.ReadOnly ∷ []

abbrev pub repairs : List Repair
repairs = repair.Yes ∷ repair.No ∷ repair.Truncate ∷ []

abbrev pub links : List Link
links = link.Owner ∷ link.Anonymous ∷ []

-- what is asked for, by its number
abbrev pub ops : List Op
ops =
    op.Hello ∷ op.Call verb.Open ∷ op.Call verb.Log ∷ op.Call verb.Alog ∷ op.Call verb.Chunk ∷ op.Call verb.ChunkStep
    ∷ op.Call verb.Truncate ∷ op.Call verb.Reopen ∷ op.Call verb.NextFile ∷ op.Call verb.ChangeSize ∷ op.Call verb.Sync
    ∷ op.Call verb.Block ∷ op.Call verb.Unblock ∷ op.Call verb.Info ∷ op.Call verb.Close ∷ op.Exit ∷ op.Flush ∷ op.All ∷ op.SyncAll
    ∷ op.Reason ∷ op.Logs ∷ []

-- a position in the log of this name
unfoldable pub position_at : Name → List ℕ → Read Continuation
position_at log bytes = do
  generation ← number_at w64 bytes
  passed ← number_at w64 generation.1
  told ← choice_at bools passed.1
  Ok (record { log = log; generation = generation.0; passed = passed.0; told = told.0 }, told.1)

unfoldable pub place_at : Name → List ℕ → Read Place
place_at log [] = Err 0
place_at log (zero ∷ rest) = Ok (Start, rest)
place_at log (suc zero ∷ rest) = do
  c ← position_at log rest
  Ok (At c.0, c.1)
place_at log (suc (suc b) ∷ rest) = Err (suc (length rest))

unfoldable pub client_at : List ℕ → Read ClientId
client_at bytes = do
  n ← number_at w32 bytes
  Ok (record { 0 = n.0 }, n.1)

module _ {Z : Type 0} where
  unfoldable pub open_at : List ℕ → Read (OpenArgs Z)
  open_at bytes = do
    kind ← choice_at kinds bytes
    base ← option_at base_at kind.1
    size ← option_at size_at base.1
    mode ← choice_at modes size.1
    repair ← choice_at repairs mode.1
    head ← option_at item_at repair.1
    notify ← choice_at bools head.1
    link ← choice_at links notify.1
    hold ← option_at (number_at w32) link.1
    Ok (record { base = base.0; kind = kind.0; size = size.0; mode = mode.0; repair = repair.0; head = head.0; notify = notify.0; link = link.0; hold = hold.0 }, hold.1)

  -- the parts of a call on the log of this name
  unfoldable pub call_at : Verb → Name → List ℕ → Read (Call Z)
  call_at verb.Open log bytes = do
    args ← open_at bytes
    Ok (call.Open args.0, args.1)
  call_at verb.Log log bytes = do
    items ← list_at bytes
    Ok (call.Act (act.Log items.0), items.1)
  call_at verb.Alog log bytes = do
    items ← list_at bytes
    Ok (call.Alog items.0, items.1)
  call_at verb.Chunk log bytes = do
    from ← place_at log bytes
    most ← number_at w64 from.1
    Ok (call.Act (act.Chunk from.0 most.0), most.1)
  call_at verb.ChunkStep log bytes = do
    from ← place_at log bytes
    by ← i32_at from.1
    Ok (call.Act (act.ChunkStep from.0 by.0), by.1)
  call_at verb.Truncate log bytes = do
    head ← option_at item_at bytes
    Ok (call.Act (act.Truncate head.0), head.1)
  call_at verb.Reopen log bytes = do
    target ← base_at bytes
    head ← option_at item_at target.1
    Ok (call.Reopen target.0 head.0, head.1)
  call_at verb.NextFile log bytes = Ok (call.Act act.NextFile, bytes)
  call_at verb.ChangeSize log bytes = do
    size ← size_at bytes
    Ok (call.Act (act.ChangeSize size.0), size.1)
  call_at verb.Sync log bytes = Ok (call.Act act.Sync, bytes)
  call_at verb.Block log bytes = do
    queue ← choice_at bools bytes
    Ok (call.Block queue.0, queue.1)
  call_at verb.Unblock log bytes = Ok (call.Unblock, bytes)
  call_at verb.Info log bytes = Ok (call.Act act.Info, bytes)
  call_at verb.Close log bytes = Ok (call.Close, bytes)

  -- a client, a log, and the parts of the call
  unfoldable pub called_at : Verb → List ℕ → Read (Event Z)
  called_at verb bytes = do
    client ← client_at bytes
    log ← name_at client.1
    call ← call_at verb log.0 log.1
    Ok (event.Call client.0 log.0 call.0, call.1)

  -- the parts of what is asked for
  unfoldable pub asked_at : Op → List ℕ → Read (Ask Z)
  asked_at op.Hello bytes = do
    version ← number_at w16 bytes
    Ok (ask.Hello version.0, version.1)
  asked_at (op.Call verb) bytes = do
    event ← called_at verb bytes
    Ok (ask.Event event.0, event.1)
  asked_at op.Exit bytes = do
    client ← client_at bytes
    Ok (ask.Event (event.Exit client.0), client.1)
  asked_at op.Flush bytes = Ok (ask.Event event.Flush, bytes)
  asked_at op.All bytes = Ok (ask.All, bytes)
  asked_at op.SyncAll bytes = do
    client ← client_at bytes
    logs ← names_at client.1
    Ok (ask.SyncAll client.0 logs.0, logs.1)
  asked_at op.Reason bytes = Ok (ask.Reason, bytes)
  asked_at op.Logs bytes = Ok (ask.Logs, bytes)

  -- a tag, a number, and the parts; and no bytes after them
  unfoldable pub whole_at : List ℕ → Result (Request Z) ℕ
  whole_at bytes = do
    tag ← number_at w32 bytes
    op ← choice_at ops tag.1
    ask ← asked_at op.0 op.1
    if length ask.1 == 0 then Ok (record { tag = tag.0; ask = ask.0 }) else Err (length ask.1)

  -- the request of a text, or the place of the first part that is wrong
  abbrev pub placed : ℕ → Result (Request Z) ℕ → Result (Request Z) ℕ
  placed whole (Ok r) = Ok r
  placed whole (Err left) = Err (whole - left)

  abbrev pub request_in : List ℕ → Result (Request Z) ℕ
  request_in text = placed (length text) (whole_at text)

  -- what was decoded is what the text says, unless memory was refused
  abbrev pub IsDecoded : Result (Request Z) DecodeFault → Result (Request Z) ℕ → Type 0
  IsDecoded (Ok r) read = read ≡ Ok r
  IsDecoded (Err fault.OutOfMemory) read = Unit {0}
  IsDecoded (Err (fault.At place)) read = read ≡ Err place
