-- Requests as bytes.
use Rattle.std.specs.Prelude.{ℕ, List, [], ◌∷◌, ◌++◌}
use Rattle.dl_types.specs.declared.call.Call.{Call}
use Rattle.dl_types.specs.declared.call.Act.TheVariants as act
use Rattle.dl_types.specs.declared.call.Call.TheVariants as call
use Rattle.dl_types.specs.declared.event.Event.{Event}
use Rattle.dl_types.specs.declared.event.Event.TheVariants as event
use Rattle.dl_types.specs.declared.size.OpenArgs.{OpenArgs}
use Rattle.dl_types.specs.Name.{base_text, name_text}
use Rattle.dl_wire.specs.declared.request.Ask.{Ask}
use Rattle.dl_wire.specs.declared.request.Ask.TheVariants as ask
use Rattle.dl_wire.specs.declared.request.Request.{Request}
use Rattle.dl_wire.specs.Parts.{u16_text, u32_text, u64_text, i32_text, short_text, bytes_text, list_text, option_text, bool_code, kind_code, mode_code, repair_code, link_code, size_text, place_text}

module _ {Z : Type 0} where
  -- the options of an open, in their order
  abbrev pub open_text : OpenArgs Z → List ℕ
  open_text args =
      kind_code args.kind
      ∷ (option_text (λ base. short_text (base_text base)) args.base
      ++ (option_text size_text args.size
      ++ (mode_code args.mode
      ∷ repair_code args.repair
      ∷ (option_text bytes_text args.head
      ++ (bool_code args.notify
      ∷ link_code args.link
      ∷ option_text u32_text args.hold)))))

  -- the number of a call
  abbrev pub call_code : Call Z → ℕ
  call_code (call.Open args) = 1
  call_code (call.Act (act.Log items)) = 2
  call_code (call.Alog items) = 3
  call_code (call.Act (act.Chunk from most)) = 4
  call_code (call.Act (act.ChunkStep from by)) = 5
  call_code (call.Act (act.Truncate head)) = 6
  call_code (call.Reopen target head) = 7
  call_code (call.Act act.NextFile) = 8
  call_code (call.Act (act.ChangeSize size)) = 9
  call_code (call.Act act.Sync) = 10
  call_code (call.Block queue) = 11
  call_code call.Unblock = 12
  call_code (call.Act act.Info) = 13
  call_code call.Close = 14

  -- what a call says after the client and the log
  abbrev pub call_text : Call Z → List ℕ
  call_text (call.Open args) = open_text args
  call_text (call.Act (act.Log items)) = list_text bytes_text items
  call_text (call.Alog items) = list_text bytes_text items
  call_text (call.Act (act.Chunk from most)) = place_text from ++ u64_text most
  call_text (call.Act (act.ChunkStep from by)) = place_text from ++ i32_text by
  call_text (call.Act (act.Truncate head)) = option_text bytes_text head
  call_text (call.Reopen target head) = short_text (base_text target) ++ option_text bytes_text head
  call_text (call.Act act.NextFile) = []
  call_text (call.Act (act.ChangeSize size)) = size_text size
  call_text (call.Act act.Sync) = []
  call_text (call.Block queue) = bool_code queue ∷ []
  call_text call.Unblock = []
  call_text (call.Act act.Info) = []
  call_text call.Close = []

  -- an event's number and its parts
  abbrev pub event_text : Event Z → List ℕ
  event_text (event.Call client log call) = call_code call ∷ (u32_text client.0 ++ (short_text (name_text log) ++ call_text call))
  event_text (event.Exit client) = 15 ∷ u32_text client.0
  event_text event.Flush = 16 ∷ []

  abbrev pub ask_text : Ask Z → List ℕ
  ask_text (ask.Hello version) = 0 ∷ u16_text version
  ask_text (ask.Event event) = event_text event
  ask_text ask.All = 17 ∷ []
  ask_text (ask.SyncAll client logs) = 18 ∷ (u32_text client.0 ++ list_text (λ log. short_text (name_text log)) logs)
  ask_text ask.Reason = 19 ∷ []
  ask_text ask.Logs = 20 ∷ []

  -- a request: its tag, and what it asks for
  abbrev pub request_text : Request Z → List ℕ
  request_text r = u32_text r.tag ++ ask_text r.ask
