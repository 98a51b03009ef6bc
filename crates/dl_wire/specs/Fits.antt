-- What can be written: each number fits its bytes, each name is one, and each item is short enough.
use Rattle.std.specs.Prelude.{◌≡◌, ◌<◌, ◌≤◌, ◌^◌, ℕ, List, length, IfSome, ⊤, FitsSigned}
use Rattle.std.specs.Int.{w32}
use Rattle.std.specs.List.{AllByRecursion}
use Rattle.dl_types.specs.declared.call.Call.{Call}
use Rattle.dl_types.specs.declared.call.Act.TheVariants as act
use Rattle.dl_types.specs.declared.call.Call.TheVariants as call
use Rattle.dl_types.specs.declared.event.Event.{Event}
use Rattle.dl_types.specs.declared.event.Event.TheVariants as event
use Rattle.dl_types.specs.declared.limits.TheConstants.{ITEM_LIMIT}
use Rattle.dl_types.specs.declared.name.Name.{Name}
use Rattle.dl_types.specs.declared.place.Place.{Place}
use Rattle.dl_types.specs.declared.place.Place.TheVariants.{Start, At}
use Rattle.dl_types.specs.declared.size.OpenArgs.{OpenArgs}
use Rattle.dl_types.specs.declared.size.Size.{Size}
use Rattle.dl_types.specs.declared.size.Size.TheVariants as size
use Rattle.dl_types.specs.FileText.{IsBase}
use Rattle.dl_types.specs.Name.{IsNameText, name_of, name_text}
use Rattle.dl_wire.specs.declared.request.Ask.{Ask}
use Rattle.dl_wire.specs.declared.request.Ask.TheVariants as ask
use Rattle.dl_wire.specs.declared.request.Request.{Request}

-- a name whose text is that of a name, and gives this name
pub record IsName (name : Name) : Type 0 where
  pub named : IsNameText (name_text name)
  pub whole : name ≡ name_of (name_text name)

-- an item of no more bytes than any may have
abbrev pub IsItem : List ℕ → Type 0
IsItem item = length item ≤ ITEM_LIMIT

-- at least one item, and so many that their number has four bytes
pub record AreItems (items : List (List ℕ)) : Type 0 where
  pub some : 0 < length items
  pub few : length items < 2 ^ 32
  pub each : AllByRecursion IsItem items

-- so many names that their number has four bytes
pub record AreNames (names : List Name) : Type 0 where
  pub few : length names < 2 ^ 32
  pub each : AllByRecursion IsName names

abbrev pub IsSize : Size → Type 0
IsSize size.Infinity = ⊤
IsSize (size.Limit n) = n < 2 ^ 64
IsSize (size.Wrap bytes files) = (bytes < 2 ^ 64) × (files < 2 ^ 32)

-- a place in the log of this name
abbrev pub IsPlace : Name → Place → Type 0
IsPlace log Start = ⊤
IsPlace log (At c) = (c.log ≡ log) × (c.generation < 2 ^ 64) × (c.passed < 2 ^ 64)

module _ {Z : Type 0} where
  pub record IsOpen (args : OpenArgs Z) : Type 0 where
    pub base : IfSome args.base IsBase
    pub size : IfSome args.size IsSize
    pub head : IfSome args.head IsItem
    pub hold : IfSome args.hold (λ n. n < 2 ^ 32)

  -- a call on the log of this name
  abbrev pub IsCall : Name → Call Z → Type 0
  IsCall log (call.Open args) = IsOpen args
  IsCall log (call.Act (act.Log items)) = AreItems items
  IsCall log (call.Alog items) = AreItems items
  IsCall log (call.Act (act.Chunk from most)) = IsPlace log from × (most < 2 ^ 64)
  IsCall log (call.Act (act.ChunkStep from by)) = IsPlace log from × FitsSigned w32 by
  IsCall log (call.Act (act.Truncate head)) = IfSome head IsItem
  IsCall log (call.Reopen target head) = IsBase target × IfSome head IsItem
  IsCall log (call.Act act.NextFile) = ⊤
  IsCall log (call.Act (act.ChangeSize size)) = IsSize size
  IsCall log (call.Act act.Sync) = ⊤
  IsCall log (call.Block queue) = ⊤
  IsCall log call.Unblock = ⊤
  IsCall log (call.Act act.Info) = ⊤
  IsCall log call.Close = ⊤

  abbrev pub IsEvent : Event Z → Type 0
  IsEvent (event.Call client log call) = (client.0 < 2 ^ 32) × IsName log × IsCall log call
  IsEvent (event.Exit client) = client.0 < 2 ^ 32
  IsEvent event.Flush = ⊤

  abbrev pub IsAsk : Ask Z → Type 0
  IsAsk (ask.Hello version) = version < 2 ^ 16
  IsAsk (ask.Event event) = IsEvent event
  IsAsk ask.All = ⊤
  IsAsk (ask.SyncAll client logs) = (client.0 < 2 ^ 32) × AreNames logs
  IsAsk ask.Reason = ⊤
  IsAsk ask.Logs = ⊤

  abbrev pub IsRequest : Request Z → Type 0
  IsRequest r = (r.tag < 2 ^ 32) × IsAsk r.ask
