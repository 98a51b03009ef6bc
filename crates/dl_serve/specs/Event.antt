-- Events and replies as one who serves them looks at them.
use Rattle.std.specs.Prelude.{Bool, true, false, List, [], ◌∷◌, ◌++◌, Option, Some, None, if◌then◌else◌}
use Rattle.dl_types.specs.declared.call.Call.{Call}
use Rattle.dl_types.specs.declared.call.Call.TheVariants as call
use Rattle.dl_types.specs.declared.event.Event.{Event}
use Rattle.dl_types.specs.declared.event.Event.TheVariants as event
use Rattle.dl_types.specs.declared.name.ClientId.{ClientId}
use Rattle.dl_types.specs.declared.reply.Reply.{Reply}
use Rattle.dl_types.specs.declared.reply.Reply.TheVariants as reply
use Rattle.dl_types.specs.Name.{is_among}

module _ {Z : Type 0} where
  -- a call by which a client may come to have a part in a log, or to block one
  abbrev pub call_joins : Call Z → Bool
  call_joins (call.Open args) = true
  call_joins (call.Block queue) = true
  call_joins other = false

  -- the client of an event by which it may come to have a part in a log, or to block one
  abbrev pub joiner_of : Event Z → Option ClientId
  joiner_of (event.Call client log asked) = if call_joins asked then Some client else None
  joiner_of (event.Exit client) = None
  joiner_of event.Flush = None

  abbrev pub is_suspended : Reply Z → Bool
  is_suspended reply.Suspended = true
  is_suspended other = false

  -- whether a call was done
  abbrev pub is_done : Reply Z → Bool
  is_done reply.Done = true
  is_done other = false

-- clients, with one more if it is not among them
abbrev pub with_client : Option ClientId → List ClientId → List ClientId
with_client None clients = clients
with_client (Some client) clients = if is_among clients client then clients else clients ++ client ∷ []
