-- A session as contracts see it.
use Rattle.dl_hub.specs.View.{HubView}
use Rattle.dl_serve.specs.declared.session.Session.{Session}
use Rattle.dl_serve.specs.Asked.{Stage}

-- what the stream has come to
abbrev pub stage_of : {D Z : Type 0} → HubView D → Session Z → Stage D Z
stage_of hub session = record { hub = hub; waiting = session.waiting.items; clients = session.clients.items }
