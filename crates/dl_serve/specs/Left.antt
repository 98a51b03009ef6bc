-- What is left of what waited, after flushes.
use Rattle.std.specs.Prelude.{Bool, true, false}
use Rattle.dl_types.specs.declared.reply.Reply.{Reply}
use Rattle.dl_types.specs.declared.reply.Reply.TheVariants as reply
use Rattle.dl_types.specs.declared.reply.Turn.TheVariants as turn
use Rattle.dl_serve.specs.declared.left.Left.{Left}
use Rattle.dl_serve.specs.declared.left.Left.TheVariants.{Nothing, Unwritten, NoMemory}

-- nothing waits, and no log lingers
abbrev pub is_nothing : Left → Bool
is_nothing Nothing = true
is_nothing (Unwritten log) = false
is_nothing NoMemory = false

-- what the turn of a flush has left that drained no log: nothing, what waits of the log at which the device failed, or blocks for whose notices there was no memory
abbrev pub left_of : {Z : Type 0} → Reply Z → Left
left_of (reply.Turn turn.Idle) = Nothing
left_of (reply.Turn (turn.Fault log)) = Unwritten log
left_of other = NoMemory
