use Rattle.std.proofs.Common.{◌≡◌, ◌++◌, take}
use Rattle.std.specs.List.{flat_map}
use Rattle.dl_app.specs.InfoText.{next_owner_text}
use Rattle.dl_app.proofs.info.push_others.Given as goal

-- the owners so far
abbrev pub invariant-loop-owner : goal.invariant-loop-owner
invariant-loop-owner g l = l.text.items ≡ l.fn.text.items ++ flat_map next_owner_text (take l.owner-index l.owners)
