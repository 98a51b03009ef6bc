use Rattle.std.proofs.Common.{◌≡◌, List, All, length}
use Rattle.std.specs.Prelude.{◌-◌}
use Rattle.dl_types.specs.declared.reply.Outcome.{Outcome}
use Rattle.dl_hub.specs.Run.{IsRun}
use Rattle.dl_pipe.specs.Reading.{chunks_of, end_of, items_of, HasItems}
use Rattle.dl_digest.specs.Reading.{HasTaken}
use Rattle.dl_digest.proofs.reading.Reading.read_all.Given as goal

-- the chunks so far gave items, which were taken
abbrev pub invariant-loop : goal.invariant-loop
invariant-loop g l = record {
  given : List (Outcome g.row.A.Denot);
  run : IsRun g.D.Disk.state l.fn.hub l.hub (chunks_of l.log l.fn.self.place l.fn.self.left given) given;
  items : All (λ o. HasItems o.reply) given;
  place : l.self.place ≡ end_of l.fn.self.place given;
  left : l.self.left ≡ l.fn.self.left - length (items_of given);
  taken : HasTaken l.self given;
}
