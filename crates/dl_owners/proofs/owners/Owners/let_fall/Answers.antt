use Rattle.dl_owners.proofs.Listed.{told_settled}
use Rattle.dl_owners.proofs.owners.Owners.let_fall.Goals as goal

pub invariant_of-self-then-is_by : goal.invariant_of-self-then-is_by
invariant_of-self-then-is_by g c = record {
  step = c.self.invariant.step;
  blocked_listed = c.self.invariant.blocked_listed;
  told_listed = told_settled c.self.inside.logs c.self.inside.told.names.keys c.settle.new.self.names.keys c.args.log c.settle.ensures c.self.invariant.told_listed;
}
