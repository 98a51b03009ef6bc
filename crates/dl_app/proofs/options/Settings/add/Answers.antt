use Rattle.dl_app.specs.Settings.{is_set, also_set}
use Rattle.dl_app.proofs.Chosen.{is_new}
use Rattle.dl_app.proofs.options.Settings.add.Goals as goal

pub returns-clause-added : goal.returns-clause-added
returns-clause-added c = is_new (is_set c.args.self.now c.args.setting) (also_set c.args.self.now c.args.setting) c.in_ok-self.field-0 c.in_ok-self.ensures
