use Rattle.dl_app.proofs.Whole.{whole}
use Rattle.dl_app.proofs.law.a_script_is_a_run.Goals as goal

pub returns : goal.returns
returns g c lines old new answers script none = whole g.D.Disk.state g.row.A.Denot lines old new answers script none
