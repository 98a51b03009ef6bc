use Rattle.dl_tool.proofs.Opened.{clean_opens}
use Rattle.dl_tool.proofs.law.clean_is_opened.Goals as goal

pub returns : goal.returns
returns g c client name kind s content found closed h read = clean_opens g.row.A.Denot client name kind s closed content found h read
