use Rattle.std.proofs.Common.{◌∙◌, sym, ap, None, Some}
use Rattle.dl_disk.proofs.Maps.{content_is}
use Rattle.dl_disk.proofs.files.text_of.Goals as goal

pub returns-in-None : goal.returns-in-None
returns-in-None g c = sym (content_is c.args.files.now.entries c.args.file None c.in-None.ensures.value)

pub returns-in-Some : goal.returns-in-Some
returns-in-Some g c = ap Some c.as_slice.ensures.value ∙ sym (content_is c.args.files.now.entries c.args.file (Some c.in-Some.text.now) c.in-Some.ensures.value)
