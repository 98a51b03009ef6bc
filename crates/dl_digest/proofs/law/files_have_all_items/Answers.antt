use Rattle.std.proofs.Common.{◌∙◌}
use Rattle.dl_digest.specs.Files.{parts_of}
use Rattle.dl_digest.proofs.ByFile.{items_by_file}
use Rattle.dl_digest.proofs.Taken.{parts_items}
use Rattle.dl_digest.proofs.law.files_have_all_items.Goals as goal

pub returns : goal.returns
returns g c given = items_by_file (parts_of given) ∙ parts_items given
