use Rattle.std.proofs.Common.{◌≡◌, ◌∙◌, ap, sym, Some}
use Rattle.lru.specs.LruCache.{LruCache}
use Rattle.dl_types.specs.declared.file.FileName.{FileName}
use Rattle.dl_disk.specs.declared.folder.opened.Opened.{Opened}
use Rattle.dl_disk.specs.Folder.{kept_as}
use Rattle.dl_disk.proofs.Kept.{kept_promoted}
use Rattle.dl_disk.proofs.folder.kept.Kept.serves.Goals as goal

pub returns-in-Some : goal.returns-in-Some
returns-in-Some c serves =
    let found : kept_as c.get.follows.lender-at-none.entries c.args.name ≡ Some c.in-Some.opened.now =
    ap (λ (files : LruCache FileName Opened). kept_as files.entries c.args.name) c.get.follows.holds-at-none
    ∙ kept_promoted c.args.name c.args.self.now.files.entries ∙ sym c.in-Some.ensures.value in
    (c.in-Some.opened.now, found, c.serves.ensures.named serves)
