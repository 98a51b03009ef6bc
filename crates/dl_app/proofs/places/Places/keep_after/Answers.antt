use Rattle.dl_app.specs.Places.{place_of}
use Rattle.dl_app.proofs.Kept.{gives_place, keeps_all}
use Rattle.dl_app.proofs.places.Places.keep_after.Goals as goal

pub returns-in-Items : goal.returns-in-Items
returns-in-Items g c =
    let old = place_of c.args.self.now in
    keeps_all c.keep.result c.args.reply.now c.in-Items.next old (place_of c.keep.new.self) c.args.client c.args.log
    (gives_place c.args.reply.now c.in-Items.next old c.args.client c.args.log c.in-Items.is) c.keep.ensures.kept c.keep.ensures.others
