use Rattle.std.proofs.Common.{Option, map, sym, ap, ◌∙◌}
use Rattle.dl_types.specs.declared.name.ClientId.{ClientId}
use Rattle.dl_types.specs.Name.{same_client}
use Rattle.dl_serve.specs.declared.held.HeldSync.{HeldSync}
use Rattle.dl_serve.specs.Arranged.{are_due}
use Rattle.dl_serve.proofs.Arranging.{any_map}
use Rattle.dl_serve.proofs.held.are_due.Goals as goal

pub returns-in-Some : goal.returns-in-Some
returns-in-Some c =
    let held = c.args.held.now in
    let owner : HeldSync → ClientId = λ (sync : HeldSync). sync.client in
    let own = λ (client : ClientId). same_client client c.in-Some.client in
    c.has_sync_of.ensures ∙ any_map own owner held ∙ ap (λ (o : Option ClientId). are_due o (map owner held)) (sym c.in-Some.is)
