use Rattle.std.proofs.Common.{ap}
use Rattle.dl_app.specs.Places.{start_or}
use Rattle.dl_app.proofs.places.Places.keep.Goals as goal

pub returns-clause-others : goal.returns-clause-others
returns-clause-others g c =
    λ client log other. ap start_or (c.in_ok-insert.ensures.updates.2 (record { client = client; log = log }) other)
