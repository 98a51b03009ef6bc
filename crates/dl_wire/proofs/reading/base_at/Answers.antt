-- The text is tested as `Base::parse` tests it.
use Rattle.std.proofs.Common.{ap, ◌∙◌, sym, Ok}
use Rattle.dl_types.specs.declared.name.Base.{Base}
use Rattle.dl_wire.proofs.Names.{base_found, base_missed}
use Rattle.dl_wire.proofs.reading.base_at.Goals as goal

pub returns-in-Some : goal.returns-in-Some
returns-in-Some c =
    base_found c.args.bytes.now c.in_ok-text.text.now c.in_ok-text.rest.now c.in_ok-text.ensures (c.in-Some.ensures.valid.0 cc)
    ∙ ap (λ (base : Base). Ok (base, c.in_ok-text.rest.now)) (sym c.in-Some.ensures.named)

pub returns-in-None : goal.returns-in-None
returns-in-None c = base_missed c.args.bytes.now c.in_ok-text.text.now c.in_ok-text.rest.now c.in_ok-text.ensures (λ is. absurd (let no = c.in-None.ensures.valid.1 is in cc))
