use Rattle.std.proofs.Common.{◌∙◌, ◌≤◌, ◌<◌, ◌+◌, ap, subst, refl, None, Some, IsSome, ℕ, List, length, arith}
use Rattle.std.specs.FinMap as map
use Rattle.dl_disk.specs.Memory.{content_of}
use Rattle.dl_disk.proofs.Maps.{content_is, content_put, content_kept, shorter_is}
use Rattle.dl_disk.proofs.files.write.Goals as goal

pub returns-then-at-len-clause-err : goal.returns-then-at-len-clause-err
returns-then-at-len-clause-err g c =
    let u = (c.get_mut.follows.holds c.in-Some.text.now).3 (subst IsSome c.in-Some.ensures.value refl) in
    content_kept c.args.files.now.entries _ c.args.file c.in-Some.text.now c.in-Some.text.now c.in-Some.ensures.value refl u.0

pub returns-in_default-clause-short : goal.returns-in_default-clause-short
returns-in_default-clause-short g c =
    shorter_is c.args.files.now.entries c.args.file None (c.args.at + length c.args.bytes.now) c.in_default.ensures.value tt

pub returns-then-at-len-clause-short : goal.returns-then-at-len-clause-short
returns-then-at-len-clause-short g c =
    let end = c.args.at + length c.args.bytes.now in
    let short : length c.in-Some.text.now.items < end = omega arith in
    shorter_is c.args.files.now.entries c.args.file (Some c.in-Some.text.now) end c.in-Some.ensures.value short

pub returns-in-Ok-clause-ok : goal.returns-in-Ok-clause-ok
returns-in-Ok-clause-ok g c =
    let u = (c.get_mut.follows.holds c.write_over.new.text).3 (subst IsSome c.in-Some.ensures.value refl) in
    let within : c.args.at ≤ length c.in-Some.text.now.items = omega arith in (
      c.in-Some.text.now.items,
      content_is c.args.files.now.entries c.args.file (Some c.in-Some.text.now) c.in-Some.ensures.value,
      within,
      content_put c.args.files.now.entries _ c.args.file c.write_over.new.text u.0 ∙ ap (λ (t : List ℕ). map.insert (content_of c.args.files.now.entries) c.args.file t) c.in-Ok.ensures.ok,
    )

pub returns-in-Err-clause-err : goal.returns-in-Err-clause-err
returns-in-Err-clause-err g c =
    let u = (c.get_mut.follows.holds c.write_over.new.text).3 (subst IsSome c.in-Some.ensures.value refl) in
    content_kept c.args.files.now.entries _ c.args.file c.in-Some.text.now c.write_over.new.text c.in-Some.ensures.value c.in-Err.ensures.err u.0

pub returns-in-Err-clause-short : goal.returns-in-Err-clause-short
returns-in-Err-clause-short g c =
    let end = c.args.at + length c.args.bytes.now in
    shorter_is c.args.files.now.entries c.args.file (Some c.in-Some.text.now) end c.in-Some.ensures.value c.in-Err.ensures.short
