use Rattle.std.proofs.Common.{◌+◌, ◌++◌, ◌∷◌, [], List, take, get_or, refl, sym, subst}
use Rattle.std.proofs.lemmas.List.{take_more}
use Rattle.dl_digest.specs.declared.compare.Compared.{Compared}
use Rattle.dl_digest.specs.declared.line.DigestLine.{DigestLine}
use Rattle.dl_digest.specs.declared.line.Extent.TheVariants.{File}
use Rattle.dl_digest.specs.Compare.{AreCompared}
use Rattle.dl_digest.proofs.Compares.{compared_more}
use Rattle.dl_digest.proofs.compare.compare_lines.Goals as goal

pub loop-line-preserved : goal.loop-line-preserved
loop-line-preserved g c =
    let lines = c.args.lines.now in
    let now = c.args.now.now in
    let i = c.loop-line.line-index in
    let none : DigestLine = record { log = record { text = [] }; extent = File 0; digest = record { items = 0; hash = [] } } in
    let x : DigestLine = get_or lines i none in
    let last : Compared = record { line = x; verdict = c.in_ok-verdict.verdict } in
    let old = c.args.hub.now in
    let new = c.compare_line.new.hub in
    let done = compared_more g.D.Disk.state c.args.log c.args.kind now lines (take i lines) c.loop-line.compared.items x last old c.loop-line.hub new c.loop-line.invariant refl c.in_ok-verdict.ensures in
    subst (λ (cs : List Compared). AreCompared g.D.Disk.state g.row.A.Denot c.args.log c.args.kind now lines (take (i + 1) lines) cs old new) (sym c.in_ok-push.ensures.items)
    (subst (λ (xs : List DigestLine). AreCompared g.D.Disk.state g.row.A.Denot c.args.log c.args.kind now lines xs (c.loop-line.compared.items ++ last ∷ []) old new) (sym (take_more lines i none c.loop-line-test.true)) done)
