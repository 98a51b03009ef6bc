use Rattle.std.proofs.Common.{◌≡◌, ◌≤◌, ℕ, Vec, Global, List, Ok, true, length, ap, sym, subst}
use Rattle.std.proofs.lemmas.List.{length-map}
use Rattle.dl_app.specs.declared.script.TheConstants.{LINES_LIMIT}
use Rattle.dl_threads.specs.Lines.{texts_of}
use Rattle.dl_threads.specs.Settles.{Settles}
use Rattle.dl_threads.proofs.script.threads_script.Goals as goal

pub returns-clause-settled : goal.returns-clause-settled
returns-clause-settled g c =
    let lines = c.in_ok-lines.lines.items in
    let whole = c.in_ok-lines.ensures.whole in
    let settled = c.in_ok-settled.settled in
    let few : length (texts_of lines) ≤ LINES_LIMIT = subst (λ (n : ℕ). n ≤ LINES_LIMIT) (sym (length-map lines (λ (line : Vec ℕ Global). line.items))) whole.1 in
    let settles = subst (λ (ls : List (Vec ℕ Global)). c.args.hub.kept ≡ true → Settles g.D.Disk.state Global (texts_of ls) settled) c.as_slice.ensures.value c.in_ok-settled.ensures.settled in
    (texts_of lines, whole.0, few, whole.2, settles, λ is. c.in_ok-settled.ensures.kept (ap Ok is))
