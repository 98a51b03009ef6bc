use Rattle.std.proofs.Common.{rules, ◌≡◌, ◌+◌, ◌++◌, ◌≤◌, ◌∷◌, [], ℕ, List, Ok, Err, length, length-append, sym, ap, ◌∙◌, subst, arith, inl, inr}
use Rattle.dl_app.specs.declared.fault.ScriptFault.TheVariants.{BadLine}
use Rattle.dl_app.specs.declared.script.TheConstants.{LINE_LIMIT, LINES_LIMIT}
use Rattle.dl_lines.specs.Lines.{TakesLines}
use Rattle.dl_app.specs.Script.{Runs, Stage}
use Rattle.dl_app.specs.Session.{stage_of}
use Rattle.dl_lines.proofs.Readers.{takes_more, has_all, has_some, has_next, has_first}
use Rattle.dl_app.proofs.Scripts.{runs_more}
use Rattle.dl_app.proofs.script.Session.run_lines.Goals as goal

pub returns-in_err-next_line-clause-unread : goal.returns-in_err-next_line-clause-unread
returns-in_err-next_line-clause-unread g c =
    let so_far = c.loop-number.invariant in
    let some = has_some (g.R.Read.remaining c.loop-number.input) in
    let few : length so_far.0 ≤ LINES_LIMIT = omega (arith, so_far.2, c.loop-number-test.true) in
    λ is. (so_far.0, some.0, has_all _ _ so_far.0 some.0 so_far.1 some.1, few, so_far.3)

pub returns-in_err-next_line-2-clause-unread : goal.returns-in_err-next_line-2-clause-unread
returns-in_err-next_line-2-clause-unread g c =
    let so_far = c.loop-number.invariant in
    let some = has_some (g.R.Read.remaining c.loop-number.input) in
    let few : length so_far.0 ≤ LINES_LIMIT = omega (arith, so_far.2, c.loop-number.auto.number-end) in
    λ is. (so_far.0, some.0, has_all _ _ so_far.0 some.0 so_far.1 some.1, few, so_far.3)

pub returns-in_err-run_line-in-Read-clause-bad_line :
    goal.returns-in_err-run_line-in-Read-clause-bad_line
returns-in_err-run_line-in-Read-clause-bad_line g c = λ k e.
    let D = g.D.Disk in
    let is : c.run_line.result ≡ Err (BadLine k) = search rules in
    let bad = c.run_line.ensures.bad k is in
    let so_far = c.loop-number.invariant in
    let few : length so_far.0 ≤ LINES_LIMIT = omega (arith, so_far.2, c.loop-number-test.true) in
    let line = c.as_slice.result.now in
    let taken = subst (λ (l : List ℕ). TakesLines (g.R.Read.remaining c.loop-number.input) (g.R.Read.remaining c.next_line.new.input) (l ∷ [])) (sym c.as_slice.ensures.value)
    (c.in_ok-next_line.ensures.read (ap Ok c.in-Read.is)) in
    let next = has_next _ _ line taken in
    let old = stage_of c.args.hub.now c.args.self.now in
    let runs = subst (λ (s : Stage g.row.D.Denot). Runs D.state g.row.A.Denot so_far.0 old s (g.W.Write.contents c.args.output.now) (g.W.Write.contents c.run_line.new.output)) (sym bad.2)
    (subst (λ (o : g.row.W.Denot). Runs D.state g.row.A.Denot so_far.0 old (stage_of c.loop-number.hub c.loop-number.self) (g.W.Write.contents c.args.output.now) (g.W.Write.contents o)) (sym bad.3) so_far.3) in
    (so_far.0, line, next.0, has_all _ _ so_far.0 (line ∷ next.0) so_far.1 next.1, few, bad.0 ∙ sym so_far.2, inr (inl bad.1), runs)

pub loop-number-preserved : goal.loop-number-preserved
loop-number-preserved g c =
    let D = g.D.Disk in
    let so_far = c.loop-number.invariant in
    let line = c.as_slice.result.now in
    let taken = subst (λ (l : List ℕ). TakesLines (g.R.Read.remaining c.loop-number.input) (g.R.Read.remaining c.next_line.new.input) (l ∷ [])) (sym c.as_slice.ensures.value)
    (c.in_ok-next_line.ensures.read (ap Ok c.in-Read.is)) in
    let short : length line ≤ LINE_LIMIT = omega (arith, c.as_slice.ensures.len, c.in_ok-next_line.ensures.bounded (ap Ok c.in-Read.is)) in
    let step = c.in_ok-run_line-in-Read.ensures.done in
    let runs = runs_more D.state g.row.A.Denot so_far.0 (stage_of c.args.hub.now c.args.self.now) (stage_of c.loop-number.hub c.loop-number.self) (stage_of c.run_line.new.hub c.run_line.new.self)
    line step.0 (g.W.Write.contents c.args.output.now) (g.W.Write.contents c.loop-number.output) (g.W.Write.contents c.run_line.new.output) so_far.3 short step.1 step.2 in
    (so_far.0 ++ line ∷ [], takes_more _ _ _ so_far.0 (line ∷ []) so_far.1 taken, omega (arith, so_far.2, length-append so_far.0 (line ∷ [])), runs)

pub returns : goal.returns
returns g c =
    let so_far = c.loop-number.invariant in
    let next = has_first LINE_LIMIT _ _ c.next_line-2.new.line.items c.in_ok-next_line-2.field-0 c.in-Read-2.is (λ is. c.in_ok-next_line-2.ensures.read (ap Ok is)) (λ is. c.in_ok-next_line-2.ensures.long (ap Ok is)) in
    record {
      whole = tt;
      bad_line = λ k e.
          let same : ◌≡◌ {A = ℕ} 1000001 k = cc in
          let at : k ≡ length so_far.0 + 1 = omega (arith, so_far.2, c.loop-number-test.false, c.loop-number.auto.number-end, same) in
          let few : length so_far.0 ≤ LINES_LIMIT = omega (arith, so_far.2, c.loop-number.auto.number-end) in
          (so_far.0, next.0, next.1, has_all _ _ so_far.0 (next.0 ∷ next.1) so_far.1 next.2, few, at, inr (inr (sym same)), so_far.3);
      unread = λ e. let bad : ⊥ = cc in absurd bad;
    }
