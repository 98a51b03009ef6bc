use Rattle.std.proofs.Common.{rules, ◌≡◌, ◌+◌, ◌++◌, ◌≤◌, ◌∷◌, [], ℕ, List, Ok, Err, length, length-append, append-nil, sym, ap, ◌∙◌, subst, arith, inl, inr}
use Rattle.std.proofs.lemmas.List.Elements.{All-push}
use Rattle.dl_app.specs.declared.fault.ScriptFault.TheVariants.{BadLine}
use Rattle.dl_app.specs.declared.script.TheConstants.{LINE_LIMIT, LINES_LIMIT}
use Rattle.dl_lines.specs.Lines.{TakesLines, HasLines}
use Rattle.dl_lines.proofs.Readers.{takes_more, has_all, has_some, has_next, has_first}
use Rattle.dl_threads.specs.Lines.{HasForm, HaveForms, texts_of}
use Rattle.dl_threads.proofs.lines.read_lines.Goals as goal

pub returns-in_err-next_line-clause-unread : goal.returns-in_err-next_line-clause-unread
returns-in_err-next_line-clause-unread g c =
    let so_far = c.loop-number.invariant in
    let before = texts_of c.loop-number.lines.items in
    let some = has_some (g.R.Read.remaining c.loop-number.input) in
    let few : length before ≤ LINES_LIMIT = omega (arith, so_far.1, c.loop-number-test.true) in
    λ is. (before, some.0, has_all _ _ before some.0 so_far.0 some.1, few, so_far.2)

pub returns-in_err-next_line-2-clause-unread : goal.returns-in_err-next_line-2-clause-unread
returns-in_err-next_line-2-clause-unread g c =
    let so_far = c.loop-number.invariant in
    let before = texts_of c.loop-number.lines.items in
    let some = has_some (g.R.Read.remaining c.loop-number.input) in
    let few : length before ≤ LINES_LIMIT = omega (arith, so_far.1, c.loop-number.auto.number-end) in
    λ is. (before, some.0, has_all _ _ before some.0 so_far.0 some.1, few, so_far.2)

pub returns-in_err-keep-in-Read-clause-bad_line : goal.returns-in_err-keep-in-Read-clause-bad_line
returns-in_err-keep-in-Read-clause-bad_line g c = λ k e.
    let is : c.keep.result ≡ Err (BadLine k) = search rules in
    let bad = c.keep.ensures.bad k is in
    let so_far = c.loop-number.invariant in
    let before = texts_of c.loop-number.lines.items in
    let few : length before ≤ LINES_LIMIT = omega (arith, so_far.1, c.loop-number-test.true) in
    let line = c.next_line.new.line.items in
    let next = has_next _ _ line (c.in_ok-next_line.ensures.read (ap Ok c.in-Read.is)) in
    (before, line, next.0, has_all _ _ before (line ∷ next.0) so_far.0 next.1, few, so_far.2, bad.0 ∙ sym so_far.1, inr (inl bad.1))

pub loop-number-preserved : goal.loop-number-preserved
loop-number-preserved g c =
    let so_far = c.loop-number.invariant in
    let before = texts_of c.loop-number.lines.items in
    let line = c.next_line.new.line.items in
    let taken = c.in_ok-next_line.ensures.read (ap Ok c.in-Read.is) in
    let kept = c.in_ok-keep-in-Read.ensures.kept in (
      subst (TakesLines (g.R.Read.remaining c.args.input.now) (g.R.Read.remaining c.next_line.new.input)) (sym kept.0) (takes_more _ _ _ before (line ∷ []) so_far.0 taken),
      omega (arith, so_far.1, ap length kept.0, length-append before (line ∷ [])),
      subst HaveForms (sym kept.0) (All-push HasForm before line so_far.2 kept.1),
    )

pub returns-in-Read-2 : goal.returns-in-Read-2
returns-in-Read-2 g c =
    let so_far = c.loop-number.invariant in
    let before = texts_of c.loop-number.lines.items in
    let next = has_first LINE_LIMIT _ _ c.next_line-2.new.line.items c.in_ok-next_line-2.field-0 c.in-Read-2.is (λ is. c.in_ok-next_line-2.ensures.read (ap Ok is)) (λ is. c.in_ok-next_line-2.ensures.long (ap Ok is)) in
    record {
      whole = tt;
      bad_line = λ k e.
          let same : ◌≡◌ {A = ℕ} 1000001 k = cc in
          let at : k ≡ length before + 1 = omega (arith, so_far.1, c.loop-number-test.false, c.loop-number.auto.number-end, same) in
          let few : length before ≤ LINES_LIMIT = omega (arith, so_far.1, c.loop-number.auto.number-end) in
          (before, next.0, next.1, has_all _ _ before (next.0 ∷ next.1) so_far.0 next.2, few, so_far.2, at, inr (inr (sym same)));
      unread = λ e. let bad : ⊥ = cc in absurd bad;
      write = λ e. let bad : ⊥ = cc in absurd bad;
    }
