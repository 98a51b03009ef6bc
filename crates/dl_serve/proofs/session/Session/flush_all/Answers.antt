-- Each turn that drained a log is one more, and the first that drained none is the last.
use Rattle.std.proofs.Common.{◌≡◌, ◌++◌, ℕ, suc, List, false, true, refl, sym, ap, ◌∙◌, rules}
use Rattle.dl_hub.specs.Written.{has_drained}
use Rattle.dl_hub.proofs.Written.{fewer}
use Rattle.dl_serve.specs.Asked.{outcome_frames, will_wait}
use Rattle.dl_serve.specs.Left.{is_nothing}
use Rattle.dl_serve.specs.Session.{stage_of}
use Rattle.dl_serve.proofs.Flushes.{flush_last, flush_unasked, flushed_more, nothing_left}
use Rattle.dl_serve.proofs.session.Session.flush_all.Goals as goal

pub loop-self-init : goal.loop-self-init
loop-self-init g c = (0, (refl, refl), refl)

pub loop-self-smaller : goal.loop-self-smaller
loop-self-smaller g c =
    let wrote : has_drained c.apply-turn.result.reply ≡ true = search rules in
    fewer g.D.Disk.state c.loop-self.hub c.apply-turn.new.self c.apply-turn.result c.apply-turn.ensures wrote

pub loop-self-preserved : goal.loop-self-preserved
loop-self-preserved g c =
    let pre = c.loop-self.invariant in
    let wrote : has_drained c.apply-turn.result.reply ≡ true = search rules in
    let old = stage_of c.args.hub.now c.args.self.now in
    let mid = stage_of c.loop-self.hub c.loop-self.self in
    let new = stage_of c.apply-turn.new.self c.loop-self.self in (
      suc pre.0,
      flushed_more g.D.Disk.state pre.0 old mid new pre.1 (flush_unasked g.D.Disk.state mid new c.apply-turn.result c.apply-turn.ensures refl refl wrote),
      pre.2,
    )

pub returns-then-not-has_drained-clause-flushed : goal.returns-then-not-has_drained-clause-flushed
returns-then-not-has_drained-clause-flushed g c =
    let pre = c.loop-self.invariant in
    let a = c.in_ok-answer.ensures in
    let none : has_drained c.apply-turn.result.reply ≡ false = search rules in
    let mid = stage_of c.loop-self.hub c.loop-self.self in
    let new = stage_of c.apply-turn.new.self c.answer.new.self in
    let frames : List ℕ = outcome_frames (will_wait c.apply-turn.result c.loop-self.self.waiting.items) c.args.tag c.apply-turn.result in
    let last = flush_last g.D.Disk.state c.args.tag mid new c.apply-turn.result c.left_of.result c.apply-turn.ensures a.waiting a.clients none c.left_of.ensures in (
      frames,
      (pre.0, mid, pre.1, last),
      a.frames ∙ ap (λ (f : List ℕ). f ++ frames) pre.2,
    )

pub returns-then-not-has_drained-clause-written : goal.returns-then-not-has_drained-clause-written
returns-then-not-has_drained-clause-written g c whole =
    nothing_left g.D.Disk.state c.loop-self.hub c.apply-turn.new.self c.apply-turn.result c.apply-turn.ensures (ap is_nothing (sym c.left_of.ensures) ∙ whole)
