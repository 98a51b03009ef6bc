-- The first time that leaves nothing is the last one, or the last that may be.
use Rattle.std.proofs.Common.{[], ◌≡◌, ◌≤◌, ◌++◌, ℕ, List, false, true, true≢false, sym, ap, ◌∙◌, append_assoc, append-nil, arith, rules}
use Rattle.dl_hub.specs.declared.drained.TheConstants.{TRIES}
use Rattle.dl_serve.specs.Left.{is_nothing}
use Rattle.dl_serve.specs.Session.{stage_of}
use Rattle.dl_serve.proofs.Outs.{ok_then, tried_none, tried_more, tried_last}
use Rattle.dl_serve.proofs.session.Session.write_out.Goals as goal

pub loop-tries-init : goal.loop-tries-init
loop-tries-init g c = ([], tried_none g.D.Disk.state (stage_of c.args.hub.now c.args.self.now), sym (append-nil c.args.self.now.frames.items))

pub loop-tries-preserved : goal.loop-tries-preserved
loop-tries-preserved g c =
    let pre = c.loop-tries.invariant in
    let f = c.in_ok-left.ensures.flushed in
    let old = stage_of c.args.hub.now c.args.self.now in
    let mid = stage_of c.loop-tries.hub c.loop-tries.self in
    let new = stage_of c.flush_all.new.hub c.flush_all.new.self in
    let some : is_nothing c.in_ok-left.left ≡ false = search rules in (
      pre.0 ++ f.0,
      tried_more g.D.Disk.state c.loop-tries.tries old mid new pre.0 f.0 c.in_ok-left.left pre.1 f.1 some,
      f.2 ∙ ap (λ (l : List ℕ). l ++ f.0) pre.2 ∙ append_assoc c.args.self.now.frames.items pre.0 f.0,
    )

pub returns-then-is_nothing-clause-flushed : goal.returns-then-is_nothing-clause-flushed
returns-then-is_nothing-clause-flushed g c =
    let pre = c.loop-tries.invariant in
    let f = c.in_ok-left.ensures.flushed in
    let old = stage_of c.args.hub.now c.args.self.now in
    let mid = stage_of c.loop-tries.hub c.loop-tries.self in
    let new = stage_of c.flush_all.new.hub c.flush_all.new.self in
    let none : is_nothing c.in_ok-left.left ≡ true = search rules in
    let within : c.loop-tries.tries ≤ TRIES = omega (arith, c.loop-tries-test.true) in (
      pre.0 ++ f.0,
      tried_last g.D.Disk.state c.loop-tries.tries old mid new pre.0 f.0 c.in_ok-left.left pre.1 f.1 within (λ more. absurd (true≢false (sym none ∙ more))),
      f.2 ∙ ap (λ (l : List ℕ). l ++ f.0) pre.2 ∙ append_assoc c.args.self.now.frames.items pre.0 f.0,
    )

pub returns-clause-flushed : goal.returns-clause-flushed
returns-clause-flushed g c =
    let pre = c.loop-tries.invariant in
    let old = stage_of c.args.hub.now c.args.self.now in
    let mid = stage_of c.loop-tries.hub c.loop-tries.self in
    let new = stage_of c.flush_all-2.new.hub c.flush_all-2.new.self in
    let within : c.loop-tries.tries ≤ TRIES = c.loop-tries.auto.tries-end (omega arith) in
    ok_then c.flush_all-2.result _ _ c.flush_all-2.ensures.flushed (λ left f. (
      pre.0 ++ f.0,
      tried_last g.D.Disk.state c.loop-tries.tries old mid new pre.0 f.0 left pre.1 f.1 within (λ more. c.loop-tries-test.false),
      f.2 ∙ ap (λ (l : List ℕ). l ++ f.0) pre.2 ∙ append_assoc c.args.self.now.frames.items pre.0 f.0,
    ))
