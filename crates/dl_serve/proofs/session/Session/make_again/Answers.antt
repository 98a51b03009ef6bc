-- Each call is made in its turn, and waits again behind those that were made before it.
use Rattle.std.proofs.Common.{◌≡◌, ◌++◌, [], ℕ, List, refl, sym, ap, ◌∙◌, subst, append_assoc, append-nil}
use Rattle.dl_serve.specs.declared.waiting.Waiting.{Waiting}
use Rattle.dl_serve.specs.Asked.{AreMade, outcome_frames}
use Rattle.dl_serve.specs.Event.{is_suspended}
use Rattle.dl_serve.proofs.Chains.{MadeBefore, made_more, made_all, nil_if}
use Rattle.dl_serve.proofs.session.Session.make_again.Goals as goal

pub loop-init : goal.loop-init
loop-init g c =
    let W = Waiting g.row.A.Denot in
    let calls : c.replace-calls.result.items ≡ c.args.self.now.waiting.items = cc (c.replace-calls.ensures.value) in
    let none : c.replace-calls.new.dest.items ≡ [] = cc (c.replace-calls.ensures.after, c.new.ensures.items) in (
      [],
      (λ new later others made.
          subst (λ (ws : List W). AreMade g.D.Disk.state ws c.args.hub.now new (c.replace-calls.new.dest.items ++ later) others) calls
          (subst (λ (k : List W). AreMade g.D.Disk.state c.replace-calls.result.items c.args.hub.now new (k ++ later) others) (sym none) made)),
      sym (append-nil c.args.self.now.frames.items),
      refl,
    )

pub returns-in_default-clause-made : goal.returns-in_default-clause-made
returns-in_default-clause-made g c =
    let W = Waiting g.row.A.Denot in
    let pre = c.loop.invariant in
    let none : c.loop.calls.items ≡ [] = nil_if c.loop.calls.items (c.in_default.ensures.items ∙ c.in_default.ensures.rest) in
    let before = subst (λ (l : List W). MadeBefore g.D.Disk.state c.args.self.now.waiting.items l pre.0 c.args.hub.now c.loop.hub c.loop.self.waiting.items) none pre.1 in
    (pre.0, made_all g.D.Disk.state c.args.self.now.waiting.items pre.0 c.args.hub.now c.loop.hub c.loop.self.waiting.items before, pre.2)

pub loop-preserved : goal.loop-preserved
loop-preserved g c =
    let W = Waiting g.row.A.Denot in
    let pre = c.loop.invariant in
    let made = c.in_ok-make_one_again.ensures.made in
    let all = c.args.self.now.waiting.items in
    let rest = c.pop_front.new.self.items in
    let f = outcome_frames (is_suspended made.0.reply) c.in-Some.oldest.tag made.0 in
    let before = subst (λ (l : List W). MadeBefore g.D.Disk.state all l pre.0 c.args.hub.now c.loop.hub c.loop.self.waiting.items) c.in-Some.ensures.items pre.1 in
    let next = made_more g.D.Disk.state all rest pre.0 c.args.hub.now c.loop.hub c.make_one_again.new.hub c.loop.self.waiting.items c.in-Some.oldest made.0 before made.1 in (
      pre.0 ++ f,
      subst (λ (k : List W). MadeBefore g.D.Disk.state all rest (pre.0 ++ f) c.args.hub.now c.make_one_again.new.hub k) (sym made.2) next,
      made.3 ∙ ap (λ (l : List ℕ). l ++ f) pre.2 ∙ append_assoc c.args.self.now.frames.items pre.0 f,
      c.in_ok-make_one_again.ensures.clients ∙ pre.3,
    )
