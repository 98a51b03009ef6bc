-- One frame more is taken up.
use Rattle.std.proofs.Common.{◌++◌, ◌∷◌, [], ℕ, List, refl, sym, ap, ◌∙◌, subst, append_assoc, append-nil, rules}
use Rattle.std.proofs.lemmas.List.Elements.{All-nil, All-same}
use Rattle.dl_wire.specs.Fits.{IsRequest}
use Rattle.dl_serve.specs.declared.held.HeldSync.{HeldSync}
use Rattle.dl_serve.specs.Arranged.{all_held, moment_in, request_of, served_at}
use Rattle.dl_serve.specs.Frames.{IsLong, IsPartial}
use Rattle.dl_serve.specs.Serve.{IsServed}
use Rattle.dl_serve.specs.Session.{stage_of}
use Rattle.dl_serve.proofs.Arranging.{before_all, before_more, before_none}
use Rattle.dl_serve.proofs.Chains.{chain_both}
use Rattle.dl_serve.proofs.Streams.{front_more, front_within}
use Rattle.dl_serve.proofs.session.Session.take_frames.Goals as goal

pub loop-init : goal.loop-init
loop-init g c =
    let Z = g.row.A.Denot in
    let P : HeldSync → Type 0 = λ (s : HeldSync). IsRequest (request_of Z s) in (
      [],
      [],
      [],
      refl,
      before_none Z c.args.held.now.items c.requires,
      All-same P c.args.held.now.items [] c.requires (All-nil P),
      (refl, refl),
      sym (append-nil c.args.self.now.frames.items),
      search rules,
    )

pub returns-in-Partial-clause-taken : goal.returns-in-Partial-clause-taken
returns-in-Partial-clause-taken g c =
    let pre = c.loop.invariant in (
      pre.0,
      pre.1,
      pre.2,
      pre.3,
      before_all g.row.A.Denot pre.0 pre.1 (all_held g.row.A.Denot c.loop.held.items) pre.4,
      pre.5,
      pre.6,
      pre.7,
      subst (λ (l : List ℕ). IsPartial l) c.split_at.ensures.back c.in-Partial.ensures,
    )

pub returns-in-Long-clause-taken : goal.returns-in-Long-clause-taken
returns-in-Long-clause-taken g c =
    let pre = c.loop.invariant in (
      pre.0,
      pre.1,
      pre.2,
      pre.3,
      before_all g.row.A.Denot pre.0 pre.1 (all_held g.row.A.Denot c.loop.held.items) pre.4,
      pre.5,
      pre.6,
      pre.7,
      subst (λ (l : List ℕ). IsLong l) c.split_at.ensures.back c.in-Long.ensures,
    )

pub returns-then-len-gt-FRAMES_BYTES-clause-taken : goal.returns-then-len-gt-FRAMES_BYTES-clause-taken
returns-then-len-gt-FRAMES_BYTES-clause-taken g c =
    let Z = g.row.A.Denot in
    let pre = c.loop.invariant in
    let a = c.in_ok-take_text-in-Whole.ensures in
    let front = c.in-Whole.ensures in
    let text = c.in-Whole.text.now in
    let bytes = c.args.bytes.now in
    let rest = c.split_at.result.1.now in
    let held = all_held Z c.loop.held.items in
    let kept = all_held Z c.take_text.new.held.items in
    let now = served_at (moment_in Z text) text held in
    let before = before_more Z pre.0 pre.1 held kept text pre.4 a.1.held in (
      pre.0 ++ text ∷ [],
      pre.1 ++ now,
      pre.2 ++ a.0,
      front_more pre.0 text bytes rest c.loop.at pre.3 c.split_at.ensures.back front.2,
      before_all Z (pre.0 ++ text ∷ []) (pre.1 ++ now) kept before,
      a.1.requests,
      chain_both (IsServed {Z = Z} g.D.Disk.state) pre.1 now (stage_of c.args.hub.now c.args.self.now) (stage_of c.loop.hub c.loop.self) (stage_of c.take_text.new.hub c.take_text.new.self) pre.2 a.0 pre.6 a.1.served,
      a.2 ∙ ap (λ (l : List ℕ). l ++ a.0) pre.7 ∙ append_assoc c.args.self.now.frames.items pre.2 a.0,
      tt,
    )

pub loop-preserved : goal.loop-preserved
loop-preserved g c =
    let Z = g.row.A.Denot in
    let pre = c.loop.invariant in
    let a = c.in_ok-take_text-in-Whole.ensures in
    let front = c.in-Whole.ensures in
    let text = c.in-Whole.text.now in
    let bytes = c.args.bytes.now in
    let rest = c.split_at.result.1.now in
    let held = all_held Z c.loop.held.items in
    let kept = all_held Z c.take_text.new.held.items in
    let now = served_at (moment_in Z text) text held in
    let before = before_more Z pre.0 pre.1 held kept text pre.4 a.1.held in (
      pre.0 ++ text ∷ [],
      pre.1 ++ now,
      pre.2 ++ a.0,
      front_more pre.0 text bytes rest c.loop.at pre.3 c.split_at.ensures.back front.2,
      before,
      a.1.requests,
      chain_both (IsServed {Z = Z} g.D.Disk.state) pre.1 now (stage_of c.args.hub.now c.args.self.now) (stage_of c.loop.hub c.loop.self) (stage_of c.take_text.new.hub c.take_text.new.self) pre.2 a.0 pre.6 a.1.served,
      a.2 ∙ ap (λ (l : List ℕ). l ++ a.0) pre.7 ∙ append_assoc c.args.self.now.frames.items pre.2 a.0,
      front_within text bytes rest c.loop.at c.split_at.ensures.back pre.8 front.1,
    )

pub returns-else-len-gt-FRAMES_BYTES-clause-taken : goal.returns-else-len-gt-FRAMES_BYTES-clause-taken
returns-else-len-gt-FRAMES_BYTES-clause-taken g c =
    let Z = g.row.A.Denot in
    let pre = c.loop.invariant in
    let a = c.in_ok-take_text-in-Whole.ensures in
    let front = c.in-Whole.ensures in
    let text = c.in-Whole.text.now in
    let bytes = c.args.bytes.now in
    let rest = c.split_at.result.1.now in
    let held = all_held Z c.loop.held.items in
    let kept = all_held Z c.take_text.new.held.items in
    let now = served_at (moment_in Z text) text held in
    let before = before_more Z pre.0 pre.1 held kept text pre.4 a.1.held in (
      pre.0 ++ text ∷ [],
      pre.1 ++ now,
      pre.2 ++ a.0,
      front_more pre.0 text bytes rest c.loop.at pre.3 c.split_at.ensures.back front.2,
      before_all Z (pre.0 ++ text ∷ []) (pre.1 ++ now) kept before,
      a.1.requests,
      chain_both (IsServed {Z = Z} g.D.Disk.state) pre.1 now (stage_of c.args.hub.now c.args.self.now) (stage_of c.loop.hub c.loop.self) (stage_of c.take_text.new.hub c.take_text.new.self) pre.2 a.0 pre.6 a.1.served,
      a.2 ∙ ap (λ (l : List ℕ). l ++ a.0) pre.7 ∙ append_assoc c.args.self.now.frames.items pre.2 a.0,
      tt,
    )

pub take_text-requires-clause-held : goal.take_text-requires-clause-held
take_text-requires-clause-held g c = c.loop.invariant.5
