-- What is held at the end is done then, after the other answers are written.
use Rattle.std.proofs.Common.{◌≡◌, [], ◌++◌, ℕ, List, None, sym, ap, ◌∙◌, subst}
use Rattle.std.specs.Io.KnownBytes.{Appends}
use Rattle.std.proofs.KnownBytes.{Appends-trans}
use Rattle.dl_serve.specs.Arranged.{all_held, awaited}
use Rattle.dl_serve.specs.Asked.{Chain, Stage}
use Rattle.dl_serve.specs.Serve.{IsServed}
use Rattle.dl_serve.specs.Session.{stage_of}
use Rattle.dl_serve.proofs.Chains.{chain_both}
use Rattle.dl_serve.proofs.session.Session.serve_frames.Goals as goal

pub returns-clause-served : goal.returns-clause-served
returns-clause-served g c =
    let Z = g.row.A.Denot in
    let S = Stage g.row.D.Denot Z in
    let Step = IsServed {Z = Z} g.D.Disk.state in
    let t = c.in_ok-taken.ensures.taken in
    let w = c.in_ok-send.ensures in
    let s = c.in_ok-sync_held.ensures.synced in
    let v = c.in_ok-send-2.ensures in
    let last = awaited None (all_held Z c.take_frames.new.held.items) in
    let old = stage_of c.args.hub.now c.args.self.now in
    let mid = stage_of c.take_frames.new.hub c.take_frames.new.self in
    let sent = stage_of c.take_frames.new.hub c.send.new.self in
    let done = stage_of c.sync_held.new.hub c.sync_held.new.self in
    let new = stage_of c.sync_held.new.hub c.send-2.new.self in
    let same : mid ≡ sent = λ i. record { hub = c.take_frames.new.hub; waiting = sym w.waiting i; clients = sym w.clients i } in
    let also : done ≡ new = λ i. record { hub = c.sync_held.new.hub; waiting = sym v.waiting i; clients = sym v.clients i } in
    let taken = subst (λ (m : S). Chain Step t.1 old m t.2) same t.6 in
    let synced = subst (λ (m : S). Chain Step last sent m s.0) also s.1 in
    let all = chain_both Step t.1 last old sent new t.2 s.0 taken synced in
    let ready : c.take_frames.new.self.frames.items ≡ t.2 = t.7 ∙ ap (λ (l : List ℕ). l ++ t.2) c.requires in
    let rest : c.sync_held.new.self.frames.items ≡ s.0 = s.2 ∙ ap (λ (l : List ℕ). l ++ s.0) w.sent in
    let before = g.W.Write.contents c.args.output.now in
    let between = g.W.Write.contents c.send.new.output in
    let after = g.W.Write.contents c.send-2.new.output in (
      t.0,
      t.2 ++ s.0,
      t.3,
      subst (λ (l : List (List ℕ)). Chain Step l old new (t.2 ++ s.0)) (sym t.4) all,
      Appends-trans before between after t.2 s.0 (subst (λ (f : List ℕ). Appends before between f) ready w.written) (subst (λ (f : List ℕ). Appends between after f) rest v.written),
      t.8,
    )

pub sync_held-requires : goal.sync_held-requires
sync_held-requires g c = c.in_ok-taken.ensures.taken.5
