-- All that is held is done, or nothing.
use Rattle.std.proofs.Common.{◌≡◌, [], ℕ, List, true, false, map, refl, sym, ap, ◌∙◌, subst, append-nil, rules}
use Rattle.std.proofs.lemmas.List.Elements.{All-nil, All-same}
use Rattle.dl_types.specs.declared.name.ClientId.{ClientId}
use Rattle.dl_wire.specs.Fits.{IsRequest}
use Rattle.dl_serve.specs.declared.held.HeldSync.{HeldSync}
use Rattle.dl_serve.specs.Arranged.{Held, all_held, are_due, holders_of, request_of}
use Rattle.dl_serve.specs.Asked.{Chain}
use Rattle.dl_serve.specs.Serve.{IsServed}
use Rattle.dl_serve.specs.Session.{stage_of}
use Rattle.dl_serve.proofs.Arranging.{awaited_due, awaited_not, due_is, unawaited_due, unawaited_not}
use Rattle.dl_serve.proofs.session.Session.sync_held.Goals as goal

pub returns-then-not-are_due-clause-synced : goal.returns-then-not-are_due-clause-synced
returns-then-not-are_due-clause-synced g c =
    let Z = g.row.A.Denot in
    let held = c.args.held.now.items in
    let stage = stage_of c.args.hub.now c.args.self.now in
    let no : c.are_due.result ≡ false = search rules in
    let not_due = due_is Z c.args.client c.as_slice.result.now held c.are_due.result false c.as_slice.ensures.value c.are_due.ensures no in (
      [],
      subst (λ (l : List (List ℕ)). Chain (IsServed {Z = Z} g.D.Disk.state) l stage stage []) (awaited_not c.args.client (all_held Z held) not_due) (refl, refl),
      sym (append-nil c.args.self.now.frames.items),
    )

pub returns-then-not-are_due-clause-kept : goal.returns-then-not-are_due-clause-kept
returns-then-not-are_due-clause-kept g c =
    let Z = g.row.A.Denot in
    let held = c.args.held.now.items in
    let no : c.are_due.result ≡ false = search rules in
    unawaited_not c.args.client (all_held Z held) (due_is Z c.args.client c.as_slice.result.now held c.are_due.result false c.as_slice.ensures.value c.are_due.ensures no)

pub sync_each-requires : goal.sync_each-requires
sync_each-requires g c =
    let P : HeldSync → Type 0 = λ (s : HeldSync). IsRequest (request_of g.row.A.Denot s) in
    let list : c.as_slice-2.result.now ≡ c.args.held.now.items = cc (c.as_slice-2.ensures.value) in
    All-same P c.as_slice-2.result.now c.args.held.now.items list c.requires

pub returns-clause-synced : goal.returns-clause-synced
returns-clause-synced g c =
    let Z = g.row.A.Denot in
    let s = c.in_ok-sync_each.ensures in
    let held = c.args.held.now.items in
    let yes : c.are_due.result ≡ true = search rules in
    let due = due_is Z c.args.client c.as_slice.result.now held c.are_due.result true c.as_slice.ensures.value c.are_due.ensures yes in
    let list : c.as_slice-2.result.now ≡ held = cc (c.as_slice-2.ensures.value) in
    let old = stage_of c.args.hub.now c.args.self.now in
    let new = stage_of c.sync_each.new.hub c.sync_each.new.self in
    let texts = ap (λ (l : List HeldSync). map (λ (h : Held). h.text) (all_held Z l)) list ∙ awaited_due c.args.client (all_held Z held) due in
    (s.0, subst (λ (l : List (List ℕ)). Chain (IsServed {Z = Z} g.D.Disk.state) l old new s.0) texts s.1, s.2)

pub returns-clause-kept : goal.returns-clause-kept
returns-clause-kept g c =
    let Z = g.row.A.Denot in
    let held = c.args.held.now.items in
    let yes : c.are_due.result ≡ true = search rules in
    let due = due_is Z c.args.client c.as_slice.result.now held c.are_due.result true c.as_slice.ensures.value c.are_due.ensures yes in
    let none : c.clear.new.self.items ≡ [] = search rules in
    ap (λ (l : List HeldSync). all_held Z l) none ∙ unawaited_due c.args.client (all_held Z held) due

pub returns-clause-requests : goal.returns-clause-requests
returns-clause-requests g c =
    let P : HeldSync → Type 0 = λ (s : HeldSync). IsRequest (request_of g.row.A.Denot s) in
    let none : c.clear.new.self.items ≡ [] = search rules in
    All-same P c.clear.new.self.items [] none (All-nil P)
