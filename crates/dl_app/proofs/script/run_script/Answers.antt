use Rattle.std.proofs.Common.{rules, ◌≡◌, ◌∙◌, Err, sym}
use Rattle.dl_types.specs.declared.place.Place.TheVariants.{Start}
use Rattle.dl_app.specs.declared.fault.ScriptFault.TheVariants.{Write}
use Rattle.dl_app.specs.Places.{place_of}
use Rattle.dl_app.proofs.Scripts.{runs_on, whole_on}
use Rattle.dl_app.proofs.script.run_script.Goals as goal

pub returns-clause-whole : goal.returns-clause-whole
returns-clause-whole g c =
    let D = g.D.Disk in
    let start : place_of c.new-session.result.places ≡ (λ client log. Start) = λ i client log. c.new-session.ensures client log i in
    whole_on D.state g.row.A.Denot c.run_lines-ended.result c.args.hub.now c.run_lines-ended.new.hub (place_of c.new-session.result.places) (place_of c.run_lines-ended.new.self.places)
    (g.R.Read.remaining c.args.input.now) (g.W.Write.contents c.args.output.now) (g.W.Write.contents c.run_lines-ended.new.output) (g.W.Write.contents c.flush.new.self) start c.flush.ensures.bytes c.run_lines-ended.ensures.whole

pub returns-clause-bad_line : goal.returns-clause-bad_line
returns-clause-bad_line g c = λ k is.
    let D = g.D.Disk in
    let start : place_of c.new-session.result.places ≡ (λ client log. Start) = λ i client log. c.new-session.ensures client log i in
    let h = c.run_lines-ended.ensures.bad_line k is in
    let runs = runs_on D.state g.row.A.Denot h.0 c.args.hub.now c.run_lines-ended.new.hub (place_of c.new-session.result.places) (place_of c.run_lines-ended.new.self.places)
    (g.W.Write.contents c.args.output.now) (g.W.Write.contents c.run_lines-ended.new.output) (g.W.Write.contents c.flush.new.self) start h.7 c.flush.ensures.bytes in
    (h.0, h.1, h.2, h.3, h.4, h.5, h.6, runs)

pub returns-clause-unread : goal.returns-clause-unread
returns-clause-unread g c = λ is.
    let D = g.D.Disk in
    let start : place_of c.new-session.result.places ≡ (λ client log. Start) = λ i client log. c.new-session.ensures client log i in
    let h = c.run_lines-ended.ensures.unread is in
    let runs = runs_on D.state g.row.A.Denot h.0 c.args.hub.now c.run_lines-ended.new.hub (place_of c.new-session.result.places) (place_of c.run_lines-ended.new.self.places)
    (g.W.Write.contents c.args.output.now) (g.W.Write.contents c.run_lines-ended.new.output) (g.W.Write.contents c.flush.new.self) start h.4 c.flush.ensures.bytes in
    (h.0, h.1, h.2, h.3, runs)

pub returns-in_err-map_err-clause-bad_line : goal.returns-in_err-map_err-clause-bad_line
returns-in_err-map_err-clause-bad_line g c = λ k is.
    let failed : c.from_residual.result ≡ Err Write = search rules in
    let clash = sym failed ∙ is in
    let bad : ⊥ = cc in
    absurd bad

pub returns-in_err-map_err-clause-unread : goal.returns-in_err-map_err-clause-unread
returns-in_err-map_err-clause-unread g c = λ is.
    let failed : c.from_residual.result ≡ Err Write = search rules in
    let clash = sym failed ∙ is in
    let bad : ⊥ = cc in
    absurd bad
