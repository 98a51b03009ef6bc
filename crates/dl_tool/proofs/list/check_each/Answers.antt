use Rattle.std.proofs.Common.{rules, ◌≡◌, ◌++◌, ◌∷◌, [], List, sym, ap, subst, ◌∙◌, take, get_or, map as mapped}
use Rattle.dl_tool.proofs.Words.{Content, Finding, Halt, LogFiles, map-append, Row, take_more}
use Rattle.dl_tool.specs.Report.{AreFound, FindsLog}
use Rattle.dl_tool.proofs.Tellings.{found_more}
use Rattle.dl_tool.proofs.list.check_each.Goals as goal

-- any log
abbrev none : LogFiles
none = record { base = record { text = [] }; kind = Halt }

pub loop-log-preserved : goal.loop-log-preserved
loop-log-preserved g c =
    let Z = g.row.A.Denot in
    let old = (g.D.Disk.state c.args.disk.now).content in
    let so_far = c.loop-log.invariant in
    let one = c.check_log.ensures in
    let logs = take c.loop-log.log-index c.args.logs.now in
    let log = get_or c.args.logs.now c.loop-log.log-index none in
    let x = c.in_ok-found.found in
    let rows = c.loop-log.rows.items in
    let row : Row = record { log = log; found = x } in
    let pushed : c.push.new.self.items ≡ rows ++ row ∷ [] = search rules in
    let next = sym (take_more c.args.logs.now c.loop-log.log-index none c.loop-log-test.true) in
    record {
      same = λ h. one.same h ∙ so_far.same (one.acts.stayed h);
      stayed = λ h. so_far.stayed (one.acts.stayed h);
      logs = ap (mapped (λ (r : Row). r.log)) pushed ∙ map-append (λ (r : Row). r.log) rows (row ∷ []) ∙ ap (λ (ls : List LogFiles). ls ++ log ∷ []) so_far.logs ∙ next;
      finds = λ h.
          let before = one.acts.stayed h in
          subst (λ (ls : List LogFiles). AreFound Z old ls (mapped (λ (r : Row). r.found) c.push.new.self.items)) next
          (subst (λ (xs : List Finding). AreFound Z old (logs ++ log ∷ []) xs) (sym (ap (mapped (λ (r : Row). r.found)) pushed ∙ map-append (λ (r : Row). r.found) rows (row ∷ [])))
          (found_more Z old logs (mapped (λ (r : Row). r.found) rows) log x (so_far.finds before) (subst (λ (m : Content). FindsLog Z m log x) (so_far.same before) (c.in_ok-found.ensures.finds h))));
    }
