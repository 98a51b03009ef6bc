use Rattle.std.proofs.Common.{◌++◌, ◌∷◌, [], List, Bool, refl, sym, ◌∙◌, ap, subst, append-nil, ◌&&◌, ◌||◌}
use Rattle.dl_tool.proofs.Words.{FileName, is_clean, is_unread, LogFiles, take_more}
use Rattle.std.proofs.lemmas.List.{flat_map_more}
use Rattle.dl_tool.specs.declared.report.Tally.{Tally}
use Rattle.dl_tool.specs.Report.{Tells}
use Rattle.dl_tool.specs.Losses.{torn_file}
use Rattle.dl_tool.proofs.Tellings.{tells_none, tells_more, all_more, any_more}
use Rattle.dl_tool.proofs.report.check_logs.Goals as goal

pub loop-log-init : goal.loop-log-init
loop-log-init g c = record {
  same = λ h. refl;
  stayed = λ h. h;
  found = [];
  clean = refl;
  unread = refl;
  torn = sym (append-nil c.args.torn.now.items);
  told = tells_none g.row.A.Denot c.args.style (g.D.Disk.state c.args.disk.now) (g.W.Write.contents c.args.output.now);
}

pub loop-log-preserved : goal.loop-log-preserved
loop-log-preserved g c =
    let so_far = c.loop-log.invariant in
    let state = g.D.Disk.state in
    let x = c.in_ok-found.found in
    let one = c.in_ok-found.ensures in
    let line = one.line in
    record {
      same = λ h. c.check_next.ensures.same h ∙ so_far.same (c.check_next.ensures.stayed h);
      stayed = λ h. so_far.stayed (c.check_next.ensures.stayed h);
      found = so_far.found ++ x ∷ [];
      clean = ap (λ (t : Tally). t.clean) c.tally_with-tally.ensures ∙ ap (λ (b : Bool). b && is_clean x) so_far.clean ∙ all_more so_far.found x;
      unread = ap (λ (t : Tally). t.unread) c.tally_with-tally.ensures ∙ ap (λ (b : Bool). b || is_unread x) so_far.unread ∙ any_more so_far.found x;
      torn = c.in_ok-push_torn.ensures ∙ ap (λ (fs : List FileName). fs ++ torn_file x) so_far.torn ∙ flat_map_more torn_file c.args.torn.now.items so_far.found x;
      told = subst (λ (ls : List LogFiles). Tells g.row.A.Denot c.args.style (state c.args.disk.now) (state c.check_next.new.disk) ls (so_far.found ++ x ∷ []) (g.W.Write.contents c.args.output.now) (g.W.Write.contents c.check_next.new.output))
          (sym (take_more c.args.logs.now c.loop-log.log-index _ c.loop-log-test.true))
          (tells_more g.row.A.Denot c.args.style (state c.args.disk.now) (state c.loop-log.disk) (state c.check_next.new.disk) _ so_far.found _ x _ _ _ c.check_next.ensures.stayed so_far.same so_far.told one.finds line.0 line.1 line.2);
    }
