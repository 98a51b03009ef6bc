use Rattle.std.proofs.Common.{◌≡◌, ◌∙◌, sym, ap, subst, List}
use Rattle.std.specs.List.{filter_map, Contains}
use Rattle.dl_tool.specs.declared.line.LogFiles.{LogFiles}
use Rattle.dl_tool.specs.Folder.{log_of, main_file}
use Rattle.dl_tool.proofs.Logs.{by_file, of_file}
use Rattle.dl_tool.proofs.folder.find_logs.Goals as goal

pub returns-clause-logs : goal.returns-clause-logs
returns-clause-logs g c honest log =
    let names = c.in_ok-names.names.items in
    let are : c.in-Ok.logs.items ≡ filter_map log_of names = c.in-Ok.ensures ∙ ap (filter_map log_of) c.deref.ensures.value in
    let listed = c.in_ok-names.ensures.names honest (main_file log) in (
      (λ has. listed.0 (by_file names log (subst (λ (ls : List LogFiles). Contains ls log) are has))),
      (λ there. subst (λ (ls : List LogFiles). Contains ls log) (sym are) (of_file names log (listed.1 there))),
    )
