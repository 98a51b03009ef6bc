use Rattle.std.proofs.Common.{◌≡◌, true, List, IfSome, subst}
use Rattle.dl_app.specs.declared.command.Command.{Command}
use Rattle.dl_threads.specs.Lines.{texts_of}
use Rattle.dl_threads.specs.Played.{Plays}
use Rattle.dl_threads.proofs.Promised.{reads_plays}
use Rattle.dl_threads.proofs.client.play.Goals as goal

pub returns : goal.returns
returns g c =
    let plays = subst (λ (commands : List Command). IfSome c.play_commands.result (λ done. c.args.kept ≡ true → Plays c.args.own commands done)) c.as_slice.ensures.value c.play_commands.ensures in
    reads_plays c.play_commands.result c.args.own (texts_of c.args.lines.now) c.in-Ok.commands.items c.args.kept c.in-Ok.ensures plays
