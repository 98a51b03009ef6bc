-- The commands so far are those of the lines before the rest.
use Rattle.std.proofs.Common.{drop}
use Rattle.dl_threads.specs.Lines.{texts_of}
use Rattle.dl_threads.proofs.Commands.{ReadsOn}
use Rattle.dl_threads.proofs.parts.commands_of.Given as goal

abbrev pub invariant-loop-line : goal.invariant-loop-line
invariant-loop-line l = ReadsOn (texts_of l.lines) l.commands.items (texts_of (drop l.line-index l.lines))
