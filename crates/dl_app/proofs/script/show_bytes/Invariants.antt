-- The parts so far are written in two digits a byte.
use Rattle.std.proofs.Common.{◌≡◌, ◌++◌, ℕ, List}
use Rattle.std.specs.List.{flat_map}
use Rattle.std.specs.Slice.Iter.{chunks_rest}
use Rattle.std.specs.Io.KnownBytes.{Appends}
use Rattle.dl_lines.specs.Digits.{hex}
use Rattle.dl_app.proofs.script.show_bytes.Given as goal

abbrev pub invariant-loop-part : goal.invariant-loop-part
invariant-loop-part g l =
    (done : List ℕ) × (l.fn.bytes ≡ done ++ chunks_rest l.part-iterator) × Appends (g.W.Write.contents l.fn.output) (g.W.Write.contents l.output) (flat_map hex done)
