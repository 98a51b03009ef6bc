-- None of the words that were passed was too long.
use Rattle.std.proofs.Common.{◌≡◌}
use Rattle.std.specs.List.{list_any}
use Rattle.dl_app.specs.Words.{words_left}
use Rattle.dl_app.specs.Items.{is_too_long}
use Rattle.dl_app.proofs.items.is_any_too_long.Given as goal

abbrev pub invariant-loop-word : goal.invariant-loop-word
invariant-loop-word l = list_any is_too_long (words_left l.word-iterator) ≡ list_any is_too_long (words_left l.words)
