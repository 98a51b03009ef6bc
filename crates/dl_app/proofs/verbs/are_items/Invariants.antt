-- If the words that are left all write items, all words do.
use Rattle.std.proofs.Common.{◌≡◌}
use Rattle.std.specs.List.{list_all}
use Rattle.dl_app.specs.Words.{words_left}
use Rattle.dl_app.specs.Items.{is_item}
use Rattle.dl_app.proofs.verbs.are_items.Given as goal

abbrev pub invariant-loop-word : goal.invariant-loop-word
invariant-loop-word l = list_all is_item (words_left l.word-iterator) ≡ list_all is_item (words_left l.words)
