-- The items so far, and those of the words that are left, are those of all words, and none of the words so far is too long.
use Rattle.std.proofs.Common.{◌≡◌, ◌≤◌, ◌++◌, map, length}
use Rattle.std.specs.List.{list_any}
use Rattle.dl_app.specs.Words.{words_left}
use Rattle.dl_app.specs.Items.{item_bytes, is_too_long}
use Rattle.dl_app.proofs.items.items_of.Given as goal

abbrev pub invariant-loop-word : goal.invariant-loop-word
invariant-loop-word g l = record {
  items : l.items.items ++ map item_bytes (words_left l.word-iterator) ≡ map item_bytes (words_left l.words);
  left : length (words_left l.word-iterator) ≤ length (words_left l.words);
  short : list_any is_too_long (words_left l.words) ≡ list_any is_too_long (words_left l.word-iterator);
}
