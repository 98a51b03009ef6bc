-- Files that are newer than the index of their base.
use Rattle.std.specs.Prelude.{◌≡◌, ◌<◌, ℕ, List, Some}
use Rattle.dl_tool.specs.Words.{Content, FileName, Limits, text_at}
use Rattle.dl_types.specs.declared.head.Head.{Head}
use Rattle.dl_types.specs.Frame.{IsHead}
use Rattle.dl_index.specs.declared.entry.Entry.{Entry}
use Rattle.dl_index.specs.Entries.{current_of}
use Rattle.dl_index.specs.IndexText.{IsIndex}
use Rattle.dl_tool.specs.Named.{index_of}

-- a file begins with a head, and its generation is above that of the current file of the index of its base
pub record IsNewer (content : Content) (f : FileName) : Type 0 where
  pub text : List ℕ
  pub limits : Limits
  pub entries : List Entry
  pub there : index_of content f.base ≡ Some text
  pub index : IsIndex text limits entries
  pub says : Head
  pub head : IsHead (text_at content f) says
  pub above : (current_of entries).generation < says.generation
