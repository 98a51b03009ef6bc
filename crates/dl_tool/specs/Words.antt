-- The words that most definitions of this crate use.
pub use Rattle.dl_disk.specs.Disk.{DiskState, text_at}
pub use Rattle.dl_index.specs.declared.entry.Limits.{Limits}
pub use Rattle.dl_tool.specs.declared.finding.Amount.{Amount}
pub use Rattle.dl_tool.specs.declared.finding.Finding.{Finding}
pub use Rattle.dl_tool.specs.declared.finding.Finding.TheVariants.{Absent, Clean, Refused, Torn, Unread}
pub use Rattle.dl_tool.specs.declared.line.LogFiles.{LogFiles}
pub use Rattle.dl_types.specs.FileName.{Content}
pub use Rattle.dl_types.specs.Name.{base_text}
pub use Rattle.dl_types.specs.Printed.{kind_word, printed_file}
pub use Rattle.dl_types.specs.State.{Files}
pub use Rattle.dl_types.specs.declared.file.FileName.{FileName}
pub use Rattle.dl_types.specs.declared.name.Base.{Base}
pub use Rattle.dl_types.specs.declared.size.Kind.{Kind}
pub use Rattle.std.specs.Fmt.{decimal}
