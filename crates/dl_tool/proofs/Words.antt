-- The words that most proofs of this crate use.
pub use Rattle.dl_disk.proofs.Acts.{acts_then}
pub use Rattle.dl_disk.specs.Disk.{DiskState, text_at}
pub use Rattle.dl_file.specs.Open.{OpensAs}
pub use Rattle.dl_file.specs.declared.found.Found.{Found}
pub use Rattle.dl_index.specs.declared.entry.Entry.{Entry}
pub use Rattle.dl_reader.specs.declared.files.FileFacts.{FileFacts}
pub use Rattle.dl_tool.specs.Finding.{IsFinding}
pub use Rattle.dl_tool.specs.Folder.{main_file}
pub use Rattle.dl_tool.specs.Named.{index_of, IsNamed}
pub use Rattle.dl_tool.specs.Reads.{ReadsLog}
pub use Rattle.dl_tool.specs.Report.{is_clean, is_unread}
pub use Rattle.dl_tool.specs.Stray.{ArePicked}
pub use Rattle.dl_tool.specs.declared.finding.Amount.{Amount}
pub use Rattle.dl_tool.specs.declared.finding.CheckFault.{CheckFault}
pub use Rattle.dl_tool.specs.declared.finding.Finding.{Finding}
pub use Rattle.dl_tool.specs.declared.line.LogFiles.{LogFiles}
pub use Rattle.dl_tool.specs.declared.named.Named.{Named}
pub use Rattle.dl_tool.specs.declared.table.Row.{Row}
pub use Rattle.dl_types.specs.Add.{capped}
pub use Rattle.dl_types.specs.FileName.{Content, numbered_file}
pub use Rattle.dl_types.specs.Frame.{needs_repair}
pub use Rattle.dl_types.specs.Name.{same_base}
pub use Rattle.dl_types.specs.Open.{taken_up}
pub use Rattle.dl_types.specs.declared.file.FileName.{FileName}
pub use Rattle.dl_types.specs.declared.head.Head.{Head}
pub use Rattle.dl_types.specs.declared.name.Base.{Base}
pub use Rattle.dl_types.specs.declared.reply.Reply.TheVariants.{Opened, Repaired}
pub use Rattle.dl_types.specs.declared.size.Kind.{Kind}
pub use Rattle.dl_types.specs.declared.size.Kind.TheVariants.{Halt, Wrap}
pub use Rattle.dl_types.specs.declared.size.Mode.TheVariants.{ReadWrite}
pub use Rattle.dl_types.specs.declared.size.Repair.TheVariants.{Yes}
pub use Rattle.dl_wrap.specs.ReadOnly.{read_facts}
pub use Rattle.std.proofs.lemmas.List.{map-append, take_more}
pub use Rattle.std.specs.List.{Contains, list_all, list_any}
