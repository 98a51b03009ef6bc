-- The words that most definitions of this crate use.
pub use Rattle.dl_cache.specs.declared.chain.Chain.{Chain}
pub use Rattle.dl_disk.specs.Disk.{DiskState}
pub use Rattle.dl_log.specs.View.{chain_of, LogView}
pub use Rattle.dl_owners.specs.Table.{members_of}
pub use Rattle.dl_types.specs.Members.{Members}
pub use Rattle.dl_types.specs.Notice.{Told}
pub use Rattle.dl_types.specs.State.{LogState}
pub use Rattle.dl_types.specs.declared.call.Call.{Call}
pub use Rattle.dl_types.specs.declared.name.Base.{Base}
pub use Rattle.dl_types.specs.declared.name.ClientId.{ClientId}
pub use Rattle.dl_types.specs.declared.name.Name.{Name}
pub use Rattle.dl_types.specs.declared.reply.Outcome.{Outcome}
pub use Rattle.dl_types.specs.declared.reply.Reply.{Reply}
pub use Rattle.dl_types.specs.declared.reply.Reply.TheVariants.{OutOfMemory, Refused}
pub use Rattle.dl_types.specs.declared.size.Kind.{Kind}
