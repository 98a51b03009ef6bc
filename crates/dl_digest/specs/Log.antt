-- What the digests of a log are of.
use Rattle.std.specs.Prelude.{◌≡◌, ◌⊎◌, ◌-◌, ◌^◌, ℕ, false, List, None, Some, map}
use Rattle.dl_types.specs.declared.name.Name.{Name}
use Rattle.dl_types.specs.declared.reply.Outcome.{Outcome}
use Rattle.dl_types.specs.declared.reply.Reply.TheVariants as reply
use Rattle.dl_types.specs.declared.size.Kind.{Kind}
use Rattle.dl_disk.specs.Disk.{DiskState}
use Rattle.dl_hub.specs.View.{HubView}
use Rattle.dl_pipe.specs.declared.dump.DumpArgs.{DumpArgs}
use Rattle.dl_pipe.specs.declared.fault.PipeFault.{PipeFault}
use Rattle.dl_pipe.specs.declared.fault.PipeFault.TheVariants as fault
use Rattle.dl_pipe.specs.declared.form.Form.TheVariants as form
use Rattle.dl_pipe.specs.Dump.{IsDump, IsStuck, IsUnclosed}
use Rattle.dl_pipe.specs.Reading.{gaps_of, items_of, IsReadOut}
use Rattle.dl_digest.specs.declared.log.DigestArgs.{DigestArgs}
use Rattle.dl_digest.specs.declared.log.LogDigests.{LogDigests}
use Rattle.dl_digest.specs.Digest.{digest_of}
use Rattle.dl_digest.specs.Files.{by_file, file_digest, parts_of}

-- all items of a log
abbrev pub whole_args : Kind → DigestArgs
whole_args kind = record { kind = kind; from = None; most = 2 ^ 64 - 1 }

-- the first `items` items from the front of the file of a generation on
abbrev pub front_args : Kind → ℕ → ℕ → DigestArgs
front_args kind generation items = record { kind = kind; from = Some (record { generation = generation; before = 0 }); most = items }

-- the raw dump of the same items
abbrev pub dump_args : DigestArgs → DumpArgs
dump_args args = record { kind = args.kind; from = args.from; most = args.most; form = form.Raw; places = false }

module _ {Z : Type 0} where
  -- the digests of the items that these chunks gave, of each file and of all, and the bad bytes that they report
  pub record AreDigestsOf (given : List (Outcome Z)) (digests : LogDigests Z) : Type 0 where
    pub files : digests.files.items ≡ map file_digest (by_file (parts_of given))
    pub all : digests.all ≡ digest_of (items_of given)
    pub gaps : digests.gaps.items ≡ gaps_of 0 given

  -- why reading ended early: the reply to the last chunk, no memory, or too many chunks to count
  abbrev pub HasStopped : List (Outcome Z) → PipeFault → Type 0
  HasStopped given stopped = IsStuck given stopped ⊎ ((stopped ≡ fault.OutOfMemory) ⊎ (stopped ≡ fault.Endless))

module _ {D : Type 0} (state : D → DiskState) (Z : Type 0) (log : Name) (args : DigestArgs) where
  -- the log was opened, read as a dump reads it, to its end or as far as was asked for, and closed, and these are the digests of what its chunks gave
  pub record IsDigested (digests : LogDigests Z) (old new : HubView D) : Type 0 where
    pub given : List (Outcome Z)
    pub closed : Outcome Z
    pub dump : IsDump state Z log (dump_args args) given closed old new
    pub read_out : IsReadOut args.most given
    pub is_closed : closed.reply ≡ reply.Done
    pub taken : AreDigestsOf given digests

  -- the log was read up to a fault, and closed: reading stopped with it, the close failed with it, or memory was refused after that
  pub record IsCut (stopped : PipeFault) (old new : HubView D) : Type 0 where
    pub given : List (Outcome Z)
    pub closed : Outcome Z
    pub dump : IsDump state Z log (dump_args args) given closed old new
    pub fault : HasStopped given stopped ⊎ IsUnclosed closed.reply stopped
