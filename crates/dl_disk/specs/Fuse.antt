-- What a fuse counts of a disk's calls, and which call it fails.
use Rattle.std.specs.Prelude.{◌≡◌, ℕ, ◌+◌, ◌-◌, ◌^◌, min, List, Bool, true, false, ◌&&◌, IsTrue, IsFalse, nat_eq, Option, Some, None, Result, IsErr, if◌then◌else◌}
use Rattle.dl_types.specs.declared.name.Base.{Base}
use Rattle.dl_types.specs.Name.{same_base}
use Rattle.dl_disk.specs.Disk.{DiskState, IsCallOn}
use Rattle.dl_disk.specs.Memory.{count_of, has_count}
use Rattle.dl_disk.specs.declared.fuse.Fuse.{Fuse}
use Rattle.dl_disk.specs.declared.fuse.Fuse.TheVariants.{One, All}

-- a disk and its fuse: how many calls it has met, how many it still lets pass, if it is to blow at all, and the faults by base
pub record FuseView (D : Type 0) : Type 0 where
  pub inner : D
  pub base : Option Base
  pub fuse : Fuse
  pub left : Option ℕ
  pub passed : ℕ
  pub counts : List (Base × ℕ)

-- the fuse counts the calls on the files of this base
abbrev pub is_met : Option Base → Base → Bool
is_met None base = true
is_met (Some own) base = same_base own base

-- no call is left to pass
abbrev pub is_spent : Option ℕ → Bool
is_spent None = false
is_spent (Some calls) = nat_eq calls 0

-- how many calls are left to pass after the fuse blew: all, or none
abbrev pub blown : Fuse → Option ℕ
blown One = None
blown All = Some 0

-- how many calls are left to pass, after the next one
abbrev pub left_after : Fuse → Option ℕ → Option ℕ
left_after fuse None = None
left_after fuse (Some calls) = if nat_eq calls 0 then blown fuse else Some (calls - 1)

module _ {D : Type 0} where
  -- the next call on the files of this base fails
  abbrev pub is_blown : FuseView D → Base → Bool
  is_blown disk base = is_met disk.base base && is_spent disk.left

  -- the disk after a call on the files of this base has asked the fuse
  abbrev pub asked : FuseView D → Base → FuseView D
  asked disk base = record disk {
    left = if is_met disk.base base then left_after disk.fuse disk.left else disk.left;
    passed = if is_met disk.base base then min (disk.passed + 1) (2 ^ 64 - 1) else disk.passed;
  }

  -- the files of the disk below, with the faults that are counted above it
  abbrev pub fuse_state : (D → DiskState) → FuseView D → DiskState
  fuse_state state disk = record (state disk.inner) { faults = count_of disk.counts; known = λ b. (state disk.inner).known b && has_count disk.counts b }

-- a call on the files of a base asks the fuse: if it blows, the answer is a fault and the disk below is not called; otherwise it is called
pub record AsksFuse {D T E : Type 0} (state : D → DiskState) (base : Base) (old new : FuseView D) (result : Result T E) : Type 0 where
  pub fuse : new ≡ record (asked old base) { inner = new.inner; counts = new.counts }
  pub blown : IsTrue (is_blown old base) → IsErr result
  pub spared : IsTrue (is_blown old base) → new.inner ≡ old.inner
  pub made : IsFalse (is_blown old base) → IsCallOn base (state old.inner) (state new.inner) result

-- a call on the files of a base is one call of the disk above, whose fuse it asks
pub record IsFuseCall {D T E : Type 0} (state : D → DiskState) (base : Base) (old new : FuseView D) (result : Result T E) : Type 0 where
  pub device : IsCallOn base (fuse_state state old) (fuse_state state new) result
  pub asks : AsksFuse state base old new result
