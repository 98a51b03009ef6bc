-- Digests that were taken before, and what is there now.
use Rattle.std.specs.Prelude.{◌≡◌, ◌<◌, ◌⊎◌, ◌↔◌, ◌==◌, ℕ, List, [], ◌∷◌, Bool, true, false, Option, Some, None, All, ⊤, nat_lt, IsTrue, length, count_by, if◌then◌else◌}
use Rattle.std.specs.List.{list_any}
use Rattle.dl_types.specs.declared.name.Name.{Name}
use Rattle.dl_types.specs.declared.refusal.Refusal.TheVariants.{StaleContinuation}
use Rattle.dl_types.specs.declared.size.Kind.{Kind}
use Rattle.dl_disk.specs.Disk.{DiskState}
use Rattle.dl_hub.specs.View.{HubView}
use Rattle.dl_pipe.specs.declared.fault.PipeFault.TheVariants as pipe
use Rattle.dl_pipe.specs.Dump.{IsUnopened}
use Rattle.dl_digest.specs.declared.compare.Compared.{Compared}
use Rattle.dl_digest.specs.declared.compare.Verdict.{Verdict}
use Rattle.dl_digest.specs.declared.compare.Verdict.TheVariants.{Same, Gone, Shorter, Changed}
use Rattle.dl_digest.specs.declared.digest.ItemsDigest.{ItemsDigest}
use Rattle.dl_digest.specs.declared.files.FileDigest.{FileDigest}
use Rattle.dl_digest.specs.declared.line.DigestLine.{DigestLine}
use Rattle.dl_digest.specs.declared.line.Extent.{Extent}
use Rattle.dl_digest.specs.declared.line.Extent.TheVariants as extent
use Rattle.dl_digest.specs.declared.log.LogDigests.{LogDigests}
use Rattle.dl_digest.specs.Log.{dump_args, front_args, whole_args, IsCut, IsDigested}

-- the digest of the first file of a generation
abbrev pub digest_at : ℕ → List FileDigest → Option ItemsDigest
digest_at generation [] = None
digest_at generation (file ∷ files) = if file.generation == generation then Some file.digest else digest_at generation files

-- as many items have this digest, or another
pub record Agrees (verdict : Verdict) (kept now : ItemsDigest) : Type 0 where
  pub same : (verdict ≡ Same) ↔ (now ≡ kept)
  pub changed : (verdict ≡ Same) ⊎ (verdict ≡ Changed)

-- whether a line is of a file
abbrev pub is_file : Extent → Bool
is_file (extent.File generation) = true
is_file extent.All = false

-- a file has exactly the items that its line states
abbrev pub IsHeld : List FileDigest → Extent → ItemsDigest → Type 0
IsHeld files (extent.File generation) kept = digest_at generation files ≡ Some kept
IsHeld files extent.All kept = ⊤

-- a log has just the files with just the items that these lines of it tell
pub record HasKept (files : List FileDigest) (lines : List DigestLine) : Type 0 where
  pub count : count_by (λ line. is_file line.extent) lines ≡ length files
  pub each : All (λ line. IsHeld files line.extent line.digest) lines

-- one of these files is older than that of a generation
abbrev pub has_older : ℕ → List FileDigest → Bool
has_older generation files = list_any (λ file. nat_lt file.generation generation) files

module _ {D : Type 0} (state : D → DiskState) (Z : Type 0) (log : Name) (kind : Kind) where
  -- what became of the first items of a file, of which there are more now: they were read again
  pub record IsGrown (kept : ItemsDigest) (generation : ℕ) (verdict : Verdict) (old new : HubView D) : Type 0 where
    pub front : LogDigests Z
    pub read : IsDigested state Z log (front_args kind generation kept.items) front old new
    pub agrees : Agrees verdict kept front.all

  -- the front of the file of a generation is a place of the log: it was read from there on
  abbrev pub IsThere : ℕ → HubView D → HubView D → Type 0
  IsThere generation old new = (front : LogDigests Z) × IsDigested state Z log (front_args kind generation 1) front old new

  -- it is none: reading from there on stopped at a place that is stale
  abbrev pub IsNotThere : ℕ → HubView D → HubView D → Type 0
  IsNotThere generation old new =
      IsUnopened state Z log (dump_args (front_args kind generation 1)) (pipe.Refused StaleContinuation) old new ⊎ IsCut state Z log (front_args kind generation 1) (pipe.Refused StaleContinuation) old new

  -- what became of the items of a file that gives none now: if there were some, they are gone only where neither an older file nor this one is there
  pub record IsAbsentCompared (files : List FileDigest) (kept : ItemsDigest) (generation : ℕ) (verdict : Verdict) (old new : HubView D) : Type 0 where
    pub none : kept.items ≡ 0 → (verdict ≡ Gone) × (new ≡ old)
    pub older : 0 < kept.items → IsTrue (has_older generation files) → (verdict ≡ Shorter) × (new ≡ old)
    pub sought : 0 < kept.items → (IsTrue (has_older generation files) → ⊥) → ((verdict ≡ Shorter) × IsThere generation old new) ⊎ ((verdict ≡ Gone) × IsNotThere generation old new)

  -- what became of the first items of a file among these: it gives none now, has fewer items, as many, or more
  abbrev pub IsFileCompared : List FileDigest → Option ItemsDigest → ItemsDigest → ℕ → Verdict → HubView D → HubView D → Type 0
  IsFileCompared files None kept generation verdict old new = IsAbsentCompared files kept generation verdict old new
  IsFileCompared files (Some own) kept generation verdict old new =
      ((own.items < kept.items) × (verdict ≡ Shorter) × (new ≡ old)) ⊎ (((own.items ≡ kept.items) × Agrees verdict kept own × (new ≡ old)) ⊎ ((kept.items < own.items) × IsGrown kept generation verdict old new))

  -- what became of the items of a line, which is one of these lines of the log
  abbrev pub IsCompared : LogDigests Z → List DigestLine → Extent → ItemsDigest → Verdict → HubView D → HubView D → Type 0
  IsCompared now lines (extent.File generation) kept verdict old new = IsFileCompared now.files.items (digest_at generation now.files.items) kept generation verdict old new
  IsCompared now lines extent.All kept verdict old new =
      (new ≡ old) × (HasKept now.files.items lines → Agrees verdict kept now.all) × ((HasKept now.files.items lines → ⊥) → verdict ≡ Same)

  -- what became of the items of some of these lines, one line after another
  abbrev pub AreCompared : LogDigests Z → List DigestLine → List DigestLine → List Compared → HubView D → HubView D → Type 0
  AreCompared now lines [] [] old new = new ≡ old
  AreCompared now lines [] (c ∷ cs) old new = ⊥
  AreCompared now lines (x ∷ xs) [] old new = ⊥
  AreCompared now lines (x ∷ xs) (c ∷ cs) old new = (mid : HubView D) × (c.line ≡ x) × IsCompared now lines x.extent x.digest c.verdict old mid × AreCompared now lines xs cs mid new

  -- lines of the log were held against it, if there are any
  abbrev pub IsLogCompared : List DigestLine → List Compared → HubView D → HubView D → Type 0
  IsLogCompared [] compared old new = (compared ≡ []) × (new ≡ old)
  IsLogCompared (x ∷ xs) compared old new = (now : LogDigests Z) × (mid : HubView D) × IsDigested state Z log (whole_args kind) now old mid × AreCompared now (x ∷ xs) (x ∷ xs) compared mid new
