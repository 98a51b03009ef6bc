-- What a disk in memory is seen as: its files as a finite map, and its counts of faults as a list.
use Rattle.std.specs.Prelude.{ℕ, List, map, Bool, true, Vec, unwrap_or, is_some, refl}
use Rattle.std.specs.FinMap.{from_entries}
use Rattle.std.specs.Map.{lookup}
use Rattle.std.specs.Coded.{Coded, code_by, coded×, coded_ℕ, coded_list}
use Rattle.dl_types.specs.declared.name.Base.{Base}
use Rattle.dl_types.specs.declared.file.FileName.{FileName}
use Rattle.dl_types.specs.Name.{same_base}
use Rattle.dl_types.specs.FileName.{Content, coded_content}
use Rattle.dl_disk.specs.Disk.{DiskState}

-- the files that are there, how many faults each known base has had, and the most bytes that a read was asked for
pub record DiskView : Type 0 where
  pub content : Content
  pub counts : List (Base × ℕ)
  pub longest : ℕ

-- a base is stored as its bytes
abbrev pub coded_base : Coded Base
coded_base = code_by (List ℕ) (coded_list coded_ℕ) (λ b. b.text) (λ t. record { text = t }) (λ _. refl)

-- a view is stored as its parts
abbrev pub coded_view : Coded DiskView
coded_view =
    code_by (Content × (List (Base × ℕ) × ℕ)) (coded× coded_content (coded× (coded_list (coded× coded_base coded_ℕ)) coded_ℕ))
    (λ v. (v.content, (v.counts, v.longest))) (λ p. record { content = p.0; counts = p.1.0; longest = p.1.1 }) (λ _. refl)

-- how many faults a base has had
abbrev pub count_of : List (Base × ℕ) → Base → ℕ
count_of counts base = unwrap_or (lookup (same_base base) counts) 0

-- a base has a count
abbrev pub has_count : List (Base × ℕ) → Base → Bool
has_count counts base = is_some (lookup (same_base base) counts)

-- the disk of a view, which is honest
abbrev pub disk_state : DiskView → DiskState
disk_state d = record { content = d.content; honest = true; faults = count_of d.counts; known = has_count d.counts }

module _ {Z : Type 0} where
  -- a file with the bytes of its vector
  abbrev pub with_bytes : FileName × Vec ℕ Z → FileName × List ℕ
  with_bytes entry = (entry.0, entry.1.items)

  -- the files of a table
  abbrev pub content_of : List (FileName × Vec ℕ Z) → Content
  content_of entries = from_entries (map with_bytes entries)
