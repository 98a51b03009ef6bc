-- One line more is compared.
use Rattle.std.proofs.Common.{◌≡◌, ◌≢◌, List, [], ◌∷◌, ◌++◌, refl, subst}
use Rattle.dl_types.specs.declared.name.Name.{Name}
use Rattle.dl_types.specs.declared.size.Kind.{Kind}
use Rattle.dl_disk.specs.Disk.{DiskState}
use Rattle.dl_hub.specs.View.{HubView}
use Rattle.dl_digest.specs.declared.compare.Compared.{Compared}
use Rattle.dl_digest.specs.declared.line.DigestLine.{DigestLine}
use Rattle.dl_digest.specs.declared.log.LogDigests.{LogDigests}
use Rattle.dl_digest.specs.Compare.{AreCompared, IsCompared, IsLogCompared}
use Rattle.dl_digest.specs.Log.{whole_args, IsDigested}

module _ {D Z : Type 0} (state : D → DiskState) (log : Name) (kind : Kind) where
  pub compared_more : (now : LogDigests Z) (lines xs : List DigestLine) (cs : List Compared) (x : DigestLine) (c : Compared) (old mid new : HubView D)
      → AreCompared state Z log kind now lines xs cs old mid → c.line ≡ x → IsCompared state Z log kind now lines x.extent x.digest c.verdict mid new
      → AreCompared state Z log kind now lines (xs ++ x ∷ []) (cs ++ c ∷ []) old new
  compared_more now lines [] [] x c old mid new first is last = (new, is, subst (λ (v : HubView D). IsCompared state Z log kind now lines x.extent x.digest c.verdict v new) first last, refl)
  compared_more now lines [] (d ∷ cs) x c old mid new first is last = absurd first
  compared_more now lines (y ∷ xs) [] x c old mid new first is last = absurd first
  compared_more now lines (y ∷ xs) (d ∷ cs) x c old mid new first is last =
      (first.0, first.1, first.2, compared_more now lines xs cs x c first.0 mid new first.3 is last)

  -- a log was held against lines, of which there are some
  pub log_compared : (own lines : List DigestLine) (compared : List Compared) (now : LogDigests Z) (old mid new : HubView D) → own ≡ lines → own ≢ []
      → IsDigested state Z log (whole_args kind) now old mid → AreCompared state Z log kind now own own compared mid new → IsLogCompared state Z log kind lines compared old new
  log_compared [] lines compared now old mid new is some read each = absurd (some refl)
  log_compared (x ∷ xs) lines compared now old mid new is some read each = subst (λ (ls : List DigestLine). IsLogCompared state Z log kind ls compared old new) is (now, mid, read, each)
