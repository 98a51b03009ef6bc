-- The digest of a list of items.
use Rattle.std.specs.Prelude.{◌≡◌, ◌-◌, ◌^◌, ℕ, List, length, min}
use Rattle.sha2.specs.Sha256.{sha256}
use Rattle.sha2.specs.Hashers.{Holds256}
use Rattle.dl_pipe.specs.declared.form.Form.TheVariants as form
use Rattle.dl_pipe.specs.Form.{items_text}
use Rattle.dl_digest.specs.declared.digest.Hashing.{Hashing}
use Rattle.dl_digest.specs.declared.digest.ItemsDigest.{ItemsDigest}

-- how many items there are, and SHA-256 of what a raw dump of them writes
abbrev pub digest_of : List (List ℕ) → ItemsDigest
digest_of items = record { items = min (length items) (2 ^ 64 - 1); hash = sha256 (items_text form.Raw items) }

-- these items were taken
pub record Holds (hashing : Hashing) (taken : List (List ℕ)) : Type 0 where
  pub count : hashing.items ≡ min (length taken) (2 ^ 64 - 1)
  pub text : Holds256 hashing.hasher (items_text form.Raw taken)
