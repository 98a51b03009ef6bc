-- Which words have the form of a call.
use Rattle.std.proofs.Common.{◌≡◌, ℕ, ℤ, ◌==◌, Bool, true, false, Option, Some, None, List, [], ◌∷◌, length, codes, refl, sym, ◌∙◌, IfSome, IfNone, subst, ap, get_or}
use Rattle.std.proofs.lemmas.Bool.{eqb-false}
use Rattle.std.proofs.Math.Dec.{eqb-suc-zero}
use Rattle.std.specs.Bool.{then_some}
use Rattle.std.specs.Borrow.{Bor}
use Rattle.dl_types.specs.declared.name.Base.{Base}
use Rattle.dl_types.specs.declared.size.Kind.{Kind}
use Rattle.dl_types.specs.declared.size.Size.{Size}
use Rattle.dl_app.specs.declared.command.Request.{Request}
use Rattle.dl_app.specs.declared.command.Request.TheVariants.{Open, Log, Alog, Chunk, ChunkStep, Truncate, Reopen, NextFile, ChangeSize, Sync, Block, Unblock, Info, Close}
use Rattle.dl_app.specs.declared.command.Start.{Start}
use Rattle.dl_app.specs.declared.options.Settings.{Settings}
use Rattle.dl_app.specs.Command.{GivesRequest, GivesArgs, GivesChunk, GivesStep, GivesHead, GivesMove, GivesSize, GivesBlock, request_word}

pub none_holds : {A : Type 0} (o : Option A) (P : Type 0) → P → IfNone o P
none_holds None P p = p
none_holds (Some x) P p = tt

pub none_maps : {A : Type 0} (o : Option A) (P Q : Type 0) → (P → Q) → IfNone o P → IfNone o Q
none_maps None P Q f p = f p
none_maps (Some x) P Q f p = tt

-- two words that differ at a letter
apart : (verb v w : List ℕ) (k : ℕ) → verb ≡ v → verb ≡ w → (get_or v k 0 == get_or w k 0) ≡ false → ⊥
apart verb v w k is same differs = eqb-false _ _ differs (ap (λ (word : List ℕ). get_or word k 0) (sym is ∙ same))

-- an open whose words give no settings
pub no_open : (verb : List ℕ) (words : List (List ℕ)) → verb ≡ codes "open" → ((kind : Kind) (settings : Settings) → GivesArgs words kind settings → ⊥) → (request : Request) → verb ≡ request_word request → GivesRequest words request → ⊥
no_open verb words is none (Open kind settings) same given = none kind settings given
no_open verb words is none (Log items) same given = apart verb (codes "open") (codes "log") 0 is same refl
no_open verb words is none (Alog items) same given = apart verb (codes "open") (codes "alog") 0 is same refl
no_open verb words is none (Chunk from most) same given = apart verb (codes "open") (codes "chunk") 0 is same refl
no_open verb words is none (ChunkStep from by) same given = apart verb (codes "open") (codes "step") 0 is same refl
no_open verb words is none (Truncate head) same given = apart verb (codes "open") (codes "truncate") 0 is same refl
no_open verb words is none (Reopen target head) same given = apart verb (codes "open") (codes "reopen") 0 is same refl
no_open verb words is none NextFile same given = apart verb (codes "open") (codes "nextfile") 0 is same refl
no_open verb words is none (ChangeSize size) same given = apart verb (codes "open") (codes "size") 0 is same refl
no_open verb words is none Sync same given = apart verb (codes "open") (codes "sync") 0 is same refl
no_open verb words is none (Block queue) same given = apart verb (codes "open") (codes "block") 0 is same refl
no_open verb words is none Unblock same given = apart verb (codes "open") (codes "unblock") 0 is same refl
no_open verb words is none Info same given = apart verb (codes "open") (codes "info") 0 is same refl
no_open verb words is none Close same given = apart verb (codes "open") (codes "close") 0 is same refl

-- the verb `chunk`, with words that are not those of a chunk
pub no_chunk : (verb : List ℕ) (words : List (List ℕ)) → verb ≡ codes "chunk" → ((from : Start) (most : ℕ) → GivesChunk words from most → ⊥) → (request : Request) → verb ≡ request_word request → GivesRequest words request → ⊥
no_chunk verb words is none (Open kind settings) same given = apart verb (codes "chunk") (codes "open") 0 is same refl
no_chunk verb words is none (Log items) same given = apart verb (codes "chunk") (codes "log") 0 is same refl
no_chunk verb words is none (Alog items) same given = apart verb (codes "chunk") (codes "alog") 0 is same refl
no_chunk verb words is none (Chunk from most) same given = none from most given
no_chunk verb words is none (ChunkStep from by) same given = apart verb (codes "chunk") (codes "step") 0 is same refl
no_chunk verb words is none (Truncate head) same given = apart verb (codes "chunk") (codes "truncate") 0 is same refl
no_chunk verb words is none (Reopen target head) same given = apart verb (codes "chunk") (codes "reopen") 0 is same refl
no_chunk verb words is none NextFile same given = apart verb (codes "chunk") (codes "nextfile") 0 is same refl
no_chunk verb words is none (ChangeSize size) same given = apart verb (codes "chunk") (codes "size") 0 is same refl
no_chunk verb words is none Sync same given = apart verb (codes "chunk") (codes "sync") 0 is same refl
no_chunk verb words is none (Block queue) same given = apart verb (codes "chunk") (codes "block") 0 is same refl
no_chunk verb words is none Unblock same given = apart verb (codes "chunk") (codes "unblock") 0 is same refl
no_chunk verb words is none Info same given = apart verb (codes "chunk") (codes "info") 0 is same refl
no_chunk verb words is none Close same given = apart verb (codes "chunk") (codes "close") 1 is same refl

-- the verb `step`, with words that are not those of a step
pub no_step : (verb : List ℕ) (words : List (List ℕ)) → verb ≡ codes "step" → ((from : Start) (by : ℤ) → GivesStep words from by → ⊥) → (request : Request) → verb ≡ request_word request → GivesRequest words request → ⊥
no_step verb words is none (Open kind settings) same given = apart verb (codes "step") (codes "open") 0 is same refl
no_step verb words is none (Log items) same given = apart verb (codes "step") (codes "log") 0 is same refl
no_step verb words is none (Alog items) same given = apart verb (codes "step") (codes "alog") 0 is same refl
no_step verb words is none (Chunk from most) same given = apart verb (codes "step") (codes "chunk") 0 is same refl
no_step verb words is none (ChunkStep from by) same given = none from by given
no_step verb words is none (Truncate head) same given = apart verb (codes "step") (codes "truncate") 0 is same refl
no_step verb words is none (Reopen target head) same given = apart verb (codes "step") (codes "reopen") 0 is same refl
no_step verb words is none NextFile same given = apart verb (codes "step") (codes "nextfile") 0 is same refl
no_step verb words is none (ChangeSize size) same given = apart verb (codes "step") (codes "size") 1 is same refl
no_step verb words is none Sync same given = apart verb (codes "step") (codes "sync") 1 is same refl
no_step verb words is none (Block queue) same given = apart verb (codes "step") (codes "block") 0 is same refl
no_step verb words is none Unblock same given = apart verb (codes "step") (codes "unblock") 0 is same refl
no_step verb words is none Info same given = apart verb (codes "step") (codes "info") 0 is same refl
no_step verb words is none Close same given = apart verb (codes "step") (codes "close") 0 is same refl

-- the verb `truncate`, with words that are not those of a truncate
pub no_truncate : (verb : List ℕ) (words : List (List ℕ)) → verb ≡ codes "truncate" → ((head : Option (Bor (List ℕ))) → GivesHead words head → ⊥) → (request : Request) → verb ≡ request_word request → GivesRequest words request → ⊥
no_truncate verb words is none (Open kind settings) same given = apart verb (codes "truncate") (codes "open") 0 is same refl
no_truncate verb words is none (Log items) same given = apart verb (codes "truncate") (codes "log") 0 is same refl
no_truncate verb words is none (Alog items) same given = apart verb (codes "truncate") (codes "alog") 0 is same refl
no_truncate verb words is none (Chunk from most) same given = apart verb (codes "truncate") (codes "chunk") 0 is same refl
no_truncate verb words is none (ChunkStep from by) same given = apart verb (codes "truncate") (codes "step") 0 is same refl
no_truncate verb words is none (Truncate head) same given = none head given
no_truncate verb words is none (Reopen target head) same given = apart verb (codes "truncate") (codes "reopen") 0 is same refl
no_truncate verb words is none NextFile same given = apart verb (codes "truncate") (codes "nextfile") 0 is same refl
no_truncate verb words is none (ChangeSize size) same given = apart verb (codes "truncate") (codes "size") 0 is same refl
no_truncate verb words is none Sync same given = apart verb (codes "truncate") (codes "sync") 0 is same refl
no_truncate verb words is none (Block queue) same given = apart verb (codes "truncate") (codes "block") 0 is same refl
no_truncate verb words is none Unblock same given = apart verb (codes "truncate") (codes "unblock") 0 is same refl
no_truncate verb words is none Info same given = apart verb (codes "truncate") (codes "info") 0 is same refl
no_truncate verb words is none Close same given = apart verb (codes "truncate") (codes "close") 0 is same refl

-- the verb `reopen`, with words that are not those of a reopen
pub no_reopen : (verb : List ℕ) (words : List (List ℕ)) → verb ≡ codes "reopen" → ((target : Base) (head : Option (Bor (List ℕ))) → GivesMove words target head → ⊥) → (request : Request) → verb ≡ request_word request → GivesRequest words request → ⊥
no_reopen verb words is none (Open kind settings) same given = apart verb (codes "reopen") (codes "open") 0 is same refl
no_reopen verb words is none (Log items) same given = apart verb (codes "reopen") (codes "log") 0 is same refl
no_reopen verb words is none (Alog items) same given = apart verb (codes "reopen") (codes "alog") 0 is same refl
no_reopen verb words is none (Chunk from most) same given = apart verb (codes "reopen") (codes "chunk") 0 is same refl
no_reopen verb words is none (ChunkStep from by) same given = apart verb (codes "reopen") (codes "step") 0 is same refl
no_reopen verb words is none (Truncate head) same given = apart verb (codes "reopen") (codes "truncate") 0 is same refl
no_reopen verb words is none (Reopen target head) same given = none target head given
no_reopen verb words is none NextFile same given = apart verb (codes "reopen") (codes "nextfile") 0 is same refl
no_reopen verb words is none (ChangeSize size) same given = apart verb (codes "reopen") (codes "size") 0 is same refl
no_reopen verb words is none Sync same given = apart verb (codes "reopen") (codes "sync") 0 is same refl
no_reopen verb words is none (Block queue) same given = apart verb (codes "reopen") (codes "block") 0 is same refl
no_reopen verb words is none Unblock same given = apart verb (codes "reopen") (codes "unblock") 0 is same refl
no_reopen verb words is none Info same given = apart verb (codes "reopen") (codes "info") 0 is same refl
no_reopen verb words is none Close same given = apart verb (codes "reopen") (codes "close") 0 is same refl

-- the verb `size`, with words that are not those of a size
pub no_size : (verb : List ℕ) (words : List (List ℕ)) → verb ≡ codes "size" → ((size : Size) → GivesSize words size → ⊥) → (request : Request) → verb ≡ request_word request → GivesRequest words request → ⊥
no_size verb words is none (Open kind settings) same given = apart verb (codes "size") (codes "open") 0 is same refl
no_size verb words is none (Log items) same given = apart verb (codes "size") (codes "log") 0 is same refl
no_size verb words is none (Alog items) same given = apart verb (codes "size") (codes "alog") 0 is same refl
no_size verb words is none (Chunk from most) same given = apart verb (codes "size") (codes "chunk") 0 is same refl
no_size verb words is none (ChunkStep from by) same given = apart verb (codes "size") (codes "step") 1 is same refl
no_size verb words is none (Truncate head) same given = apart verb (codes "size") (codes "truncate") 0 is same refl
no_size verb words is none (Reopen target head) same given = apart verb (codes "size") (codes "reopen") 0 is same refl
no_size verb words is none NextFile same given = apart verb (codes "size") (codes "nextfile") 0 is same refl
no_size verb words is none (ChangeSize size) same given = none size given
no_size verb words is none Sync same given = apart verb (codes "size") (codes "sync") 1 is same refl
no_size verb words is none (Block queue) same given = apart verb (codes "size") (codes "block") 0 is same refl
no_size verb words is none Unblock same given = apart verb (codes "size") (codes "unblock") 0 is same refl
no_size verb words is none Info same given = apart verb (codes "size") (codes "info") 0 is same refl
no_size verb words is none Close same given = apart verb (codes "size") (codes "close") 0 is same refl

-- the verb `block`, with words that are not those of a block
pub no_block : (verb : List ℕ) (words : List (List ℕ)) → verb ≡ codes "block" → ((queue : Bool) → GivesBlock words queue → ⊥) → (request : Request) → verb ≡ request_word request → GivesRequest words request → ⊥
no_block verb words is none (Open kind settings) same given = apart verb (codes "block") (codes "open") 0 is same refl
no_block verb words is none (Log items) same given = apart verb (codes "block") (codes "log") 0 is same refl
no_block verb words is none (Alog items) same given = apart verb (codes "block") (codes "alog") 0 is same refl
no_block verb words is none (Chunk from most) same given = apart verb (codes "block") (codes "chunk") 0 is same refl
no_block verb words is none (ChunkStep from by) same given = apart verb (codes "block") (codes "step") 0 is same refl
no_block verb words is none (Truncate head) same given = apart verb (codes "block") (codes "truncate") 0 is same refl
no_block verb words is none (Reopen target head) same given = apart verb (codes "block") (codes "reopen") 0 is same refl
no_block verb words is none NextFile same given = apart verb (codes "block") (codes "nextfile") 0 is same refl
no_block verb words is none (ChangeSize size) same given = apart verb (codes "block") (codes "size") 0 is same refl
no_block verb words is none Sync same given = apart verb (codes "block") (codes "sync") 0 is same refl
no_block verb words is none (Block queue) same given = none queue given
no_block verb words is none Unblock same given = apart verb (codes "block") (codes "unblock") 0 is same refl
no_block verb words is none Info same given = apart verb (codes "block") (codes "info") 0 is same refl
no_block verb words is none Close same given = apart verb (codes "block") (codes "close") 0 is same refl

-- what is given if no word is left
pub if_ended : {A : Type 0} (P : A → Type 0) (x : A) (rest : List (List ℕ)) → (rest ≡ [] → P x) → (b : Bool) → b ≡ (length rest == 0) → (r : Option A) → r ≡ then_some b x → IfSome r P
if_ended P x rest holds b all None e = tt
if_ended P x [] holds true all (Some y) e = let same : x ≡ y = cc in subst P same (holds refl)
if_ended P x (word ∷ rest) holds true all (Some y) e = let bad : ⊥ = cc (eqb-suc-zero (length rest)) in absurd bad
if_ended P x rest holds false all (Some y) e = let bad : ⊥ = cc in absurd bad

-- one word, and no other
pub only_word : (words rest : List (List ℕ)) (word : List ℕ) (b : Bool) → words ≡ word ∷ rest → b ≡ (length rest == 0) → b ≡ true → words ≡ word ∷ []
only_word words [] word b at is ended = at
only_word words (other ∷ rest) word b at is ended = let bad : ⊥ = cc (eqb-suc-zero (length rest)) in absurd bad
