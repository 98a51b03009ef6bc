-- What was taken of a stream, as frames and a rest.
use Rattle.std.proofs.Common.{◌≡◌, ◌≤◌, ◌<◌, ◌+◌, ℕ, List, [], ◌∷◌, ◌++◌, Option, Some, None, length, take, drop, sym, ap, subst, ◌∙◌, append_assoc, append-nil, arith}
use Rattle.std.specs.Int.{w32, from_be_bytes}
use Rattle.std.specs.List.{flat_map}
use Rattle.std.specs.Io.KnownBytes.{Appends, Consumes, IsAtEnd}
use Rattle.std.proofs.lemmas.List.{take-append-le, length-append, length-drop, drop-drop, flat_map_more}
use Rattle.std.proofs.lemmas.List.Concat.{flat_map-append, flat_map-cons}
use Rattle.dl_wire.specs.declared.limits.TheConstants.{FRAME_LIMIT}
use Rattle.dl_wire.specs.Answer.{frame_text}
use Rattle.dl_serve.specs.Frames.{IsLong, HasFrames}
use Rattle.dl_serve.specs.Serve.{joined}

-- the frames of these texts
abbrev pub frames_of : List (List ℕ) → List ℕ
frames_of texts = flat_map frame_text texts

-- frames before others
pub frames_then : (texts more : List (List ℕ)) (old new : List ℕ) → old ≡ frames_of more ++ new → frames_of texts ++ old ≡ frames_of (texts ++ more) ++ new
frames_then texts more old new is =
    ap (λ (l : List ℕ). frames_of texts ++ l) is ∙ sym (append_assoc (frames_of texts) (frames_of more) new)
    ∙ ap (λ (l : List ℕ). l ++ new) (sym (flat_map-append frame_text texts more))

-- the frames of one batch more
pub batches_then : (batches : List (List (List ℕ))) (batch : List (List ℕ)) (old new : List ℕ) → old ≡ frames_of batch ++ new → frames_of (joined batches) ++ old ≡ frames_of (joined (batches ++ batch ∷ [])) ++ new
batches_then batches batch old new is =
    frames_then (joined batches) batch old new is ∙ ap (λ (texts : List (List ℕ)). frames_of texts ++ new) (flat_map_more (λ (b : List (List ℕ)). b) [] batches batch)

-- one frame
pub frames_one : (text bytes rest : List ℕ) → bytes ≡ frame_text text ++ rest → bytes ≡ frames_of (text ∷ []) ++ rest
frames_one text bytes rest is =
    is ∙ ap (λ (l : List ℕ). l ++ rest) (sym (append-nil (frame_text text)) ∙ sym (flat_map-cons frame_text text []))

-- one frame more
pub frames_more : (texts : List (List ℕ)) (text bytes old new : List ℕ) → bytes ≡ frames_of texts ++ old → old ≡ frame_text text ++ new → bytes ≡ frames_of (texts ++ text ∷ []) ++ new
frames_more texts text bytes old new is begins = is ∙ frames_then texts (text ∷ []) old new (frames_one text old new begins)

-- what follows changes nothing of a length that is there
long_more : (rest more : List ℕ) → IsLong rest → IsLong (rest ++ more)
long_more rest more is =
    let front : take 4 (rest ++ more) ≡ take 4 rest = take-append-le 4 rest more is.begun in
    let begun : 4 ≤ length (rest ++ more) = omega (arith, is.begun, length-append rest more) in
    record { begun = begun; long = subst (λ (l : List ℕ). FRAME_LIMIT < from_be_bytes w32 l) (sym front) is.long }

-- a stream that ended
pub ended_frames : (a b : Option (List ℕ)) (texts : List (List ℕ)) (rest bytes : List ℕ) → Consumes a b ((frames_of texts ++ rest) ++ bytes) → bytes ≡ [] → IsAtEnd b → HasFrames a texts rest
ended_frames None b texts rest bytes taken none end = tt
ended_frames (Some xs) None texts rest bytes taken none end = absurd taken
ended_frames (Some xs) (Some ys) texts rest bytes taken none end =
    taken ∙ (λ i. ((frames_of texts ++ rest) ++ none i) ++ end i) ∙ append-nil ((frames_of texts ++ rest) ++ []) ∙ append-nil (frames_of texts ++ rest)

-- a stream in which a frame is too long
pub long_frames : (a b : Option (List ℕ)) (texts : List (List ℕ)) (rest : List ℕ) → Consumes a b (frames_of texts ++ rest) → IsLong rest → (all : List ℕ) × HasFrames a texts all × IsLong all
long_frames None b texts rest taken long = (rest, tt, long)
long_frames (Some xs) None texts rest taken long = absurd taken
long_frames (Some xs) (Some ys) texts rest taken long = (rest ++ ys, taken ∙ append_assoc (frames_of texts) rest ys, long_more rest ys long)

-- a frame more of bytes that are served from the front
pub front_more : (texts : List (List ℕ)) (text bytes rest : List ℕ) (at : ℕ) → bytes ≡ frames_of texts ++ drop at bytes → rest ≡ drop at bytes → rest ≡ frame_text text ++ drop (4 + length text) rest
    → bytes ≡ frames_of (texts ++ text ∷ []) ++ drop (at + (4 + length text)) bytes
front_more texts text bytes rest at is follows begins =
    let after : drop (4 + length text) rest ≡ drop (at + (4 + length text)) bytes = ap (λ (l : List ℕ). drop (4 + length text) l) follows ∙ drop-drop (4 + length text) at bytes in
    frames_more texts text bytes (drop at bytes) (drop (at + (4 + length text)) bytes) is (sym follows ∙ begins ∙ ap (λ (l : List ℕ). frame_text text ++ l) after)

pub front_within : (text bytes rest : List ℕ) (at : ℕ) → rest ≡ drop at bytes → at ≤ length bytes → 4 + length text ≤ length rest → at + (4 + length text) ≤ length bytes
front_within text bytes rest at follows within long =
    let len = ap length follows ∙ length-drop at bytes in
    omega (arith, len, within, long)

-- nothing was taken, and nothing written
pub consumes_none : (a : Option (List ℕ)) (xs : List ℕ) → xs ≡ [] → Consumes a a xs
consumes_none None xs none = tt
consumes_none (Some ys) xs none = ap (λ (l : List ℕ). l ++ ys) (sym none)

pub appends_none : (a : Option (List ℕ)) → Appends a a []
appends_none None = tt
appends_none (Some ys) = sym (append-nil ys)
