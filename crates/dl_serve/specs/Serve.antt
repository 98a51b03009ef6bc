-- A stream of frames, and what is answered.
use Rattle.std.specs.Prelude.{◌≡◌, ◌==◌, ◌⊎◌, ◌<◌, ◌+◌, ℕ, List, [], ◌∷◌, ◌++◌, All, Bool, true, false, Option, Err, ⊤, length, replicate, if◌then◌else◌}
use Rattle.std.specs.Io.KnownBytes.{Appends}
use Rattle.std.specs.List.{flat_map}
use Rattle.dl_types.specs.declared.event.Event.TheVariants as event
use Rattle.dl_types.specs.declared.name.Name.{Name}
use Rattle.dl_disk.specs.declared.reason.Reason.{Reason}
use Rattle.dl_disk.specs.Disk.{DiskState}
use Rattle.dl_hub.specs.declared.drained.TheConstants.{TRIES}
use Rattle.dl_hub.specs.View.{HubView}
use Rattle.dl_hub.specs.Written.{has_drained}
use Rattle.dl_wire.specs.declared.limits.TheConstants.{VERSION, FRAME_LIMIT, SUSPENDED_LIMIT}
use Rattle.dl_wire.specs.declared.request.Ask.{Ask}
use Rattle.dl_wire.specs.declared.request.Ask.TheVariants as ask
use Rattle.dl_wire.specs.declared.request.Request.{Request}
use Rattle.dl_wire.specs.Answer.{bad_text, welcome_text, frame_text}
use Rattle.dl_wire.specs.Decode.{request_in}
use Rattle.dl_wire.specs.Fits.{IsRequest}
use Rattle.dl_wire.specs.Request.{request_text}
use Rattle.dl_serve.specs.declared.held.HeldSync.{HeldSync}
use Rattle.dl_serve.specs.declared.left.Left.{Left}
use Rattle.dl_serve.specs.declared.stream.Ended.{Ended}
use Rattle.dl_serve.specs.declared.stream.Ended.TheVariants as ended
use Rattle.dl_serve.specs.declared.stream.Served.{Served}
use Rattle.dl_serve.specs.declared.stream.Stop.{Stop}
use Rattle.dl_serve.specs.declared.stream.Stop.TheVariants as stop
use Rattle.dl_serve.specs.Arranged.{Moment, served_at, held_after, all_held, AreRequests, arranged}
use Rattle.dl_serve.specs.Asked.{Stage, Chain, IsAsked}
use Rattle.dl_serve.specs.Frames.{IsLong, IsPartial, HasFrames, tag_of}
use Rattle.dl_serve.specs.Left.{is_nothing, left_of}
use Rattle.dl_serve.specs.Queries.{reason_frame, logs_frame}
use Rattle.dl_serve.specs.Synced.{AreOpen, AreSynced}

-- the beginning: no call waits, and no client is known
abbrev pub first_stage : {D Z : Type 0} → HubView D → Stage D Z
first_stage hub = record { hub = hub; waiting = []; clients = [] }

-- the frame that answers a hello. A tag of 0 asks for none
abbrev pub welcome_frame : ℕ → List ℕ
welcome_frame tag = if tag == 0 then [] else frame_text (welcome_text tag VERSION FRAME_LIMIT SUSPENDED_LIMIT)

module _ {D Z : Type 0} (state : D → DiskState) where
  -- a flush whose turn drained a log, or drained none
  abbrev pub IsFlushed : Bool → ℕ → Stage D Z → Stage D Z → List ℕ → Type 0
  IsFlushed drained tag old new frames = (asked : IsAsked state tag event.Flush old new frames) × (has_drained asked.outcome.reply ≡ drained)

  -- a flush whose turn drained no log, and says what is left
  abbrev pub IsLastFlushed : ℕ → Left → Stage D Z → Stage D Z → List ℕ → Type 0
  IsLastFlushed tag left old new frames = (asked : IsAsked state tag event.Flush old new frames) × (has_drained asked.outcome.reply ≡ false) × (left ≡ left_of asked.outcome.reply)

  -- flushes one after another: each of the first n drained a log and gets no answer, and one more drained none. With it they end, and its turn is the answer and says what is left
  abbrev pub IsAllFlushed : ℕ → Left → Stage D Z → Stage D Z → List ℕ → Type 0
  IsAllFlushed tag left old new frames =
      (n : ℕ) × (mid : Stage D Z) × Chain (λ drained. IsFlushed drained 0) (replicate n true) old mid [] × IsLastFlushed tag left mid new frames

  -- what a request does
  abbrev pub IsDone : ℕ → Ask Z → Stage D Z → Stage D Z → List ℕ → Type 0
  IsDone tag (ask.Hello version) old new frames = (new ≡ old) × (frames ≡ welcome_frame tag)
  IsDone tag (ask.Event e) old new frames = IsAsked state tag e old new frames
  IsDone tag ask.All old new frames = (left : Left) × IsAllFlushed tag left old new frames
  IsDone tag (ask.SyncAll client logs) old new frames = AreSynced state tag client logs old new frames
  IsDone tag ask.Reason old new frames = (reason : Option Reason) × (new ≡ old) × (frames ≡ reason_frame tag reason)
  IsDone tag ask.Logs old new frames = (logs : List Name) × AreOpen old.hub logs × (new ≡ old) × (frames ≡ logs_frame tag logs)

  -- the text of a request, which is done; or a text that is none, which is told by the place of its first wrong part
  abbrev pub IsServed : List ℕ → Stage D Z → Stage D Z → List ℕ → Type 0
  IsServed text old new frames =
      ((r : Request Z) × IsRequest r × (text ≡ request_text r) × IsDone r.tag r.ask old new frames)
      ⊎ ((place : ℕ) × (request_in {Z = Z} text ≡ Err place) × (new ≡ old) × (frames ≡ frame_text (bad_text (tag_of text) place)))

  -- a text came at its moment: what is served then, and what is held after it
  pub record IsTakenUp (moment : Moment) (text : List ℕ) (before after : List HeldSync) (old new : Stage D Z) (frames : List ℕ) : Type 0 where
    pub served : Chain IsServed (served_at moment text (all_held Z before)) old new frames
    pub held : all_held Z after ≡ held_after moment text (all_held Z before)
    pub requests : AreRequests Z after

  -- all that waits or lingers is flushed, and again while something is left, but so often at most; this is what the last time has left
  pub record IsWrittenOut (left : Left) (old new : Stage D Z) (frames : List ℕ) : Type 0 where
    pub before : List Left
    pub flushed : Chain (IsAllFlushed 0) (before ++ left ∷ []) old new frames
    pub some : All (λ (was : Left). is_nothing was ≡ false) before
    pub within : length before < TRIES
    pub spent : is_nothing left ≡ false → length before + 1 ≡ TRIES

  -- the end: the clients leave, after which none is known, and then all is written, but for what is left
  abbrev pub Leaves : Left → Stage D Z → Stage D Z → List ℕ → Type 0
  Leaves left old new frames =
      (mid : Stage D Z) × (first : List ℕ) × (last : List ℕ) × Chain (λ client. IsAsked state 0 (event.Exit client)) old.clients (record old { clients = [] }) mid first × IsWrittenOut left mid new last × (frames ≡ first ++ last)

-- what stands where the frames end: less than one, or the beginning of one that is too long, which is told
abbrev pub IsRest : Ended → List ℕ → List ℕ → Type 0
IsRest ended.Input rest told = IsPartial rest × (told ≡ [])
IsRest ended.LongFrame rest told = IsLong rest × (told ≡ frame_text (bad_text 0 0))

-- where the serving of some bytes stopped
abbrev pub IsStopped : Stop → List ℕ → Type 0
IsStopped stop.Partial rest = IsPartial rest
IsStopped stop.Long rest = IsLong rest
IsStopped stop.Full rest = ⊤

-- the texts of batches, one batch after another
abbrev pub joined : List (List (List ℕ)) → List (List ℕ)
joined batches = flat_map (λ (batch : List (List ℕ)). batch) batches

-- the frames of a stream were served, batch by batch, and their answers are written. What is to be written now tells how it ended
pub record IsTaken {D Z : Type 0} (state : D → DiskState) (how : Ended) (stream : Option (List ℕ)) (old new : Stage D Z) (written after : Option (List ℕ)) (told : List ℕ) : Type 0 where
  pub batches : List (List (List ℕ))
  pub rest : List ℕ
  pub answers : List ℕ
  pub framed : HasFrames stream (joined batches) rest
  pub served : Chain (IsServed state) (flat_map (arranged Z) batches) old new answers
  pub ended : IsRest how rest told
  pub sent : Appends written after answers

-- a stream was served: its frames in the batches in which they came, one batch after another, the frames of a batch as they are arranged, and then its end. What was written are the answers in this order
pub record Serves {D : Type 0} (state : D → DiskState) (Z : Type 0) (served : Served) (stream : Option (List ℕ)) (old new : HubView D) (written after : Option (List ℕ)) : Type 0 where
  pub batches : List (List (List ℕ))
  pub rest : List ℕ
  pub mid : Stage D Z
  pub last : Stage D Z
  pub answers : List ℕ
  pub told : List ℕ
  pub farewell : List ℕ
  pub framed : HasFrames stream (joined batches) rest
  pub done : Chain (IsServed state) (flat_map (arranged Z) batches) (first_stage old) mid answers
  pub ended : IsRest served.ended rest told
  pub left : Leaves state served.left mid last farewell
  pub hub : last.hub ≡ new
  pub whole : Appends written after (answers ++ (told ++ farewell))
