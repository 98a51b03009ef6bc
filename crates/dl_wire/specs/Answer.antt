-- Answers and notices as bytes.
use Rattle.std.specs.Prelude.{ℕ, List, [], ◌∷◌, ◌++◌, length, codes}
use Rattle.dl_types.specs.declared.file.FileName.{FileName}
use Rattle.dl_types.specs.declared.file.Part.{Part}
use Rattle.dl_types.specs.declared.file.Part.TheVariants as part
use Rattle.dl_types.specs.declared.info.Extent.{Extent}
use Rattle.dl_types.specs.declared.info.Extent.TheVariants as extent
use Rattle.dl_types.specs.declared.info.Info.{Info}
use Rattle.dl_types.specs.declared.info.Writing.{Writing}
use Rattle.dl_types.specs.declared.notice.Change.{Change}
use Rattle.dl_types.specs.declared.notice.Change.TheVariants as change
use Rattle.dl_types.specs.declared.owner.Owner.{Owner}
use Rattle.dl_types.specs.declared.refusal.Argument.{Argument}
use Rattle.dl_types.specs.declared.refusal.Argument.TheVariants as argument
use Rattle.dl_types.specs.declared.refusal.Refusal.{Refusal}
use Rattle.dl_types.specs.declared.refusal.Refusal.TheVariants as refusal
use Rattle.dl_types.specs.declared.reply.Reply.{Reply}
use Rattle.dl_types.specs.declared.reply.Reply.TheVariants as reply
use Rattle.dl_types.specs.declared.reply.Status.TheVariants as status
use Rattle.dl_types.specs.declared.reply.Turn.{Turn}
use Rattle.dl_types.specs.declared.reply.Turn.TheVariants as turn
use Rattle.dl_types.specs.Name.{base_text, name_text}
use Rattle.dl_types.specs.Notice.{Said, Changed, ReadOnly, Blocked, NoSuchLog, Told}
use Rattle.dl_wire.specs.Parts.{u16_text, u32_text, u64_text, short_text, bytes_text, list_text, option_text, bool_code, kind_code, mode_code, size_text, position_text}

-- the number of an argument
abbrev pub argument_code : Argument → ℕ
argument_code argument.Kind = 0
argument_code argument.Size = 1
argument_code argument.Repair = 2
argument_code argument.Head = 3
argument_code argument.Items = 4
argument_code argument.Item = 5
argument_code argument.Count = 6
argument_code argument.Continuation = 7
argument_code argument.Blocks = 8
argument_code argument.Hold = 9

-- which of a base's files
abbrev pub part_text : Part → List ℕ
part_text part.Halt = 0 ∷ []
part_text part.Index = 1 ∷ []
part_text (part.Numbered n) = 2 ∷ u32_text n

-- a base, and which of its files
abbrev pub file_text : FileName → List ℕ
file_text f = short_text (base_text f.base) ++ part_text f.part

-- 64 and the refusal's number
abbrev pub refusal_code : Refusal → ℕ
refusal_code (refusal.BadArg argument) = 65
refusal_code refusal.NoSuchLog = 66
refusal_code refusal.NameAlreadyOpen = 67
refusal_code (refusal.ArgMismatch argument) = 68
refusal_code (refusal.SizeMismatch old new) = 69
refusal_code refusal.OpenReadWrite = 70
refusal_code refusal.OpenReadOnly = 71
refusal_code (refusal.FileInUse log) = 72
refusal_code refusal.NoFile = 73
refusal_code (refusal.NotALogFile file) = 74
refusal_code refusal.InvalidIndexFile = 75
refusal_code refusal.NeedRepair = 76
refusal_code refusal.ReadOnlyMode = 77
refusal_code refusal.Full = 78
refusal_code refusal.BlockedLog = 79
refusal_code refusal.NotBlocked = 80
refusal_code refusal.NotBlockedByCaller = 81
refusal_code refusal.HaltLog = 82
refusal_code (refusal.NewSizeTooSmall bytes) = 83
refusal_code refusal.SameFileName = 84
refusal_code refusal.StaleContinuation = 85
refusal_code refusal.EndOfLog = 86
refusal_code (refusal.CorruptFile number) = 87
refusal_code (refusal.DeviceFault file) = 88
refusal_code refusal.Exhausted = 89

-- what a refusal says besides
abbrev pub refusal_parts : Refusal → List ℕ
refusal_parts (refusal.BadArg argument) = argument_code argument ∷ []
refusal_parts (refusal.ArgMismatch argument) = argument_code argument ∷ []
refusal_parts (refusal.SizeMismatch old new) = size_text old ++ size_text new
refusal_parts (refusal.FileInUse log) = short_text (name_text log)
refusal_parts (refusal.NotALogFile file) = file_text file
refusal_parts (refusal.NewSizeTooSmall bytes) = u64_text bytes
refusal_parts (refusal.CorruptFile number) = u32_text number
refusal_parts (refusal.DeviceFault file) = file_text file
refusal_parts other = []

-- a refusal
abbrev pub refusal_text : Refusal → List ℕ
refusal_text refusal = refusal_code refusal ∷ refusal_parts refusal

-- an owner: its client, and whether it wants notices
abbrev pub owner_text : Owner → List ℕ
owner_text owner = u32_text owner.client.0 ++ bool_code owner.notify ∷ []

-- 0 before whether a halt log is full; 1 before how far a wrap log has come
abbrev pub extent_text : Extent → List ℕ
extent_text (extent.Halt full) = 0 ∷ bool_code full ∷ []
extent_text (extent.Wrap bytes items all file overflows) =
    1 ∷ (u64_text bytes ++ (u64_text items ++ (u64_text all ++ (u32_text file ++ (u64_text overflows.since_open ++ u64_text overflows.since_info)))))

abbrev pub turn_text : Turn → List ℕ
turn_text (turn.Drained log) = 0 ∷ short_text (name_text log)
turn_text turn.Idle = 1 ∷ []
turn_text (turn.Fault log) = 2 ∷ short_text (name_text log)

-- a change of a log
abbrev pub change_text : Change → List ℕ
change_text (change.Wrap count) = 0 ∷ u64_text count
change_text (change.Truncated count) = 1 ∷ u64_text count
change_text change.Full = 2 ∷ []
change_text (change.ErrorStatus status.Ok) = 3 ∷ 0 ∷ []
change_text (change.ErrorStatus (status.Fault refusal)) = 3 ∷ 1 ∷ refusal_text refusal

-- what a client is told of a log
abbrev pub said_text : Said → List ℕ
said_text (Changed change) = change_text change
said_text (ReadOnly items) = 4 ∷ list_text bytes_text items
said_text (Blocked items) = 5 ∷ list_text bytes_text items
said_text NoSuchLog = 6 ∷ []

-- no tag, the kind of a notice, the client, the log, and what the client is told
abbrev pub notice_text : Told → List ℕ
notice_text told = u32_text 0 ++ (128 ∷ (u32_text told.client.0 ++ (short_text (name_text told.log) ++ said_text told.notice)))

module _ {Z : Type 0} where
  -- the head item, the items that were logged, how far the files have come, and the most blocks that may wait
  abbrev pub writing_text : Writing Z → List ℕ
  writing_text w = option_text bytes_text w.head ++ (u64_text w.written ++ (extent_text w.extent ++ option_text u32_text w.hold))

  -- a log's name, base, kind, size and mode
  abbrev pub settings_text : Info Z → List ℕ
  settings_text info = short_text (name_text info.log) ++ (short_text (base_text info.base) ++ (kind_code info.kind ∷ (size_text info.size ++ mode_code info.mode ∷ [])))

  -- its owners, how many users, and whether a block suspends calls
  abbrev pub members_text : Info Z → List ℕ
  members_text info = list_text owner_text info.owners ++ (u32_text info.users ++ option_text (λ queue. bool_code queue ∷ []) info.blocked)

  abbrev pub info_text : Info Z → List ℕ
  info_text info = settings_text info ++ (members_text info ++ option_text writing_text info.writing)

  -- the kind of a reply, and its parts
  abbrev pub reply_text : Reply Z → List ℕ
  reply_text reply.Opened = 1 ∷ []
  reply_text (reply.Repaired recovered bad) = 2 ∷ (u64_text recovered ++ u64_text bad)
  reply_text reply.Done = 3 ∷ []
  reply_text reply.Suspended = 4 ∷ []
  reply_text reply.Held = 5 ∷ []
  reply_text (reply.Items next items bad) = 6 ∷ (position_text next ++ (u64_text bad ++ list_text bytes_text items))
  reply_text reply.Eof = 7 ∷ []
  reply_text (reply.At place) = 8 ∷ position_text place
  reply_text (reply.Info info) = 9 ∷ info_text info
  reply_text (reply.Turn turn) = 10 ∷ turn_text turn
  reply_text (reply.Refused refusal) = refusal_text refusal
  reply_text reply.OutOfMemory = 11 ∷ []

  -- a tag, and the reply to its request
  abbrev pub answer_text : ℕ → Reply Z → List ℕ
  answer_text tag reply = u32_text tag ++ reply_text reply

-- the answer to a frame that is no request: the place of the first part that is wrong
abbrev pub bad_text : ℕ → ℕ → List ℕ
bad_text tag place = u32_text tag ++ (63 ∷ u32_text place)

-- the answer to a hello: the version, the greatest length of a frame, how many calls of a client may be suspended, and the name of the program
abbrev pub welcome_text : ℕ → ℕ → ℕ → ℕ → List ℕ
welcome_text tag version frame suspended = u32_text tag ++ (0 ∷ (u16_text version ++ (u32_text frame ++ (u32_text suspended ++ short_text (codes "dlog")))))

-- a text after its length
abbrev pub frame_text : List ℕ → List ℕ
frame_text text = u32_text (length text) ++ text
