-- Notices, and what a line answers with them, as bytes.
use Rattle.std.specs.Prelude.{◌≡◌, ℕ, List, [], ◌∷◌, ◌++◌, codes}
use Rattle.std.specs.Fmt.{decimal}
use Rattle.dl_types.specs.declared.name.ClientId.{ClientId}
use Rattle.dl_types.specs.declared.name.Name.{Name}
use Rattle.std.specs.List.{flat_map}
use Rattle.dl_types.specs.declared.notice.Change.{Change}
use Rattle.dl_types.specs.declared.notice.Change.TheVariants as change
use Rattle.dl_types.specs.declared.reply.Outcome.{Outcome}
use Rattle.dl_types.specs.declared.reply.Status.TheVariants as status
use Rattle.dl_types.specs.Name.{name_text}
use Rattle.dl_types.specs.Notice.{Said, Changed, ReadOnly, Blocked, NoSuchLog, Told}
use Rattle.dl_types.specs.Printed.{characters_of, refusal_text}
use Rattle.dl_app.specs.Answers.{item_text, IsReplyText}

-- how many items are gone with the files that the next one replaced
abbrev pub wrap_text : ℕ → List ℕ
wrap_text count = codes "wrap " ++ decimal count

-- how many items an emptied log is said to lose
abbrev pub truncated_text : ℕ → List ℕ
truncated_text count = codes "truncated " ++ decimal count

-- a text says this change of a log
abbrev pub IsChangeText : Change → List ℕ → Type 0
IsChangeText (change.Wrap count) text = text ≡ wrap_text count
IsChangeText (change.Truncated count) text = text ≡ truncated_text count
IsChangeText change.Full text = text ≡ codes "full"
IsChangeText (change.ErrorStatus status.Ok) text = text ≡ codes "status ok"
IsChangeText (change.ErrorStatus (status.Fault refusal)) text = text ≡ codes "status " ++ refusal_text refusal

-- a word, and then items that were sent and not logged, as a chunk's items are shown
abbrev pub sent_text : List ℕ → List (List ℕ) → List ℕ
sent_text word items = word ++ flat_map item_text items

-- a text says this notice
abbrev pub IsNoticeText : Said → List ℕ → Type 0
IsNoticeText (Changed change) text = IsChangeText change text
IsNoticeText (ReadOnly items) text = text ≡ sent_text (codes "readonly") items
IsNoticeText (Blocked items) text = text ≡ sent_text (codes "blocked") items
IsNoticeText NoSuchLog text = text ≡ codes "nosuchlog"

-- a bar, the client that gets the notice, and the log
abbrev pub told_text : ClientId → Name → List ℕ
told_text client log = codes " | " ++ decimal client.0 ++ codes " " ++ characters_of (name_text log) ++ codes " "

-- the client and the log of a notice, and then what it says
abbrev pub IsDeliveryText : Told → List ℕ → Type 0
IsDeliveryText delivery text = (said : List ℕ) × IsNoticeText delivery.notice said × (text ≡ told_text delivery.client delivery.log ++ said)

-- notices in their order
abbrev pub AreDeliveryTexts : List Told → List ℕ → Type 0
AreDeliveryTexts [] text = text ≡ []
AreDeliveryTexts (delivery ∷ deliveries) text =
    (first : List ℕ) × (others : List ℕ) × IsDeliveryText delivery first × AreDeliveryTexts deliveries others × (text ≡ first ++ others)

-- a reply, and then the notices
abbrev pub IsOutcomeText : {Z : Type 0} → Outcome Z → List ℕ → Type 0
IsOutcomeText outcome text = (reply : List ℕ) × (told : List ℕ) × IsReplyText outcome.reply reply × AreDeliveryTexts outcome.notices told × (text ≡ reply ++ told)
