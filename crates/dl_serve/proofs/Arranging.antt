-- Texts that come one after another while syncs are held.
use Rattle.std.proofs.Common.{◌≡◌, ◌<◌, ◌+◌, ◌||◌, inl, ℕ, List, [], ◌∷◌, ◌++◌, Bool, true, false, cond, Option, Some, None, IfSome, map, take, get_or, length, refl, sym, ap, subst, ◌∙◌, append_assoc, append-nil}
use Rattle.std.specs.List.{All, list_any}
use Rattle.std.proofs.lemmas.List.{map-append, take_more}
use Rattle.std.proofs.lemmas.List.Elements.{All-push}
use Rattle.dl_types.specs.declared.call.Act.TheVariants as act
use Rattle.dl_types.specs.declared.call.Call.TheVariants as call
use Rattle.dl_types.specs.declared.event.Event.TheVariants as event
use Rattle.dl_types.specs.declared.name.ClientId.{ClientId}
use Rattle.dl_disk.specs.Disk.{DiskState}
use Rattle.dl_wire.specs.declared.request.Ask.{Ask}
use Rattle.dl_wire.specs.declared.request.Ask.TheVariants as ask
use Rattle.dl_wire.specs.declared.request.Request.{Request}
use Rattle.dl_wire.specs.Fits.{IsRequest}
use Rattle.dl_wire.specs.Request.{request_text}
use Rattle.dl_serve.specs.declared.held.HeldSync.{HeldSync}
use Rattle.dl_serve.specs.Arranged.{Moment, Later, After, Held, are_due, holders_of, awaited, unawaited, served_at, held_after, moment_by, sync_in, caller_of, moment_of, request_of, held_of, all_held, AreRequests, moment_in, arranged_after, arranged}
use Rattle.dl_serve.specs.Asked.{Stage, Chain, IsAsked}
use Rattle.dl_serve.specs.Serve.{IsServed, IsTakenUp}
use Rattle.dl_serve.proofs.Chains.{chain_more}

-- a test of some value of each
pub any_map : {X Y : Type 0} (p : Y → Bool) (f : X → Y) (xs : List X) → list_any (λ (x : X). p (f x)) xs ≡ list_any p (map f xs)
any_map p f [] = refl
any_map p f (x ∷ xs) = ap (λ (b : Bool). p (f x) || b) (any_map p f xs)

-- all that is held goes first if it is due, and nothing if not
pub awaited_due : (client : Option ClientId) (held : List Held) → are_due client (holders_of held) ≡ true → awaited None held ≡ awaited client held
awaited_due client held due = ap (λ (b : Bool). cond b (map (λ (h : Held). h.text) held) []) (sym due)

pub awaited_not : (client : Option ClientId) (held : List Held) → are_due client (holders_of held) ≡ false → [] ≡ awaited client held
awaited_not client held not = ap (λ (b : Bool). cond b (map (λ (h : Held). h.text) held) []) (sym not)

pub unawaited_due : (client : Option ClientId) (held : List Held) → are_due client (holders_of held) ≡ true → [] ≡ unawaited client held
unawaited_due client held due = ap (λ (b : Bool). cond b [] held) (sym due)

pub unawaited_not : (client : Option ClientId) (held : List Held) → are_due client (holders_of held) ≡ false → held ≡ unawaited client held
unawaited_not client held not = ap (λ (b : Bool). cond b [] held) (sym not)

module _ (Z : Type 0) where
  -- the texts of one more that is held
  pub awaited_more : (hs : List HeldSync) (i : ℕ) (d : HeldSync) → i < length hs
      → awaited None (all_held Z (take (i + 1) hs)) ≡ awaited None (all_held Z (take i hs)) ++ (held_of Z (get_or hs i d)).text ∷ []
  awaited_more hs i d inside =
      ap (λ (l : List HeldSync). awaited None (all_held Z l)) (take_more hs i d inside)
      ∙ ap (λ (l : List Held). awaited None l) (map-append (held_of Z) (take i hs) (get_or hs i d ∷ []))
      ∙ map-append (λ (h : Held). h.text) (all_held Z (take i hs)) (held_of Z (get_or hs i d) ∷ [])

  -- who holds them
  pub holders_are : (hs : List HeldSync) → map (λ (s : HeldSync). s.client) hs ≡ holders_of (all_held Z hs)
  holders_are [] = refl
  holders_are (s ∷ hs) = ap (λ (l : List ClientId). s.client ∷ l) (holders_are hs)

  -- what was found of those who hold, of what is held
  pub due_is : (client : Option ClientId) (list held : List HeldSync) (found is : Bool) → list ≡ held → found ≡ are_due client (map (λ (s : HeldSync). s.client) list) → found ≡ is
      → are_due client (holders_of (all_held Z held)) ≡ is
  due_is client list held found is same by of =
      ap (λ (l : List ClientId). are_due client l) (sym (holders_are held)) ∙ ap (λ (l : List HeldSync). are_due client (map (λ (s : HeldSync). s.client) l)) (sym same) ∙ sym by ∙ of

  -- of all that comes these texts came, and in this order these of them were served
  abbrev pub ArrangedBefore : List (List ℕ) → List (List ℕ) → List Held → Type 0
  ArrangedBefore texts done held = (more : List (List ℕ)) → arranged_after Z [] (texts ++ more) ≡ done ++ arranged_after Z held more

  pub before_none : (hs : List HeldSync) → hs ≡ [] → ArrangedBefore [] [] (all_held Z hs)
  before_none hs none = λ more. ap (λ (l : List HeldSync). arranged_after Z (all_held Z l) more) (sym none)

  pub before_more : (texts done : List (List ℕ)) (held kept : List Held) (text : List ℕ) → ArrangedBefore texts done held → kept ≡ held_after (moment_in Z text) text held
      → ArrangedBefore (texts ++ text ∷ []) (done ++ served_at (moment_in Z text) text held) kept
  before_more texts done held kept text before is = λ more.
      let now : List (List ℕ) = served_at (moment_in Z text) text held in
      ap (λ (l : List (List ℕ)). arranged_after Z [] l) (append_assoc texts (text ∷ []) more)
      ∙ before (text ∷ more)
      ∙ ap (λ (h : List Held). done ++ (now ++ arranged_after Z h more)) (sym is)
      ∙ sym (append_assoc done now (arranged_after Z kept more))

  pub before_all : (texts done : List (List ℕ)) (held : List Held) → ArrangedBefore texts done held → arranged Z texts ≡ done ++ awaited None held
  before_all texts done held before = ap (λ (l : List (List ℕ)). arranged_after Z [] l) (sym (append-nil texts)) ∙ before []

  abbrev request_with : ℕ → Ask Z → Request Z
  request_with tag a = record { tag = tag; ask = a }

  -- a request for a sync is the request of what is held for it
  sync_is : (tag : ℕ) (a : Ask Z) → IfSome (sync_in tag a) (λ (s : HeldSync). request_with tag a ≡ request_of Z s)
  sync_is tag (ask.Event (event.Call client log (call.Act act.Sync))) = refl
  sync_is tag (ask.Event (event.Call client log (call.Act (act.Log items)))) = tt
  sync_is tag (ask.Event (event.Call client log (call.Act (act.Chunk from most)))) = tt
  sync_is tag (ask.Event (event.Call client log (call.Act (act.ChunkStep from by)))) = tt
  sync_is tag (ask.Event (event.Call client log (call.Act (act.Truncate head)))) = tt
  sync_is tag (ask.Event (event.Call client log (call.Act act.NextFile))) = tt
  sync_is tag (ask.Event (event.Call client log (call.Act (act.ChangeSize size)))) = tt
  sync_is tag (ask.Event (event.Call client log (call.Act act.Info))) = tt
  sync_is tag (ask.Event (event.Call client log (call.Open args))) = tt
  sync_is tag (ask.Event (event.Call client log (call.Alog items))) = tt
  sync_is tag (ask.Event (event.Call client log (call.Reopen target head))) = tt
  sync_is tag (ask.Event (event.Call client log (call.Block queue))) = tt
  sync_is tag (ask.Event (event.Call client log call.Unblock)) = tt
  sync_is tag (ask.Event (event.Call client log call.Close)) = tt
  sync_is tag (ask.Event (event.Exit client)) = tt
  sync_is tag (ask.Event event.Flush) = tt
  sync_is tag (ask.Hello version) = tt
  sync_is tag ask.All = tt
  sync_is tag (ask.SyncAll client logs) = tt
  sync_is tag ask.Reason = tt
  sync_is tag ask.Logs = tt

module _ {D Z : Type 0} (state : D → DiskState) where
  -- the text of a sync that is held is served by its event
  pub sync_served : (s : HeldSync) (old new : Stage D Z) (frames : List ℕ) → IsRequest (request_of Z s) → IsAsked state s.tag (event.Call s.client s.log (call.Act act.Sync)) old new frames
      → IsServed state (held_of Z s).text old new frames
  sync_served s old new frames fits asked = inl (request_of Z s, fits, refl, asked)

  -- a request for a sync is held
  pub taken_later : (r : Request Z) (s : HeldSync) (held kept : List HeldSync) (stage : Stage D Z) → Some s ≡ sync_in r.tag r.ask → IsRequest r → AreRequests Z held → kept ≡ held ++ s ∷ []
      → IsTakenUp state (moment_of r) (request_text r) held kept stage stage []
  taken_later r s held kept stage asks fits before is =
      let whole : r ≡ request_of Z s = subst (λ (o : Option HeldSync). IfSome o (λ (t : HeldSync). r ≡ request_of Z t)) (sym asks) (sync_is Z r.tag r.ask) in
      let P : HeldSync → Type 0 = λ (t : HeldSync). IsRequest (request_of Z t) in
      let taken : IsTakenUp state (Later s.client) (request_text (request_of Z s)) held kept stage stage [] = record {
        served = (refl, refl);
        held = ap (λ (l : List HeldSync). all_held Z l) is ∙ map-append (held_of Z) held (s ∷ []);
        requests = subst (λ (l : List HeldSync). All P l) (sym is) (All-push P held s before (subst (λ (q : Request Z). IsRequest q) whole fits));
      } in
      subst (λ (q : Request Z). IsTakenUp state (moment_of q) (request_text q) held kept stage stage []) (sym whole) taken

  -- any other text is served after the syncs that come first
  pub taken_after : (moment : Moment) (client : Option ClientId) (text : List ℕ) (held kept : List HeldSync) (old mid new : Stage D Z) (first frames : List ℕ)
      → moment ≡ After client → Chain (IsServed {Z = Z} state) (awaited client (all_held Z held)) old mid first → all_held Z kept ≡ unawaited client (all_held Z held) → AreRequests Z kept
      → IsServed state text mid new frames → IsTakenUp state moment text held kept old new (first ++ frames)
  taken_after moment client text held kept old mid new first frames is synced stays fit served =
      let taken : IsTakenUp state (After client) text held kept old new (first ++ frames) = record {
        served = chain_more (IsServed {Z = Z} state) (awaited client (all_held Z held)) old mid new first text frames synced served;
        held = stays;
        requests = fit;
      } in
      subst (λ (m : Moment). IsTakenUp state m text held kept old new (first ++ frames)) (sym is) taken

  -- the moment of a request that is for no sync
  pub moment_after : (r : Request Z) (client : Option ClientId) → None ≡ sync_in r.tag r.ask → client ≡ caller_of r.ask → moment_of r ≡ After client
  moment_after r client none is = (λ i. moment_by (sym none i) (sym is i))
