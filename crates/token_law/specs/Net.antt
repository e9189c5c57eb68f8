-- A small world of token machines: the tokens of clients, the slots of all managers that one slot of the map had, each under its epoch (deposed ones
-- go on), the packets that were sent, of which any may come any number of times, in any order, or never, and what logs say of blocks.
-- In a world whose logs keep their word (true) each thing that happens asks of them what it needs. In one whose logs may lose what they held (false) it asks
-- nothing of them.
use Rattle.std.specs.Prelude.{◌≡◌, ℕ, suc, ◌-◌, ◌<◌, ◌≤◌, Bool, true, false, nat_lt, List, [], ◌∷◌, ◌++◌, length, Option, Some, None, All, Contains, if◌then◌else◌}
use Rattle.xfs_base.specs.declared.block.BlockId.{BlockId}
use Rattle.xfs_base.specs.declared.entry.Entry.{Entry}
use Rattle.xfs_base.specs.declared.token.Mode.{Mode}
use Rattle.xfs_base.specs.declared.token.Mode.TheVariants.{Copy, Own}
use Rattle.xfs_base.specs.declared.segment.LogId.{LogId}
use Rattle.xfs_base.specs.declared.segment.SegName.{SegName}
use Rattle.xfs_base.specs.declared.token.Stamp.{Stamp}
use Rattle.xfs_base.specs.Limits.{u64_end}
use Rattle.xfs_base.specs.Modes.{is_held}
use Rattle.xfs_base.specs.Steps.{steps}
use Rattle.token_client.specs.declared.input.In as inputs
use Rattle.token_client.specs.declared.input.In.TheVariants as input
use Rattle.token_client.specs.declared.output.Out as outputs
use Rattle.token_client.specs.declared.output.Out.TheVariants as output
use Rattle.token_client.specs.Held.{may_write}
use Rattle.token_client.specs.State.{TokensState, tokens_start as fresh_tokens, held_of, held_in, epoch_of, is_in_slot}
use Rattle.token_client.specs.Transition as client
use Rattle.token_manager.specs.declared.input.In.TheVariants as told
use Rattle.token_manager.specs.declared.output.Out as tellings
use Rattle.token_manager.specs.declared.output.Out.TheVariants as telling
use Rattle.token_manager.specs.SlotState.{SlotState}
use Rattle.token_manager.specs.Transition as slot
use Rattle.token_protocol.specs.Basics.{put, In}
use Rattle.token_protocol.specs.Premises.{Premise}
use Rattle.token_tie.specs.Epochs.{all_reported}
use Rattle.token_tie.specs.Inputs.{granted_and_wrote, granted_and_evicted}
use Rattle.version_model.specs.declared.act.Act.{Act}
use Rattle.version_model.specs.declared.act.Act.TheVariants as act
use Rattle.version_model.specs.declared.act.Fall.{Fall}
use Rattle.version_model.specs.Legal.{NamesNoBlockTwice}
use Rattle.token_law.specs.Books.{Row, Books, no_books, sealed, filed, reopened, with_empty}
use Rattle.token_law.specs.Owed.{SealsNewest, SealsOriginals, ReadsThere, DeltasCover, Gathered, FallsSo, adopts, AllClean, IsNeutral}

-- A packet with who sent it, or who gets it, first. A Want also bears its sender's incarnation and the end of its log, a Gave that end, and a Forward the
-- client to be supplied. A Report bears the epoch that its sender has promised, what it holds of the slot, and the end of its log.
pub data Packet : Type 0 where
  WantSent : ℕ → ℕ → ℕ → ℕ → BlockId → Mode → ℕ → Packet
  GrantSent : ℕ → BlockId → Stamp → ℕ → ℕ → Mode → Entry → Packet
  RecallSent : ℕ → BlockId → Stamp → Bool → Packet
  GaveSent : ℕ → BlockId → Stamp → ℕ → Packet
  ForwardSent : ℕ → ℕ → BlockId → Stamp → ℕ → ℕ → ℕ → Packet
  SupplySent : ℕ → BlockId → Stamp → ℕ → ℕ → ℕ → Option (List ℕ) → Packet
  ReportSent : ℕ → ℕ → List (BlockId × Mode) → ℕ → Packet

-- The tokens of each client (of one that fell, its last), which clients serve, the slot of the manager of each epoch, and all packets that were sent; and
-- the epoch that the cleaner has promised, which holds nothing: nothing that happens here changes that, or depends on it. Beside them what logs say, and the
-- acts, oldest first.
pub record Net : Type 0 where
  pub tokens : ℕ → TokensState
  pub up : ℕ → Bool
  pub slots : ℕ → Option SlotState
  pub sent : List Packet
  pub promised : ℕ
  pub books : Books
  pub acts : List Act

-- what a client sends, with its number, its incarnation and the end of its log
abbrev pub client_packets : ℕ → ℕ → ℕ → List outputs.Out → List Packet
client_packets c inc end [] = []
client_packets c inc end (output.Want block req again mode ∷ os) = WantSent c inc req again block mode end ∷ client_packets c inc end os
client_packets c inc end (output.Gave block stamp ∷ os) = GaveSent c block stamp end ∷ client_packets c inc end os
client_packets c inc end (output.Supply block ver value ∷ os) = client_packets c inc end os
client_packets c inc end (output.Flush block ∷ os) = client_packets c inc end os
client_packets c inc end (output.Read block place ∷ os) = client_packets c inc end os
client_packets c inc end (output.Ready block ∷ os) = client_packets c inc end os

-- what the slot sends
abbrev pub slot_packets : List tellings.Out → List Packet
slot_packets [] = []
slot_packets (telling.Grant client block stamp inc req mode entry ∷ os) = GrantSent client block stamp inc req mode entry ∷ slot_packets os
slot_packets (telling.Forward passer block stamp client inc req ver ∷ os) = ForwardSent passer client block stamp inc req ver ∷ slot_packets os
slot_packets (telling.Recall client block stamp keep ∷ os) = RecallSent client block stamp keep ∷ slot_packets os
slot_packets (telling.Applied log upto ∷ os) = slot_packets os
slot_packets (telling.Live entry ∷ os) = slot_packets os
slot_packets (telling.Dead ∷ os) = slot_packets os

-- a client took an input
abbrev pub after_client : Net → ℕ → ℕ → client.Done → Net
after_client n c end d = record n { tokens = put n.tokens c d.state; sent = client_packets c d.state.inc end d.outs ++ n.sent }

-- and these acts were done
abbrev pub acted : Net → List Act → Net
acted n acts = record n { acts = n.acts ++ acts }

-- what a client acts at an input: a block that may be written is
abbrev pub acts_by : ℕ → TokensState → inputs.In → List Act
acts_by c s (input.Wrote block value) = if may_write (held_of s.blocks block) then act.Wrote c block value ∷ [] else []
acts_by c s _ = []

-- the versions of these rows are settled
abbrev pub all_settled : TokensState → List (BlockId × Row) → TokensState
all_settled s rows = (steps (λ t (r : BlockId × Row). client.transition t (input.Settled r.0 r.1.version)) s rows).state

-- a slot took an input
abbrev pub after_slot : Net → ℕ → slot.Done → Net
after_slot n e d = record n { slots = put n.slots e (Some d.state); sent = slot_packets d.outs ++ n.sent }

-- what a client takes of its own accord
abbrev pub IsOwnAct : inputs.In → Type 0
IsOwnAct (input.Need block mode) = Unit {0}
IsOwnAct (input.Granted block stamp inc req mode entry) = ⊥
IsOwnAct (input.Supplied block stamp inc req ver value) = ⊥
IsOwnAct (input.Forwarded block stamp ver) = ⊥
IsOwnAct (input.Recalled block stamp keep) = ⊥
IsOwnAct (input.Wrote block value) = Unit {0}
IsOwnAct (input.Settled block ver) = ⊥
IsOwnAct (input.Fetched block value) = ⊥
IsOwnAct (input.Evict block) = Unit {0}
IsOwnAct (input.Reask block) = Unit {0}
IsOwnAct (input.Quit block) = Unit {0}
IsOwnAct (input.Promise slot epoch) = Unit {0}
IsOwnAct input.Tick = Unit {0}

-- what a client takes about a block of another slot, of which nothing is said here
abbrev pub IsOfOther : ℕ → inputs.In → Type 0
IsOfOther part (input.Need block mode) = ⊥
IsOfOther part (input.Granted block stamp inc req mode entry) = is_in_slot part block ≡ false
IsOfOther part (input.Supplied block stamp inc req ver value) = is_in_slot part block ≡ false
IsOfOther part (input.Forwarded block stamp ver) = ⊥
IsOfOther part (input.Recalled block stamp keep) = is_in_slot part block ≡ false
IsOfOther part (input.Wrote block value) = ⊥
IsOfOther part (input.Settled block ver) = ⊥
IsOfOther part (input.Fetched block value) = ⊥
IsOfOther part (input.Evict block) = ⊥
IsOfOther part (input.Reask block) = ⊥
IsOfOther part (input.Quit block) = ⊥
IsOfOther part (input.Promise slot epoch) = ⊥
IsOfOther part input.Tick = ⊥

-- no manager is of a later epoch
abbrev pub IsLatest : Net → ℕ → Type 0
IsLatest n e = (k : ℕ) (s : SlotState) → n.slots k ≡ Some s → k ≤ e

-- one of the clients, from 1 to below `members`, that serves; where logs keep their word, this is the end of its log
pub record IsServing (logs : Bool) (members : ℕ) (n : Net) (c end : ℕ) : Type 0 where
  pub some : 0 < c
  pub within : c < members
  pub up : n.up c ≡ true
  pub end_is : Premise logs (end ≡ n.books.end c)

-- What can happen, for the clients from 1 to below `members`, and for this slot of the map.
pub data Happens (logs : Bool) (members part : ℕ) : Net → Net → Type 0 where
  -- a client takes an input of its own accord
  Acts : {n : Net} (c end : ℕ) (i : inputs.In) → IsServing logs members n c end → IsOwnAct i
      → Happens logs members part n (acted (after_client n c end (client.transition (n.tokens c) i)) (acts_by c (n.tokens c) i))
  -- a client takes an input about a block of another slot
  Elsewhere : {n : Net} (c end : ℕ) (i : inputs.In) → IsServing logs members n c end → IsOfOther part i
      → Happens logs members part n (after_client n c end (client.transition (n.tokens c) i))
  -- a client reports what it holds of the slot
  Reports : {n : Net} (c end : ℕ) → IsServing logs members n c end
      → Happens logs members part n (record n { sent = ReportSent c (epoch_of (n.tokens c).epochs part) (held_in part (n.tokens c).blocks) end ∷ n.sent })
  -- a client gets a Grant of a copy
  GetsCopy : {n : Net} (c end : ℕ) (block : BlockId) (stamp : Stamp) (inc req : ℕ) (entry : Entry) → IsServing logs members n c end
      → In (GrantSent c block stamp inc req Copy entry) n.sent
      → Happens logs members part n (after_client n c end (client.transition (n.tokens c) (input.Granted block stamp inc req Copy entry)))
  -- a client gets a Grant to own that it accepts, and writes in the same event
  GetsOwn : {n : Net} (c end : ℕ) (block : BlockId) (stamp : Stamp) (inc req : ℕ) (entry : Entry) (value : Option (List ℕ)) → IsServing logs members n c end
      → In (GrantSent c block stamp inc req Own entry) n.sent → client.accepts (n.tokens c) block stamp inc req Own ≡ true → nat_lt entry.ver u64_end ≡ true
      → Happens logs members part n
      (acted (after_client n c end (granted_and_wrote (n.tokens c) stamp inc req block entry value)) (act.Wrote c block value ∷ []))
  -- a client gets a Grant to own that it accepts, and lets it go in the same event
  Declines : {n : Net} (c end : ℕ) (block : BlockId) (stamp : Stamp) (inc req : ℕ) (entry : Entry) → IsServing logs members n c end
      → In (GrantSent c block stamp inc req Own entry) n.sent → client.accepts (n.tokens c) block stamp inc req Own ≡ true
      → Happens logs members part n (after_client n c end (granted_and_evicted (n.tokens c) stamp inc req block entry))
  -- a client gets a Recall
  GetsRecall : {n : Net} (c end : ℕ) (block : BlockId) (stamp : Stamp) (keep : Bool) → IsServing logs members n c end
      → In (RecallSent c block stamp keep) n.sent
      → Happens logs members part n (after_client n c end (client.transition (n.tokens c) (input.Recalled block stamp keep)))
  -- a client gets a Forward that it serves
  GetsForward : {n : Net} (c other : ℕ) (block : BlockId) (stamp : Stamp) (inc req ver : ℕ) (value : Option (List ℕ))
      → 0 < c → c < members → In (ForwardSent c other block stamp inc req ver) n.sent → n.up c ≡ true → client.serves (n.tokens c) block stamp ver ≡ true
      → (held_of (n.tokens c).blocks block).value ≡ Some value
      → Happens logs members part n (record n { sent = SupplySent other block stamp inc req ver value ∷ n.sent })
  -- a client gets a Supply
  GetsSupply : {n : Net} (c end : ℕ) (block : BlockId) (stamp : Stamp) (inc req ver : ℕ) (value : Option (List ℕ)) → IsServing logs members n c end
      → In (SupplySent c block stamp inc req ver value) n.sent
      → Happens logs members part n (after_client n c end (client.transition (n.tokens c) (input.Supplied block stamp inc req ver value)))
  -- a client has read the block of a fetch
  Fetches : {n : Net} (c end : ℕ) (block : BlockId) (value : Option (List ℕ)) → IsServing logs members n c end
      → Premise logs (ReadsThere n.books (n.tokens c) block value)
      → Happens logs members part n (after_client n c end (client.transition (n.tokens c) (input.Fetched block value)))
  -- a client's call reads a block that the client holds
  Reads : {n : Net} (c : ℕ) (block : BlockId) (value : Option (List ℕ)) → 0 < c → c < members → n.up c ≡ true
      → is_held (held_of (n.tokens c).blocks block).mode ≡ true → (held_of (n.tokens c).blocks block).value ≡ Some value
      → Happens logs members part n (acted n (act.Read c block (held_of (n.tokens c).blocks block).ver value ∷ []))
  -- a client's sync ends: nothing is dirty
  Syncs : {n : Net} (c : ℕ) → 0 < c → c < members → n.up c ≡ true → Premise logs (AllClean (n.tokens c))
      → Happens logs members part n (acted n (act.Synced c ∷ []))
  -- a client seals a segment while none is in flight
  Seals : {n : Net} (c : ℕ) (rows : List (BlockId × Row)) → 0 < c → c < members → n.up c ≡ true → Premise logs (n.books.flying c ≡ false)
      → Premise logs (SealsNewest (n.tokens c) rows) → Happens logs members part n (record n { books = sealed n.books c rows })
  -- a client's segment is filed, and its versions are settled
  Files : {n : Net} (c : ℕ) → 0 < c → c < members → n.up c ≡ true → Premise logs (n.books.flying c ≡ true)
      → Happens logs members part n
      (record n { tokens = put n.tokens c (all_settled (n.tokens c) (n.books.rows c (suc (n.books.end c)))); books = filed n.books c })
  -- a slot gets Deltas
  GetsDeltas : {n : Net} (e : ℕ) (s : SlotState) (log : LogId) (first upto : ℕ) (rows : List (BlockId × Entry)) → n.slots e ≡ Some s
      → log.0 - 1 < length s.applied
      → Premise logs (0 < log.0) → Premise logs (IsLatest n e → DeltasCover part n.books s log upto rows)
      → Happens logs members part n (after_slot n e (slot.transition s (told.Deltas log first upto rows)))
  -- a slot gets a Want
  GetsWant : {n : Net} (e : ℕ) (s : SlotState) (c inc req again : ℕ) (block : BlockId) (mode : Mode) (end : ℕ) → n.slots e ≡ Some s
      → In (WantSent c inc req again block mode end) n.sent
      → Happens logs members part n (after_slot n e (slot.transition s (told.Want (slot.want_of c block inc req again mode) end)))
  -- a slot gets a Gave
  GetsGave : {n : Net} (e : ℕ) (s : SlotState) (c : ℕ) (block : BlockId) (stamp : Stamp) (end : ℕ) → n.slots e ≡ Some s → In (GaveSent c block stamp end) n.sent
      → Happens logs members part n (after_slot n e (slot.transition s (told.Gave c block stamp end)))
  -- a manager ticks
  Ticks : {n : Net} (e : ℕ) (s : SlotState) → n.slots e ≡ Some s → Happens logs members part n (after_slot n e (slot.transition s told.Tick))
  -- a client falls, and names no block twice
  Crashes : {n : Net} (c : ℕ) (flight : Option (ℕ × ℕ)) (falls : List Fall) → 0 < c → c < members → n.up c ≡ true → NamesNoBlockTwice falls
      → Premise logs (FallsSo n.books c (n.tokens c) flight falls)
      → Happens logs members part n (acted (record n { up = put n.up c false }) (act.Fell c flight falls ∷ []))
  -- A client returns in a later incarnation, and promises no less than before. By the chain that it found, what it had in flight is filed or is no more; behind
  -- it so many segments are filed that say nothing.
  Returns : {n : Net} (c inc : ℕ) (epochs : List ℕ) (chain : List SegName) (count : ℕ) → 0 < c → c < members → n.up c ≡ false → (n.tokens c).inc < inc
      → epoch_of (n.tokens c).epochs part ≤ epoch_of epochs part → Premise logs (adopts n.acts c chain ≡ true → n.books.flying c ≡ true)
      → Happens logs members part n (acted
      (record n {
        tokens = put n.tokens c (fresh_tokens inc epochs);
        up = put n.up c true;
        books = with_empty count (reopened n.books c (adopts n.acts c chain)) c;
      })
      (act.Back c chain ∷ []))
  -- the cleaner seals copies while none of its segments is in flight
  SealsCopies : {n : Net} (l : ℕ) (rows : List (BlockId × Row)) → members ≤ l → Premise logs (n.books.flying l ≡ false)
      → Premise logs (SealsOriginals n.books rows)
      → Happens logs members part n (record n { books = sealed n.books l rows })
  -- its segment is filed
  FilesCopies : {n : Net} (l : ℕ) → members ≤ l → Premise logs (n.books.flying l ≡ true) → Happens logs members part n (record n { books = filed n.books l })
  -- it opens its log again
  Reopens : {n : Net} (l : ℕ) (adopted : Bool) (count : ℕ) → members ≤ l → Premise logs (adopted ≡ true → n.books.flying l ≡ true)
      → Happens logs members part n (record n { books = with_empty count (reopened n.books l adopted) l })
  -- a manager becomes active at an epoch, with a report of that epoch from each client, in the order in which they came
  Activates : {n : Net} (e : ℕ) (index : List (BlockId × Entry)) (applied : List ℕ) (rows : ℕ → List (BlockId × Mode)) (ends : ℕ → ℕ) (order : List ℕ)
      → n.slots e ≡ None → ((c : ℕ) → 0 < c → c < members → Contains order c) → All (λ c. (0 < c) × (c < members)) order
      → ((c : ℕ) → 0 < c → c < members → In (ReportSent c e (rows c) (ends c)) n.sent)
      → Premise logs (IsLatest n e → Gathered members part n.books index applied ends)
      → Happens logs members part n (record n { slots = put n.slots e (Some (slot.slot_start e index (all_reported rows order) applied)) })
  -- an act that changes no history is done
  Says : {n : Net} (a : Act) → IsNeutral a → Happens logs members part n (acted n (a ∷ []))

-- Any list of such things, oldest first.
pub data Runs (logs : Bool) (members part : ℕ) : Net → Net → Type 0 where
  Begun : {n : Net} → Runs logs members part n n
  On : {n m o : Net} → Runs logs members part n m → Happens logs members part m o → Runs logs members part n o

-- At the start all clients serve and hold nothing, one manager is active at epoch 1, the cleaner has promised that, and nothing is written.
abbrev pub opening : Net
opening = record {
  tokens = λ c. fresh_tokens 1 (1 ∷ 1 ∷ 1 ∷ 1 ∷ 1 ∷ 1 ∷ 1 ∷ 1 ∷ []);
  up = λ c. true;
  slots = put (λ e. None) 1 (Some (slot.slot_start 1 [] [] (0 ∷ 0 ∷ 0 ∷ 0 ∷ 0 ∷ 0 ∷ 0 ∷ 0 ∷ 0 ∷ [])));
  sent = [];
  promised = 1;
  books = no_books;
  acts = [];
}
