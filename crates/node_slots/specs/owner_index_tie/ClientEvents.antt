-- How a client is seen in the small world of one slot's index, what the world owes each event of it, and what the event is there.
use Rattle.std.specs.Prelude.{◌≡◌, ℕ, ◌<◌, ◌≤◌, List}
use Rattle.std.specs.List.{All}
use Rattle.client_node.specs.Phases.{Went_to, takes}
use Rattle.client_node.specs.Starting.{client_start}
use Rattle.client_node.specs.declared.client.Client.{Client as AClient}
use Rattle.client_node.specs.declared.phase.Phase.{Phase}
use Rattle.client_node.specs.declared.phase.Phase.TheVariants.{Down, Opening, Serving as Serves}
use Rattle.headline.specs.Filed.{AreTexts, Filed, Texts}
use Rattle.index_tie.specs.Growth.{IsMore}
use Rattle.index_tie.specs.Net.{Net, Runs, IsNewer, opening}
use Rattle.index_tie.specs.Takeovers.{Linked}
use Rattle.headline.specs.Indexes.{of_log}
use Rattle.node_slots.specs.node_index_tie.Pages.{FlightIsText}
use Rattle.node_slots.specs.node_index_tie.Sight.{held_in}
use Rattle.segment_format.specs.declared.segment.Segment.{Segment}
use Rattle.token_client.specs.State.{TokensState, epoch_of}
use Rattle.version_model.specs.declared.work.Work.{Work}
use Rattle.wire_msg.specs.declared.body.Body.{Body}
use Rattle.wire_msg.specs.declared.body.Body.TheVariants as body
use Rattle.wire_msg.specs.declared.deltas.Poll.{Poll}
use Rattle.wire_msg.specs.declared.packet.Do.{Do}
use Rattle.wire_msg.specs.declared.packet.Do.TheVariants.{Begin, Deliver, Tick}
use Rattle.wire_msg.specs.declared.packet.Packet.{Packet}
use Rattle.xfs_base.specs.Blocks.{slot_of}
use Rattle.xfs_base.specs.declared.block.BlockId.{BlockId}
use Rattle.xfs_base.specs.declared.setup.Setup.{Setup}
use Rattle.xfs_base.specs.Logs.{cleaners_number}
use Rattle.node_slots.specs.owner_index_tie.Filing.{filing, filed_after, FilesOwed, IsSameLog}
use Rattle.node_slots.specs.owner_index_tie.Owners.{LogFits, OwnerSeen, OpeningSeen, EndOwed, StageWrites, OwnerDoes}

-- ---- the client

module _ (part : ℕ) (texts : Texts) (n : Net) (c : ℕ) where
  -- one that is down, or opens its log
  pub record RestingSeen (number : ℕ) : Type 0 where
    pub number_is : number ≡ c
    pub fits : LogFits part n c

  -- Client c is seen as the owner of log c; what it has in flight is the text of its name.
  abbrev pub ClientAgrees : Phase → Type 0
  ClientAgrees (Down l) = RestingSeen l.number
  ClientAgrees (Opening l o) = RestingSeen l.number × (OpeningSeen c o × StageWrites texts o.stage)
  ClientAgrees (Serves s) = OwnerSeen part n c s.lasting.number s.log s.feed × FlightIsText texts s.log

-- ---- what the world owes an event

-- what a client's segment says of the slot's blocks is newer than all that is filed, and at first hand
abbrev pub IsNewerAtSlot : ℕ → Filed → Segment → Type 0
IsNewerAtSlot part f s = (b : BlockId) → slot_of b.ino.0 ≡ part → IsNewer b f s

module _ (part : ℕ) (texts : Texts) (n : Net) (c : ℕ) where
  -- from the horizon of an epoch on that is polled, and that is none before the one that the tokens are of, the log is linked
  abbrev pub PollGets : TokensState → Poll → Type 0
  PollGets s m = m.slot ≡ part → epoch_of s.epochs part ≤ m.epoch → 0 < of_log (n.horizon m.epoch) c
      → Linked n.filed c (of_log (n.horizon m.epoch) c) (n.filed.head c)

  abbrev pub BodyGets : TokensState → Body → Type 0
  BodyGets s (body.Poll m) = PollGets s m
  BodyGets s _ = Unit {0}

  abbrev pub PacketGets : Phase → Packet → Type 0
  PacketGets (Serves s) packet = BodyGets s.tokens packet.body
  PacketGets (Opening l o) packet = Unit {0}
  PacketGets (Down l) packet = Unit {0}

  abbrev pub EventGets : Phase → Do → Type 0
  EventGets p (Deliver packet) = PacketGets p packet
  EventGets p Begin = Unit {0}
  EventGets p Tick = Unit {0}

  -- where an opening ends in this event: what it read back is what was filed and adopted
  abbrev pub ReopensOn : Phase → Phase → Type 0
  ReopensOn (Opening l o) (Serves s) = EndOwed texts c n.filed o.stage
  ReopensOn p q = Unit {0}

  -- what is in flight is the text of its name
  abbrev pub WritesTexts : Phase → Type 0
  WritesTexts (Down l) = Unit {0}
  WritesTexts (Opening l o) = StageWrites texts o.stage
  WritesTexts (Serves s) = FlightIsText texts s.log

  -- The world owes a client that what it acts to be filed is new, that what a reopening read back is what was filed and adopted, that the log is linked
  -- from the horizon of a polled epoch on, and that what the client writes are the texts of their names.
  pub record ClientOwed (p : Phase) (what : Do) (w : Went_to) : Type 0 where
    pub files : FilesOwed (IsNewerAtSlot part) texts c n.filed w.outs
    pub reopens : ReopensOn p w.state
    pub gets : EventGets p what
    pub writes : WritesTexts w.state

-- ---- what an event is

-- An event of client c is a list of things that happen in the small world: its log files each segment that it acts to be filed and that was not filed
-- before, and nothing else changes, of no other log. What it tells of its log is so then.
pub record ClientGoes (part : ℕ) (texts : Texts) (n : Net) (c : ℕ) (w : Went_to) : Type 0 where
  pub next : Net
  pub only_files : next ≡ filing n (filed_after texts c n.filed w.outs)
  pub more : IsMore n.filed next.filed
  pub others : (l : ℕ) → (l ≡ c → ⊥) → IsSameLog l n.filed next.filed
  pub runs : Runs part (held_in part texts) n next
  pub agrees : ClientAgrees part texts next c w.state
  pub named : AreTexts texts n.filed → AreTexts texts next.filed
  pub does : All (OwnerDoes part next c (n.filed.head c)) w.outs

-- Each event of client c, where the world owes it what it needs.
abbrev pub ClientEventGoes : Type 0
ClientEventGoes =
    (part : ℕ) (texts : Texts) (n : Net) (c : ℕ) (client : AClient) (what : Do) → 0 < c → c < cleaners_number → ClientAgrees part texts n c client.phase
    → ClientOwed part texts n c client.phase what (takes client what) → ClientGoes part texts n c (takes client what)

-- At the start of a run a client is seen in the opening of the small world.
abbrev pub FirstClientAgrees : Type 0
FirstClientAgrees =
    (part : ℕ) (texts : Texts) (any : ℕ → ℕ → Segment) (c : ℕ) (setup : Setup) (works : List Work)
    → ClientAgrees part texts (opening any) c (client_start c setup works).phase

-- What others do leaves a client seen, where what is filed of its log stays as it is.
abbrev pub ClientsStay : Type 0
ClientsStay = (part : ℕ) (texts : Texts) (n m : Net) (c : ℕ) (p : Phase) → IsSameLog c n.filed m.filed → ClientAgrees part texts n c p
    → ClientAgrees part texts m c p
