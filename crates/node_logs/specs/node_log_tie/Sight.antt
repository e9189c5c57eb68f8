-- How what nodes send is seen in the small world of one log: a packet about the log has its thing among what was sent there. A body about another log, or
-- about another matter, asks nothing.
use Rattle.std.specs.Prelude.{◌≡◌, ◌≤◌, ℕ, ◌==◌, true, filter, List, All}
use Rattle.xfs_base.specs.declared.fragment.FragMeta.{FragMeta}
use Rattle.xfs_base.specs.declared.node.NodeId.{NodeId}
use Rattle.xfs_base.specs.declared.node.NodeId.TheVariants.{Server}
use Rattle.xfs_base.specs.declared.segment.SegName.{SegName}
use Rattle.wire_msg.specs.declared.body.Body.{Body}
use Rattle.wire_msg.specs.declared.body.Body.TheVariants as body
use Rattle.wire_msg.specs.declared.packet.Packet as packets
use Rattle.wire_msg.specs.declared.registry.Hello.{Hello}
use Rattle.wire_msg.specs.declared.registry.News.{News}
use Rattle.wire_msg.specs.declared.registry.Welcome.{Welcome}
use Rattle.wire_msg.specs.declared.storage.Delete.{Delete}
use Rattle.wire_msg.specs.declared.storage.Fence.{Fence}
use Rattle.wire_msg.specs.declared.storage.Fenced.{Fenced}
use Rattle.wire_msg.specs.declared.storage.Found.{Found}
use Rattle.wire_msg.specs.declared.storage.Listed.{Listed}
use Rattle.wire_msg.specs.declared.storage.Store.{Store}
use Rattle.wire_msg.specs.declared.storage.Stored.{Stored}
use Rattle.log_scan.specs.Transition.{least_horizon}
use Rattle.log_protocol.specs.Tables.{In}
use Rattle.log_tie.specs.Setting.{Setting}
use Rattle.log_tie.specs.Shelves.{is_of_log}
use Rattle.log_law.specs.Net.{Net, Packet}
use Rattle.log_law.specs.Net.Packet.{StoreSent, StoredSent, FragmentSent, FenceSent, FencedSent, ListedSent, DeleteSent, MapSent, HelloSent, WelcomeSent}

-- What the owner asked the registry by a number of its node: nothing, the maps alone, or a question of its opening, by the opening's own number of it.
pub data Question : Type 0 where
  Unasked : Question
  OfMaps : Question
  OfOpening : ℕ → Question

pub record Asker : Type 0 where
  pub node : NodeId
  pub asked : ℕ → Question

module _ (g : Setting) (owner : Asker) (n : Net) where
  -- where the name is of the log, this was sent there
  abbrev pub SentOf : SegName → Packet → Type 0
  SentOf name p = is_of_log g name ≡ true → In p n.sent

  -- ---- storage servers

  -- only a server gets Stores and Fences
  abbrev pub StoreSeen : NodeId → Store → Type 0
  StoreSeen (Server v) m = SentOf m.fragment.meta.name (StoreSent v m.fragment m.generation)
  StoreSeen _ m = Unit {0}

  -- a Fence of the log is for the first pass of a boot
  abbrev pub FenceSeen : NodeId → Fence → Type 0
  FenceSeen (Server v) m = (m.log.0 == g.log.0) ≡ true → (m.pass.att ≡ 0) × In (FenceSent v m.pass.inc) n.sent
  FenceSeen _ m = Unit {0}

  abbrev pub FencedSeen : NodeId → Fenced → Type 0
  FencedSeen (Server v) m = (m.log.0 == g.log.0) ≡ true → In (FencedSent v m.pass.inc m.generation m.held) n.sent
  FencedSeen _ m = Unit {0}

  abbrev pub StoredSeen : Stored → Type 0
  StoredSeen m = SentOf m.name (StoredSent m.name m.index m.generation)

  abbrev pub FragmentSeen : Found → Type 0
  FragmentSeen m = SentOf m.fragment.meta.name (FragmentSent m.fragment)

  -- what is listed of the log
  abbrev pub ListedSeen : Listed → Type 0
  ListedSeen m = In (ListedSent (filter (λ (meta : FragMeta). is_of_log g meta.name) m.held)) n.sent

  abbrev pub DeleteSeen : Delete → Type 0
  DeleteSeen m = SentOf m.name (DeleteSent m.name)

  -- ---- the registry

  -- the owner says Hello by a number that it asked by, a server with a generation that it has reached
  abbrev pub AskedBy : ℕ → Question → Type 0
  AskedBy inc Unasked = ⊥
  AskedBy inc OfMaps = Unit {0}
  AskedBy inc (OfOpening own) = In (HelloSent inc own) n.sent

  abbrev pub AnsweredBy : Welcome → Question → Type 0
  AnsweredBy m Unasked = ⊥
  AnsweredBy m OfMaps = Unit {0}
  AnsweredBy m (OfOpening own) = In (WelcomeSent m.inc own m.news.slots m.news.groups) n.sent

  abbrev pub ReachedBy : NodeId → ℕ → Type 0
  ReachedBy (Server v) generation = generation ≤ (n.shelves v).generation
  ReachedBy _ generation = Unit {0}

  pub record HelloSeen (from : NodeId) (m : Hello) : Type 0 where
    pub own : from ≡ owner.node → AskedBy m.inc (owner.asked m.ask)
    pub reached : ReachedBy from m.inc

  -- whoever gets a Welcome gets a map, and a horizon that the least one of the log has reached
  pub record WelcomeSeen (to : NodeId) (m : Welcome) : Type 0 where
    pub own : to ≡ owner.node → AnsweredBy m (owner.asked m.ask)
    pub map : In (MapSent m.news.groups) n.sent
    pub low : least_horizon g.log.0 m.news.slots ≤ n.low

  abbrev pub NewsSeen : News → Type 0
  NewsSeen m = In (MapSent m.groups) n.sent

  -- ---- all bodies

  abbrev pub BodySeen : NodeId → NodeId → Body → Type 0
  BodySeen from to (body.Store m) = StoreSeen to m
  BodySeen from to (body.Stored m) = StoredSeen m
  BodySeen from to (body.Fragment m) = FragmentSeen m
  BodySeen from to (body.Fence m) = FenceSeen to m
  BodySeen from to (body.Fenced m) = FencedSeen from m
  BodySeen from to (body.Listed m) = ListedSeen m
  BodySeen from to (body.Delete m) = DeleteSeen m
  BodySeen from to (body.Hello m) = HelloSeen from m
  BodySeen from to (body.Welcome m) = WelcomeSeen to m
  BodySeen from to (body.MapNews m) = NewsSeen m
  BodySeen from to _ = Unit {0}

  abbrev pub PacketSeen : packets.Packet → Type 0
  PacketSeen p = BodySeen p.from p.to p.body

  abbrev pub AllSeen : List packets.Packet → Type 0
  AllSeen sent = All PacketSeen sent
