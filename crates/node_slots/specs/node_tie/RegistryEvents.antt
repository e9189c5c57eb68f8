-- What an event makes of the registry, as one slot of the map sees it.
use Rattle.std.specs.Prelude.{◌≡◌, ℕ, List, ◌+◌, ◌%◌, ◌<◌, ◌≤◌, ◌⊎◌, All, Some, length, map, slice_get}
use Rattle.manager_map.specs.Slots.{manager_map_start, entry_at}
use Rattle.registry.specs.Board.{inc_of}
use Rattle.registry.specs.BoardState.{BoardState}
use Rattle.registry.specs.Slots.{all_slots, entry_of}
use Rattle.token_law.specs.Owed.{IsNeutral}
use Rattle.registry_node.specs.declared.node.RegistryNode.{RegistryNode}
use Rattle.registry_node.specs.Events.{registry_start, registry_step, news_of}
use Rattle.version_model.specs.declared.work.Work.{Work}
use Rattle.wire_msg.specs.declared.body.Body.{Body}
use Rattle.wire_msg.specs.declared.body.Body.TheVariants as body
use Rattle.wire_msg.specs.declared.packet.Do.{Do}
use Rattle.wire_msg.specs.declared.packet.Do.TheVariants.{Begin, Deliver, Tick}
use Rattle.wire_msg.specs.declared.packet.Packet.{Packet}
use Rattle.wire_msg.specs.declared.registry.Hello.{Hello}
use Rattle.wire_msg.specs.declared.registry.News.{News}
use Rattle.wire_msg.specs.declared.registry.Welcome.{Welcome}
use Rattle.xfs_base.specs.declared.news.SlotNews.{SlotNews}
use Rattle.xfs_base.specs.declared.node.NodeId.{NodeId}
use Rattle.xfs_base.specs.declared.node.NodeId.TheVariants.{Manager, Registry}
use Rattle.xfs_base.specs.declared.setup.Setup.{Setup}
use Rattle.xfs_base.specs.Limits.{slot_count}
use Rattle.headline.specs.Indexes.{epoch_in}

-- ---- what the registry keeps

abbrev pub manager_in : BoardState → ℕ → ℕ
manager_in b part = (entry_of b.entries part).manager

abbrev pub inc_in : BoardState → ℕ → ℕ
inc_in b manager = inc_of b.incs manager

-- there are eight slots, of epochs up to the version of the maps
pub record BoardSound (b : BoardState) : Type 0 where
  pub slots : length b.entries ≡ slot_count
  pub epochs : (slot : ℕ) → slot < slot_count → (entry_at b.entries slot).epoch ≤ b.version

abbrev pub RegistrySound : RegistryNode → Type 0
RegistrySound r = BoardSound r.board

-- ---- what is heard

-- the packet is a Hello of this node in this incarnation
pub record IsHello (packet : Packet) (node : NodeId) (inc : ℕ) : Type 0 where
  pub from : packet.from ≡ node
  pub hello : Hello
  pub said : packet.body ≡ body.Hello hello
  pub told : hello.inc ≡ inc

abbrev pub HearsHello : Do → NodeId → ℕ → Type 0
HearsHello Begin node inc = ⊥
HearsHello (Deliver packet) node inc = IsHello packet node inc
HearsHello Tick node inc = ⊥

-- ---- what is said

-- what the news of one slot say of the slot, where they are of it
abbrev pub SlotTells : ℕ → ℕ → ℕ → SlotNews → Type 0
SlotTells part epoch manager s = s.slot ≡ part → (s.epoch ≡ epoch) × (s.manager ≡ manager)

-- the news have the slots 0 to 7 in order, and say of this slot that it has this epoch and manager
pub record NewsTell (part epoch manager : ℕ) (news : News) : Type 0 where
  pub in_order : map (λ (s : SlotNews). s.slot) news.slots ≡ all_slots
  pub here : (s : SlotNews) × (slice_get news.slots part ≡ Some s) × (s.slot ≡ part) × (s.epoch ≡ epoch) × (s.manager ≡ manager)
  pub each : All (SlotTells part epoch manager) news.slots

-- the news are those of these maps
pub record NewsAre (part : ℕ) (b : BoardState) (news : News) : Type 0 where
  pub whole : news ≡ news_of b
  pub tell : NewsTell part (epoch_in b part) (manager_in b part) news

-- a Welcome goes to who said Hello, in the incarnation of that Hello; that of a manager is none above the one that is kept then
pub record Welcomes (part : ℕ) (what : Do) (b : BoardState) (to : NodeId) (m : Welcome) : Type 0 where
  pub heard : HearsHello what to m.inc
  pub kept : (manager : ℕ) → to ≡ Manager manager → m.inc ≤ inc_in b manager
  pub news : NewsAre part b m.news

module _ (part : ℕ) (what : Do) (b : BoardState) where
  abbrev pub RegistrySends : NodeId → Body → Type 0
  RegistrySends to (body.MapNews news) = NewsAre part b news
  RegistrySends to (body.Welcome m) = Welcomes part what b to m
  RegistrySends to (body.CkptAck m) = Unit {0}
  RegistrySends to _ = ⊥

-- ---- all of it

-- a slot is as it was, or has its next epoch
abbrev pub SlotGoes : ℕ → BoardState → BoardState → Type 0
SlotGoes part b next = ((epoch_in next part ≡ epoch_in b part) × (manager_in next part ≡ manager_in b part)) ⊎ (epoch_in next part ≡ epoch_in b part + 1)

-- What the maps after an event have of the slot and of incarnations, by what those before it have. `Told` has the incarnations that managers tell of.
pub record BoardGoes (part : ℕ) (Told : ℕ → ℕ → Type 0) (b next : BoardState) : Type 0 where
  pub sound : BoardSound next
  pub slot : SlotGoes part b next
  pub rises : (manager : ℕ) → inc_in b manager ≤ inc_in next manager
  -- under one epoch the slot's manager has one incarnation
  pub keeps : (manager : ℕ) → epoch_in next part ≡ epoch_in b part → manager_in b part ≡ manager → inc_in next manager ≡ inc_in b manager
  -- a greater incarnation was told of
  pub heard : (manager : ℕ) → (inc_in next manager ≤ inc_in b manager) ⊎ Told manager (inc_in next manager)
  pub version : b.version ≤ next.version

-- the registry after an event, and what it sends
pub record RegistryGoes (part : ℕ) (r : RegistryNode) (what : Do) : Type 0 where
  pub board : BoardGoes part (λ (manager inc : ℕ). HearsHello what (Manager manager) inc) r.board (registry_step r what).node.board
  pub peers : (registry_step r what).node.peers ≡ r.peers
  pub from : All (λ (p : Packet). p.from ≡ Registry) (registry_step r what).packets
  pub sends : All (λ (p : Packet). RegistrySends part what (registry_step r what).node.board p.to p.body) (registry_step r what).packets
  pub acts : All IsNeutral (registry_step r what).acts

-- the registry at the start of a run of so many managers
pub record RegistryBegins (part managers : ℕ) (r : RegistryNode) : Type 0 where
  pub sound : RegistrySound r
  pub epoch : epoch_in r.board part ≡ 1
  pub manager : manager_in r.board part ≡ part % managers + 1
  pub as_first : manager_in r.board part ≡ (entry_of (manager_map_start managers) part).manager
  pub incarnations : (manager : ℕ) → inc_in r.board manager ≡ 1

-- Each event of the registry, from its start on.
abbrev pub RegistryEventGoes : Type 0
RegistryEventGoes = (part : ℕ) → part < slot_count → (r : RegistryNode) → RegistrySound r → (what : Do) → RegistryGoes part r what

abbrev pub RegistryStarts : Type 0
RegistryStarts = (part : ℕ) → part < slot_count → (setup : Setup) (items : List Work) → RegistryBegins part setup.managers (registry_start setup items)
