-- How the registry is seen in the small world of one slot's index, and what one event of it is there.
use Rattle.std.specs.Prelude.{◌≡◌, ◌≤◌, ◌<◌, ℕ, List, None, length}
use Rattle.index_tie.specs.Net.{Net, Runs, opening}
use Rattle.index_tie.specs.Net.Packet.{CheckpointDone}
use Rattle.headline.specs.Indexes.{epoch_in, of_log}
use Rattle.log_protocol.specs.Tables.{In}
use Rattle.node_slots.specs.node_tie.RegistryEvents.{RegistrySound}
use Rattle.registry.specs.Board.{board_slots}
use Rattle.registry.specs.Checkpoints.{parts_at, horizon_at}
use Rattle.segment_format.specs.declared.segment.Segment.{Segment}
use Rattle.registry_node.specs.Events.{registry_start, registry_step}
use Rattle.registry_node.specs.declared.node.RegistryNode.{RegistryNode}
use Rattle.token_protocol.specs.Basics.{In as Among}
use Rattle.version_model.specs.declared.work.Work.{Work}
use Rattle.wire_msg.specs.declared.body.Body.{Body}
use Rattle.wire_msg.specs.declared.body.Body.TheVariants as body
use Rattle.wire_msg.specs.declared.packet.Do.{Do}
use Rattle.wire_msg.specs.declared.packet.Do.TheVariants.{Begin, Deliver, Tick}
use Rattle.wire_msg.specs.declared.registry.CkptDone.{CkptDone}
use Rattle.xfs_base.specs.Limits.{u32_end, slot_count, block_logs}
use Rattle.xfs_base.specs.declared.news.SlotNews.{SlotNews}
use Rattle.xfs_base.specs.declared.segment.SegRef.{SegRef}
use Rattle.xfs_base.specs.declared.setup.Setup.{Setup}
use Rattle.node_slots.specs.node_index_tie.Sight.{held_in}
use Rattle.headline.specs.Filed.{Texts}

-- each log has a first segment that isn't covered, whose number is within its type
pub record IsHorizon (horizon : List ℕ) : Type 0 where
  pub from_one : (l : ℕ) → 0 < l → l ≤ block_logs → 0 < of_log horizon l
  pub short : (l : ℕ) → of_log horizon l ≤ u32_end

module _ (part : ℕ) (n : Net) where
  -- The registry has the small world's epoch of the slot, and its checkpoint of that epoch, which is that of all later ones.
  pub record RegistryAgrees (r : RegistryNode) : Type 0 where
    pub epoch : epoch_in r.board part ≡ n.epoch
    pub horizon : horizon_at r.board.checkpoints part ≡ n.horizon n.epoch
    pub parts : parts_at r.board.checkpoints part ≡ n.parts n.epoch
    pub eight : length r.board.checkpoints ≡ slot_count
    pub later_horizon : (e : ℕ) → n.epoch ≤ e → n.horizon e ≡ n.horizon n.epoch
    pub later_parts : (e : ℕ) → n.epoch ≤ e → n.parts e ≡ n.parts n.epoch
    pub horizon_fits : IsHorizon (n.horizon n.epoch)

  -- a checkpoint of the slot was sent, and its numbers are within their type
  pub record DoneKnown (m : CkptDone) : Type 0 where
    pub sent : In (CheckpointDone m.epoch m.horizon m.parts) n.sent
    pub short : (l : ℕ) → of_log m.horizon l ≤ u32_end

  abbrev pub BodyGets : Body → Type 0
  BodyGets (body.CkptDone m) = m.slot ≡ part → DoneKnown m
  BodyGets _ = Unit {0}

  abbrev pub DoGets : Do → Type 0
  DoGets (Deliver packet) = BodyGets packet.body
  DoGets Begin = Unit {0}
  DoGets Tick = Unit {0}

  -- The world owes the registry that a checkpoint that comes was sent. That one is sent only at an epoch that has a manager is a law of the small world
  -- (`CheckpointsHaveManagers`).
  pub record RegistryOwed (what : Do) : Type 0 where
    pub gets : DoGets what
    pub managed : (horizon : List ℕ) (parts : List SegRef) → In (CheckpointDone n.epoch horizon parts) n.sent → n.slots n.epoch ≡ None → ⊥

  -- news of the slot tell what the registry keeps
  pub record NewsTold (news : SlotNews) : Type 0 where
    pub epoch : news.epoch ≡ n.epoch
    pub horizon : news.horizon ≡ n.horizon n.epoch
    pub parts : news.parts ≡ n.parts n.epoch
    pub horizon_fits : IsHorizon news.horizon

-- An event of the registry is a list of things that happen in the small world: its epoch rises by one, or a checkpoint of it is kept. What is kept of an
-- epoch at which there is no manager yet stays.
pub record RegistryGoes (part : ℕ) (texts : Texts) (n : Net) (r : RegistryNode) (what : Do) : Type 0 where
  pub next : Net
  pub runs : Runs part (held_in part texts) n next
  pub agrees : RegistryAgrees part next (registry_step r what).node
  pub slots : next.slots ≡ n.slots
  pub sent : next.sent ≡ n.sent
  pub filed : next.filed ≡ n.filed
  pub promised : next.promised ≡ n.promised
  pub job : next.job ≡ n.job
  pub number : next.number ≡ n.number
  pub deleted : next.deleted ≡ n.deleted
  pub epoch : n.epoch ≤ next.epoch
  pub horizon : (e : ℕ) → n.slots e ≡ None → e ≤ n.epoch → next.horizon e ≡ n.horizon e
  pub parts : (e : ℕ) → n.slots e ≡ None → e ≤ n.epoch → next.parts e ≡ n.parts e
  -- what its maps tell of the slot; all news that it sends are its maps'
  pub tells : (news : SlotNews) → Among news (board_slots (registry_step r what).node.board) → news.slot ≡ part → NewsTold part next news

-- Each event of the registry, where the world owes it what it needs.
abbrev pub RegistryEventGoes : Type 0
RegistryEventGoes =
    (part : ℕ) (texts : Texts) (n : Net) (r : RegistryNode) (what : Do) → part < slot_count → RegistrySound r → RegistryAgrees part n r → RegistryOwed part n what
    → RegistryGoes part texts n r what

-- At the start of a run the registry is seen in the opening of the small world.
abbrev pub RegistryStarts : Type 0
RegistryStarts = (part : ℕ) (any : ℕ → ℕ → Segment) (setup : Setup) (items : List Work) → part < slot_count → RegistryAgrees part (opening any)
    (registry_start setup items)
