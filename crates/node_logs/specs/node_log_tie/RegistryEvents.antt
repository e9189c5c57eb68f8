-- What an event makes of the registry, as the small world of one log sees it.
use Rattle.std.specs.Prelude.{◌≡◌, ◌<◌, ◌≤◌, ◌⊎◌, ℕ, suc, true, List, [], Some, length}
use Rattle.xfs_base.specs.declared.segment.SegName.{SegName}
use Rattle.xfs_base.specs.declared.setup.Setup.{Setup}
use Rattle.xfs_base.specs.Limits.{slot_count, block_logs}
use Rattle.group_map.specs.declared.group.Group.{Group}
use Rattle.group_map.specs.GroupMapState.{GroupMapState}
use Rattle.group_map.specs.Groups.{group_of, generation_at}
use Rattle.group_map.specs.WellFormed.{IsGroupMap}
use Rattle.log_flight.specs.Fate.{has_server}
use Rattle.registry.specs.Board.{board_slots}
use Rattle.registry.specs.BoardState.{BoardState}
use Rattle.registry.specs.Checkpoints.{horizon_at}
use Rattle.version_model.specs.declared.work.Work.{Work}
use Rattle.wire_msg.specs.declared.packet.Do.{Do}
use Rattle.wire_msg.specs.declared.packet.Do.TheVariants.{Begin, Deliver, Tick}
use Rattle.node_base.specs.Setups.{IsSetup}
use Rattle.registry_node.specs.declared.node.RegistryNode.{RegistryNode}
use Rattle.registry_node.specs.Events.{registry_start, registry_step}
use Rattle.log_scan.specs.Transition.{least_horizon}
use Rattle.log_protocol.specs.Tables.{In}
use Rattle.log_tie.specs.Setting.{Setting, stripe_of_group}
use Rattle.log_law.specs.Net.{Net}
use Rattle.log_law.specs.Events.{Runs}
use Rattle.node_logs.specs.node_log_tie.Sight.{Asker, PacketSeen, AllSeen}

-- each group id names its stripe
abbrev pub NamesGroups : Setting → GroupMapState → Type 0
NamesGroups g m = (id : ℕ) (group : Group) → group_of m id ≡ Some group → g.stripe id ≡ stripe_of_group group

-- the least horizon of the log, by all slots' newest checkpoints
abbrev pub low_of : Setting → BoardState → ℕ
low_of g b = least_horizon g.log.0 (board_slots b)

-- ---- how the registry is seen

-- the generations that it keeps and its least horizon of the log are those of the small world
pub record RegistrySeen (g : Setting) (n : Net) (b : BoardState) : Type 0 where
  pub map : IsGroupMap b.groups
  pub size : b.groups.servers ≡ g.servers
  pub named : NamesGroups g b.groups
  pub known : (v : ℕ) → has_server b.groups v ≡ true → n.registry v ≡ generation_at b.groups.generations v
  pub low : n.low ≡ low_of g b
  pub horizons : (slot : ℕ) → slot < slot_count → length (horizon_at b.checkpoints slot) ≡ block_logs

-- ---- what the world owes an event

-- a horizon is no further than what was filed
abbrev pub IsFiled : Net → ℕ → Type 0
IsFiled n low = (low ≤ n.low) ⊎ ((name : SegName) × In name n.filed × (low ≤ suc name.seq))

-- the setting names the stripes of all groups that are made, and no horizon is kept beyond what was filed
pub record Keeps (g : Setting) (n : Net) (b : BoardState) : Type 0 where
  pub named : NamesGroups g b.groups
  pub filed : IsFiled n (low_of g b)

abbrev pub Hears : Setting → Asker → Net → Do → Type 0
Hears g owner n Begin = Unit {0}
Hears g owner n (Deliver packet) = PacketSeen g owner n packet
Hears g owner n Tick = Unit {0}

-- ---- what an event makes of it

-- the small world but for what the registry knows, and for what was sent
abbrev pub all_but_known : Net → Net
all_but_known n = record n { registry = λ v. 0; low = 0; sent = [] }

-- The small world runs on, by what the registry does alone, to a net in which it is seen as it is then, and all that it sends was sent.
pub record RegistryGoes (g : Setting) (owner : Asker) (n : Net) (r : RegistryNode) (what : Do) : Type 0 where
  pub next : Net
  pub runs : Runs g n next
  pub seen : RegistrySeen g next (registry_step r what).node.board
  pub sends : AllSeen g owner next (registry_step r what).packets
  pub rest : all_but_known next ≡ all_but_known n

-- Each event of the registry; the log is a client's or the cleaner's, of which horizons tell.
abbrev pub RegistryEventGoes : Type 0
RegistryEventGoes =
    (g : Setting) (owner : Asker) (n : Net) (r : RegistryNode) (what : Do) → g.log.0 ≤ block_logs → RegistrySeen g n r.board → Hears g owner n what
    → Keeps g n (registry_step r what).node.board → RegistryGoes g owner n r what

-- So is each event of it in the small world of a log of which no horizon tells, as a manager's is: there the least horizon stays 1.
abbrev pub RegistryGoesAbove : Type 0
RegistryGoesAbove =
    (g : Setting) (owner : Asker) (n : Net) (r : RegistryNode) (what : Do) → block_logs < g.log.0 → RegistrySeen g n r.board → Hears g owner n what
    → NamesGroups g (registry_step r what).node.board.groups → RegistryGoes g owner n r what

-- At the start of a run the registry knows each server at generation 1, and no horizon above 1.
abbrev pub RegistryStarts : Type 0
RegistryStarts =
    (g : Setting) (n : Net) (setup : Setup) (items : List Work) → IsSetup setup → setup.servers ≡ g.servers
    → NamesGroups g (registry_start setup items).board.groups
    → ((v : ℕ) → n.registry v ≡ 1) → n.low ≡ 1 → RegistrySeen g n (registry_start setup items).board
