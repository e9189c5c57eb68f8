-- What an event makes of a manager, as the small world of its own log sees it.
use Rattle.std.specs.Prelude.{◌≡◌, ◌<◌, ℕ, true, List, All}
use Rattle.group_map.specs.Groups as groups
use Rattle.version_model.specs.declared.work.Work.{Work}
use Rattle.wire_msg.specs.declared.packet.Do.{Do}
use Rattle.wire_msg.specs.declared.packet.Do.TheVariants.{Begin, Deliver, Tick}
use Rattle.wire_msg.specs.declared.packet.Packet as packets
use Rattle.wire_msg.specs.NodeStep.{NodeStep}
use Rattle.xfs_base.specs.declared.node.NodeId.TheVariants.{Manager}
use Rattle.xfs_base.specs.declared.setup.Setup.{Setup}
use Rattle.manager_node.specs.declared.manager.Manager as managers
use Rattle.manager_node.specs.Events.{manager_start, manager_step}
use Rattle.manager_slots.specs.Lasting.{log_of}
use Rattle.log_tie.specs.Setting.{Setting}
use Rattle.log_law.specs.Net.{opening}
use Rattle.node_logs.specs.node_log_tie.Sight.{AllSeen, PacketSeen}
use Rattle.node_logs.specs.node_log_tie.Sight.Question.{OfMaps}
use Rattle.node_logs.specs.client_log_tie.ClientEvents.{ActSeen, Grown, OfItsLog}
use Rattle.node_logs.specs.client_log_tie.Owner.{Scene}
use Rattle.node_logs.specs.client_log_tie.Texts.{MapFits}
use Rattle.node_logs.specs.manager_log_tie.Fitting.{InRange}
use Rattle.node_logs.specs.manager_log_tie.Owner.{its_asker, ManagerAgrees}

-- ---- what the world owes it

module _ (g : Setting) (j : ℕ) (w : Scene) where
  -- a packet that was sent to it
  pub record PacketOwed (packet : packets.Packet) : Type 0 where
    pub own : packet.to ≡ Manager j
    pub seen : PacketSeen g (its_asker j w) w.net packet
    pub fits : InRange packet.body

  abbrev pub ManagerOwed : Do → Type 0
  ManagerOwed Begin = Unit {0}
  ManagerOwed (Deliver packet) = PacketOwed packet
  ManagerOwed Tick = Unit {0}

-- ---- what an event makes of it

-- The small world runs on, by its owner alone, to one in which the manager is seen as it is then, all that it sends was sent, and all that it tells to be filed
-- is filed; it stores to its own log alone, and the numbers of what it sends are in range.
pub record ManagerGoes (g : Setting) (j : ℕ) (w : Scene) (d : NodeStep managers.Manager) : Type 0 where
  pub next : Scene
  pub grown : Grown g w next
  pub agrees : ManagerAgrees g j next d.node.phase
  pub sends : AllSeen g (its_asker j next) next.net d.packets
  pub acts : All (ActSeen next) d.acts
  pub own : All (λ (p : packets.Packet). OfItsLog g p.body) d.packets
  pub fits : All (λ (p : packets.Packet). InRange p.body) d.packets

-- Each event of a manager is a run of the small world of its log, whose restarts are all doubtful.
abbrev pub ManagerTakes : Type 0
ManagerTakes =
    (g : Setting) (j : ℕ) → g.log ≡ log_of j → 0 < j → g.doubts ≡ true → (w : Scene) (manager : managers.Manager) (what : Do)
    → ManagerAgrees g j w manager.phase → ManagerOwed g j w what → ManagerGoes g j w (manager_step manager what)

-- At the start it is seen in the opening of the small world, where the ids of the setup's groups fit.
abbrev pub ManagerStarts : Type 0
ManagerStarts =
    (g : Setting) (j : ℕ) → g.log ≡ log_of j → (setup : Setup) (works : List Work) → MapFits (groups.group_map_start setup.servers setup.groups)
    → ManagerAgrees g j (record { net = opening g (groups.group_map_start setup.servers setup.groups); asked = λ k. OfMaps }) (manager_start j setup works).phase
