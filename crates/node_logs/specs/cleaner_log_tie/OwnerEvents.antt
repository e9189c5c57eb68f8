-- What an event makes of the cleaner, as the small world of its own log sees it.
use Rattle.std.specs.Prelude.{◌≡◌, ℕ, true, List, All}
use Rattle.group_map.specs.Groups as groups
use Rattle.version_model.specs.declared.act.Act.{Act}
use Rattle.version_model.specs.declared.act.Act.TheVariants.{Filed, Dropped}
use Rattle.version_model.specs.declared.work.Work.{Work}
use Rattle.wire_msg.specs.declared.packet.Do.{Do}
use Rattle.wire_msg.specs.declared.packet.Do.TheVariants.{Begin, Deliver, Tick}
use Rattle.wire_msg.specs.declared.packet.Packet as packets
use Rattle.wire_msg.specs.NodeStep.{NodeStep}
use Rattle.xfs_base.specs.declared.node.NodeId.TheVariants.{Cleaner}
use Rattle.xfs_base.specs.declared.segment.SegName.{SegName}
use Rattle.xfs_base.specs.declared.setup.Setup.{Setup}
use Rattle.cleaner_node.specs.CleanerEvents.{cleaner_start, cleaner_step}
use Rattle.cleaner_node.specs.declared.cleaner.Cleaner as cleaners
use Rattle.cleaner_node.specs.declared.cleaner.Phase.{Phase}
use Rattle.cleaner_node.specs.declared.cleaner.Phase.TheVariants.{Down, Opening, Serving}
use Rattle.cleaner_job.specs.Starting.{cleaner_log}
use Rattle.log_protocol.specs.Tables.{In}
use Rattle.log_tie.specs.Setting.{Setting}
use Rattle.log_tie.specs.Shelves.{is_of_log}
use Rattle.log_law.specs.Net.{Packet, opening as at_first}
use Rattle.log_law.specs.Events.{Runs}
use Rattle.node_logs.specs.node_log_tie.CleanerEvents.{OnlyDeleted}
use Rattle.node_logs.specs.node_log_tie.Sight.{AllSeen, PacketSeen}
use Rattle.node_logs.specs.node_log_tie.Sight.Question.{Unasked}
use Rattle.node_logs.specs.client_log_tie.ClientEvents.{FliesInBoot, ServesStraight, StageTells}
use Rattle.node_logs.specs.client_log_tie.Owner.{Scene}
use Rattle.node_logs.specs.client_log_tie.Texts.{MapFits}
use Rattle.node_logs.specs.cleaner_log_tie.Fitting.{InRange}
use Rattle.node_logs.specs.cleaner_log_tie.Owner.{its_asker, CleanerAgrees}

-- ---- what the world owes it

module _ (g : Setting) (w : Scene) where
  -- to an opening, what a client's is owed
  abbrev pub OpeningOwed : Phase → Type 0
  OpeningOwed (Down l) = Unit {0}
  OpeningOwed (Opening l o) = StageTells g w.net o.stage
  OpeningOwed (Serving e) = Unit {0}

  -- a packet that was sent to the cleaner
  pub record PacketOwed (p : Phase) (packet : packets.Packet) : Type 0 where
    pub own : packet.to ≡ Cleaner
    pub seen : PacketSeen g (its_asker w) w.net packet
    pub fits : InRange packet.body
    pub opening : OpeningOwed p

  abbrev pub CleanerOwed : Phase → Do → Type 0
  CleanerOwed p Begin = Unit {0}
  CleanerOwed p (Deliver packet) = PacketOwed p packet
  CleanerOwed p Tick = OpeningOwed p

-- ---- what an event makes of it

-- what it tells to be filed is filed, and what it tells to be dropped of its own log is dropped
abbrev pub ActSeen : Setting → Scene → Act → Type 0
ActSeen g w (Filed seg) = In seg w.net.filed
ActSeen g w (Dropped seg) = is_of_log g seg ≡ true → In seg w.net.dropped
ActSeen g w _ = Unit {0}

-- The small world runs on, by its owner and by drops alone: what was sent, filed and dropped stays so, and so does what was asked.
pub record Grows (g : Setting) (w v : Scene) : Type 0 where
  pub runs : Runs g w.net v.net
  pub sent : (p : Packet) → In p w.net.sent → In p v.net.sent
  pub filed : (name : SegName) → In name w.net.filed → In name v.net.filed
  pub dropped : (name : SegName) → In name w.net.dropped → In name v.net.dropped
  pub shelves : v.net.shelves ≡ w.net.shelves
  pub registry : v.net.registry ≡ w.net.registry
  pub low : v.net.low ≡ w.net.low
  pub asked : (k : ℕ) → (w.asked k ≡ Unasked → ⊥) → v.asked k ≡ w.asked k

-- It runs on to one in which the cleaner is seen as it is then, all that it sends was sent, and all that it acts is seen; nothing is dropped but what it has
-- servers delete.
pub record OwnerGoes (g : Setting) (w : Scene) (d : NodeStep cleaners.Cleaner) : Type 0 where
  pub next : Scene
  pub grown : Grows g w next
  pub agrees : CleanerAgrees g next d.node.phase
  pub sends : AllSeen g (its_asker next) next.net d.packets
  pub acts : All (ActSeen g next) d.acts
  pub only : OnlyDeleted w.net next.net d.packets
  pub flies : FliesInBoot w.net next.net
  pub straight : ServesStraight grown.runs

-- Each event of the cleaner is a run of the small world of its log.
abbrev pub OwnerTakes : Type 0
OwnerTakes =
    (g : Setting) → g.log ≡ cleaner_log → (w : Scene) (cleaner : cleaners.Cleaner) (what : Do) → CleanerAgrees g w cleaner.phase
    → CleanerOwed g w cleaner.phase what → OwnerGoes g w (cleaner_step cleaner what)

-- At the start it is seen in the opening of the small world, and asked nothing, where the ids of the setup's groups fit.
abbrev pub OwnerStarts : Type 0
OwnerStarts =
    (g : Setting) → g.log ≡ cleaner_log → (setup : Setup) (works : List Work) → MapFits (groups.group_map_start setup.servers setup.groups)
    → CleanerAgrees g (record { net = at_first g (groups.group_map_start setup.servers setup.groups); asked = λ k. Unasked }) (cleaner_start setup works).phase
