-- What an event makes of a client, as the small world of its log sees it.
use Rattle.std.specs.Prelude.{◌≡◌, ◌⊎◌, ℕ, Bool, true, false, List, All, IfSome}
use Rattle.client_node.specs.declared.client.Client as clients
use Rattle.client_node.specs.declared.phase.Phase.{Phase}
use Rattle.client_node.specs.declared.phase.Phase.TheVariants.{Down, Opening, Serving as Serves}
use Rattle.client_node.specs.Phases.{client_step}
use Rattle.client_node.specs.Starting.{client_start}
use Rattle.group_map.specs.GroupMapState.{GroupMapState}
use Rattle.group_map.specs.Groups as groups
use Rattle.log_owner.specs.declared.opening.Stage as stages
use Rattle.log_owner.specs.declared.opening.Stage.TheVariants as stage
use Rattle.log_scan.specs.declared.input.In as scan_ins
use Rattle.log_scan.specs.ScanState.{ScanState}
use Rattle.log_scan.specs.Transition as scan
use Rattle.node_base.specs.Shape.{is_log}
use Rattle.version_model.specs.declared.act.Act.{Act}
use Rattle.version_model.specs.declared.act.Act.TheVariants.{Filed}
use Rattle.version_model.specs.declared.work.Work.{Work}
use Rattle.wire_msg.specs.declared.body.Body.{Body}
use Rattle.wire_msg.specs.declared.body.Body.TheVariants as body
use Rattle.wire_msg.specs.declared.packet.Do.{Do}
use Rattle.wire_msg.specs.declared.packet.Do.TheVariants.{Begin, Deliver, Tick}
use Rattle.wire_msg.specs.declared.packet.Packet as packets
use Rattle.wire_msg.specs.NodeStep.{NodeStep}
use Rattle.xfs_base.specs.declared.node.NodeId.TheVariants.{Client}
use Rattle.xfs_base.specs.declared.segment.SegName.{SegName}
use Rattle.xfs_base.specs.declared.setup.Setup.{Setup}
use Rattle.log_protocol.specs.Tables.{In}
use Rattle.log_tie.specs.Setting.{Setting}
use Rattle.log_law.specs.Net.{Net, Packet, chain_in, is_reading, opening}
use Rattle.log_law.specs.Net.{Owner as owner}
use Rattle.log_law.specs.Net.Packet.{MapSent}
use Rattle.log_law.specs.Events.{CameToScan, Runs}
use Rattle.log_law.specs.Events.Runs.{Begun, On}
use Rattle.log_law.specs.Openings.{GoesOn, boot_of}
use Rattle.log_law.specs.ReadBack.{ReadsDown}
use Rattle.log_law.specs.Restarts.{is_serving}
use Rattle.node_logs.specs.node_log_tie.Sight.{AllSeen, PacketSeen}
use Rattle.node_logs.specs.node_log_tie.Sight.Question.{Unasked}
use Rattle.node_logs.specs.client_log_tie.Owner.{Scene, asker, ClientAgrees}
use Rattle.node_logs.specs.client_log_tie.Puts.{PutsOwn, ServesBy}
use Rattle.node_logs.specs.client_log_tie.Texts.{MapFits, StaysWritten}

-- ---- what the world owes it

-- what is held of the log can be spelled
abbrev pub StageWritten : stages.Stage → Type 0
StageWritten (stage.Scanning s) = Unit {0}
StageWritten (stage.Settling s) = StaysWritten s.log

abbrev pub PhaseWritten : Phase → Type 0
PhaseWritten (Down l) = Unit {0}
PhaseWritten (Opening l o) = StageWritten o.stage
PhaseWritten (Serves s) = StaysWritten s.log

-- To a scan: the ids of the groups of maps that were sent fit; and of the chain that it tells, whatever comes next, the log can go on behind the end, and
-- it goes down to the horizon that was taken last.
pub record ScanTells (g : Setting) (n : Net) (s : ScanState) : Type 0 where
  pub maps : (m : GroupMapState) → In (MapSent m) n.sent → MapFits m
  pub end : (i : scan_ins.In) → CameToScan g n i → IfSome (chain_in (scan.transition s i).outs) (λ t. GoesOn t.end)
  pub reads : (i : scan_ins.In) → CameToScan g n i → IfSome (chain_in (scan.transition s i).outs) (ReadsDown n (scan.transition s i).state.opening.low)

abbrev pub StageTells : Setting → Net → stages.Stage → Type 0
StageTells g n (stage.Scanning s) = ScanTells g n s.scan
StageTells g n (stage.Settling s) = Unit {0}

-- an opening is owed what its scan is; a client that serves is owed nothing
abbrev pub PhaseOwed : Setting → Net → Phase → Type 0
PhaseOwed g n (Down l) = Unit {0}
PhaseOwed g n (Opening l o) = StageTells g n o.stage
PhaseOwed g n (Serves s) = Unit {0}

abbrev pub BodyFits : Body → Type 0
BodyFits (body.MapNews m) = MapFits m.groups
BodyFits (body.Welcome m) = MapFits m.news.groups
BodyFits _ = Unit {0}

module _ (g : Setting) (c : ℕ) (w : Scene) where
  -- a packet that was sent to it
  pub record PacketOwed (p : Phase) (packet : packets.Packet) : Type 0 where
    pub own : packet.to ≡ Client c
    pub seen : PacketSeen g (asker c w) w.net packet
    pub fits : BodyFits packet.body
    pub scans : PhaseOwed g w.net p

  abbrev pub ClientOwed : Phase → Do → Type 0
  ClientOwed p Begin = Unit {0}
  ClientOwed p (Deliver packet) = PacketOwed p packet
  ClientOwed p Tick = PhaseOwed g w.net p

-- ---- what an event makes of it

-- what it tells to be filed is filed
abbrev pub ActSeen : Scene → Act → Type 0
ActSeen w (Filed seg) = In seg w.net.filed
ActSeen w _ = Unit {0}

-- what it stores, and what it bars at a server, is of its log
abbrev pub OfItsLog : Setting → Body → Type 0
OfItsLog g (body.Store m) = m.fragment.meta.name.log ≡ g.log
OfItsLog g (body.Fence m) = m.log ≡ g.log
OfItsLog g _ = Unit {0}

-- The small world runs on, by its owner alone: what was sent and filed stays so, and so does what was asked.
pub record Grown (g : Setting) (w v : Scene) : Type 0 where
  pub runs : Runs g w.net v.net
  pub sent : (p : Packet) → In p w.net.sent → In p v.net.sent
  pub filed : (name : SegName) → In name w.net.filed → In name v.net.filed
  pub shelves : v.net.shelves ≡ w.net.shelves
  pub registry : v.net.registry ≡ w.net.registry
  pub low : v.net.low ≡ w.net.low
  pub dropped : v.net.dropped ≡ w.net.dropped
  pub asked : (k : ℕ) → (w.asked k ≡ Unasked → ⊥) → v.asked k ≡ w.asked k

-- The owner doesn't fall on the way, or nothing begins to fly and nothing is filed.
abbrev pub FliesInBoot : Net → Net → Type 0
FliesInBoot n o = (boot_of o ≡ boot_of n) ⊎ ((o.flown ≡ n.flown) × (o.filed ≡ n.filed))

-- once something happened, the owner serves nowhere on the way
abbrev pub NeverServes : {g : Setting} {n o : Net} → Runs g n o → Type 0
NeverServes Begun = Unit {0}
NeverServes (On {o = o} run happens) = (is_serving o.owner ≡ false) × NeverServes run

-- it writes its opening segment, or it serves
abbrev pub has_log : owner → Bool
has_log owner.Down = false
has_log (owner.Opening s) = false
has_log (owner.Writing chain s) = true
has_log (owner.Serving s) = true

-- once something happened, the owner neither writes an opening segment nor serves on the way
abbrev pub NeverHasLog : {g : Setting} {n o : Net} → Runs g n o → Type 0
NeverHasLog Begun = Unit {0}
NeverHasLog (On {o = o} run happens) = (has_log o.owner ≡ false) × NeverHasLog run

-- one thing happens at most
abbrev pub IsOnce : {g : Setting} {n o : Net} → Runs g n o → Type 0
IsOnce Begun = Unit {0}
IsOnce (On Begun happens) = Unit {0}
IsOnce (On (On run before) happens) = ⊥

-- it opens its log, and has picked where that goes on
abbrev pub has_picked : owner → Bool
has_picked owner.Down = false
has_picked (owner.Opening s) = is_reading s.stage
has_picked (owner.Writing chain s) = true
has_picked (owner.Serving s) = false

-- Unless the owner serves then, it served nowhere on the way; where it didn't serve before and does then, that is by one thing that happens; where it served
-- before and does then, it stayed in its boot; where it opens its log and has picked then where that goes on, one thing happened at most; and unless it writes
-- its opening segment or serves then, it did neither on the way.
pub record ServesStraight {g : Setting} {n o : Net} (runs : Runs g n o) : Type 0 where
  pub never : is_serving o.owner ≡ false → NeverServes runs
  pub once : is_serving n.owner ≡ false → is_serving o.owner ≡ true → IsOnce runs
  pub stays : is_serving n.owner ≡ true → is_serving o.owner ≡ true → o.inc ≡ n.inc
  pub picks : has_picked o.owner ≡ true → IsOnce runs
  pub rests : has_log o.owner ≡ false → NeverHasLog runs

-- It runs on to one in which the client is seen as it is then, all that it sends was sent, and all that it tells to be filed is filed; it stores to its own log
-- alone.
pub record ClientGoes (g : Setting) (c : ℕ) (w : Scene) (d : NodeStep clients.Client) : Type 0 where
  pub next : Scene
  pub grown : Grown g w next
  pub agrees : ClientAgrees g c next d.node.phase
  pub written : PhaseWritten d.node.phase
  pub sends : AllSeen g (asker c next) next.net d.packets
  pub acts : All (ActSeen next) d.acts
  pub own : All (λ (p : packets.Packet). OfItsLog g p.body) d.packets
  pub flies : FliesInBoot w.net next.net
  pub straight : ServesStraight grown.runs
  pub puts : ServesBy PutsOwn w.net next.net

-- Each event of a client is a run of the small world of its log.
abbrev pub ClientTakes : Type 0
ClientTakes =
    (g : Setting) (c : ℕ) → g.log ≡ record { 0 = c } → is_log c ≡ true → (w : Scene) (client : clients.Client) (what : Do) → ClientAgrees g c w client.phase
    → PhaseWritten client.phase → ClientOwed g c w client.phase what → ClientGoes g c w (client_step client what)

-- At the start it is seen in the opening of the small world, and asked nothing; its log stays written where the ids of the setup's groups fit.
pub record ClientBegins (g : Setting) (c : ℕ) (setup : Setup) (works : List Work) : Type 0 where
  pub agrees : ClientAgrees g c (record { net = opening g (groups.group_map_start setup.servers setup.groups); asked = λ k. Unasked })
      (client_start c setup works).phase
  pub written : MapFits (groups.group_map_start setup.servers setup.groups) → PhaseWritten (client_start c setup works).phase

abbrev pub ClientStarts : Type 0
ClientStarts = (g : Setting) (c : ℕ) → g.log ≡ record { 0 = c } → is_log c ≡ true → (setup : Setup) (works : List Work) → ClientBegins g c setup works
