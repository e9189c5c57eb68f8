-- How a play stands to the flow of packets: its nodes, its acts and what is on its way are those of a stage; numbers and clocks are all that it has beside.
use Rattle.std.specs.Prelude.{◌≡◌, ◌≤◌, ◌+◌, ℕ, false, All, List, [], ◌∷◌, ◌++◌, length, map, slice_get, Option, Some, None}
use Rattle.std.specs.List.{count_by}
use Rattle.play.specs.declared.player.Player.{Player}
use Rattle.play.specs.Plays.{goes_on, plays_line}
use Rattle.script_text.specs.declared.script.Line.{Line}
use Rattle.wire_msg.specs.declared.packet.Do.{Do}
use Rattle.wire_msg.specs.declared.packet.Do.TheVariants as whats
use Rattle.wire_msg.specs.declared.packet.Packet.{Packet}
use Rattle.wire_msg.specs.NodeStep.{NodeStep}
use Rattle.world_base.specs.Cluster.{HasNode, cluster_of, node_count, place_of}
use Rattle.world_base.specs.declared.event.Event.{Event}
use Rattle.world_base.specs.declared.event.Event.TheVariants.{Begin, Deliver}
use Rattle.world_base.specs.Runs.{begun_in}
use Rattle.world_base.specs.Schedule.{ScheduleState}
use Rattle.xfs_base.specs.declared.node.NodeId.{NodeId}
use Rattle.xfs_base.specs.declared.setup.Setup.{Setup}
use Rattle.quiet_flow.specs.Flow.{Stage, unclocked}
use Rattle.headline.specs.Bounds.{is_delivery, is_tick_of}

-- no node looks at the clock of a packet that comes
abbrev pub IsBlind : {N : Type 0} → (N → Do → NodeStep N) → Type 0
IsBlind {N} step = (node : N) (packet : Packet) → step node (whats.Deliver packet) ≡ step node (whats.Deliver (unclocked packet))

-- ---- what a play shows

-- nothing is lost, repeated, drawn or held back
pub record IsPlain (s : ScheduleState) : Type 0 where
  pub lose : s.lose ≡ 0
  pub again : s.again ≡ 0
  pub mixer : s.mixer ≡ None
  pub holding : s.holding ≡ false

-- the packet of this number, but for its clock
pub record IsAt (sent : List Packet) (number : ℕ) (packet : Packet) : Type 0 where
  pub clocked : Packet
  pub there : slice_get sent number ≡ Some clocked
  pub same : unclocked clocked ≡ packet

abbrev pub AreAt : List Packet → List ℕ → List Packet → Type 0
AreAt sent [] [] = Unit {0}
AreAt sent [] (p ∷ packets) = ⊥
AreAt sent (n ∷ numbers) [] = ⊥
AreAt sent (n ∷ numbers) (p ∷ packets) = IsAt sent n p × AreAt sent numbers packets

-- the node at a place, where there is one
abbrev pub node_in : {N : Type 0} → List N → Option ℕ → Option N
node_in nodes None = None
node_in nodes (Some place) = slice_get nodes place

-- a play shows a stage, with these packets on their way
pub record Shows {N : Type 0} (setup : Setup) (p : Player N) (t : Stage N) (waiting : List Packet) : Type 0 where
  pub cluster : p.world.cluster ≡ cluster_of setup
  pub placed : (name : NodeId) → HasNode setup name → node_in p.world.nodes (place_of (cluster_of setup) name) ≡ Some (t.node name)
  pub acts : p.world.acts ≡ t.acts
  pub unanswered : p.unanswered ≡ t.unanswered
  -- no clock is beyond the number of events
  pub clocks : length p.world.clocks ≡ length p.world.nodes
  pub low : All (λ clock. clock ≤ length p.events) p.world.clocks
  pub sent_low : All (λ (q : Packet). q.clock ≤ length p.events) p.world.sent
  pub plain : IsPlain p.schedule
  pub waits : AreAt p.world.sent p.schedule.queue waiting

-- ---- what happens

-- From one play to another, in which nothing is on its way, by deliveries alone: so many at most, and all that was on its way or was sent meanwhile is
-- delivered once.
pub record Follows {N : Type 0} (step : N → Do → NodeStep N) (setup : Setup) (p : Player N) (waiting : List Packet) (n : ℕ) (end : Stage N) : Type 0 where
  pub after : Player N
  pub packets : List Packet
  pub few : length packets ≤ n
  pub goes : (more : ℕ) → goes_on step (length packets + more) p ≡ goes_on step more after
  pub shows : Shows setup after end []
  pub are : after.events ≡ p.events ++ map Deliver packets
  pub sends : length waiting + length after.world.sent ≡ length p.world.sent + length packets
  pub left : after.schedule.deliveries + length packets ≡ p.schedule.deliveries
  pub rounds : after.schedule.rounds ≡ p.schedule.rounds

-- between the begins of two items few packets are delivered, and time passes once at each node at most
pub record IsShort (most : ℕ) (between : List Event) : Type 0 where
  pub begins : begun_in between ≡ []
  pub deliveries : count_by is_delivery between ≤ most
  pub ticks : (node : NodeId) → count_by (is_tick_of node) between ≤ 1

-- a line that begins an item of a node is played up to a stage with nothing on its way, with so many deliveries at most
pub record LineEnds {N : Type 0} (step : N → Do → NodeStep N) (setup : Setup) (p : Player N) (node : NodeId) (line : Line) (most : ℕ) (end : Stage N) : Type 0
  where
    pub shows_end : Shows setup (plays_line step p line) end []
    pub between : List Event
    pub are : (plays_line step p line).events ≡ p.events ++ Begin node ∷ between
    pub short : IsShort most between
    pub few : length between ≤ most + node_count (cluster_of setup)
    -- all that was sent was delivered once
    pub sends : length (plays_line step p line).world.sent ≡ length p.world.sent + count_by is_delivery between
