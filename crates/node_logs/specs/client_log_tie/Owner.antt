-- How a client is seen as the owner of its log in the small world of that log.
use Rattle.std.specs.Prelude.{◌≡◌, ◌≤◌, ◌<◌, ◌⊎◌, ℕ, [], Option, Some, None, IfSome}
use Rattle.client_log.specs.LogState.{LogState}
use Rattle.client_node.specs.declared.phase.Phase.TheVariants.{Down, Opening, Serving as Serves}
use Rattle.client_node.specs.declared.phase.Phase.{Phase}
use Rattle.client_serving.specs.declared.lasting.Lasting.{Lasting}
use Rattle.group_map.specs.GroupMapState.{GroupMapState}
use Rattle.log_flight.specs.Flights.{FlightState}
use Rattle.log_owner.specs.declared.known.Known.{Known}
use Rattle.log_owner.specs.declared.opening.Scanning.{Scanning}
use Rattle.log_owner.specs.declared.opening.Settling.{Settling}
use Rattle.log_owner.specs.declared.opening.Stage as stages
use Rattle.log_owner.specs.declared.opening.Stage.TheVariants as stage
use Rattle.log_scan.specs.declared.stage.Stage.{Stage}
use Rattle.log_scan.specs.declared.stage.Stage.TheVariants.{Hails, Gathers, Asks, Reads, Over}
use Rattle.node_base.specs.declared.questions.Asked.{Asked}
use Rattle.segment_reading.specs.declared.reading.Stage as readings
use Rattle.segment_reading.specs.declared.reading.Stage.TheVariants as reading
use Rattle.segment_reading.specs.Reading.{ReadingState}
use Rattle.xfs_base.specs.declared.node.NodeId.TheVariants.{Client}
use Rattle.log_protocol.specs.Tables.{In}
use Rattle.log_tie.specs.Setting.{Setting}
use Rattle.log_law.specs.Net.{Net}
use Rattle.log_law.specs.Net.{Owner as owner}
use Rattle.log_law.specs.Net.Packet.{MapSent}
use Rattle.log_law.specs.ReadBack.{ReadsDown}
use Rattle.node_logs.specs.node_log_tie.Sight.{Asker, Question}
use Rattle.node_logs.specs.node_log_tie.Sight.Question.{Unasked, OfOpening}
use Rattle.node_logs.specs.opening_law.Questions.{StageAsks}

-- the small world, and what the client asked the registry by its numbers
pub record Scene : Type 0 where
  pub net : Net
  pub asked : ℕ → Question

-- the client that owns the log
abbrev pub asker : ℕ → Scene → Asker
asker c w = record { node = Client c; asked = w.asked }

-- ---- the questions of an opening

module _ (asked : ℕ → Question) (a : Asked) (ask : ℕ) where
  -- its newest question is out to the registry
  pub record AsksRegistry : Type 0 where
    pub own : a.own ≡ ask
    pub number : asked a.ask ≡ OfOpening ask

  -- or none is
  abbrev pub AsksServers : Type 0
  AsksServers = (a.own ≡ 0) ⊎ (asked a.ask ≡ Unasked)

  -- between two rounds of a reading the registry is asked
  abbrev pub AsksIn : readings.Stage → Type 0
  AsksIn reading.Asking = AsksServers
  AsksIn reading.Between = AsksRegistry
  AsksIn reading.Doubted = AsksRegistry
  AsksIn reading.Over = ⊥

  pub record AsksOf (r : ReadingState) : Type 0 where
    pub stage : AsksIn r.stage
    pub past : r.ask ≤ ask

  abbrev pub AsksReading : Option ReadingState → Type 0
  AsksReading None = AsksRegistry
  AsksReading (Some r) = AsksOf r

  abbrev pub AsksAt : Stage → Type 0
  AsksAt Hails = AsksRegistry
  AsksAt (Gathers lists) = AsksServers
  AsksAt (Asks lists) = AsksRegistry
  AsksAt (Reads b r) = AsksReading r
  AsksAt Over = AsksServers

-- ---- the phases

-- the log and its flight bear the log's number
pub record IsOwn (g : Setting) (s : LogState) : Type 0 where
  pub log : s.log ≡ g.log
  pub flight : IfSome s.flight (λ f. f.segment.name.log ≡ g.log)

module _ (g : Setting) (c : ℕ) (w : Scene) where
  -- what is known of groups was sent
  abbrev pub MapCame : Option GroupMapState → Type 0
  MapCame None = Unit {0}
  MapCame (Some m) = In (MapSent m) w.net.sent

  -- what outlives a crash: its incarnation is the owner's, and it asked nothing by later numbers
  pub record Lasts (its life last : ℕ) : Type 0 where
    pub number : its ≡ c
    pub inc : w.net.inc ≡ life
    pub fresh : (k : ℕ) → last < k → w.asked k ≡ Unasked

  -- its scan is that of the owner
  pub record SeesScan (k : Known) (s : Scanning) (last : ℕ) : Type 0 where
    pub owner : w.net.owner ≡ owner.Opening s.scan
    pub log : k.owner.log ≡ g.log
    pub inc : k.owner.inc ≡ w.net.inc
    pub groups : k.maps.groups ≡ s.scan.opening.groups
    pub came : MapCame k.maps.groups
    pub asks : AsksAt w.asked s.asked s.scan.opening.ask s.scan.stage
    pub past : s.asked.own ≤ s.scan.opening.ask
    pub some : 0 < s.scan.opening.ask
    pub number : s.asked.ask ≤ last

  -- so is its log, with the opening segment in flight and nothing that waits
  pub record SeesWriting (k : Known) (s : Settling) : Type 0 where
    pub owner : w.net.owner ≡ owner.Writing s.chain s.log
    pub log : k.owner.log ≡ g.log
    pub own : IsOwn g s.log
    pub clear : s.log.dirty ≡ []
    pub flight : FlightState
    pub flies : s.log.flight ≡ Some flight
    -- it says nothing, and what was read back before it goes down to the horizon that was taken last
    pub empty : flight.segment.items ≡ []
    pub reads : ReadsDown w.net s.low (record { segments = s.chain; end = s.log.end })

  abbrev pub SeesStage : Known → ℕ → stages.Stage → Type 0
  SeesStage k last (stage.Scanning s) = SeesScan k s last
  SeesStage k last (stage.Settling s) = SeesWriting k s

  pub record SeesLog (s : LogState) : Type 0 where
    pub owner : w.net.owner ≡ owner.Serving s
    pub own : IsOwn g s

  abbrev pub LastsAs : Lasting → Type 0
  LastsAs l = Lasts l.number l.inc l.questions.last

  -- one that opens its log has asked no more questions than its node
  abbrev pub ClientAgrees : Phase → Type 0
  ClientAgrees (Down l) = LastsAs l × (w.net.owner ≡ owner.Down)
  ClientAgrees (Opening l o) = LastsAs l × SeesStage o.known l.questions.last o.stage × StageAsks o.stage l.questions.last
  ClientAgrees (Serves s) = LastsAs s.lasting × SeesLog s.log
