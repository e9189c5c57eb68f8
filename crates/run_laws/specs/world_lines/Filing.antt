-- What owners act to be filed flew before the event: what one that serves had in flight, and what one that opens its log had read back.
use Rattle.std.specs.Prelude.{◌≡◌, ◌<◌, ℕ, true, false, List, IfSome}
use Rattle.std.specs.List.{AllByRecursion}
use Rattle.cleaner_serving.specs.declared.emptying.Emptying.{Emptying}
use Rattle.node_logs.specs.cleaner_log_tie.Owner as cleaner_log
use Rattle.cleaner_node.specs.CleanerEvents as cleaners
use Rattle.cleaner_node.specs.declared.cleaner.Cleaner.{Cleaner}
use Rattle.cleaner_node.specs.declared.cleaner.Phase.TheVariants as cleaning
use Rattle.client_log.specs.LogState.{LogState}
use Rattle.client_log.specs.Transition.{has_next}
use Rattle.node_logs.specs.client_log_tie.ClientEvents.{ServesStraight}
use Rattle.node_logs.specs.client_log_tie.Owner.{Scene, ClientAgrees}
use Rattle.client_node.specs.declared.client.Client.{Client}
use Rattle.client_node.specs.declared.phase.Phase.TheVariants as client
use Rattle.client_node.specs.Phases as clients
use Rattle.client_serving.specs.declared.serving.Serving.{Serving}
use Rattle.index_tie.specs.Net as index
use Rattle.log_law.specs.Events.{Happens, Runs}
use Rattle.log_law.specs.Laws.{Moment}
use Rattle.log_law.specs.Net.{Net}
use Rattle.log_law.specs.Net.Owner.{Writing}
use Rattle.log_law.specs.Restarts.{is_serving}
use Rattle.log_protocol.specs.Tables.{In}
use Rattle.log_tie.specs.Setting.{Setting}
use Rattle.node_base.specs.declared.effects.Effect.{Effect}
use Rattle.headline.specs.Filed.{Texts}
use Rattle.node_slots.specs.owner_index_tie.Acting.{IsFlight}
use Rattle.node_slots.specs.owner_index_tie.CleanerEvents as cleaner_index
use Rattle.node_slots.specs.owner_index_tie.ClientEvents as client_index
use Rattle.segment_format.specs.declared.segment.Segment.{Segment}
use Rattle.wire_msg.specs.declared.packet.Do.{Do}
use Rattle.xfs_base.specs.declared.segment.SegName.{SegName}
use Rattle.xfs_base.specs.Limits.{slot_count}
use Rattle.xfs_base.specs.Logs.{cleaners_number}
use Rattle.run_laws.specs.world_lines.Lines.{IsSure, SaysBlocks}
use Rattle.run_laws.specs.world_lines.Owners.{HasFlown, IsRoomy}
use Rattle.run_laws.specs.world_lines.Turns.{ActsFile, AllSo}

-- Where nothing more is filed, all that is filed flew before.
abbrev pub WhatIsFiledFlew : Type 0
WhatIsFiledFlew = (g : Setting) (n o : Net) → Moment g n → o.filed ≡ n.filed → (name : SegName) → In name o.filed → HasFlown n name

-- So did all that is filed by one thing that happens to an owner whose opening segment is in flight.
abbrev pub OpeningsFileWhatFlew : Type 0
OpeningsFileWhatFlew =
    (g : Setting) (n o : Net) → Moment g n → (chain : List Segment) (s : LogState) → n.owner ≡ Writing chain s → Happens g n o → (name : SegName)
    → In name o.filed → HasFlown n name

-- So did all that is filed after an event before which the owner doesn't serve, and by which it comes to serve at once, if it does.
abbrev pub RestartsFileWhatFlew : Type 0
RestartsFileWhatFlew =
    (g : Setting) (n o : Net) → g.doubts ≡ false → Moment g n → (runs : Runs g n o) → ServesStraight runs → is_serving n.owner ≡ false → (name : SegName)
    → In name o.filed → HasFlown n name

-- What an owner that serves acts to be filed is what it had in flight; and its number has one after it.
pub record FilesItsFlight (n : Net) (s : LogState) (outs : List Effect) : Type 0 where
  pub flights : AllSo (IsFlight s) outs
  pub flown : AllSo (HasFlown n) outs
  pub short : AllSo (λ name. has_next name.seq ≡ true) outs

-- what a log has in flight says of blocks
abbrev pub FlightSays : LogState → Type 0
FlightSays s = IfSome s.flight (λ f. SaysBlocks f.segment)

-- So it is of a client, whose flight says of blocks,
abbrev pub ClientsFileTheirFlights : Type 0
ClientsFileTheirFlights =
    (part : ℕ) (texts : Texts) (g : Setting) (c : ℕ) (w : Scene) (n : index.Net) (node : Client) (what : Do) (s : Serving) → 0 < c → c < cleaners_number
    → IsSure texts c g w.net → IsRoomy w.net → FlightSays s.log → ClientAgrees g c w node.phase → node.phase ≡ client.Serving s
    → client_index.ClientAgrees part texts n c node.phase → client_index.EventGets part texts n c node.phase what
    → FilesItsFlight w.net s.log (clients.takes node what).outs

-- and of the cleaner.
abbrev pub CleanerFilesItsFlights : Type 0
CleanerFilesItsFlights =
    (part : ℕ) (texts : Texts) (g : Setting) (w : Scene) (n : index.Net) (node : Cleaner) (what : Do) (e : Emptying) → part < slot_count → IsSure texts cleaners_number g w.net
    → IsRoomy w.net → FlightSays e.log → cleaner_log.CleanerAgrees g w node.phase → node.phase ≡ cleaning.Serving e
    → cleaner_index.CleanerAgrees part n texts node.phase
    → cleaner_index.EventGets part n node.phase what
    → AllByRecursion (cleaner_index.EffectOwed part n) (cleaners.takes node.peers node.phase what).outs
    → FilesItsFlight w.net e.log (cleaners.takes node.peers node.phase what).outs

-- ---- an event of the owner, whole

-- What a client acts to be filed, in any of its events, is filed after it, and has a number with one after it.
abbrev pub ClientsActsFile : Type 0
ClientsActsFile =
    (part : ℕ) (texts : Texts) (g : Setting) (c : ℕ) (w v : Scene) (n : index.Net) (node : Client) (what : Do) → 0 < c → c < cleaners_number → IsSure texts c g w.net
    → IsRoomy w.net → ((s : Serving) → node.phase ≡ client.Serving s → FlightSays s.log) → ClientAgrees g c w node.phase
    → client_index.ClientAgrees part texts n c node.phase
    → client_index.EventGets part texts n c node.phase what → (runs : Runs g w.net v.net) → ServesStraight runs
    → AllSo (λ name. In name v.net.filed) (clients.takes node what).outs → ActsFile v.net (clients.takes node what).outs

-- So does the cleaner.
abbrev pub CleanersActsFile : Type 0
CleanersActsFile =
    (part : ℕ) (texts : Texts) (g : Setting) (w v : Scene) (n : index.Net) (node : Cleaner) (what : Do) → part < slot_count → IsSure texts cleaners_number g w.net
    → IsRoomy w.net → ((e : Emptying) → node.phase ≡ cleaning.Serving e → FlightSays e.log) → cleaner_log.CleanerAgrees g w node.phase
    → cleaner_index.CleanerAgrees part n texts node.phase
    → cleaner_index.EventGets part n node.phase what
    → AllByRecursion (cleaner_index.EffectOwed part n) (cleaners.takes node.peers node.phase what).outs → (runs : Runs g w.net v.net) → ServesStraight runs
    → AllSo (λ name. In name v.net.filed) (cleaners.takes node.peers node.phase what).outs
    → ActsFile v.net (cleaners.takes node.peers node.phase what).outs
