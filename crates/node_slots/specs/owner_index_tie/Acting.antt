-- What an owner that serves acts to be filed: nothing but what it had in flight before.
use Rattle.std.specs.Prelude.{◌≡◌, ◌<◌, ℕ, List, Some}
use Rattle.std.specs.List.{AllByRecursion}
use Rattle.cleaner_serving.specs.declared.emptying.Emptying.{Emptying}
use Rattle.cleaner_node.specs.CleanerEvents as cleaners
use Rattle.cleaner_node.specs.declared.cleaner.Cleaner.{Cleaner}
use Rattle.cleaner_node.specs.declared.cleaner.Phase.TheVariants as cleaning
use Rattle.client_log.specs.LogState.{LogState}
use Rattle.client_node.specs.declared.client.Client.{Client}
use Rattle.client_node.specs.declared.phase.Phase.TheVariants as client
use Rattle.client_node.specs.Phases as clients
use Rattle.client_serving.specs.declared.serving.Serving.{Serving}
use Rattle.headline.specs.Filed.{IsSegment, Texts}
use Rattle.index_tie.specs.Net.{Net}
use Rattle.log_flight.specs.Flights.{FlightState}
use Rattle.node_base.specs.declared.effects.Effect.{Effect}
use Rattle.node_base.specs.declared.effects.Effect.TheVariants.{Does}
use Rattle.node_slots.specs.node_index_tie.Sight.{RowsFit}
use Rattle.segment_format.specs.Rows.{rows_of}
use Rattle.version_model.specs.declared.act.Act.{Act}
use Rattle.version_model.specs.declared.act.Act.TheVariants.{Filed as ActsFiled}
use Rattle.wire_msg.specs.declared.packet.Do.{Do}
use Rattle.xfs_base.specs.Limits.{u32_end, slot_count}
use Rattle.xfs_base.specs.declared.segment.SegName.{SegName}
use Rattle.xfs_base.specs.Logs.{cleaners_number}
use Rattle.node_slots.specs.owner_index_tie.CleanerEvents.{CleanerAgrees, EffectOwed, EventGets}
use Rattle.node_slots.specs.owner_index_tie.ClientEvents.{ClientAgrees}
use Rattle.node_slots.specs.owner_index_tie.ClientEvents as client_owed

-- this is so of each name that is acted to be filed
module _ (So : SegName → Type 0) where
  abbrev pub ActSo : Act → Type 0
  ActSo (ActsFiled name) = So name
  ActSo _ = Unit {0}

  abbrev pub EffectSo : Effect → Type 0
  EffectSo (Does act) = ActSo act
  EffectSo _ = Unit {0}

  abbrev pub AllSo : List Effect → Type 0
  AllSo outs = AllByRecursion EffectSo outs

-- this name is what the log has in flight
abbrev pub IsFlight : LogState → SegName → Type 0
IsFlight s name = (f : FlightState) × (s.flight ≡ Some f) × (f.segment.name ≡ name)

-- what it has in flight is a segment of the log that fits its types, and its number isn't the last
pub record MayLand (l : ℕ) (s : LogState) : Type 0 where
  pub segment : (f : FlightState) → s.flight ≡ Some f → IsSegment l f.segment.name.seq f.segment
  pub fits : (f : FlightState) → s.flight ≡ Some f → RowsFit (rows_of f.segment)
  pub short : (f : FlightState) → s.flight ≡ Some f → f.segment.name.seq < u32_end

-- So it is of a client that is seen in the small world of a slot's index, and gets what it is owed of Polls.
abbrev pub ClientsFileFlights : Type 0
ClientsFileFlights =
    (part : ℕ) (texts : Texts) (n : Net) (c : ℕ) (node : Client) (what : Do) (s : Serving) → 0 < c → c < cleaners_number → node.phase ≡ client.Serving s
    → ClientAgrees part texts n c node.phase → client_owed.EventGets part texts n c node.phase what → MayLand c s.log
    → AllSo (IsFlight s.log) (clients.takes node what).outs

-- So it is of the cleaner.
abbrev pub CleanerFilesFlights : Type 0
CleanerFilesFlights =
    (part : ℕ) (texts : Texts) (n : Net) (node : Cleaner) (what : Do) (e : Emptying) → part < slot_count → node.phase ≡ cleaning.Serving e
    → CleanerAgrees part n texts node.phase → EventGets part n node.phase what
    → AllByRecursion (EffectOwed part n) (cleaners.takes node.peers node.phase what).outs → MayLand cleaners_number e.log
    → AllSo (IsFlight e.log) (cleaners.takes node.peers node.phase what).outs
