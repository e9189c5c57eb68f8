-- What is read of the place of a client's fetch is what the filed segment there says.
use Rattle.std.specs.Prelude.{◌≡◌, ℕ, List, Some}
use Rattle.client_node.specs.declared.client.Client.{Client}
use Rattle.client_node.specs.declared.phase.Phase.TheVariants.{Down, Opening, Serving as Serves}
use Rattle.client_node.specs.declared.phase.Phase.{Phase}
use Rattle.client_node.specs.Phases.{takes}
use Rattle.client_node.specs.Starting.{client_start}
use Rattle.client_call.specs.Reads.{reading_in}
use Rattle.client_serving.specs.declared.serving.Serving.{Serving}
use Rattle.client_serving.specs.Flights.{held_at}
use Rattle.core_world.specs.declared.any_node.AnyNode.{AnyNode}
use Rattle.core_world.specs.declared.any_node.AnyNode.TheVariants as any
use Rattle.node_tellings.specs.entry_tie.ClientTells.{ServingHolds}
use Rattle.node_tellings.specs.entry_tie.Told.{told_by_rows}
use Rattle.run_laws.specs.index_reads.Ties.{BooksAre, ArePlain}
use Rattle.headline.specs.Filed.{Filed, Texts, rows_at}
use Rattle.log_protocol.specs.Tables.{In}
use Rattle.node_slots.specs.node_tie.ClientEvents.{ServingReads}
use Rattle.node_tellings.specs.reading_tie.Arrivals.{Cuts, answered_in, cut_by}
use Rattle.node_tellings.specs.reading_tie.ClientReads.{ServesSo}
use Rattle.segment_reading.specs.declared.target.BlockAt.{BlockAt}
use Rattle.segment_reading.specs.Reading.{ReadingState}
use Rattle.token_client.specs.declared.held.Fetch.{Fetch}
use Rattle.token_law.specs.Net as tokens
use Rattle.version_model.specs.declared.work.Work.{Work}
use Rattle.wire_msg.specs.declared.packet.Do.{Do}
use Rattle.wire_msg.specs.declared.packet.Packet.{Packet}
use Rattle.world_base.specs.declared.estate.Estate.{Estate}
use Rattle.headline.specs.Moments.{moment, node_named}
use Rattle.xfs_base.specs.declared.node.NodeId.{NodeId}
use Rattle.xfs_base.specs.declared.entry.Place.{Place}
use Rattle.xfs_base.specs.declared.node.NodeId.TheVariants as nodes
use Rattle.xfs_base.specs.declared.setup.Setup.{Setup}
use Rattle.run_laws.specs.place_law.Reads.{FiledKnown}

-- where the reading looks for a block
abbrev pub place_read : ReadingState → BlockAt → Place
place_read r wanted = record { seg = r.target.seg; item = wanted.item }

-- while a block is fetched, it is read where the fetch has it
abbrev pub ReadsItsFetch : Serving → Type 0
ReadsItsFetch s =
    (r : ReadingState) (wanted : BlockAt) (f : Fetch) → reading_in s.call ≡ Some r → r.target.block ≡ Some wanted → (held_at s wanted.block).fetch ≡ Some f
    → f.place ≡ place_read r wanted

abbrev pub PhaseReadsItsFetch : Phase → Type 0
PhaseReadsItsFetch (Down l) = Unit {0}
PhaseReadsItsFetch (Opening l o) = Unit {0}
PhaseReadsItsFetch (Serves s) = ReadsItsFetch s

-- So it is at the start, and after each event, whatever a packet says.
abbrev pub ClientsStartSo : Type 0
ClientsStartSo = (number : ℕ) (setup : Setup) (works : List Work) → PhaseReadsItsFetch (client_start number setup works).phase

abbrev pub ClientsKeepSo : Type 0
ClientsKeepSo = (client : Client) (what : Do) → PhaseReadsItsFetch client.phase → PhaseReadsItsFetch (takes client what).state

-- So it is of each client, at each moment of every run.
abbrev pub RunsReadTheirFetches : Type 0
RunsReadTheirFetches =
    (e : Estate AnyNode) (count c : ℕ) (node : Client) → node_named (moment e count) (nodes.Client c) ≡ Some (any.Client node) → PhaseReadsItsFetch node.phase

-- A client that serves, beside what logs filed: the place of each fetch and of its reading is what a filed segment says of the block, what it holds of the
-- reading came, and the reading is the fetch's.
pub record FetchesWell (packets : List Packet) (to : NodeId) (cuts : Cuts) (f : Filed) (s : Serving) : Type 0 where
  pub told : ServingHolds (told_by_rows (rows_at f)) s
  pub came : ServesSo (answered_in packets to) (cut_by cuts) s
  pub its : ReadsItsFetch s

-- Whatever packet that was sent to it makes its reading end, what is read of the block is what the filed segment says at the place of the fetch.
abbrev pub FetchesReadThere : Type 0
FetchesReadThere =
    (texts : Texts) (packets : List Packet) (to : NodeId) (cuts : Cuts) (f : Filed) (s : Serving) (p : Packet) (part limit c : ℕ) (n : tokens.Net)
    → FiledKnown texts packets cuts f → BooksAre n.books f → ArePlain f → FetchesWell packets to cuts f s → In p packets → p.to ≡ to
    → ServingReads part limit c n s p p.body
