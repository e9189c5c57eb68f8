-- What a client's open call reads at a moment that stands to the small worlds is a segment that a log has filed, under the name and over the group with
-- which it is read: so the log's owner told it to be filed, and it is stored unless it was deleted.
use Rattle.std.proofs.Common.{◌≡◌, ℕ, ◌≤◌, Option, Some, None, refl, sym, subst}
use Rattle.client_node.specs.declared.client.Client.{Client as ClientNode}
use Rattle.client_node.specs.declared.phase.Phase.{Phase}
use Rattle.client_node.specs.declared.phase.Phase.TheVariants.{Down, Opening, Serving as Serves}
use Rattle.client_call.specs.Reads.{reading_in}
use Rattle.client_serving.specs.declared.serving.Serving.{Serving}
use Rattle.core_world.specs.AnyNode.{any_start, any_step}
use Rattle.core_world.specs.declared.any_node.AnyNode.{AnyNode}
use Rattle.core_world.specs.declared.any_node.AnyNode.TheVariants as any
use Rattle.node_tellings.specs.entry_tie.ClientTells.{BlockTold, LiesTold, PhaseHolds, ReadingTold, ServingHolds}
use Rattle.node_tellings.specs.entry_tie.Told.{Told, told_by_rows}
use Rattle.headline.specs.Reads.{serving_in, serving_of, what_is_read}
use Rattle.run_laws.specs.index_reads.Ties.{ArePlain}
use Rattle.headline.specs.Filed.{Filed, rows_at}
use Rattle.log_protocol.specs.Tables as tables
use Rattle.segment_format.specs.References.{ref_of}
use Rattle.run_losses.proofs.missing_law.Servers.{StoredLaws, flown_is_stored}
use Rattle.headline.specs.Torn.{IsStoredAs, WasFiled}
use Rattle.run_laws.proofs.place_law.Lying.{LiesAt, lies_there}
use Rattle.segment_format.specs.declared.segment.Segment.{Segment}
use Rattle.segment_reading.specs.declared.target.BlockAt.{BlockAt}
use Rattle.segment_reading.specs.Reading.{ReadingState}
use Rattle.token_protocol.specs.Basics.{In}
use Rattle.version_model.specs.declared.act.Act.TheVariants as act
use Rattle.world_base.specs.Cluster.{place_of}
use Rattle.world_base.specs.Runs.{IsRun}
use Rattle.run_laws.proofs.world_law.Sent.{in_list}
use Rattle.headline.specs.Moments.{moment, node_in, node_named}
use Rattle.headline.specs.Logs.{did, log_by}
use Rattle.headline.specs.Segments.{NotDeleted}
use Rattle.run_laws.proofs.world_reads.KnownLogs.{HasLog, filed_known, filed_log}
use Rattle.run_laws.specs.world_reads.Joint.{Joint}
use Rattle.run_laws.specs.world_reads.LoggedRuns.{LoggedRun}
use Rattle.xfs_base.specs.declared.entry.Entry.{Entry}
use Rattle.xfs_base.specs.declared.entry.Place.{Place}
use Rattle.xfs_base.specs.declared.node.NodeId.TheVariants.{Client}

-- ---- the client

-- it serves, and its open call reads so
pub record IsReading (o : Option AnyNode) (r : ReadingState) : Type 0 where
  pub node : ClientNode
  pub kind : o ≡ Some (any.Client node)
  pub serving : Serving
  pub serves : node.phase ≡ Serves serving
  pub reads : reading_in serving.call ≡ Some r

phase_reads : (node : ClientNode) (r : ReadingState) (p : Phase) → node.phase ≡ p → what_is_read (serving_in p) ≡ Some r
    → IsReading (Some (any.Client node)) r
phase_reads node r (Down l) at fact = absurd (let clash : None ≡ Some r = fact in cc)
phase_reads node r (Opening l o) at fact = absurd (let clash : None ≡ Some r = fact in cc)
phase_reads node r (Serves s) at fact = record { node = node; kind = refl; serving = s; serves = at; reads = fact }

is_reading : (o : Option AnyNode) (r : ReadingState) → what_is_read (serving_of o) ≡ Some r → IsReading o r
is_reading None r fact = absurd (let clash : None ≡ Some r = fact in cc)
is_reading (Some (any.Client node)) r fact = phase_reads node r node.phase refl fact
is_reading (Some (any.Manager node)) r fact = absurd (let clash : None ≡ Some r = fact in cc)
is_reading (Some (any.Server node)) r fact = absurd (let clash : None ≡ Some r = fact in cc)
is_reading (Some (any.Cleaner node)) r fact = absurd (let clash : None ≡ Some r = fact in cc)
is_reading (Some (any.Registry node)) r fact = absurd (let clash : None ≡ Some r = fact in cc)

module _ (logged : LoggedRun) (run : IsRun any_step any_start logged.estate.script logged.estate.events logged.estate.world) (count : ℕ)
    (joint : Joint logged 0 count) (c : ℕ) (r : ReadingState) (fact : what_is_read (serving_of (node_named (moment logged.estate count) (Client c))) ≡ Some r)
    (at : BlockAt) (looks : r.target.block ≡ Some at) where
  open logged use {base, estate as e, lines}

  abbrev f : Filed
  f = joint.idx.net.filed

  abbrev told : Told
  told = told_by_rows (rows_at f)

  -- ---- what is told of the place that it reads

  reading : IsReading (node_named (moment e count) (Client c)) r
  reading = is_reading (node_named (moment e count) (Client c)) r fact

  in_nodes : In (any.Client reading.node) (moment e count).nodes
  in_nodes = by (place_of (moment e count).cluster (Client c)) reading.kind
    where
      by : (o : Option ℕ) → node_in (moment e count).nodes o ≡ Some (any.Client reading.node) → In (any.Client reading.node) (moment e count).nodes
      by None there = absurd cc
      by (Some place) there = in_list (moment e count).nodes place (any.Client reading.node) there

  holds : ServingHolds told reading.serving
  holds = subst (PhaseHolds told) reading.serves (joint.entries.holds (any.Client reading.node) in_nodes)

  abbrev place : Place
  place = record { seg = r.target.seg; item = at.item }

  lies_told : LiesTold told at.block place
  lies_told = subst (BlockTold told r.target.seg) looks (subst (ReadingTold told) reading.reads holds.reading)

  abbrev entry : Entry
  entry = record { ver = lies_told.ver; hop = lies_told.there.hop; place = Some place }

  -- ---- the filed segment there

  plain : ArePlain f
  plain l q some_log nine some high = (joint.tells l q some high).plain

  abbrev l : ℕ
  l = r.target.seg.name.log.0

  abbrev q : ℕ
  q = r.target.seg.name.seq

  lies : LiesAt f joint.tok.net.books at.block entry place l q
  lies =
      lies_there f joint.tok.net.books at.block entry place (filed_known logged 0 count joint).filed joint.books plain refl
      lies_told.there.place_told

  abbrev s : Segment
  s = joint.idx.net.filed.segment r.target.seg.name.log.0 r.target.seg.name.seq

  h : HasLog logged 0 l
  h = filed_log logged 0 count joint l q lies.some lies.limit

  most_there : q ≤ joint.idx.net.filed.head (log_by h.role)
  most_there = subst (λ x. q ≤ joint.idx.net.filed.head x) (sym h.numbered) lies.limit

  flown_there : tables.In s ((lines h.role h.there).scene count).net.flown
  flown_there =
      subst (λ x. tables.In (joint.idx.net.filed.segment x q) ((lines h.role h.there).scene count).net.flown) h.numbered
      ((joint.lined h.role h.there h.keeps).lined.flown q lies.some most_there)

  filed_there : tables.In s.name ((lines h.role h.there).scene count).net.filed
  filed_there =
      subst (λ x. tables.In (joint.idx.net.filed.segment x q).name ((lines h.role h.there).scene count).net.filed) h.numbered
      ((joint.lined h.role h.there h.keeps).lined.filed q lies.some most_there)

  -- its log's owner told it to be filed
  pub was_filed : WasFiled e count r.target.seg.name
  was_filed = record {
    owner = h.role;
    there = h.there;
    acted = subst (λ name. In (act.Filed name) (did e (log_by h.role) count)) (sym lies.name)
        (subst (λ x. In (act.Filed (joint.idx.net.filed.segment x q).name) (did e (log_by h.role) count)) h.numbered
        (joint.acted h.role h.there h.keeps q lies.some most_there));
  }

  -- and it is stored over its group
  pub is_stored : StoredLaws → NotDeleted (moment e count) r.target.seg.name → IsStoredAs e count r.target.seg
  is_stored laws kept =
      let undeleted : NotDeleted (moment e count) s.name = subst (NotDeleted (moment e count)) lies.name kept in
      let same : ref_of s ≡ r.target.seg = λ i. record { name = sym lies.name i; group = sym lies.group i } in
      subst (IsStoredAs e count) same (flown_is_stored e run base lines laws h.role h.there count s flown_there filed_there undeleted)
