-- Where more is filed all that filed segments said they say still: so what is told of where blocks lie stays told. And at the start of a run nothing is told.
use Rattle.std.proofs.Common.{◌≡◌, ◌≤◌, ◌<◌, ◌&&◌, ℕ, nat_le, nat_lt, List, [], ◌∷◌, map, inl, inr, sym, subst, arith}
use Rattle.std.proofs.lemmas.Bool.Decides.{nat_tests}
use Rattle.std.specs.Prelude.{Contains}
use Rattle.core_world.specs.AnyNode.{any_start}
use Rattle.core_world.specs.declared.any_node.AnyNode.{AnyNode}
use Rattle.core_world.specs.declared.any_node.AnyNode.TheVariants as any
use Rattle.node_tellings.proofs.entry_tie.Rising.{rows_rise, told_more}
use Rattle.node_tellings.specs.entry_tie.Told.{AreMore, BodyTold, FiledRows, told_by_rows}
use Rattle.index_tie.proofs.Rows.{by_filed}
use Rattle.index_tie.proofs.Tables.{first_of}
use Rattle.headline.specs.Filed.{Filed, rows_at}
use Rattle.index_tie.specs.Growth.{IsMore}
use Rattle.script_text.specs.declared.script.Script.{Script}
use Rattle.segment_format.specs.declared.segment.Segment.{Segment}
use Rattle.segment_format.specs.Rows.{rows_of}
use Rattle.token_protocol.specs.Basics.{In}
use Rattle.version_model.specs.declared.work.Work.{Work}
use Rattle.wire_msg.specs.declared.body.Body.{Body}
use Rattle.wire_msg.specs.declared.body.Body.TheVariants as body
use Rattle.wire_msg.specs.declared.packet.Packet.{Packet}
use Rattle.world_base.specs.Cluster.{cluster_of, nodes_of}
use Rattle.world_base.specs.declared.estate.Estate.{Estate}
use Rattle.world_base.specs.Items.{items_of}
use Rattle.world_base.specs.NextWorld.{first_node, start_world}
use Rattle.headline.specs.Moments.{moment}
use Rattle.run_laws.specs.world_reads.Readings.{EntryKinds}
use Rattle.run_laws.specs.world_reads.Entries.{AnyTold, EntriesStand}
use Rattle.xfs_base.proofs.Members.{contains_nothing}
use Rattle.xfs_base.specs.declared.block.BlockId.{BlockId}
use Rattle.xfs_base.specs.declared.entry.Entry.{Entry}
use Rattle.xfs_base.specs.declared.node.NodeId.{NodeId}
use Rattle.xfs_base.specs.declared.node.NodeId.TheVariants as nodes
use Rattle.xfs_base.specs.declared.setup.Setup.{Setup}

-- ---- more is filed

-- what a log filed at a number that it reached
pub rows_filed : (f : Filed) (l q : ℕ) → 0 < q → q ≤ f.head l → rows_at f l q ≡ rows_of (f.segment l q)
rows_filed f l q some limit = first_of (nat_lt 0 q && nat_le q (f.head l)) (rows_of (f.segment l q)) [] (grind (arith, nat_tests))

module _ (f h : Filed) (more : IsMore f h) where
  says_more : (row : BlockId × Entry) (l q : ℕ) → Contains (rows_at f l q) row → Contains (rows_at h l q) row
  says_more row l q =
      by_filed (λ rows. Contains rows row → Contains (rows_at h l q) row) f l q
      (λ some limit fact. (let rises = more.head l in
      subst (λ rows. Contains rows row) (sym (rows_filed h l q some (omega arith)))
      (subst (λ (s : Segment). Contains (rows_of s) row) (sym (more.segment l q some limit)) fact)))
      (λ fact. absurd (contains_nothing row fact))

  pub rows_more : AreMore (rows_at f) (rows_at h)
  rows_more block entry fact = record { log = fact.log; seq = fact.seq; says = says_more (block, entry) fact.log fact.seq fact.says }

-- what a packet tells it tells still
module _ (rows later : FiledRows) (more : AreMore rows later) where
  body_rises : (m : Body) → BodyTold (told_by_rows rows) m → BodyTold (told_by_rows later) m
  body_rises (body.Grant m) fact = told_more rows later more m.block m.entry fact
  body_rises (body.Deltas m) fact = rows_rise (told_by_rows rows) (told_by_rows later) (told_more rows later more) m.rows fact
  body_rises (body.Live m) fact = told_more rows later more m.block m.entry fact
  body_rises _ fact = tt

  module _ (kinds : EntryKinds) where
    any_rises : (node : AnyNode) → AnyTold rows node → AnyTold later node
    any_rises (any.Client node) fact = kinds.client.stays rows later node more fact
    any_rises (any.Manager node) fact = kinds.manager.stays rows later node more fact
    any_rises (any.Server node) fact = tt
    any_rises (any.Cleaner node) fact = kinds.cleaner.stays rows later node more fact
    any_rises (any.Registry node) fact = tt

    -- so does all that is told at a moment
    pub entries_rise : (nodes : List AnyNode) (sent : List Packet) → EntriesStand rows nodes sent → EntriesStand later nodes sent
    entries_rise nodes sent fact = record {
      holds = λ node among. any_rises node (fact.holds node among);
      packets = λ p among. body_rises p.body (fact.packets p among);
    }

-- ---- the start

module _ (kinds : EntryKinds) (rows : FiledRows) where
  any_begins : (name : NodeId) (setup : Setup) (items : List Work) → AnyTold rows (any_start name setup items)
  any_begins (nodes.Client number) setup items = kinds.client.starts rows number setup items
  any_begins (nodes.Manager number) setup items = kinds.manager.starts rows number setup items
  any_begins (nodes.Server number) setup items = tt
  any_begins nodes.Cleaner setup items = kinds.cleaner.starts rows setup items
  any_begins nodes.Registry setup items = tt

  first_ones : (script : Script) (names : List NodeId) (node : AnyNode) → In node (map (first_node any_start script) names) → AnyTold rows node
  first_ones script [] node among = absurd among
  first_ones script (name ∷ names) node (inl fact) = subst (AnyTold rows) (sym fact) (any_begins name script.setup (items_of script.lines name))
  first_ones script (name ∷ names) node (inr later) = first_ones script names node later

  -- before the first event nothing is told, whatever was filed
  pub entries_begin : (e : Estate AnyNode) → EntriesStand rows (moment e 0).nodes (moment e 0).sent
  unfolding start_world
  entries_begin e = record {
    holds = first_ones e.script (nodes_of (cluster_of e.script.setup));
    packets = λ p among. absurd among;
  }
