-- What is filed at a moment that stands to all small worlds is the run's own table: of each log its line, which its owner told to be filed.
use Rattle.std.proofs.Common.{◌≡◌, ◌⊎◌, ◌<◌, ◌≤◌, ℕ, zero, suc, false, Some, inl, inr, refl, sym, ap, subst, ◌∙◌, arith}
use Rattle.core_world.specs.AnyNode.{any_start, any_step}
use Rattle.core_world.specs.declared.any_node.AnyNode.TheVariants as any
use Rattle.index_tie.specs.Filed.{IsFiled}
use Rattle.headline.specs.Filed.{Filed, HasSegment, IsOwnTable, IsStored}
use Rattle.index_tie.proofs.Runs.{good_in}
use Rattle.log_law.specs.Held.{WhatFlewIsOfTheLog}
use Rattle.log_law.specs.Laws.{LogsStayWhole, OneNameOneText}
use Rattle.log_law.specs.Net.{Net}
use Rattle.log_scan.specs.Transition.{least_horizon}
use Rattle.node_logs.specs.node_log_tie.RegistryEvents.{RegistrySeen}
use Rattle.node_base.specs.Setups.{IsSetup}
use Rattle.node_slots.specs.node_index_tie.Sight.{held_in}
use Rattle.node_slots.specs.owner_index_tie.ServerEvents.{ServerEventGoes}
use Rattle.registry.specs.Board.{board_slots}
use Rattle.registry_node.specs.declared.node.RegistryNode.{RegistryNode}
use Rattle.token_protocol.specs.Basics.{In}
use Rattle.version_model.specs.declared.act.Act.TheVariants as act
use Rattle.world_base.specs.Cluster.{cluster_of, place_of}
use Rattle.world_base.specs.declared.cluster.Cluster.{Cluster}
use Rattle.world_base.specs.Runs.{IsRun}
use Rattle.run_laws.proofs.world_law.Laws as tokens
use Rattle.headline.specs.Moments.{moment, node_in, node_named}
use Rattle.run_laws.specs.world_lines.Lines.{IsLine, LineGives, LinesGive}
use Rattle.run_laws.proofs.world_logs.Reading.{what_flew_is_text}
use Rattle.run_laws.proofs.world_logs.Roles.{high_log}
use Rattle.headline.specs.Logs.{Role, did, log_by, renews}
use Rattle.headline.specs.Horizons.{IsOpened}
use Rattle.run_laws.specs.world_logs.Lines.{setting}
use Rattle.headline.specs.Logs.Role.{OfClient, OfCleaner, OfManager}
use Rattle.run_laws.proofs.world_reads.EntriesSame.{sure_log}
use Rattle.run_laws.proofs.world_reads.KnownLogs.{HasLog, filed_log}
use Rattle.run_laws.proofs.world_reads.OwnActs.{did_is_acted, told_by_owner}
use Rattle.run_laws.proofs.world_reads.TurnRun.{moment_cluster}
use Rattle.run_laws.specs.world_reads.Joint.{Joint, There, log_at}
use Rattle.run_laws.proofs.world_reads.Joint.{IsSureUpto}
use Rattle.run_laws.specs.world_reads.LoggedRuns.{LoggedRun}
use Rattle.xfs_base.specs.declared.node.NodeId.TheVariants.{Registry}
use Rattle.xfs_base.specs.declared.segment.LogId.{LogId}
use Rattle.xfs_base.specs.declared.segment.SegName.{SegName}
use Rattle.xfs_base.specs.Limits.{block_logs}

module _ (give : LinesGive) (whole : LogsStayWhole) (one : OneNameOneText) (of_log : WhatFlewIsOfTheLog) (laws : tokens.NodeLaws)
    (servers : ServerEventGoes) (logged : LoggedRun) (setup : IsSetup logged.estate.script.setup)
    (run : IsRun any_step any_start logged.estate.script logged.estate.events logged.estate.world) (part : ℕ) (count : ℕ)
    (sure : IsSureUpto logged part count) (joint : Joint logged part count) where
  open logged use {base, estate as e, lines, texts, first}

  abbrev f : Filed
  f = joint.idx.net.filed

  abbrev Has : ℕ → Type 0
  Has l = HasLog logged part l

  -- ---- whose log it is

  opened_by : (r : Role) → There logged part r → renews r ≡ false → IsOpened e.script.setup.clients (log_by r)
  opened_by (OfClient c) there keeps = inl there
  opened_by OfCleaner there keeps = inr refl
  opened_by (OfManager j) there keeps = absurd cc

  owned : (l : ℕ) → IsOpened e.script.setup.clients l ⊎ (f.head l ≡ 0)
  owned l = by (f.head l) refl
    where
      by : (n : ℕ) → f.head l ≡ n → IsOpened e.script.setup.clients l ⊎ (f.head l ≡ 0)
      by zero fact = inr fact
      by (suc n) fact =
          let h : Has l = filed_log logged part count joint l (f.head l) (omega arith) (omega arith) in
          inl (subst (IsOpened e.script.setup.clients) h.numbered (opened_by h.role h.there h.keeps))

  filed : IsFiled f
  filed = (good_in part (held_in part texts.text) first joint.idx.net joint.index_stands.runs).filed

  -- ---- one log

  abbrev Told : ℕ → Type 0
  Told l = (q : ℕ) → 0 < q → q ≤ f.head l → In (act.Filed (f.segment l q).name) (did e l count)

  abbrev Stored : ℕ → Type 0
  Stored l = (q : ℕ) → 0 < q → q ≤ f.head l → IsStored e count (f.segment l q)

  abbrev Chained : ℕ → Type 0
  Chained l = (q : ℕ) (registry : RegistryNode) → node_named (moment e count) Registry ≡ Some (any.Registry registry) → 0 < q
      → least_horizon l (board_slots registry.board) ≤ q → q < f.head l
      → (f.segment l (suc q)).prior.pass ≡ (f.segment l q).name.pass

  module _ (r : Role) (there : There logged part r) (keeps : renews r ≡ false) where
    abbrev l : ℕ
    l = log_by r

    abbrev net : Net
    net = log_at logged part r there count

    its_line : IsLine l net f
    its_line = joint.lined r there keeps

    gives : LineGives l net f
    gives = give texts.text l (setting base e r) net f (sure_log logged part give count sure r there keeps) its_line

    -- what was told to be filed of it is there
    has_told : (name : SegName) → In (act.Filed name) (did e l count) → HasSegment f l name
    has_told name fact =
        let among = ((lines r there).stands count).filed name fact in
        let bounds = its_line.all name among in
        record { some = bounds.0; limit = bounds.1; named = gives.one name among }

    stored : Stored l
    stored q some limit =
        let t = what_flew_is_text base e.world (moment e count) e.script.setup.servers r (cluster_of e.script.setup) (moment_cluster e count)
        ((lines r there).scene count) (did e l count) ((lines r there).stands count) whole one (f.segment l q) (its_line.lined.flown q some limit)
        (ap (λ (n : ℕ). record { 0 = n }) (filed.each l q some limit).log)
        in
        record { group = t.0; striped = t.1; text = t.2 }

    chained : Chained l
    chained q registry at some low limit =
        let here : node_in (moment e count).nodes (place_of (cluster_of e.script.setup) Registry) ≡ Some (any.Registry registry) =
        subst (λ (k : Cluster). node_in (moment e count).nodes (place_of k Registry) ≡ Some (any.Registry registry)) (moment_cluster e count) at in
        let seen : RegistrySeen (setting base e r) net registry.board = ((lines r there).stands count).seen Registry (any.Registry registry) here in
        let its_low : net.low ≡ least_horizon l (board_slots registry.board) = seen.low in
        gives.linked q (f.head l) some (omega (arith, its_low, low)) (omega arith) q (omega arith) limit

  -- ---- all logs

  -- an owner of a log tells segments of that alone to be filed
  log_of_told : (r : Role) (there : There logged part r) (name : SegName) → In (act.Filed name) (did e (log_by r) count)
      → log_by r ≡ name.log.0
  log_of_told r there name fact =
      let net = log_at logged part r there count in
      let at = ((lines r there).stands count).moment in
      let s = (whole (setting base e r) net at).flown name (((lines r there).stands count).filed name fact) in
      sym (ap (λ (l : LogId). l.0) (of_log (setting base e r) net at s.0 s.1)) ∙ ap (λ (n : SegName). n.log.0) s.2

  has_of : (name : SegName) → name.log.0 ≤ block_logs → (r : Role) → There logged part r → In (act.Filed name) (did e (log_by r) count)
      → HasSegment f name.log.0 name
  has_of name low (OfClient c) there fact =
      subst (λ l. HasSegment f l name) (log_of_told (OfClient c) there name fact) (has_told (OfClient c) there refl name fact)
  has_of name low OfCleaner there fact =
      subst (λ l. HasSegment f l name) (log_of_told OfCleaner there name fact) (has_told OfCleaner there refl name fact)
  has_of name low (OfManager j) there fact =
      absurd (let same = log_of_told (OfManager j) there name fact in let high = high_log j there.0 in omega (arith, same, low, high))

  has_acted : (name : SegName) → In (act.Filed name) (moment e count).acts → name.log.0 ≤ block_logs → HasSegment f name.log.0 name
  has_acted name fact low = (let t = told_by_owner laws servers e setup run name count fact in has_of name low t.role t.there t.among)

  was_told : (l q : ℕ) → 0 < q → q ≤ f.head l → In (act.Filed (f.segment l q).name) (did e l count)
  was_told l q some limit =
      let h : Has l = filed_log logged part count joint l q some limit in
      subst Told h.numbered (joint.acted h.role h.there h.keeps) q some limit

  chained_in : (l : ℕ) → Has l → Chained l
  chained_in l h = subst Chained h.numbered (chained h.role h.there h.keeps)

  pub is_own_table : IsOwnTable e count f
  is_own_table = record {
    owned = owned;
    told = was_told;
    acted = λ l q some limit. did_is_acted e l (act.Filed (f.segment l q).name) count (was_told l q some limit);
    borne = filed.each;
    all = has_acted;
    stored = λ l q some limit. (let h : Has l = filed_log logged part count joint l q some limit in
        subst Stored h.numbered (stored h.role h.there h.keeps) q some limit);
    linked = λ l q registry at some low limit.
        chained_in l (filed_log logged part count joint l (suc q) (omega arith) (omega arith)) q registry at some low limit;
  }
