-- That nothing is held and told but what was filed is a bound to which managers and the registry keep.
use Rattle.std.proofs.Common.{◌≡◌, ℕ, suc, ◌-◌, ◌==◌, ◌≤◌, true, List, [], ◌∷◌, sym, ap, subst, arith}
use Rattle.std.specs.Prelude.{Option, Some, None, nat_le}
use Rattle.std.specs.List.{AllByRecursion}
use Rattle.std.proofs.lemmas.Bool.{eqb-true}
use Rattle.std.proofs.lemmas.Bool.Decides.{nat_tests}
use Rattle.manager_node.specs.declared.phase.Phase.{Phase}
use Rattle.manager_node.specs.Events.{happens}
use Rattle.manager_node.specs.Phases.{lasting_of}
use Rattle.manager_slots.specs.SlotTable.{next_of, horizon_of}
use Rattle.manager_serving.specs.Serving.{fed_log}
use Rattle.node_base.specs.Effects.{packets_of}
use Rattle.registry.specs.Checkpoints.{horizon_at as horizon_kept}
use Rattle.slot_beliefs.specs.Recalls.{applied_of, is_followed}
use Rattle.registry_node.specs.declared.node.RegistryNode.{RegistryNode}
use Rattle.registry_node.specs.Events.{takes as registry_takes}
use Rattle.takeover.specs.declared.report.Report.{Report}
use Rattle.takeover.specs.Reports.{end_from, end_of, horizon_at, applied_at, applied_of as applied_from}
use Rattle.token_manager.specs.SlotState.{SlotState}
use Rattle.wire_msg.specs.declared.body.Body.{Body}
use Rattle.wire_msg.specs.declared.body.Body.TheVariants as body
use Rattle.wire_msg.specs.declared.packet.Do.{Do}
use Rattle.wire_msg.specs.declared.packet.Do.TheVariants.{Begin, Deliver, Tick}
use Rattle.wire_msg.specs.declared.packet.Packet.{Packet}
use Rattle.xfs_base.proofs.Booleans.{by_test, and_first}
use Rattle.xfs_base.specs.declared.node.NodeId.{NodeId}
use Rattle.xfs_base.specs.declared.node.NodeId.TheVariants.{Client, Manager as AManager, Cleaner, Registry}
use Rattle.xfs_base.specs.declared.segment.End.{End}
use Rattle.xfs_base.specs.declared.segment.LogId.{LogId}
use Rattle.xfs_base.specs.Nodes.{same_node}
use Rattle.xfs_base.proofs.NodeOrder.{same_node_is}
use Rattle.xfs_base.proofs.Alls.{all_weaker}
use Rattle.xfs_base.specs.Limits.{block_logs}
use Rattle.xfs_base.specs.Logs.{cleaners_number}
use Rattle.node_tellings.specs.filed_tie.Bounds.{ReportBounded, KnownBounded, PhaseBounded, BodyBounded, PacketBounded, DoBounded}
use Rattle.node_tellings.specs.filed_tie.ManagerReach.{filed, ManagerReachRises, ManagerStartsReaching, ManagersTellFiled, ManagersTellNoMore}
use Rattle.node_tellings.specs.filed_tie.RegistryReach.{RegistryReaches, RegistryReachRises, RegistryStartsReaching, RegistryTellsFiled, RegistryTellsNoMore}
use Rattle.node_tellings.specs.filed_tie.Reach.{Reach, Rises, AppliedReaches, HorizonReaches, LogReaches, BodyTells, PacketTells, DoTells}
use Rattle.node_tellings.proofs.filed_tie.Bounding.{Bounding, packets_bounded}
use Rattle.node_tellings.proofs.filed_tie.LogNumbers.{number_at, number_put, numbers_of}
use Rattle.node_tellings.proofs.filed_tie.Managers.{first_bounded, manager_goes}
use Rattle.node_tellings.proofs.filed_tie.Registries.{first_registry, registry_goes}
use Rattle.node_tellings.proofs.filed_tie.Rising.{applied_rises, horizon_rises, log_rises, do_rises}
use Rattle.node_tellings.proofs.filed_tie.Weakening.{Weaker, phase_weaker}

-- ---- who writes a log

module _ (reach : Reach) where
  nothing_reaches : (log : Option LogId) → LogReaches reach log 0
  nothing_reaches None = tt
  nothing_reaches (Some log) = omega arith

  -- the end that a node reported, or none
  end_from-reaches : (node : NodeId) (reports : List Report) → AllByRecursion (ReportBounded (filed reach)) reports
      → LogReaches reach (fed_log node) (end_from node reports).seq
  end_from-reaches node [] all = nothing_reaches (fed_log node)
  end_from-reaches node (r ∷ reports) all =
      by_test (λ (end : End). LogReaches reach (fed_log node) end.seq) (same_node r.from node) r.end (end_from node reports)
      (λ same. subst (λ (log : Option LogId). LogReaches reach log r.end.seq) (ap fed_log (same_node_is r.from node same)) all.0)
      (λ _. end_from-reaches node reports all.1)

  end_of-reaches : (reports : List Report) (log : ℕ) → AllByRecursion (ReportBounded (filed reach)) reports → (end_of reports log).seq ≤ reach log
  end_of-reaches reports log all =
      by_test (λ (node : NodeId). (end_from node reports).seq ≤ reach log) (log == cleaners_number) Cleaner (Client log)
      (λ fact. subst (λ l. (end_from Cleaner reports).seq ≤ reach l) (sym (eqb-true log cleaners_number fact)) (end_from-reaches Cleaner reports all))
      (λ _. end_from-reaches (Client log) reports all)

  -- up to the reported end, or what the checkpoint covers
  begun_reaches : (slot epoch : ℕ) (horizon : List ℕ) (reports : List Report) → KnownBounded (filed reach) slot epoch horizon reports
      → AppliedReaches reach (applied_from horizon reports)
  unfolding applied_from
  begun_reaches slot epoch horizon reports known =
      numbers_of reach (applied_at horizon reports) (λ log from_one.
      let told = end_of-reaches reports log known.reported in
      let covered : horizon_at horizon log ≤ suc (reach log) = number_at (λ l. suc (reach l)) 1 horizon (log - 1) log (omega arith) known.covered in
      omega arith)

  -- one beyond what is applied
  covered_reaches : (s : SlotState) → AppliedReaches reach s.applied → HorizonReaches reach (horizon_of s)
  covered_reaches s h =
      numbers_of (λ log. suc (reach log)) (next_of s) (λ log from_one.
      let told : applied_of s.applied log ≤ reach log = number_at reach 1 s.applied (log - 1) log (omega arith) h in
      omega arith)

  from_one : (log : LogId) → is_followed log ≡ true → 1 ≤ log.0
  from_one log fact = let first : nat_le 1 log.0 ≡ true = and_first (nat_le 1 log.0) (nat_le log.0 block_logs) fact in grind (arith, nat_tests)

  pub filing : Bounding (filed reach)
  filing = record {
    covers = λ slot epoch s h. covered_reaches s h;
    begins = begun_reaches;
    merges = λ slot epoch applied log first upto followed joins told h.
        number_put reach 1 applied (log.0 - 1) log.0 upto (let l = from_one log followed in omega arith) told h;
  }

  -- ---- packets, in the words of a reach and in those of bounds

  body_bounded : (from : NodeId) (said : Body) → BodyTells reach from said → BodyBounded (filed reach) from said
  body_bounded from (body.Deltas deltas) h = h
  body_bounded from (body.Report report) h = h
  body_bounded from (body.CkptDone done) h = h
  body_bounded from (body.MapNews news) h = h
  body_bounded from (body.Welcome welcome) h = h
  body_bounded from _ h = tt

  body_tells : (from : NodeId) (said : Body) → BodyBounded (filed reach) from said → BodyTells reach from said
  body_tells from (body.Deltas deltas) h = h
  body_tells from (body.Report report) h = h
  body_tells from (body.CkptDone done) h = h
  body_tells from (body.MapNews news) h = h
  body_tells from (body.Welcome welcome) h = h
  body_tells from _ h = tt

  do_bounded : (what : Do) → DoTells reach what → DoBounded (filed reach) what
  do_bounded Begin h = tt
  do_bounded (Deliver packet) h = body_bounded packet.from packet.body h
  do_bounded Tick h = tt

  packets_told : (packets : List Packet) → AllByRecursion (PacketBounded (filed reach)) packets → AllByRecursion (PacketTells reach) packets
  packets_told packets all = all_weaker (PacketBounded (filed reach)) (PacketTells reach) (λ p h. body_tells p.from p.body h) packets all

-- ---- later

module _ (reach later : Reach) (rises : Rises reach later) where
  filed_later : Weaker (filed reach) (filed later)
  filed_later = record {
    applied = λ slot epoch applied h. applied_rises reach later rises applied h;
    horizon = λ slot epoch horizon h. horizon_rises reach later rises horizon h;
    told = λ log number h. log_rises reach later rises log number h;
  }

  manager_later : (p : Phase) → PhaseBounded (filed reach) p → PhaseBounded (filed later) p
  manager_later p h = phase_weaker (filed reach) (filed later) filed_later p h

  registry_later : (node : RegistryNode) → RegistryReaches reach node → RegistryReaches later node
  registry_later node h slot within = horizon_rises reach later rises (horizon_kept node.board.checkpoints slot) (h slot within)

-- ---- the law

pub managers_start : ManagerStartsReaching
managers_start reach number setup works = first_bounded (filed reach) number setup works (λ slot. numbers_of reach (λ log. 0) (λ log from_one. omega arith))

pub managers_rise : ManagerReachRises
managers_rise reach later m rises h = manager_later reach later rises m.phase h

pub managers_tell_alone : ManagersTellNoMore
managers_tell_alone reach m what h told =
    let node : NodeId = AManager (lasting_of m.phase).number in
    let outs = (happens m what).outs in
    let d = manager_goes (filed reach) (filing reach) node m what h (do_bounded reach what told) in
    record { node = d.state; packets = packets_told reach (packets_of node outs) (packets_bounded (filed reach) node outs d.outs) }

pub managers_tell : ManagersTellFiled
managers_tell reach later m what rises h told acts =
    managers_tell_alone later m what (manager_later reach later rises m.phase h) (do_rises reach later rises what told)

pub registry_starts : RegistryStartsReaching
registry_starts reach setup works =
    first_registry (filed reach) setup works (λ slot. numbers_of (λ log. suc (reach log)) (λ log. 1) (λ log from_one. omega arith))

pub registry_rises : RegistryReachRises
registry_rises reach later node rises h = registry_later reach later rises node h

pub registry_tells_alone : RegistryTellsNoMore
registry_tells_alone reach node what h told =
    let outs = (registry_takes node what).outs in
    let d = registry_goes (filed reach) node what h (do_bounded reach what told) (λ slot within other. h slot within) in
    record { node = d.state; packets = packets_told reach (packets_of Registry outs) (packets_bounded (filed reach) Registry outs d.outs) }

pub registry_tells : RegistryTellsFiled
registry_tells reach later node what rises h told acts =
    registry_tells_alone later node what (registry_later reach later rises node h) (do_rises reach later rises what told)
