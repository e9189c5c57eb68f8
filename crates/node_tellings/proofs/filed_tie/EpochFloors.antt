-- That no log is applied or covered less far than where an epoch began is a bound to which managers and the registry keep.
use Rattle.std.proofs.Common.{◌≡◌, ℕ, ◌+◌, ◌-◌, ◌≤◌, true, List, map, replicate, arith}
use Rattle.std.specs.Prelude.{slice_index, nat_le, nat_lt}
use Rattle.std.specs.List.{range_with_len}
use Rattle.std.proofs.lemmas.Bool.Decides.{nat_tests}
use Rattle.std.proofs.lemmas.List.FromFn.{get_or-map-range_with_len}
use Rattle.manager_node.specs.Events.{happens}
use Rattle.manager_node.specs.Phases.{lasting_of}
use Rattle.manager_slots.specs.SlotTable.{next_of, horizon_of}
use Rattle.slot_beliefs.specs.Recalls.{applied_of, applied_upto}
use Rattle.registry_node.specs.Events.{takes as registry_takes}
use Rattle.takeover.specs.declared.report.Report.{Report}
use Rattle.takeover.specs.Reports.{horizon_at, applied_at, applied_of as applied_from}
use Rattle.token_manager.specs.SlotState.{SlotState}
use Rattle.token_manager.specs.Transition.{joins_on}
use Rattle.xfs_base.proofs.Booleans.{and_second}
use Rattle.xfs_base.specs.declared.node.NodeId.{NodeId}
use Rattle.xfs_base.specs.declared.node.NodeId.TheVariants.{Manager as AManager, Registry}
use Rattle.xfs_base.specs.declared.segment.LogId.{LogId}
use Rattle.xfs_base.specs.Limits.{block_logs}
use Rattle.node_tellings.specs.filed_tie.Bounds.{KnownBounded}
use Rattle.node_tellings.specs.filed_tie.Floor.{Floor, least, above, ManagerStartsAbove, ManagersStayAbove, RegistryStartsAbove, RegistryKeepsAbove}
use Rattle.node_tellings.proofs.filed_tie.Bounding.{Bounding, packets_bounded}
use Rattle.node_tellings.proofs.filed_tie.LogNumbers.{not_below}
use Rattle.node_tellings.proofs.filed_tie.Managers.{first_bounded, manager_goes}
use Rattle.node_tellings.proofs.filed_tie.Registries.{first_registry, registry_goes}

-- the number of a log, where each of the nine has its own
number_is : (number : ℕ → ℕ) (log : ℕ) → 1 ≤ log → log ≤ block_logs → slice_index (map number (range_with_len 1 block_logs)) (log - 1) ≡ number log
number_is number log from_one to_nine = get_or-map-range_with_len number 1 block_logs (log - 1) log 0 (omega arith) (omega arith)

module _ (floor : Floor) where
  begun_above : (slot epoch : ℕ) (horizon : List ℕ) (reports : List Report) → KnownBounded (above floor) slot epoch horizon reports
      → (above floor).applied slot epoch (applied_from horizon reports)
  unfolding applied_from
  begun_above slot epoch horizon reports known log from_one to_nine =
      let fact = number_is (applied_at horizon reports) log from_one to_nine in
      let covered = known.covered log from_one to_nine in
      omega arith

  covered_above : (slot epoch : ℕ) (s : SlotState) → (above floor).applied slot epoch s.applied → (above floor).horizon slot epoch (horizon_of s)
  covered_above slot epoch s h log from_one to_nine =
      let fact = number_is (next_of s) log from_one to_nine in
      let told = h log from_one to_nine in
      omega arith

  merged_above : (slot epoch : ℕ) (applied : List ℕ) (log : LogId) (first upto : ℕ) → joins_on (applied_of applied log.0) first upto ≡ true
      → (above floor).applied slot epoch applied → (above floor).applied slot epoch (applied_upto applied log upto)
  merged_above slot epoch applied log first upto joins h other from_one to_nine =
      let leads : nat_lt (applied_of applied log.0) upto ≡ true =
      and_second (nat_le first (applied_of applied log.0 + 1)) (nat_lt (applied_of applied log.0) upto) joins in
      let up : applied_of applied log.0 ≤ upto = grind (arith, nat_tests) in
      let kept = not_below applied (log.0 - 1) upto (other - 1) up in
      let before = h other from_one to_nine in
      omega arith

  keeping : Bounding (above floor)
  keeping = record {
    covers = covered_above;
    begins = begun_above;
    merges = λ slot epoch applied log first upto followed joins told h. merged_above slot epoch applied log first upto joins h;
  }

-- ---- the law

pub managers_start_above : ManagerStartsAbove
managers_start_above floor number setup works low =
    first_bounded (above floor) number setup works (λ slot log from_one to_nine. let l = low slot log in omega arith)

pub managers_stay_above : ManagersStayAbove
managers_stay_above floor m what h told =
    let node : NodeId = AManager (lasting_of m.phase).number in
    let d = manager_goes (above floor) (keeping floor) node m what h told in
    record { node = d.state; packets = packets_bounded (above floor) node (happens m what).outs d.outs }

pub registry_starts_above : RegistryStartsAbove
registry_starts_above floor setup works low = first_registry (above floor) setup works one
  where
    one : (slot log : ℕ) → 1 ≤ log → log ≤ block_logs → least floor slot 1 log ≤ horizon_at (replicate block_logs 1) log
    one slot log from_one to_nine =
        let fact : horizon_at (replicate block_logs 1) log ≡ 1 = number_is (λ k. 1) log from_one to_nine in
        let l = low slot log in
        omega arith

pub registry_keeps_above : RegistryKeepsAbove
registry_keeps_above floor node what h told new =
    let d = registry_goes (above floor) node what h told new in
    record { node = d.state; packets = packets_bounded (above floor) Registry (registry_takes node what).outs d.outs }
