-- What bounds of the numbers of logs have to keep to, so that a manager keeps to them; and what of an event is bounded.
use Rattle.std.proofs.Common.{◌≡◌, ℕ, true, List}
use Rattle.std.specs.Prelude.{Some}
use Rattle.std.specs.List.{AllByRecursion}
use Rattle.manager_slots.specs.SlotTable.{horizon_of}
use Rattle.node_base.specs.declared.effects.Effect.{Effect}
use Rattle.node_base.specs.Effects.{packets_of}
use Rattle.slot_beliefs.specs.Recalls.{applied_of, applied_upto, is_followed}
use Rattle.takeover.specs.declared.report.Report.{Report}
use Rattle.takeover.specs.Reports.{applied_of as applied_from}
use Rattle.token_manager.specs.SlotState.{SlotState}
use Rattle.token_manager.specs.Transition.{joins_on}
use Rattle.xfs_base.specs.declared.node.NodeId.{NodeId}
use Rattle.xfs_base.specs.declared.segment.LogId.{LogId}
use Rattle.node_moves.proofs.Effects as effects
use Rattle.node_tellings.specs.filed_tie.Bounds.{Bounds, KnownBounded, BodyBounded, PacketBounded}

-- What is applied gives a horizon that is bounded, what a takeover knows gives what is applied, and deltas that join on to what is applied keep it bounded.
pub record Bounding (b : Bounds) : Type 0 where
  pub covers : (slot epoch : ℕ) (s : SlotState) → b.applied slot epoch s.applied → b.horizon slot epoch (horizon_of s)
  pub begins : (slot epoch : ℕ) (horizon : List ℕ) (reports : List Report) → KnownBounded b slot epoch horizon reports
      → b.applied slot epoch (applied_from horizon reports)
  pub merges : (slot epoch : ℕ) (applied : List ℕ) (log : LogId) (first upto : ℕ) → is_followed log ≡ true
      → joins_on (applied_of applied log.0) first upto ≡ true → b.told (Some log) upto → b.applied slot epoch applied
      → b.applied slot epoch (applied_upto applied log upto)

-- ---- what a node does

module _ (b : Bounds) (node : NodeId) where
  abbrev pub EffectBounded : Effect → Type 0
  EffectBounded e = effects.Says (λ said. BodyBounded b node said) e

  pub packets_bounded : (outs : List Effect) → AllByRecursion EffectBounded outs → AllByRecursion (PacketBounded b) (packets_of node outs)
  packets_bounded outs all = effects.packets_so (λ said. BodyBounded b node said) (PacketBounded b) node (λ to said told. told) outs all
