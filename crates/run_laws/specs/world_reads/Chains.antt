-- How the moments of a run follow each other in the small worlds of tokens and of the index of one slot, while no restart that ended was doubtful.
use Rattle.std.specs.Prelude.{◌≡◌, ◌<◌, ◌≤◌, ℕ, zero, suc, None, Some}
use Rattle.index_tie.specs.Net.{Net}
use Rattle.node_slots.specs.node_tie.ManagerEvents.{ManagedAt}
use Rattle.headline.specs.Managers.{slot_in}
use Rattle.token_manager.specs.SlotState.{SlotState}
use Rattle.world_base.specs.declared.cluster.Cluster.{Cluster}
use Rattle.run_laws.specs.world_index.Growth.{Grown}
use Rattle.run_laws.specs.world_law.Standing as tokens
use Rattle.run_laws.specs.world_law.Since.{Since}
use Rattle.run_laws.specs.world_logs.Lines.{cluster}
use Rattle.run_laws.specs.world_reads.Joint.{Joint}
use Rattle.run_laws.specs.world_reads.LoggedRuns.{LoggedRun}

module _ (k : Cluster) (part : ℕ) where
  -- a manager manages the slot at this epoch
  pub record IsManaged (t : tokens.Scene) (epoch : ℕ) : Type 0 where
    pub manager : ℕ
    pub some : 0 < manager
    pub limit : manager ≤ k.managers
    pub managed : ManagedAt (slot_in part (t.manager manager).phase) epoch

  -- From one moment to the next one: what was given of epochs stays given, the index goes on, and an epoch that has got a manager there is managed by it then.
  pub record Follows (t : tokens.Scene) (n : Net) (u : tokens.Scene) (m : Net) : Type 0 where
    pub since : Since k part t u
    pub grown : Grown n m
    pub came : (epoch : ℕ) (z : SlotState) → m.slots epoch ≡ Some z → n.slots epoch ≡ None → IsManaged u epoch

-- A moment that stands to all small worlds comes of the start: each moment up to it stands so, and follows the one before it.
abbrev pub Comes : (logged : LoggedRun) (part : ℕ)
    → (count : ℕ) → Joint logged part count → Type 0
Comes logged part zero joint = Unit {0}
Comes logged part (suc count) joint =
    (before : Joint logged part count) × Comes logged part count before
    × Follows (cluster logged.base logged.estate) part before.tok before.idx.net joint.tok joint.idx.net
