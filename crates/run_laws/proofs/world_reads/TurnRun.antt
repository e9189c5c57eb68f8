-- The moment after an event of a run stands to both small worlds of a slot and to those of all logs, if the event gets what it is owed.
use Rattle.std.proofs.Common.{◌≡◌, ◌⊎◌, ⊎_elim, ℕ, zero, suc, ◌<◌, false, List, [], ◌∷◌, Option, None, Some, inl, inr, slice_get, take, refl, sym, ap, subst, ◌∙◌}
use Rattle.std.specs.List.{fold}
use Rattle.core_world.specs.AnyNode.{any_start, any_step}
use Rattle.core_world.specs.declared.any_node.AnyNode.{AnyNode}
use Rattle.node_logs.specs.client_log_tie.Owner.{Scene}
use Rattle.run_laws.specs.reopening_law.Reopens.{TellsApart}
use Rattle.world_base.specs.Cluster.{cluster_of}
use Rattle.world_base.specs.declared.cluster.Cluster.{Cluster}
use Rattle.world_base.specs.declared.estate.Estate.{Estate}
use Rattle.world_base.specs.declared.event.Event.{Event}
use Rattle.world_base.specs.declared.world.World.{World}
use Rattle.world_base.specs.Events.{node_of}
use Rattle.world_base.specs.NextWorld.{next_world, start_world}
use Rattle.world_base.specs.Runs.{IsRun, Leads, MayHappen}
use Rattle.run_laws.proofs.world_law.Turning.{next_cluster}
use Rattle.headline.specs.Moments.{moment}
use Rattle.run_laws.specs.world_logs.Lines.{IsLeft}
use Rattle.headline.specs.Logs.{Role, renews}
use Rattle.headline.specs.Logs.Role.{OfClient, OfCleaner, OfManager}
use Rattle.run_laws.proofs.world_reads.Taking.{NothingHappens, Took, moment_next}
use Rattle.run_laws.proofs.world_reads.TurnBoth.{Both, Turned, both_of, goes}
use Rattle.run_laws.proofs.world_reads.TurnLogs.{LogsKnown, cleaner_or_not, client_or_not}
use Rattle.run_laws.proofs.world_reads.TurnNext.{Grows, LivesTell, TellsEntries, stays, taken}
use Rattle.run_laws.proofs.world_reads.TurnOwed.{AllOwed, is_owed}
use Rattle.run_laws.proofs.world_reads.TurnStill.{IsStill, Rests, rested}
use Rattle.run_laws.specs.world_reads.Joint.{Joint, There, k}
use Rattle.run_laws.proofs.world_reads.Joint.{IsSureUpto}
use Rattle.xfs_base.proofs.Booleans.{contrary}
use Rattle.xfs_base.specs.Limits.{slot_count}
use Rattle.run_laws.proofs.world_reads.Below.{Below}
use Rattle.run_laws.specs.world_reads.LoggedRuns.{LoggedRun}

-- ---- counts

cluster_after : (events : List Event) (w : World AnyNode) → (fold (next_world any_step) w events).cluster ≡ w.cluster
cluster_after [] w = refl
cluster_after (event ∷ events) w = cluster_after events (next_world any_step w event) ∙ next_cluster any_step w event

-- the cluster is that of the setup
pub moment_cluster : (e : Estate AnyNode) (count : ℕ) → (moment e count).cluster ≡ cluster_of e.script.setup
unfolding start_world
moment_cluster e count = cluster_after (take count e.events) (start_world any_start e.script)

pub may_at : (events : List Event) (count : ℕ) (event : Event) (w end : World AnyNode) → Leads any_step w events end → slice_get events count ≡ Some event
    → MayHappen (fold (next_world any_step) w (take count events)) event
may_at [] count event w end leads fact = absurd cc
may_at (x ∷ events) zero event w end leads fact = subst (MayHappen w) (same x event fact) leads.0
  where
    same : (a b : Event) → Some a ≡ Some b → a ≡ b
    same a b e = cc
may_at (x ∷ events) (suc count) event w end leads fact = may_at events count event (next_world any_step w x) end leads.1 fact

pub past_end : (events : List Event) (count : ℕ) → slice_get events count ≡ None → take (suc count) events ≡ take count events
past_end [] zero none = refl
past_end [] (suc count) none = refl
past_end (x ∷ events) zero none = absurd cc
past_end (x ∷ events) (suc count) none = ap (λ more. x ∷ more) (past_end events count none)

module _ (laws : Below) (logged : LoggedRun) (part : ℕ) (of_eight : part < slot_count) (apart : TellsApart logged.base)
    (run : IsRun any_step any_start logged.estate.script logged.estate.events logged.estate.world) where
  open logged use {estate as e, lines}

  abbrev cl : Cluster
  cl = k logged part

  abbrev clusters : (count : ℕ) → (moment e count).cluster ≡ cl
  clusters count = moment_cluster e count

  module _ (count : ℕ) (joint : Joint logged part count) (sure : IsSureUpto logged part (suc count)) where
    abbrev b : Both logged part count
    b = both_of logged part count joint

    -- what is told of where blocks lie is so then, where logs are known
    abbrev pub TellsThen : (event : Event) → AllOwed logged part count event b → Type 0
    TellsThen event owed =
        (node : AnyNode) (took : Took (moment e count) event node)
        → (turned : Turned logged part count event b node (is_owed logged part count event b owed node took))
        → LogsKnown logged part (suc count) turned.then
        → TellsEntries laws logged part of_eight apart run clusters (suc count) turned.then

    -- what is owed of an event, and what is to be known of it besides
    pub record StepIsOwed (event : Event) (at : slice_get e.events count ≡ Some event) (may : MayHappen (moment e count) event) : Type 0 where
      pub owed : AllOwed logged part count event b
      pub tells : TellsThen event owed

    -- so it is of the next event, if there is one
    abbrev pub Step : Type 0
    Step = (event : Event) (at : slice_get e.events count ≡ Some event) (may : MayHappen (moment e count) event) → StepIsOwed event at may

    may_be : (event : Event) → slice_get e.events count ≡ Some event → MayHappen (moment e count) event
    may_be event at = may_at e.events count event (start_world any_start e.script) e.world run at

    -- ---- no event

    left : slice_get e.events count ≡ None → (r : Role) (there : There logged part r)
        → IsLeft ((lines r there).scene count).net ((lines r there).scene (suc count)).net
    left none r there =
        subst (λ (x : Scene). IsLeft ((lines r there).scene count).net x.net) (sym ((lines r there).ended count none))
        (record { inc = refl; owner = refl; filed = refl; feed = refl; flown = refl; picked = refl })

    ended : slice_get e.events count ≡ None → Rests logged part count
    ended none =
        let same : moment e (suc count) ≡ moment e count = ap (fold (next_world any_step) (start_world any_start e.script)) (past_end e.events count none) in
        record {
          nodes = ap (λ (w : World AnyNode). w.nodes) same;
          sent = ap (λ (w : World AnyNode). w.sent) same;
          acts = ap (λ (w : World AnyNode). w.acts) same;
        }

    -- ---- an event

    module _ (event : Event) (at : slice_get e.events count ≡ Some event) where
      -- nothing happens: a log is left as it was, but for that of the owner to which it was to happen
      still : (r : Role) (there : There logged part r) → renews r ≡ false → IsStill logged part count r there
      still (OfClient c) there keeps = ⊎_elim (λ own. inr ((lines (OfClient c) there).straight count event at (sym own)))
          (λ away. inl ((lines (OfClient c) there).others count event at away)) (client_or_not c (node_of event))
      still OfCleaner there keeps = ⊎_elim (λ own. inr ((lines OfCleaner there).straight count event at (sym own)))
          (λ away. inl ((lines OfCleaner there).others count event at away)) (cleaner_or_not (node_of event))
      still (OfManager j) there keeps = contrary (sym keeps)

      nothing : NothingHappens (moment e count) event → Rests logged part count
      nothing fact =
          let next = moment_next e count event at in
          record {
            nodes = ap (λ (w : World AnyNode). w.nodes) next ∙ fact.nodes;
            sent = ap (λ (w : World AnyNode). w.sent) next ∙ fact.sent;
            acts = ap (λ (w : World AnyNode). w.acts) next ∙ fact.acts;
          }

      module _ (step : StepIsOwed event at (may_be event at)) where
        abbrev Which : Type 0
        Which = NothingHappens (moment e count) event
            ⊎ ((node : AnyNode) × (took : Took (moment e count) event node)
            × Turned logged part count event b node (is_owed logged part count event b step.owed node took))

        which : Which
        which = goes logged part count event b laws of_eight (clusters count) at (may_be event at)
            (is_owed logged part count event b step.owed)

        both_by : Which → Both logged part (suc count)
        both_by (inl fact) = rested logged part count (nothing fact) b
        both_by (inr (node, took, turned)) = turned.then

        joint_by : LivesTell laws logged part of_eight apart run clusters (suc count) → Which
            → Grows logged part count joint
        joint_by lives (inl fact) = stays laws logged part of_eight apart run clusters count joint sure lives (nothing fact) still
        joint_by lives (inr (node, took, turned)) =
            taken laws logged part of_eight apart run clusters count joint sure event at (may_be event at) node took
            (is_owed logged part count event b step.owed node took) turned lives (step.tells node took turned)

    -- ---- either

    module _ (step : Step) where
      -- the moment after it stands to both small worlds
      pub both_then : Both logged part (suc count)
      both_then = by (slice_get e.events count) refl
        where
          by : (o : Option Event) → slice_get e.events count ≡ o → Both logged part (suc count)
          by None none = rested logged part count (ended none) b
          by (Some event) at = both_by event at (step event at (may_be event at)) (which event at (step event at (may_be event at)))

      -- and to all, where managers told versions of blocks that live
      pub joint_then : LivesTell laws logged part of_eight apart run clusters (suc count)
          → Grows logged part count joint
      joint_then lives = by (slice_get e.events count) refl
        where
          by : (o : Option Event) → slice_get e.events count ≡ o → Grows logged part count joint
          by None none = stays laws logged part of_eight apart run clusters count joint sure lives (ended none)
              (λ r there keeps. inl (left none r there))
          by (Some event) at = joint_by event at (step event at (may_be event at)) lives (which event at (step event at (may_be event at)))
