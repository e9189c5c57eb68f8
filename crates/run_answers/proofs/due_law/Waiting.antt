-- What is open of each node fits where it stands, at each moment of a run.
use Rattle.std.proofs.Common.{◌≡◌, ℕ, List, Option, Some, None}
use Rattle.cleaner_node.specs.CleanerEvents as cleaning
use Rattle.cleaner_node.specs.declared.cleaner.Phase as cleaner_phase
use Rattle.cleaner_node.specs.declared.cleaner.Phase.TheVariants as cleaner
use Rattle.client_node.specs.declared.phase.Phase as client_phase
use Rattle.client_node.specs.declared.phase.Phase.TheVariants as client
use Rattle.client_node.specs.Phases as clients
use Rattle.core_world.specs.declared.any_node.AnyNode.{AnyNode}
use Rattle.core_world.specs.declared.any_node.AnyNode.TheVariants as any
use Rattle.manager_node.specs.declared.phase.Phase as manager_phase
use Rattle.manager_node.specs.declared.phase.Phase.TheVariants as manager
use Rattle.manager_node.specs.Phases as managers
use Rattle.version_model.specs.declared.work.Work.{Work}
use Rattle.version_model.specs.declared.work.Work.TheVariants as work
use Rattle.world_base.specs.declared.estate.Estate.{Estate}
use Rattle.world_base.specs.Items.{items_of}
use Rattle.xfs_base.specs.declared.node.NodeId.{NodeId}
use Rattle.run_answers.proofs.standing_law.Cleaners as of_cleaners
use Rattle.run_answers.proofs.standing_law.Clients as of_clients
use Rattle.run_answers.proofs.standing_law.Managers as of_managers
use Rattle.run_answers.proofs.standing_law.Runs.{Stands}
use Rattle.headline.specs.Items.{asked_at, items_in}
use Rattle.headline.specs.Dues.{ItemsFit, WaitsSo, cleaner_items_fit, client_items_fit, manager_items_fit}
use Rattle.headline.specs.Standings.{IsCall, IsCounted, IsRebuild, cleaner_stands, client_stands, manager_stands, standing}

-- what is counted, and what is filled again, is a call
counted_call : (w : Option Work) → IsCounted w → IsCall w
counted_call (Some (work.Checkpoint m)) counted = tt
counted_call (Some (work.Clean count)) counted = tt
counted_call _ counted = absurd counted

rebuild_call : (w : Option Work) → IsRebuild w → IsCall w
rebuild_call (Some (work.Rebuild server)) rebuild = tt
rebuild_call _ rebuild = absurd rebuild

none_waits : (o : Option ℕ) (item : ℕ) → o ≡ None → o ≡ Some item → ⊥
none_waits o item none waits = cc

module _ (works : List Work) where
  abbrev asks : ℕ → Option Work
  asks item = asked_at works item

  client_waits : (p : client_phase.Phase) → client_items_fit p → of_clients.Asks works p → WaitsSo (client_stands p) (clients.lasting_of p).items asks
  client_waits (client.Down l) fits stands = fits
  client_waits (client.Opening l o) fits stands = (fits.0, (fits.1, stands fits.0 fits.1))
  client_waits (client.Serving s) fits stands = stands.1

  manager_waits : (p : manager_phase.Phase) → manager_items_fit p → of_managers.Asks works p → WaitsSo (manager_stands p) (managers.lasting_of p).items asks
  manager_waits (manager.Down l) fits stands = fits
  manager_waits (manager.Waiting l hello) fits stands = λ item waits. counted_call (asked_at works item) (stands item waits)
  manager_waits (manager.Serving s) fits stands = λ item waits. counted_call (asked_at works item) (stands item waits)

  cleaner_waits : (p : cleaner_phase.Phase) → cleaner_items_fit p → of_cleaners.Asks works p → WaitsSo (cleaner_stands p) (cleaning.lasting_of p).items asks
  cleaner_waits (cleaner.Down l) fits stands = fits
  cleaner_waits (cleaner.Opening l o) fits stands = (fits.0, (fits.1, stands fits.0 fits.1))
  cleaner_waits (cleaner.Serving s) fits stands = λ item waits. counted_call (asked_at works item) (stands item waits)

pub waits_so : (e : Estate AnyNode) (name : NodeId) (x : AnyNode) → ItemsFit x → Stands e name x
    → WaitsSo (standing x) (items_in x) (λ item. asked_at (items_of e.script.lines name) item)
waits_so e name (any.Client c) fits stands = client_waits (items_of e.script.lines name) c.phase fits stands
waits_so e name (any.Manager m) fits stands = manager_waits (items_of e.script.lines name) m.phase fits stands
waits_so e name (any.Server v) fits stands = λ item waits. rebuild_call (asked_at (items_of e.script.lines name) item) (stands item waits)
waits_so e name (any.Cleaner c) fits stands = cleaner_waits (items_of e.script.lines name) c.phase fits stands
waits_so e name (any.Registry r) fits stands = λ item waits. absurd (none_waits r.items.unanswered item fits waits)
