-- What an event is owed: of each kind of node what logs owe both small worlds of a slot. It is proved for each kind in files of its own.
use Rattle.std.proofs.Common.{◌≡◌, ℕ, Bool, false, refl}
use Rattle.cleaner_node.specs.declared.cleaner.Cleaner.{Cleaner as CleanerNode}
use Rattle.client_node.specs.declared.client.Client.{Client as ClientNode}
use Rattle.core_world.specs.declared.any_node.AnyNode.{AnyNode}
use Rattle.core_world.specs.declared.any_node.AnyNode.TheVariants as any
use Rattle.manager_node.specs.declared.manager.Manager.{Manager as ManagerNode}
use Rattle.world_base.specs.declared.cluster.Cluster.{Cluster}
use Rattle.world_base.specs.declared.event.Event.{Event}
use Rattle.world_base.specs.Events.{node_of, what_of}
use Rattle.run_laws.specs.world_index.Owes.{IndexOwes}
use Rattle.run_laws.specs.world_law.Standing as tokens
use Rattle.run_laws.proofs.world_law.Owes.{NodeTold}
use Rattle.headline.specs.Moments.{moment}
use Rattle.run_laws.proofs.world_reads.Taking.{Took}
use Rattle.run_laws.proofs.world_reads.TurnBoth.{AdoptsThere, Both, IsOwed, IsOwedAs}
use Rattle.run_laws.specs.world_reads.Joint.{k}
use Rattle.run_laws.specs.world_reads.LoggedRuns.{LoggedRun}
use Rattle.xfs_base.specs.declared.node.NodeId.{NodeId}
use Rattle.xfs_base.specs.declared.node.NodeId.TheVariants.{Client, Manager, Cleaner}

module _ (logged : LoggedRun) (part count : ℕ) (event : Event) (b : Both logged part count) where
  open logged use {estate as e, texts}

  abbrev cl : Cluster
  cl = k logged part

  abbrev pub IndexOwed : NodeId → AnyNode → Type 0
  IndexOwed name node = IndexOwes part texts.text b.idx.asked b.idx.net name node (what_of event)

  abbrev pub TokensOwed : Bool → NodeId → AnyNode → Type 0
  TokensOwed adopted name node =
      NodeTold adopted (tokens.members cl part) part (tokens.epoch_now cl part b.tok) b.tok.net name node (what_of event)

  -- of the cleaner it is said whether an opening that ends has what was in flight, which it has where what was read back has that
  pub record CleanerOwed (node : CleanerNode) : Type 0 where
    pub adopted : Bool
    pub adopts : AdoptsThere logged part count event b Cleaner (any.Cleaner node) adopted
    pub told : TokensOwed adopted Cleaner (any.Cleaner node)

  -- what is owed, whichever node takes the event
  pub record AllOwed : Type 0 where
    pub client_owed : (c : ℕ) (node : ClientNode) → node_of event ≡ Client c → Took (moment e count) event (any.Client node)
        → IndexOwed (Client c) (any.Client node)
    pub client_told : (c : ℕ) (node : ClientNode) → node_of event ≡ Client c → Took (moment e count) event (any.Client node)
        → TokensOwed false (Client c) (any.Client node)
    pub manager_owed : (j : ℕ) (node : ManagerNode) → node_of event ≡ Manager j → Took (moment e count) event (any.Manager node)
        → IndexOwed (Manager j) (any.Manager node)
    pub manager_told : (j : ℕ) (node : ManagerNode) → node_of event ≡ Manager j → Took (moment e count) event (any.Manager node)
        → TokensOwed false (Manager j) (any.Manager node)
    pub cleaner_owed : (node : CleanerNode) → node_of event ≡ Cleaner → Took (moment e count) event (any.Cleaner node)
        → IndexOwed Cleaner (any.Cleaner node)
    pub cleaner_told : (node : CleanerNode) → node_of event ≡ Cleaner → Took (moment e count) event (any.Cleaner node) → CleanerOwed node

  module _ (all : AllOwed) where
    by : (name : NodeId) → node_of event ≡ name → (node : AnyNode) → Took (moment e count) event node
        → IsOwedAs logged part count event b name node
    by (Client c) own (any.Client x) took =
        record { adopted = false; adopts = tt; tokens = all.client_told c x own took; index = all.client_owed c x own took }
    by (Manager j) own (any.Manager x) took =
        record { adopted = false; adopts = tt; tokens = all.manager_told j x own took; index = all.manager_owed j x own took }
    by Cleaner own (any.Cleaner x) took =
        let told = all.cleaner_told x own took in
        record { adopted = told.adopted; adopts = told.adopts; tokens = told.told; index = all.cleaner_owed x own took }
    by name own node took = record { adopted = false; adopts = tt; tokens = tt; index = tt }

    pub is_owed : (node : AnyNode) → Took (moment e count) event node → IsOwed logged part count event b node
    is_owed node took = by (node_of event) refl node took
