-- At a moment of a run that stands to both small worlds of a slot: how its clients, its cleaner and its registry are seen in the small worlds.
use Rattle.std.proofs.Common.{◌≡◌, ℕ, ◌<◌, true, Some, refl, sym, subst, ◌∙◌, arith}
use Rattle.cleaner_node.specs.declared.cleaner.Cleaner.{Cleaner as CleanerNode}
use Rattle.client_node.specs.declared.client.Client.{Client as ClientNode}
use Rattle.core_world.specs.declared.any_node.AnyNode.TheVariants as any
use Rattle.node_logs.specs.node_log_tie.RegistryEvents.{RegistrySeen}
use Rattle.node_slots.specs.node_tie.CleanerLogs.{CleanerCopies}
use Rattle.node_slots.specs.node_tie.ClientEvents as tokens
use Rattle.node_slots.specs.owner_index_tie.CleanerEvents as cleaner_index
use Rattle.node_slots.specs.owner_index_tie.ClientEvents as client_index
use Rattle.world_base.specs.Cluster.{place_of}
use Rattle.world_base.specs.declared.cluster.Cluster.{Cluster}
use Rattle.run_laws.specs.world_law.Standing.{members}
use Rattle.headline.specs.Moments.{moment, node_in}
use Rattle.run_laws.specs.world_lines.Lines.{IsSure}
use Rattle.run_laws.specs.world_logs.Lines.{setting}
use Rattle.headline.specs.Logs.{Role}
use Rattle.headline.specs.Logs.Role.{OfClient, OfCleaner}
use Rattle.run_laws.specs.world_logs.Standing.{CleanerOwns, OwnerSeen}
use Rattle.run_laws.proofs.world_reads.TurnBoth.{Both}
use Rattle.run_laws.specs.world_reads.Joint.{There, k}
use Rattle.run_laws.proofs.world_reads.Joint.{IsSureUpto}
use Rattle.run_laws.specs.world_reads.LoggedRuns.{LoggedRun}
use Rattle.xfs_base.specs.declared.node.NodeId.TheVariants.{Client, Cleaner, Registry}
use Rattle.xfs_base.specs.Logs.{cleaners_number}

pub same_client : (a b : ClientNode) → Some (any.Client a) ≡ Some (any.Client b) → a ≡ b
same_client a b fact = cc

pub same_cleaner : (a b : CleanerNode) → Some (any.Cleaner a) ≡ Some (any.Cleaner b) → a ≡ b
same_cleaner a b fact = cc

module _ (logged : LoggedRun) (part count : ℕ) (b : Both logged part count) where
  open logged use {base, estate as e, lines, texts}

  abbrev cl : Cluster
  cl = k logged part

  -- ---- clients

  module _ (c : ℕ) (there : There logged part (OfClient c)) where
    pub member : c < members cl part
    member = (let h = there.1 in omega arith)

    pub below : c < cleaners_number
    below = (let h = member in let f = b.index_stands.few in omega arith)

    pub client_here : node_in (moment e count).nodes (place_of cl (Client c)) ≡ Some (any.Client (b.tok.client c))
    client_here = b.tokens_stand.placed.clients c there.0 member

    pub in_index : b.tok.client c ≡ b.idx.client c
    in_index = same_client (b.tok.client c) (b.idx.client c) (sym client_here ∙ b.index_stands.placed.clients c there.0 member)

    -- as its log sees it, as tokens see it, and as the index does
    pub client_sees : OwnerSeen (setting base e (OfClient c)) ((lines (OfClient c) there).scene count) c (b.tok.client c).phase
    client_sees = ((lines (OfClient c) there).stands count).seen (Client c) (any.Client (b.tok.client c)) client_here refl

    pub client_held : tokens.ClientAgrees true part c b.tok.net (b.tok.client c).phase
    client_held = (b.tokens_stand.clients c there.0 member).0

    pub client_indexed : client_index.ClientAgrees part texts.text b.idx.net c (b.tok.client c).phase
    client_indexed = subst (λ (x : ClientNode). client_index.ClientAgrees part texts.text b.idx.net c x.phase) (sym in_index)
        (b.index_stands.clients c there.0 member)

    -- its log is sure
    pub client_sure : IsSureUpto logged part count
        → IsSure texts.text c (setting base e (OfClient c)) ((lines (OfClient c) there).scene count).net
    client_sure sure = record {
      own = refl;
      trusted = refl;
      moment = ((lines (OfClient c) there).stands count).moment;
      sure = sure (OfClient c) there refl;
      are_texts = λ s fact. texts.flown (OfClient c) there count s fact;
    }

  -- ---- the cleaner

  pub cleaner_here : node_in (moment e count).nodes (place_of cl Cleaner) ≡ Some (any.Cleaner b.tok.cleaner)
  cleaner_here = b.tokens_stand.placed.cleaner

  pub cleaner_in_index : b.tok.cleaner ≡ b.idx.cleaner
  cleaner_in_index = same_cleaner b.tok.cleaner b.idx.cleaner (sym cleaner_here ∙ b.index_stands.placed.cleaner)

  pub cleaner_owns : CleanerOwns (setting base e OfCleaner) ((lines OfCleaner tt).scene count) b.tok.cleaner.phase
  cleaner_owns = ((lines OfCleaner tt).stands count).seen Cleaner (any.Cleaner b.tok.cleaner) cleaner_here

  pub cleaner_copies : CleanerCopies b.tok.net.books b.tok.cleaner.phase
  cleaner_copies = b.tokens_stand.copies

  pub cleaner_indexed : cleaner_index.CleanerAgrees part b.idx.net texts.text b.tok.cleaner.phase
  cleaner_indexed = subst (λ (x : CleanerNode). cleaner_index.CleanerAgrees part b.idx.net texts.text x.phase) (sym cleaner_in_index) b.index_stands.cleaner

  -- ---- the registry

  pub registry_seen : (r : Role) (there : There logged part r)
      → RegistrySeen (setting base e r) ((lines r there).scene count).net b.idx.registry.board
  registry_seen r there = ((lines r there).stands count).seen Registry (any.Registry b.idx.registry) b.index_stands.placed.registry
