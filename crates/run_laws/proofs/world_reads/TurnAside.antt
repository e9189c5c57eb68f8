-- In an event of another node no act is of the fall of a client that doesn't serve.
use Rattle.std.proofs.Common.{◌≡◌, ℕ, ◌+◌, ◌<◌, Bool, true, false, Some, refl, sym, ap, subst, ◌∙◌, arith}
use Rattle.std.proofs.lemmas.List.Elements.{recursion_from_All}
use Rattle.std.specs.List.{AllByRecursion}
use Rattle.cleaner_node.specs.CleanerEvents as cleaners
use Rattle.client_node.specs.declared.phase.Phase.{Phase}
use Rattle.client_node.specs.declared.phase.Phase.TheVariants.{Down, Opening, Serving as Serves}
use Rattle.client_node.specs.Phases.{lasting_of, takes}
use Rattle.core_world.specs.AnyNode.{any_step}
use Rattle.core_world.specs.declared.any_node.AnyNode.{AnyNode}
use Rattle.core_world.specs.declared.any_node.AnyNode.TheVariants as any
use Rattle.manager_node.specs.Events.{happens}
use Rattle.manager_node.specs.Phases as managers
use Rattle.node_base.specs.Effects.{acts_of}
use Rattle.node_slots.proofs.node_tie.StoreFrames.{all_neutral}
use Rattle.node_slots.specs.node_tie.CleanerEvents.{CleanerDoes, CleanerOwed}
use Rattle.node_slots.specs.node_tie.ClientEvents.{ClientAgrees, ClientGoes, ClientOwed, ClientStands}
use Rattle.node_slots.specs.node_tie.ManagerEvents.{EventGets as ManagerEventGets}
use Rattle.node_slots.specs.node_tie.Sight.{ManagerDoes}
use Rattle.run_laws.specs.reopening_law.Falls.{IsAside}
use Rattle.store_nodes.specs.declared.server.Server.{Server as ServerNode}
use Rattle.registry_node.specs.Events.{registry_step}
use Rattle.store_nodes.specs.ServerEvents.{server_step}
use Rattle.token_law.specs.Net.{Net}
use Rattle.token_law.specs.Owed.{IsNeutral}
use Rattle.wire_msg.specs.declared.packet.Do.{Do}
use Rattle.wire_msg.specs.declared.packet.Do.TheVariants.{Begin, Deliver, Tick}
use Rattle.wire_msg.specs.declared.packet.Packet.{Packet}
use Rattle.world_base.specs.Cluster.{place_of}
use Rattle.world_base.specs.declared.cluster.Cluster.{Cluster}
use Rattle.world_base.specs.declared.event.Event.{Event}
use Rattle.world_base.specs.Events.{node_of, what_of}
use Rattle.world_base.specs.Runs.{MayHappen}
use Rattle.run_laws.proofs.world_law.Gets.{cleaner_gets, client_gets, manager_gets}
use Rattle.run_laws.proofs.world_law.Places.{Behind, behind}
use Rattle.run_laws.specs.world_law.Standing as tokens
use Rattle.run_laws.specs.world_law.Standing.{Fact, epoch_now, members}
use Rattle.run_laws.proofs.world_law.Turns.{one_node}
use Rattle.run_laws.specs.world_law.Owes.{ManagerTold}
use Rattle.run_laws.proofs.world_law.Owes.{ClientTold, TurnOwes}
use Rattle.headline.specs.Moments.{moment, node_in}
use Rattle.run_laws.proofs.world_reads.AfterFalls.{all_aside, client_aside}
use Rattle.run_laws.proofs.world_reads.Taking.{Took, took_it}
use Rattle.run_laws.proofs.world_reads.TurnBoth.{Both, delivered_to, sent_before}
use Rattle.run_laws.specs.world_reads.Joint.{k}
use Rattle.xfs_base.specs.declared.node.NodeId.{NodeId}
use Rattle.xfs_base.specs.declared.node.NodeId.TheVariants.{Client, Manager, Server, Cleaner, Registry}
use Rattle.xfs_base.specs.Limits.{slot_count}
use Rattle.run_laws.proofs.world_reads.Below.{Below}
use Rattle.run_laws.specs.world_reads.LoggedRuns.{LoggedRun}

client_number : (logs : Bool) (part c : ℕ) (n : Net) (p : Phase) → ClientAgrees logs part c n p → (lasting_of p).number ≡ c
client_number logs part c n (Down l) h = h.number
client_number logs part c n (Opening l o) h = h.number
client_number logs part c n (Serves s) h = h.number

module _ (laws : Below) (logged : LoggedRun) (part : ℕ) (of_eight : part < slot_count) (count : ℕ) (event : Event)
    (cluster : (moment logged.estate count).cluster ≡ k logged part) (may : MayHappen (moment logged.estate count) event) (b : Both logged part count) (c : ℕ)
    (down : b.tok.net.up c ≡ false) (away : Client c ≡ node_of event → ⊥) (node : AnyNode) (took : Took (moment logged.estate count) event node)
    (adopted : Bool) (owed : TurnOwes true adopted (members (k logged part) part) part (epoch_now (k logged part) part b.tok) b.tok.net
    (node_of event) node (what_of event)) where
  open logged use {estate as e}

  abbrev cl : Cluster
  cl = k logged part

  abbrev s : tokens.Scene
  s = b.tok

  abbrev what : Do
  what = what_of event

  abbrev IsQuiet : AnyNode → Type 0
  IsQuiet x = AllByRecursion (IsAside c) (any_step x what).acts

  abbrev Owed : NodeId → AnyNode → Type 0
  Owed name x = TurnOwes true adopted (members cl part) part (epoch_now cl part s) s.net name x what

  fact : (q : Packet) → what ≡ Deliver q → Fact cl part s q × (q.to ≡ node_of event)
  fact q premise = (b.tokens_stand.facts q (sent_before (moment e count) event may q premise), delivered_to event q premise)

  module _ (name : NodeId) (own : node_of event ≡ name) where
    at : place_of cl name ≡ Some took.place
    at = subst (λ n. place_of cl n ≡ Some took.place) own (subst (λ x. place_of x (node_of event) ≡ Some took.place) cluster took.placed)

    here : node_in (moment e count).nodes (place_of cl name) ≡ Some node
    here = subst (λ n. node_in (moment e count).nodes (place_of cl n) ≡ Some node) own (took_it cl (moment e count) cluster event node took)

    -- it is the node that stands there
    of_node : (x : AnyNode) → node_in (moment e count).nodes (place_of cl name) ≡ Some x → (Owed name x → IsQuiet x) → IsQuiet node
    of_node x premise quiet =
        let same : x ≡ node = one_node x node (sym premise ∙ here) in
        subst IsQuiet same (quiet (subst (Owed name) (sym same) (subst (λ n. Owed n node) own owed)))

  -- ---- a client

  client_quiet : (d : ℕ) → node_of event ≡ Client d → IsQuiet node
  client_quiet d own = of_node (Client d) own (any.Client (s.client d)) (b.tokens_stand.placed.clients d i.some less) quiet
    where
      i : Behind 0 cl.clients d took.place
      i = behind 0 cl.clients d took.place (at (Client d) own)

      less : d < members cl part
      less = (let limit = i.within in omega arith)

      agreed : ClientAgrees true part d s.net (s.client d).phase × ClientStands part (epoch_now cl part s) d s.net (s.client d).phase
      agreed = b.tokens_stand.clients d i.some less

      gets : (y : Do) → what ≡ y → ClientTold part (epoch_now cl part s) s.net d (s.client d).phase y
          → ClientOwed true part (epoch_now cl part s) d s.net (s.client d).phase y
      gets Begin same told = tt
      gets Tick same told = told
      gets (Deliver q) same told = (let f = fact q same in client_gets cl part s true d q f.0 (f.1 ∙ own) told)

      goes : Owed (Client d) (any.Client (s.client d))
          → ClientGoes true (members cl part) part (epoch_now cl part s) d s.net (s.client d).phase (takes (s.client d) what).state
          (takes (s.client d) what).outs
      goes told = laws.tokens.nodes.client true (members cl part) part (epoch_now cl part s) d of_eight i.some less s.net (s.client d) what agreed.0 agreed.1
          (λ taken. gets what refl (told taken))

      other : d ≡ c → ⊥
      other same = away (ap Client (sym same) ∙ sym own)

      quiet : Owed (Client d) (any.Client (s.client d)) → IsQuiet (any.Client (s.client d))
      quiet told =
          subst (λ number. AllByRecursion (IsAside c) (acts_of (Client number) (takes (s.client d) what).outs))
          (sym (client_number true part d s.net (s.client d).phase agreed.0))
          (client_aside c true (members cl part) part (epoch_now cl part s) d s.net (s.client d).phase (takes (s.client d) what).state
          (takes (s.client d) what).outs (goes told) other down)

  -- ---- a manager

  manager_quiet : (j : ℕ) → node_of event ≡ Manager j → IsQuiet node
  manager_quiet j own = of_node (Manager j) own (any.Manager (s.manager j)) (b.tokens_stand.placed.managers j i.some i.within) quiet
    where
      i : Behind cl.clients cl.managers j took.place
      i = behind cl.clients cl.managers j took.place (at (Manager j) own)

      sees : tokens.ManagerSees cl part s j (s.manager j).phase
      sees = b.tokens_stand.managers j i.some i.within

      gets : (y : Do) → what ≡ y → ManagerTold (members cl part) part s.net (s.manager j).phase y
          → ManagerEventGets true part (epoch_now cl part s) j s.net (members cl part) (s.manager j).phase y
      gets Begin same told = tt
      gets Tick same told = tt
      gets (Deliver q) same told =
          (let f = fact q same in manager_gets cl part s b.tokens_stand.entered j true (s.manager j).phase refl sees q f.0 (f.1 ∙ own) told)

      quiet : Owed (Manager j) (any.Manager (s.manager j)) → IsQuiet (any.Manager (s.manager j))
      quiet told =
          let go = laws.tokens.nodes.manager true (members cl part) part (epoch_now cl part s) j s.net (s.manager j) what of_eight
          (sym (b.tokens_stand.peers j i.some i.within)) sees.agrees sees.within (gets what refl told) in
          let after = happens (s.manager j) what in
          let name = Manager (managers.lasting_of (s.manager j).phase).number in
          all_aside c (acts_of name after.outs)
          (recursion_from_All IsNeutral (acts_of name after.outs)
          (all_neutral (ManagerDoes part go.next.sent (epoch_now cl part s) (managers.lasting_of after.state).inc) name (λ a premise. premise) after.outs
          (recursion_from_All (ManagerDoes part go.next.sent (epoch_now cl part s) (managers.lasting_of after.state).inc) after.outs go.does)))

  -- ---- the others

  server_quiet : (v : ℕ) → node_of event ≡ Server v → IsQuiet node
  server_quiet v own = of_node (Server v) own (any.Server there.0) there.1
      (λ told. all_aside c (server_step there.0 what).acts
      (recursion_from_All IsNeutral (server_step there.0 what).acts (laws.tokens.nodes.server there.0 what).1))
    where
      i : Behind (cl.clients + cl.managers) cl.servers v took.place
      i = behind (cl.clients + cl.managers) cl.servers v took.place (at (Server v) own)

      there : (server : ServerNode) × (node_in (moment e count).nodes (place_of cl (Server v)) ≡ Some (any.Server server))
      there = b.tokens_stand.placed.servers v i.some i.within

  cleaner_quiet : node_of event ≡ Cleaner → IsQuiet node
  cleaner_quiet own = of_node Cleaner own (any.Cleaner s.cleaner) b.tokens_stand.placed.cleaner quiet
    where
      went : cleaners.Went_to
      went = cleaners.takes s.cleaner.peers s.cleaner.phase what

      gets : (y : Do) → what ≡ y → CleanerOwed part s.net.promised (epoch_now cl part s) s.cleaner.phase y
      gets Begin same = tt
      gets Tick same = tt
      gets (Deliver q) same = (let f = fact q same in cleaner_gets cl part s q f.0 (f.1 ∙ own))

      quiet : Owed Cleaner (any.Cleaner s.cleaner) → IsQuiet (any.Cleaner s.cleaner)
      quiet told =
          let go = laws.tokens.nodes.cleaner true (members cl part) part s.net.promised (epoch_now cl part s) s.net of_eight b.tokens_stand.cleaner.0
          b.tokens_stand.few adopted s.cleaner what b.tokens_stand.cleaner.1 (gets what refl) b.tokens_stand.copies told in
          all_aside c (acts_of Cleaner went.outs)
          (recursion_from_All IsNeutral (acts_of Cleaner went.outs)
          (all_neutral (CleanerDoes part go.0.next (cleaners.lasting_of went.state).inc) Cleaner (λ a premise. premise) went.outs
          (recursion_from_All (CleanerDoes part go.0.next (cleaners.lasting_of went.state).inc) went.outs go.0.does)))

  registry_quiet : node_of event ≡ Registry → IsQuiet node
  registry_quiet own = of_node Registry own (any.Registry s.registry) b.tokens_stand.placed.registry
      (λ told. all_aside c (registry_step s.registry what).acts
      (recursion_from_All IsNeutral (registry_step s.registry what).acts (laws.tokens.nodes.registry part of_eight s.registry b.tokens_stand.sound what).acts))

  -- so it is in each event of another node
  pub others_quiet : AllByRecursion (IsAside c) (any_step node what).acts
  others_quiet = by (node_of event) refl
    where
      by : (name : NodeId) → node_of event ≡ name → IsQuiet node
      by (Client d) own = client_quiet d own
      by (Manager j) own = manager_quiet j own
      by (Server v) own = server_quiet v own
      by Cleaner own = cleaner_quiet own
      by Registry own = registry_quiet own
