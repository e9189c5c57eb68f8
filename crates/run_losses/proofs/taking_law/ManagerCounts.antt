-- At each count of every run: what is known of the slots that a manager takes over, that it has asked servers for fragments by numbers that it drew, and that
-- its numbers don't fall.
use Rattle.std.proofs.Common.{◌≡◌, ⊎_elim, ℕ, suc, ◌≤◌, List, ◌++◌, Option, Some, None, map, slice_get, refl, sym, ap, subst, ◌∙◌, arith}
use Rattle.core_world.specs.AnyNode.{any_start, any_step}
use Rattle.core_world.specs.declared.any_node.AnyNode.{AnyNode}
use Rattle.core_world.specs.declared.any_node.AnyNode.TheVariants as any
use Rattle.group_map.specs.declared.group.Group.{Group}
use Rattle.group_map.specs.Groups as groups
use Rattle.log_law.specs.Net.{opening}
use Rattle.log_law.specs.Net.Packet.{MapSent}
use Rattle.log_owner.specs.Sending.{server_in}
use Rattle.log_tie.specs.Setting.{Setting, stripe_of_group}
use Rattle.loss_law.proofs.Events.{first_base}
use Rattle.loss_law.proofs.Growing.{Base}
use Rattle.loss_law.proofs.Interval.{passed}
use Rattle.node_logs.specs.manager_log_tie.Owner.{ManagerAgrees}
use Rattle.manager_node.specs.declared.manager.Manager.{Manager}
use Rattle.manager_node.specs.declared.phase.Phase.{Phase}
use Rattle.manager_node.specs.declared.phase.Phase.TheVariants as managing
use Rattle.manager_node.specs.Events.{happens}
use Rattle.manager_node.specs.Phases.{lasting_of}
use Rattle.node_base.specs.Effects.{acts_of}
use Rattle.node_logs.proofs.node_log_tie.Others.{same_or_other}
use Rattle.node_logs.specs.node_log_tie.Sight.{BodySeen}
use Rattle.node_slots.proofs.node_tie.StoreFrames.{packets_do}
use Rattle.registry_node.specs.Events.{registry_start}
use Rattle.stripe_code.specs.declared.round.Told.{Told}
use Rattle.stripe_code.specs.declared.round.Told.TheVariants as told
use Rattle.token_protocol.specs.Basics.{In}
use Rattle.version_model.specs.declared.act.Act.{Act}
use Rattle.wire_msg.specs.declared.body.Body.{Body}
use Rattle.wire_msg.specs.declared.body.Body.TheVariants as body
use Rattle.wire_msg.specs.declared.packet.Do.{Do}
use Rattle.wire_msg.specs.declared.packet.Do.TheVariants as done
use Rattle.wire_msg.specs.declared.packet.Packet.{Packet}
use Rattle.wire_msg.specs.declared.storage.Fetch.{Fetch}
use Rattle.wire_msg.specs.declared.storage.Found.{Found}
use Rattle.wire_msg.specs.declared.storage.Missing.{Missing}
use Rattle.world_base.specs.Cluster.{cluster_of, place_of}
use Rattle.world_base.specs.declared.cluster.Cluster.{Cluster}
use Rattle.world_base.specs.declared.estate.Estate.{Estate}
use Rattle.world_base.specs.declared.event.Event.{Event}
use Rattle.world_base.specs.Events.{node_of, what_of}
use Rattle.world_base.specs.Items.{items_of}
use Rattle.world_base.specs.NextWorld.{sent_at}
use Rattle.world_base.specs.Runs.{IsRun}
use Rattle.run_laws.proofs.world_law.Sent.{at_clock, in_append}
use Rattle.headline.specs.Moments.{moment, node_in, node_named}
use Rattle.run_laws.specs.world_logs.Lines.{HasLines, setting}
use Rattle.run_laws.specs.world_logs.Roles.{asker_by}
use Rattle.headline.specs.Logs.{IsThere}
use Rattle.headline.specs.Logs.Role.{OfCleaner, OfManager}
use Rattle.run_laws.specs.world_logs.Settings.{stripe_by}
use Rattle.headline.specs.Servers.{group_at}
use Rattle.run_laws.specs.world_logs.Standing.{ManagerThere}
use Rattle.xfs_base.specs.declared.node.NodeId.{NodeId}
use Rattle.xfs_base.specs.declared.node.NodeId.TheVariants as names
use Rattle.run_losses.proofs.torn_law.Turns.{brought}
use Rattle.run_losses.specs.missing_law.Missed.{FetchesDrawn, last_at, last_in}
use Rattle.run_losses.proofs.taking_law.ManagerTurns.{DoBrought, EffectDone, NodeTurn, PhaseFine, SaidSo, manager_begins, manager_turns}
use Rattle.run_losses.proofs.taking_law.ServingTurns.{AnswerBrought, BodyBrought}
use Rattle.run_losses.proofs.taking_law.TakeTurns.{MapNamed}
use Rattle.run_losses.proofs.torn_law.Course as course
use Rattle.run_losses.proofs.torn_law.Course.{each_good, first_here, none_sent, registry_first, stands_by}
use Rattle.run_losses.proofs.torn_law.Counts.{TurnAt, became, cluster_at, may_happen, moment_ended}

-- ---- what came

-- by this moment a server has told the manager that it misses what was asked under a number, in a generation
pub record MissingCame (e : Estate AnyNode) (j count ask server generation : ℕ) : Type 0 where
  pub packet : Packet
  pub missing : Missing
  pub among : In packet (moment e count).sent
  pub from : packet.from ≡ names.Server server
  pub to : packet.to ≡ names.Manager j
  pub tells : packet.body ≡ body.Missing missing
  pub asked : missing.ask ≡ ask
  pub in_generation : missing.generation ≡ generation

abbrev pub CameBy : Estate AnyNode → (j count : ℕ) → ℕ → ℕ → Told → Type 0
CameBy e j count ask server t = (generation : ℕ) → t ≡ told.Missing generation → MissingCame e j count ask server generation

-- the registry's groups at the end of the run have this stripe
abbrev pub IsNamed : Estate AnyNode → ℕ → Group → Type 0
IsNamed e id group = stripe_by (group_at e.world id) ≡ stripe_of_group group

-- what is known of the node of a name, where it is a manager
abbrev pub NodeFine : Estate AnyNode → Option AnyNode → Type 0
NodeFine e None = Unit {0}
NodeFine e (Some (any.Client node)) = Unit {0}
NodeFine e (Some (any.Manager node)) = PhaseFine (IsNamed e) node.phase
NodeFine e (Some (any.Server node)) = Unit {0}
NodeFine e (Some (any.Cleaner node)) = Unit {0}
NodeFine e (Some (any.Registry node)) = Unit {0}

same_server : (v server : ℕ) → Some v ≡ Some server → v ≡ server
same_server v server fact = cc

-- a packet from a server
from_server : (from : NodeId) (server : ℕ) → server_in from ≡ Some server → from ≡ names.Server server
from_server (names.Client c) server fact = absurd cc
from_server (names.Manager k) server fact = absurd cc
from_server (names.Server v) server fact = ap names.Server (same_server v server fact)
from_server names.Cleaner server fact = absurd cc
from_server names.Registry server fact = absurd cc

module _ (base : Setting) (e : Estate AnyNode) (run : IsRun any_step any_start e.script e.events e.world) (lines : HasLines base e) (j : ℕ)
    (is_there : IsThere e.script.setup.clients e.script.setup.managers (OfManager j)) where
  abbrev k_of : Cluster
  k_of = cluster_of e.script.setup

  abbrev Here : ℕ → Option AnyNode
  Here count = node_in (moment e count).nodes (place_of k_of (names.Manager j))

  abbrev Sent : ℕ → List Packet
  Sent count = (moment e count).sent

  pub named_is : (count : ℕ) (name : NodeId) → node_named (moment e count) name ≡ node_in (moment e count).nodes (place_of k_of name)
  named_is count name = ap (λ k. node_in (moment e count).nodes (place_of k name)) (cluster_at e count)

  -- ---- what a packet brings

  base_at : (count : ℕ) → Base (setting base e OfCleaner) ((lines OfCleaner tt).scene count).net
  base_at count =
      let m = ((lines OfCleaner tt).stands count).moment in
      (passed (setting base e OfCleaner) (opening (setting base e OfCleaner) m.map) ((lines OfCleaner tt).scene count).net
      (first_base (setting base e OfCleaner) m.map) m.run).base

  module _ (count : ℕ) (packet : Packet) (among : In packet (Sent count)) (to : packet.to ≡ names.Manager j) where
    seen : BodySeen (setting base e OfCleaner) (asker_by OfCleaner ((lines OfCleaner tt).scene count)) ((lines OfCleaner tt).scene count).net
        packet.from packet.to packet.body
    seen = ((lines OfCleaner tt).stands count).facts packet among

    found_came : (ask : ℕ) (t : Told) (server : Option ℕ) → ((generation : ℕ) → t ≡ told.Missing generation → ⊥)
        → AnswerBrought (IsNamed e) (CameBy e j count) server ask t
    found_came ask t None never = tt
    found_came ask t (Some v) never = λ generation fact. absurd (never generation fact)

    missing_came : (m : Missing) → packet.body ≡ body.Missing m → (server : Option ℕ) → server_in packet.from ≡ server
        → AnswerBrought (IsNamed e) (CameBy e j count) server m.ask (told.Missing m.generation)
    missing_came m fact None at = tt
    missing_came m fact (Some v) at = λ generation same. record {
      packet = packet;
      missing = m;
      among = among;
      from = from_server packet.from v at;
      to = to;
      tells = fact;
      asked = refl;
      in_generation = same_generation m.generation generation same;
    }
      where
        same_generation : (a b : ℕ) → told.Missing a ≡ told.Missing b → a ≡ b
        same_generation a b e = cc

    brings : (said : Body) → packet.body ≡ said
        → BodySeen (setting base e OfCleaner) (asker_by OfCleaner ((lines OfCleaner tt).scene count)) ((lines OfCleaner tt).scene count).net packet.from
        packet.to said
        → BodyBrought (IsNamed e) (CameBy e j count) packet.from said
    brings (body.Fragment m) fact of = found_came m.ask (told.Held m.fragment) (server_in packet.from) (λ generation same. held_not m generation same)
      where
        held_not : (m : Found) (generation : ℕ) → told.Held m.fragment ≡ told.Missing generation → ⊥
        held_not m generation same = cc
    brings (body.Missing m) fact of = missing_came m fact (server_in packet.from) refl
    brings (body.MapNews m) fact of = (base_at count).packets (MapSent m.groups) of
    brings (body.Welcome m) fact of = (base_at count).packets (MapSent m.news.groups) of.map
    brings _ fact of = tt

  -- what an event of the manager brings it
  pub do_brought : (count : ℕ) (event : Event) → slice_get e.events count ≡ Some event → names.Manager j ≡ node_of event
      → DoBrought (IsNamed e) (CameBy e j count) (what_of event)
  do_brought count event fact same = by (what_of event) refl
    where
      by : (what : Do) → what_of event ≡ what → DoBrought (IsNamed e) (CameBy e j count) what
      by done.Begin at = tt
      by done.Tick at = tt
      by (done.Deliver packet) at =
          let b = brought (moment e count) event (may_happen e run count event fact) packet at in
          let to : packet.to ≡ names.Manager j = b.1 ∙ sym same in
          brings count packet b.0 to packet.body refl (seen count packet b.0 to)

  -- ---- the manager itself

  -- a node of its name is a manager of its number
  pub record IsManager (x : AnyNode) : Type 0 where
    pub node : Manager
    pub kind : x ≡ any.Manager node
    pub number : (lasting_of node.phase).number ≡ j

  pub is_manager : (count : ℕ) (x : AnyNode) → Here count ≡ Some x → IsManager x
  is_manager count x at = by x (((lines (OfManager j) is_there).stands count).seen (names.Manager j) x at)
    where
      number : (p : Phase) → ManagerAgrees (setting base e (OfManager j)) j ((lines (OfManager j) is_there).scene count) p → (lasting_of p).number ≡ j
      number (managing.Down kept) agrees = agrees.lasts.number
      number (managing.Waiting kept hello) agrees = agrees.lasts.number
      number (managing.Serving s) agrees = agrees.lasts.number

      by : (z : AnyNode) → ManagerThere (setting base e (OfManager j)) (OfManager j) ((lines (OfManager j) is_there).scene count) j z → IsManager z
      by (any.Client node) h = absurd h
      by (any.Manager node) h = record { node = node; kind = refl; number = number node.phase (h refl) }
      by (any.Server node) h = absurd h
      by (any.Cleaner node) h = absurd h
      by (any.Registry node) h = absurd h

  -- ---- at each count

  pub record Good (count : ℕ) : Type 0 where
    pub fine : NodeFine e (Here count)
    pub fetches : (p : Packet) (m : Fetch) → In p (Sent count) → p.from ≡ names.Manager j → p.body ≡ body.Fetch m → m.ask ≤ last_in (Here count)

  -- nothing happens to it
  aside : (count : ℕ) (new : List Packet) → Sent (suc count) ≡ Sent count ++ new → Here (suc count) ≡ Here count
      → ((p : Packet) → In p new → p.from ≡ names.Manager j → ⊥) → Good count → Good (suc count)
  aside count new sent same others good = record {
    fine = subst (NodeFine e) (sym same) good.fine;
    fetches = λ p m among from asks.
        ⊎_elim (λ old. subst (λ o. m.ask ≤ last_in o) (sym same) (good.fetches p m old from asks)) (λ late. absurd (others p late from))
        (in_append (Sent count) new p (subst (In p) sent among));
  }

  -- what its turn makes of it
  pub record Turned (count : ℕ) (event : Event) (new : List Packet) (done_ : List Act) : Type 0 where
    pub node : Manager
    pub acts : done_ ≡ acts_of (names.Manager (lasting_of node.phase).number) (happens node (what_of event)).outs
    pub was : Here count ≡ Some (any.Manager node)
    pub now : Here (suc count) ≡ Some (any.Manager (record node { phase = (happens node (what_of event)).state }))
    pub turns : NodeTurn (IsNamed e) (CameBy e j count) node.phase (happens node (what_of event))
    pub sent : Sent (suc count) ≡ Sent count ++ new
    pub says : (p : Packet) → In p new
        → SaidSo (IsNamed e) (CameBy e j count) (lasting_of (happens node (what_of event)).state).questions.last (happens node (what_of event)).state p.body

  module _ (count : ℕ) (good : Good count) (event : Event) (fact : slice_get e.events count ≡ Some event)
      (t : TurnAt (moment e count) event (moment e (suc count)).nodes (moment e (suc count)).sent (moment e (suc count)).acts) where
    abbrev new : List Packet
    new = map (sent_at t.clock) (any_step t.node (what_of event)).packets

    pub turned : names.Manager j ≡ node_of event → Turned count event (map (sent_at t.clock) (any_step t.node (what_of event)).packets)
        (any_step t.node (what_of event)).acts
    turned same = by t.node was (is_manager count t.node was) now t.sent_are
      where
        was : Here count ≡ Some t.node
        was = course.was e (names.Manager j) count event t same

        now : Here (suc count) ≡ Some (any_step t.node (what_of event)).node
        now = course.now e (names.Manager j) count event t same

        of_manager : (node : Manager) → Here count ≡ Some (any.Manager node) → Here (suc count) ≡ Some (any_step (any.Manager node) (what_of event)).node
            → Sent (suc count) ≡ Sent count ++ map (sent_at t.clock) (any_step (any.Manager node) (what_of event)).packets
            → Turned count event (map (sent_at t.clock) (any_step (any.Manager node) (what_of event)).packets)
            (any_step (any.Manager node) (what_of event)).acts
        of_manager node was now sent =
            let turn : NodeTurn (IsNamed e) (CameBy e j count) node.phase (happens node (what_of event)) =
            manager_turns (IsNamed e) (CameBy e j count) node (what_of event) (subst (NodeFine e) was good.fine) (do_brought count event fact same) in
            let after : Phase = (happens node (what_of event)).state in
            let last : ℕ = (lasting_of after).questions.last in
            record {
              node = node;
              acts = refl;
              was = was;
              now = now;
              turns = turn;
              sent = sent;
              says = at_clock t.clock (λ (p : Packet). SaidSo (IsNamed e) (CameBy e j count) last after p.body)
                  (λ (p : Packet). SaidSo (IsNamed e) (CameBy e j count) last after p.body) (λ q h. h) (any_step (any.Manager node) (what_of event)).packets
                  (packets_do (λ (p : Packet). SaidSo (IsNamed e) (CameBy e j count) last after p.body)
                  (EffectDone (IsNamed e) (CameBy e j count) node.phase last after) (names.Manager (lasting_of node.phase).number) (λ to said so. so)
                  (happens node (what_of event)).outs turn.does);
            }

        by : (x : AnyNode) → Here count ≡ Some x → IsManager x → Here (suc count) ≡ Some (any_step x (what_of event)).node
            → Sent (suc count) ≡ Sent count ++ map (sent_at t.clock) (any_step x (what_of event)).packets
            → Turned count event (map (sent_at t.clock) (any_step x (what_of event)).packets) (any_step x (what_of event)).acts
        by x was m =
            subst (λ z. Here (suc count) ≡ Some (any_step z (what_of event)).node
            → Sent (suc count) ≡ Sent count ++ map (sent_at t.clock) (any_step z (what_of event)).packets
            → Turned count event (map (sent_at t.clock) (any_step z (what_of event)).packets) (any_step z (what_of event)).acts) (sym m.kind)
            (of_manager m.node (was ∙ ap Some m.kind))

    own_turn : names.Manager j ≡ node_of event → Good (suc count)
    own_turn same =
        let u = turned same in
        let last : ℕ = (lasting_of (happens u.node (what_of event)).state).questions.last in
        record {
          fine = subst (NodeFine e) (sym u.now) u.turns.fine;
          fetches = λ p m among from asks. subst (λ o. m.ask ≤ last_in o) (sym u.now)
              (⊎_elim (λ old. let a = subst (λ o. m.ask ≤ last_in o) u.was (good.fetches p m old from asks) in let b = u.turns.up in omega arith)
              (λ late. (subst (SaidSo (IsNamed e) (CameBy e j count) last (happens u.node (what_of event)).state) asks (u.says p late)).upto)
              (in_append (Sent count) (map (sent_at t.clock) (any_step t.node (what_of event)).packets) p (subst (In p) u.sent among)));
        }

  -- ---- the start

  -- the registry's groups, which each manager knows then
  first_named : MapNamed (IsNamed e) (groups.group_map_start e.script.setup.servers e.script.setup.groups)
  first_named =
      (((lines OfCleaner tt).stands 0).seen names.Registry
      (any.Registry (registry_start e.script.setup (items_of e.script.lines names.Registry)))
      (registry_first e)).named

  first_fine : NodeFine e (Here 0)
  first_fine =
      first_here e (names.Manager j) (NodeFine e) tt
      (manager_begins (IsNamed e) j e.script.setup (items_of e.script.lines (names.Manager j)) first_named)

  pub all_good : (count : ℕ) → Good count
  all_good =
      each_good e (names.Manager j) base lines Good (λ count good new sent same others. aside count new sent same others good)
      (λ count good event fact t own. own_turn count good event fact t own)
      (record { fine = first_fine; fetches = λ p m among. absurd (subst (In p) (none_sent e (names.Manager j)) among) })

  -- ---- its numbers

  last_is : (count : ℕ) → last_at e (names.Manager j) count ≡ last_in (Here count)
  last_is count = ap last_in (named_is count (names.Manager j))

  pub fetches_drawn : (count : ℕ) → FetchesDrawn e (names.Manager j) count
  fetches_drawn count p m among from asks = subst (λ n. m.ask ≤ n) (sym (last_is count)) ((all_good count).fetches p m among from asks)

  here_rises : (count : ℕ) → last_in (Here count) ≤ last_in (Here (suc count))
  here_rises count = by (slice_get e.events count) refl
    where
      same : Here (suc count) ≡ Here count → last_in (Here count) ≤ last_in (Here (suc count))
      same at = let a = ap last_in at in omega arith

      turn : (event : Event) → slice_get e.events count ≡ Some event
          → (t : TurnAt (moment e count) event (moment e (suc count)).nodes (moment e (suc count)).sent (moment e (suc count)).acts)
          → last_in (Here count) ≤ last_in (Here (suc count))
      turn event fact t =
          ⊎_elim
          (λ own. let u = turned count (all_good count) event fact t own in
          let a = ap last_in u.was in let b = ap last_in u.now in let c = u.turns.up in omega arith)
          (λ differs. same (stands_by e (names.Manager j) count event t differs))
          (same_or_other (names.Manager j) (node_of event))

      by : (o : Option Event) → slice_get e.events count ≡ o → last_in (Here count) ≤ last_in (Here (suc count))
      by None fact = same (ap (λ v. node_in v.nodes (place_of k_of (names.Manager j))) (moment_ended e count fact))
      by (Some event) fact =
          ⊎_elim (λ still. same (ap (λ ns. node_in ns (place_of k_of (names.Manager j))) still.nodes_are)) (turn event fact) (became e count event fact)

  pub numbers_rise : (count : ℕ) → last_at e (names.Manager j) count ≤ last_at e (names.Manager j) (suc count)
  numbers_rise count = let a = last_is count in let b = last_is (suc count) in let c = here_rises count in omega arith
