-- What any node tells of the log of a client or of the cleaner is no further than what that owner told to be filed: each turn of a node keeps it so.
use Rattle.std.proofs.Common.{◌≡◌, ⊎_elim, ℕ, ◌+◌, ◌==◌, ◌≤◌, ◌<◌, Bool, true, false, List, [], ◌∷◌, ◌++◌, Some, map, slice_get, slice_set, if◌then◌else◌, inl, inr, refl, sym, ap, subst, ◌∙◌, arith}
use Rattle.std.specs.List.{AllByRecursion}
use Rattle.cleaner_node.specs.CleanerEvents as cleaners
use Rattle.cleaner_node.specs.CleanerEvents.{cleaner_step}
use Rattle.cleaner_node.specs.declared.cleaner.Cleaner.{Cleaner as CleanerNode}
use Rattle.cleaner_job.specs.Starting.{cleaner_log}
use Rattle.client_node.specs.declared.client.Client.{Client as ClientNode}
use Rattle.client_node.specs.Phases.{client_step, lasting_of, takes}
use Rattle.core_world.specs.AnyNode.{any_step}
use Rattle.core_world.specs.declared.any_node.AnyNode.{AnyNode}
use Rattle.core_world.specs.declared.any_node.AnyNode.TheVariants as any
use Rattle.run_laws.proofs.filed_law.Telling as telling
use Rattle.run_laws.specs.filed_law.Told.{AnyReaches}
use Rattle.node_tellings.proofs.filed_tie.Rising.{do_rises}
use Rattle.node_tellings.specs.filed_tie.Reach.{ActsReach, BodyTells, DoTells, PacketTells, Reach, Rises}
use Rattle.manager_node.specs.declared.manager.Manager.{Manager as ManagerNode}
use Rattle.manager_serving.specs.Serving.{fed_log}
use Rattle.node_base.specs.declared.effects.Effect.{Effect}
use Rattle.node_base.specs.declared.effects.Effect.TheVariants.{Send, Answer, Lose, Does}
use Rattle.node_base.specs.Effects.{packets_of}
use Rattle.node_slots.specs.node_tie.Sight.{ClientSends, CleanerSends}
use Rattle.registry_node.specs.declared.node.RegistryNode.{RegistryNode}
use Rattle.store_nodes.specs.declared.server.Server.{Server as ServerNode}
use Rattle.token_law.specs.Net.{Packet as Told_packet}
use Rattle.token_protocol.specs.Basics.{In}
use Rattle.version_model.specs.declared.act.Act.{Act}
use Rattle.wire_msg.specs.declared.body.Body.{Body}
use Rattle.wire_msg.specs.declared.body.Body.TheVariants as body
use Rattle.wire_msg.specs.declared.packet.Do.{Do}
use Rattle.wire_msg.specs.declared.packet.Packet.{Packet}
use Rattle.world_base.specs.Cluster.{place_of}
use Rattle.world_base.specs.declared.cluster.Cluster.{Cluster}
use Rattle.world_base.specs.NextWorld.{sent_at}
use Rattle.run_laws.proofs.world_law.ClientTurns.{number_is}
use Rattle.run_laws.proofs.world_law.Laws as tokens
use Rattle.run_laws.proofs.world_law.Nodes.{get_set_same}
use Rattle.run_laws.proofs.world_law.OtherTurns.{equal_or_not}
use Rattle.run_laws.proofs.world_law.Places.{behind}
use Rattle.run_laws.specs.world_law.Standing as standing
use Rattle.headline.specs.Moments.{node_in}
use Rattle.run_laws.proofs.world_logs.Lists.{in_after}
use Rattle.run_laws.proofs.world_logs.OwnFiling.{NoHorizon, body_lower, cleaner_lower, client_lower, narrow, own_acts, owned, owned_rises, wide, wide_acts, wide_rises}
use Rattle.headline.specs.Logs.{owns}
use Rattle.xfs_base.specs.declared.node.NodeId.{NodeId}
use Rattle.xfs_base.specs.declared.node.NodeId.TheVariants.{Client, Manager, Server, Cleaner, Registry}
use Rattle.xfs_base.proofs.Booleans.{equal_itself}
use Rattle.xfs_base.proofs.Alls.{all_append}

-- ---- packets

-- clients and the cleaner send no horizons
client_quiet : (part : ℕ) (sent : List Told_packet) (c life : ℕ) (to : NodeId) (m : Body) → ClientSends part sent c life to m → NoHorizon m
client_quiet part sent c life to (body.CkptDone m) h = h
client_quiet part sent c life to (body.MapNews m) h = h
client_quiet part sent c life to (body.Welcome m) h = h
client_quiet part sent c life to _ h = tt

cleaner_quiet : (part promised life : ℕ) (m : Body) → CleanerSends part promised life m → NoHorizon m
cleaner_quiet part promised life (body.CkptDone m) h = h
cleaner_quiet part promised life (body.MapNews m) h = h
cleaner_quiet part promised life (body.Welcome m) h = h
cleaner_quiet part promised life _ h = tt

sent_from : (node : NodeId) (outs : List Effect) → AllByRecursion (λ (p : Packet). p.from ≡ node) (packets_of node outs)
sent_from node [] = tt
sent_from node (Send to said ∷ outs) = (refl, sent_from node outs)
sent_from node (Answer item answer ∷ outs) = sent_from node outs
sent_from node (Lose seg ∷ outs) = sent_from node outs
sent_from node (Does act ∷ outs) = sent_from node outs

clocked : (reach : Reach) (clock : ℕ) (ps : List Packet) → AllByRecursion (PacketTells reach) ps → AllByRecursion (PacketTells reach) (map (sent_at clock) ps)
clocked reach clock [] all = tt
clocked reach clock (p ∷ ps) all = (all.0, clocked reach clock ps all.1)

module _ (high low : Reach) (log : ℕ) (less : high log ≤ low log) (node : NodeId) (fact : fed_log node ≡ Some (record { 0 = log })) (clock : ℕ) where
  lowered : (ps : List Packet) → AllByRecursion (λ (p : Packet). p.from ≡ node) ps → AllByRecursion (PacketTells high) ps
      → ((q : Packet) → In q (map (sent_at clock) ps) → q.from ≡ node → NoHorizon q.body) → AllByRecursion (PacketTells low) (map (sent_at clock) ps)
  lowered [] from all quiet = tt
  lowered (p ∷ ps) from all quiet = (
    subst (λ f. BodyTells low f p.body) (sym from.0)
        (body_lower high low log less node fact p.body (quiet (sent_at clock p) (inl refl) from.0) (subst (λ f. BodyTells high f p.body) from.0 all.0)),
    lowered ps from.1 all.1 (λ q h. quiet q (inr h)),
  )

pub no_acts : (t : Bool) (acts : List Act) → acts ≡ [] → (if t then acts else []) ≡ []
no_acts true acts none = none
no_acts false acts none = refl

module _ (laws : tokens.NodeLaws) (below : telling.NodeLaws) (k : Cluster) (c : ℕ) where
  abbrev pub Tokens : List AnyNode → List Packet → List Act → Type 0
  Tokens nodes sent acts = tokens.Good laws k 0 (omega arith) nodes sent acts

  -- nothing is held or told of the log beyond what its owner did itself, nor of others beyond what was filed
  abbrev pub Told : List Act → List Act → List AnyNode → List Packet → Type 0
  Told told acts nodes sent = AllByRecursion (AnyReaches (owned c told acts)) nodes × AllByRecursion (PacketTells (owned c told acts)) sent

  -- a client bears the number of its name
  numbered : (nodes : List AnyNode) (sent : List Packet) (acts : List Act) → Tokens nodes sent acts → (d place : ℕ) → place_of k (Client d) ≡ Some place
      → (node : ClientNode) → slice_get nodes place ≡ Some (any.Client node) → (lasting_of node.phase).number ≡ d
  numbered nodes sent acts tok d place at node fact =
      let b = behind 0 k.clients d place at in
      let less : d < k.clients + 1 = (let limit = b.within in omega arith) in
      let there : Some (any.Client (tok.0.client d)) ≡ Some (any.Client node) = sym (tok.1.placed.clients d b.some less) ∙ (ap (node_in nodes) at ∙ fact) in
      subst (λ (x : ClientNode). (lasting_of x.phase).number ≡ d) (same_client (tok.0.client d) node there)
      (number_is 0 d tok.0.net (tok.0.client d).phase (tok.1.clients d b.some less).0)
    where
      same_client : (x y : ClientNode) → Some (any.Client x) ≡ Some (any.Client y) → x ≡ y
      same_client x y e = cc

  -- ---- a turn

  module _ (nodes : List AnyNode) (sent : List Packet) (acts told : List Act) (now : Told told acts nodes sent) (tok : Tokens nodes sent acts)
      (place clock : ℕ) (what : Do) (name : NodeId) (at : place_of k name ≡ Some place) (tells : DoTells (owned c told acts) what) where
    abbrev before : Reach
    before = owned c told acts

    abbrev pub told_after : AnyNode → List Act
    told_after x = told ++ (if owns c name then (any_step x what).acts else [])

    abbrev later : AnyNode → Reach
    later x = owned c (told_after x) (acts ++ (any_step x what).acts)

    abbrev further : AnyNode → Reach
    further x = wide c (told_after x) (acts ++ (any_step x what).acts)

    rises : (x : AnyNode) → Rises before (later x)
    rises x = owned_rises c told (if owns c name then (any_step x what).acts else []) acts (any_step x what).acts

    rises_wide : (x : AnyNode) → Rises before (further x)
    rises_wide x = wide_rises c told (if owns c name then (any_step x what).acts else []) acts (any_step x what).acts

    abbrev Goes : AnyNode → Type 0
    Goes x = AnyReaches (later x) (any_step x what).node × AllByRecursion (PacketTells (later x)) (map (sent_at clock) (any_step x what).packets)

    abbrev pub GoodAfter : AnyNode → Type 0
    GoodAfter x = Tokens (slice_set nodes place (any_step x what).node) (sent ++ map (sent_at clock) (any_step x what).packets) (acts ++ (any_step x what).acts)

    held : (x : AnyNode) → slice_get nodes place ≡ Some x → AnyReaches before x
    held x fact = telling.all_got (AnyReaches before) nodes place x now.0 fact

    heard : (x : AnyNode) → DoTells (later x) what
    heard x = do_rises before (later x) (rises x) what tells

    -- ---- one that tells nothing of a log of its own

    -- another node than the one of this name isn't there
    module _ (y : AnyNode) (fact : slice_get nodes place ≡ Some y) where
      none : (z : AnyNode) → (z ≡ y → ⊥) → node_in nodes (place_of k name) ≡ Some z → ⊥
      none z clash there = clash (tokens.one_node z y (sym there ∙ (ap (node_in nodes) at ∙ fact)))

      no_client_there : (d : ℕ) → name ≡ Client d → ((n : ClientNode) → any.Client n ≡ y → ⊥) → ⊥
      no_client_there d e clash =
          let b = behind 0 k.clients d place (subst (λ n. place_of k n ≡ Some place) e at) in
          let less : d < k.clients + 1 = (let limit = b.within in omega arith) in
          none (any.Client (tok.0.client d)) (clash (tok.0.client d))
          (subst (λ n. node_in nodes (place_of k n) ≡ Some (any.Client (tok.0.client d))) (sym e) (tok.1.placed.clients d b.some less))

      no_manager_there : (j : ℕ) → name ≡ Manager j → ((n : ManagerNode) → any.Manager n ≡ y → ⊥) → ⊥
      no_manager_there j e clash =
          let b = behind k.clients k.managers j place (subst (λ n. place_of k n ≡ Some place) e at) in
          none (any.Manager (tok.0.manager j)) (clash (tok.0.manager j))
          (subst (λ n. node_in nodes (place_of k n) ≡ Some (any.Manager (tok.0.manager j))) (sym e) (tok.1.placed.managers j b.some b.within))

      no_server_there : (v : ℕ) → name ≡ Server v → ((n : ServerNode) → any.Server n ≡ y → ⊥) → ⊥
      no_server_there v e clash =
          let b = behind (k.clients + k.managers) k.servers v place (subst (λ n. place_of k n ≡ Some place) e at) in
          let s = tok.1.placed.servers v b.some b.within in
          none (any.Server s.0) (clash s.0) (subst (λ n. node_in nodes (place_of k n) ≡ Some (any.Server s.0)) (sym e) s.1)

      no_cleaner_there : name ≡ Cleaner → ((n : CleanerNode) → any.Cleaner n ≡ y → ⊥) → ⊥
      no_cleaner_there e clash =
          none (any.Cleaner tok.0.cleaner) (clash tok.0.cleaner)
          (subst (λ n. node_in nodes (place_of k n) ≡ Some (any.Cleaner tok.0.cleaner)) (sym e) tok.1.placed.cleaner)

      no_registry_there : name ≡ Registry → ((n : RegistryNode) → any.Registry n ≡ y → ⊥) → ⊥
      no_registry_there e clash =
          none (any.Registry tok.0.registry) (clash tok.0.registry)
          (subst (λ n. node_in nodes (place_of k n) ≡ Some (any.Registry tok.0.registry)) (sym e) tok.1.placed.registry)

    manager_goes : (j : ℕ) → name ≡ Manager j → (x : AnyNode) → slice_get nodes place ≡ Some x → Goes x
    manager_goes j e (any.Manager node) fact =
        let x : AnyNode = any.Manager node in
        let t = below.managers_alone (later x) node what (below.manager.stays before (later x) node (rises x) (held x fact)) (heard x) in
        (t.node, clocked (later x) clock (any_step x what).packets t.packets)
    manager_goes j e (any.Client node) fact = absurd (no_manager_there (any.Client node) fact j e (λ n s. absurd cc))
    manager_goes j e (any.Server node) fact = absurd (no_manager_there (any.Server node) fact j e (λ n s. absurd cc))
    manager_goes j e (any.Cleaner node) fact = absurd (no_manager_there (any.Cleaner node) fact j e (λ n s. absurd cc))
    manager_goes j e (any.Registry node) fact = absurd (no_manager_there (any.Registry node) fact j e (λ n s. absurd cc))

    server_goes : (v : ℕ) → name ≡ Server v → (x : AnyNode) → slice_get nodes place ≡ Some x → Goes x
    server_goes v e (any.Server node) fact =
        let x : AnyNode = any.Server node in
        let t = below.servers_alone (later x) node what tt (heard x) in
        (t.node, clocked (later x) clock (any_step x what).packets t.packets)
    server_goes v e (any.Client node) fact = absurd (no_server_there (any.Client node) fact v e (λ n s. absurd cc))
    server_goes v e (any.Manager node) fact = absurd (no_server_there (any.Manager node) fact v e (λ n s. absurd cc))
    server_goes v e (any.Cleaner node) fact = absurd (no_server_there (any.Cleaner node) fact v e (λ n s. absurd cc))
    server_goes v e (any.Registry node) fact = absurd (no_server_there (any.Registry node) fact v e (λ n s. absurd cc))

    registry_goes : name ≡ Registry → (x : AnyNode) → slice_get nodes place ≡ Some x → Goes x
    registry_goes e (any.Registry node) fact =
        let x : AnyNode = any.Registry node in
        let t = below.registry_alone (later x) node what (below.registry.stays before (later x) node (rises x) (held x fact)) (heard x) in
        (t.node, clocked (later x) clock (any_step x what).packets t.packets)
    registry_goes e (any.Client node) fact = absurd (no_registry_there (any.Client node) fact e (λ n s. absurd cc))
    registry_goes e (any.Manager node) fact = absurd (no_registry_there (any.Manager node) fact e (λ n s. absurd cc))
    registry_goes e (any.Server node) fact = absurd (no_registry_there (any.Server node) fact e (λ n s. absurd cc))
    registry_goes e (any.Cleaner node) fact = absurd (no_registry_there (any.Cleaner node) fact e (λ n s. absurd cc))

    -- ---- the cleaner

    module _ (named : name ≡ Cleaner) (node : CleanerNode) (fact : slice_get nodes place ≡ Some (any.Cleaner node)) (good : GoodAfter (any.Cleaner node)) where
      cleaner_owns : cleaner_log.0 ≡ c → Goes (any.Cleaner node)
      cleaner_owns same =
          let mine : owns c name ≡ true = ap (λ n. owns c n) named ∙ (ap (λ n. n == c) same ∙ equal_itself c) in
          let those : List Act = (cleaner_step node what).acts in
          let did = subst (λ t. ActsReach (owned c (told ++ (if t then those else [])) (acts ++ those)) those) (sym mine) (own_acts c told acts those) in
          let t = below.cleaner.events before (later (any.Cleaner node)) node what (rises (any.Cleaner node)) (held (any.Cleaner node) fact) tells did in
          (t.node, clocked (later (any.Cleaner node)) clock (cleaner_step node what).packets t.packets)

      cleaner_other : (cleaner_log.0 ≡ c → ⊥) → Goes (any.Cleaner node)
      cleaner_other other =
          let x : AnyNode = any.Cleaner node in
          let t = below.cleaner.events before (further x) node what (rises_wide x) (held x fact) tells (wide_acts c (told_after x) acts (any_step x what).acts) in
          let less = narrow c (told_after x) (acts ++ (any_step x what).acts) cleaner_log.0 other in (
            cleaner_lower (further x) (later x) cleaner_log.0 less (cleaner_step node what).node.phase refl t.node,
            lowered (further x) (later x) cleaner_log.0 less Cleaner refl clock (any_step x what).packets
                (sent_from Cleaner (cleaners.takes node.peers node.phase what).outs) t.packets
                (λ q h from. cleaner_quiet 0 good.0.net.promised (standing.life_of_cleaner good.0) q.body
                (subst (λ f. standing.SentBy k 0 good.0 f q.to q.body) from
                (good.1.facts q (in_after sent (map (sent_at clock) (any_step x what).packets) q h)))),
          )

    cleaner_goes : name ≡ Cleaner → (x : AnyNode) → slice_get nodes place ≡ Some x → GoodAfter x → Goes x
    cleaner_goes e (any.Cleaner node) fact good = ⊎_elim (cleaner_owns e node fact good) (cleaner_other e node fact good) (equal_or_not cleaner_log.0 c)
    cleaner_goes e (any.Client node) fact good = absurd (no_cleaner_there (any.Client node) fact e (λ n s. absurd cc))
    cleaner_goes e (any.Manager node) fact good = absurd (no_cleaner_there (any.Manager node) fact e (λ n s. absurd cc))
    cleaner_goes e (any.Server node) fact good = absurd (no_cleaner_there (any.Server node) fact e (λ n s. absurd cc))
    cleaner_goes e (any.Registry node) fact good = absurd (no_cleaner_there (any.Registry node) fact e (λ n s. absurd cc))

    -- ---- a client

    module _ (d : ℕ) (named : name ≡ Client d) (node : ClientNode) (fact : slice_get nodes place ≡ Some (any.Client node))
        (good : GoodAfter (any.Client node)) where
      x : AnyNode
      x = any.Client node

      at_client : place_of k (Client d) ≡ Some place
      at_client = subst (λ n. place_of k n ≡ Some place) named at

      -- the log's owner
      owner_goes : d ≡ c → Goes (any.Client node)
      owner_goes same =
          let mine : owns c name ≡ true = ap (λ n. owns c n) named ∙ (ap (λ n. n == c) same ∙ equal_itself c) in
          let those : List Act = (client_step node what).acts in
          let did = subst (λ t. ActsReach (owned c (told ++ (if t then those else [])) (acts ++ those)) those) (sym mine) (own_acts c told acts those) in
          let t = below.client.events before (later (any.Client node)) node what (rises (any.Client node)) (held (any.Client node) fact) tells did in
          (t.node, clocked (later (any.Client node)) clock (client_step node what).packets t.packets)

      -- another
      other_goes : (d ≡ c → ⊥) → Goes (any.Client node)
      other_goes other =
          let high : Reach = further (any.Client node) in
          let low : Reach = later (any.Client node) in
          let those : List Act = (client_step node what).acts in
          let t = below.client.events before high node what (rises_wide (any.Client node)) (held (any.Client node) fact) tells
          (wide_acts c (told_after (any.Client node)) acts those) in
          let less = narrow c (told_after (any.Client node)) (acts ++ those) d other in
          let first : (lasting_of node.phase).number ≡ d = numbered nodes sent acts tok d place at_client node fact in
          let set = get_set_same nodes place (any.Client (client_step node what).node) (any.Client node) fact in
          let last : (lasting_of (client_step node what).node.phase).number ≡ d =
          numbered (slice_set nodes place (any.Client (client_step node what).node)) (sent ++ map (sent_at clock) (client_step node what).packets)
          (acts ++ those)
          good d place at_client (client_step node what).node set in
          let from : NodeId = Client (lasting_of node.phase).number in (
            client_lower high low d less (client_step node what).node.phase last t.node,
            lowered high low d less from (ap (λ n. fed_log (Client n)) first) clock (client_step node what).packets
                (sent_from from (takes node what).outs) t.packets
                (λ q h its. client_quiet 0 good.0.net.sent (lasting_of node.phase).number
                (standing.life_of_client good.0 (lasting_of node.phase).number) q.to q.body
                (subst (λ f. standing.SentBy k 0 good.0 f q.to q.body) its
                (good.1.facts q (in_after sent (map (sent_at clock) (client_step node what).packets) q h))).2),
          )

      client_goes : Goes (any.Client node)
      client_goes = ⊎_elim (λ same. owner_goes same) (λ other. other_goes other) (equal_or_not d c)

    by_client : (d : ℕ) → name ≡ Client d → (x : AnyNode) → slice_get nodes place ≡ Some x → GoodAfter x → Goes x
    by_client d e (any.Client node) fact good = client_goes d e node fact good
    by_client d e (any.Manager node) fact good = absurd (no_client_there (any.Manager node) fact d e (λ n s. absurd cc))
    by_client d e (any.Server node) fact good = absurd (no_client_there (any.Server node) fact d e (λ n s. absurd cc))
    by_client d e (any.Cleaner node) fact good = absurd (no_client_there (any.Cleaner node) fact d e (λ n s. absurd cc))
    by_client d e (any.Registry node) fact good = absurd (no_client_there (any.Registry node) fact d e (λ n s. absurd cc))

    goes : (x : AnyNode) → slice_get nodes place ≡ Some x → GoodAfter x → Goes x
    goes x fact good = by_name name refl
      where
        by_name : (n : NodeId) → name ≡ n → Goes x
        by_name (Client d) e = by_client d e x fact good
        by_name (Manager j) e = manager_goes j e x fact
        by_name (Server v) e = server_goes v e x fact
        by_name Cleaner e = cleaner_goes e x fact good
        by_name Registry e = registry_goes e x fact

    pub turn : (x : AnyNode) → slice_get nodes place ≡ Some x → GoodAfter x
        → Told (told_after x) (acts ++ (any_step x what).acts) (slice_set nodes place (any_step x what).node)
        (sent ++ map (sent_at clock) (any_step x what).packets)
    turn x fact good =
        let g = goes x fact good in (
          telling.all_set (AnyReaches (later x)) nodes place (any_step x what).node (telling.nodes_rise below before (later x) (rises x) nodes now.0) g.0,
          all_append (PacketTells (later x)) sent (map (sent_at clock) (any_step x what).packets)
              (telling.packets_rise below before (later x) (rises x) sent now.1) g.1,
        )
