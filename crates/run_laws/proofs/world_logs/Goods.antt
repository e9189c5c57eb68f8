-- How all logs stand at a moment of a run, and what is known of it besides.
use Rattle.std.proofs.Common.{◌≡◌, ⊎_elim, ◌^◌, ℕ, ◌≤◌, ◌<◌, Bool, true, false, List, ◌++◌, Some, map, get_or, refl, subst, arith}
use Rattle.std.specs.Prelude.{All}
use Rattle.node_logs.specs.client_log_tie.Owner.{Scene}
use Rattle.core_world.specs.declared.any_node.AnyNode.{AnyNode}
use Rattle.group_map.specs.declared.group.Group.{Group}
use Rattle.log_tie.specs.Setting.{Setting}
use Rattle.node_logs.specs.manager_log_tie.Listing.{CarriesOf, ComesOf}
use Rattle.node_base.specs.Setups.{IsSetup}
use Rattle.node_logs.specs.node_log_tie.RegistryEvents.{NamesGroups, low_of}
use Rattle.registry.specs.BoardState.{BoardState}
use Rattle.token_protocol.specs.Basics.{In}
use Rattle.version_model.specs.declared.act.Act.{Act}
use Rattle.wire_msg.specs.declared.packet.Do.{Do}
use Rattle.wire_msg.specs.declared.packet.Do.TheVariants.{Begin, Deliver, Tick}
use Rattle.wire_msg.specs.declared.packet.Packet.{Packet}
use Rattle.world_base.specs.Cluster.{cluster_of, place_of}
use Rattle.world_base.specs.declared.cluster.Cluster.{Cluster}
use Rattle.world_base.specs.declared.world.World.{World}
use Rattle.world_base.specs.NextWorld.{sent_at}
use Rattle.run_laws.proofs.world_law.Sent.{at_clock, in_append, in_get}
use Rattle.headline.specs.Moments.{node_in}
use Rattle.run_laws.proofs.world_logs.Fits.{AllHold, DoFits, PacketFits}
use Rattle.run_laws.proofs.world_logs.Leading.{stands_still}
use Rattle.run_laws.proofs.world_logs.Listing.{AllKeep, has_owner, its_owner}
use Rattle.run_laws.proofs.world_logs.Lists.{in_after, in_map}
use Rattle.run_laws.proofs.world_logs.Roles.{managers_log}
use Rattle.headline.specs.Logs.{IsThere, Role, log_by, renews}
use Rattle.headline.specs.Logs.Role.{OfManager}
use Rattle.run_laws.proofs.world_logs.Says.{MaySay}
use Rattle.run_laws.specs.world_logs.Settings.{setting_of}
use Rattle.run_laws.proofs.world_logs.Standing.{stands_so}
use Rattle.run_laws.specs.world_logs.Standing.{Stands}
use Rattle.run_laws.proofs.world_logs.Turns.{Next, next_so}
use Rattle.headline.specs.Horizons.{Reached, board_of}
use Rattle.run_laws.specs.world_logs.NodeLaws.{NodeLaws}
use Rattle.headline.specs.Servers.{group_at}
use Rattle.xfs_base.specs.declared.node.NodeId.{NodeId}
use Rattle.xfs_base.specs.declared.node.NodeId.TheVariants.{Registry}
use Rattle.xfs_base.specs.declared.segment.LogId.{LogId}
use Rattle.xfs_base.specs.declared.setup.Setup.{Setup}

module _ (laws : NodeLaws) (base : Setting) (end : World AnyNode) (setup : Setup) (ok : IsSetup setup)
    (few : (id : ℕ) (group : Group) → group_at end id ≡ Some group → id < 2 ^ 32) where
  abbrev pub k : Cluster
  k = cluster_of setup

  abbrev pub g : Role → Setting
  g r = setting_of base end setup.servers r

  abbrev pub There : Role → Type 0
  There r = IsThere setup.clients setup.managers r

  -- the logs of the run
  abbrev pub owned : LogId → Bool
  owned log = has_owner setup.clients setup.managers log

  -- ---- how all logs stand at a moment

  pub record Good (nodes : List AnyNode) (sent : List Packet) (told : ℕ → List Act) : Type 0 where
    pub fits : (q : Packet) → In q sent → PacketFits q.to q.body
    pub holds : AllHold nodes
    pub ours : (q : Packet) → In q sent → CarriesOf owned q.body
    pub keeps : AllKeep setup.clients setup.managers nodes
    pub logs : (r : Role) → There r → (v : Scene) × Stands (g r) r v k nodes sent (told (log_by r))

  -- what each owner did may be said otherwise
  abbrev pub good_so : (nodes : List AnyNode) (sent : List Packet) (a b : ℕ → List Act) → ((c : ℕ) → a c ≡ b c) → Good nodes sent a → Good nodes sent b
  good_so nodes sent a b same h = record {
    fits = h.fits;
    holds = h.holds;
    ours = h.ours;
    keeps = h.keeps;
    logs = λ r there. (
      (h.logs r there).0,
      stands_so (g r) r (h.logs r there).0 k nodes sent (a (log_by r)) (b (log_by r)) (same (log_by r)) (h.logs r there).1,
    );
  }

  -- how they stand after an event of the node of this name
  module _ (nodes : List AnyNode) (sent : List Packet) (told : ℕ → List Act) (good : Good nodes sent told) (name : NodeId) where
    abbrev pub Led : List AnyNode → List Packet → (ℕ → List Act) → Role → Type 0
    Led later more now r = (h : There r) → Next (g r) r (good.logs r h).0 (good.logs r h).1.moment name k later more (now (log_by r))

    pub record Leads (later : List AnyNode) (more : List Packet) (now : ℕ → List Act) : Type 0 where
      pub fits : (q : Packet) → In q more → PacketFits q.to q.body
      pub holds : AllHold later
      pub ours : (q : Packet) → In q more → CarriesOf owned q.body
      pub keeps : AllKeep setup.clients setup.managers later
      pub logs : (r : Role) → Led later more now r

    -- what each owner did may be said otherwise
    abbrev pub leads_so : (later : List AnyNode) (more : List Packet) (a b : ℕ → List Act) → ((c : ℕ) → a c ≡ b c) → Leads later more a → Leads later more b
    leads_so later more a b same l = record {
      fits = l.fits;
      holds = l.holds;
      ours = l.ours;
      keeps = l.keeps;
      logs = λ r h.
          next_so (g r) r (good.logs r h).0 (good.logs r h).1.moment name k later more (a (log_by r)) (b (log_by r)) (same (log_by r)) (l.logs r h);
    }

    -- where nothing happens
    abbrev pub still : Leads nodes sent told
    still = record {
      fits = good.fits;
      holds = good.holds;
      ours = good.ours;
      keeps = good.keeps;
      logs = λ r h. record {
        scene = (good.logs r h).0;
        stands = (good.logs r h).1;
        leads = stands_still (g r) r name (good.logs r h).0 (good.logs r h).1.moment;
      };
    }

    abbrev pub led : (later : List AnyNode) (more : List Packet) (now : ℕ → List Act) → Leads later more now → Good later more now
    led later more now l = record {
      fits = l.fits;
      holds = l.holds;
      ours = l.ours;
      keeps = l.keeps;
      logs = λ r h. ((l.logs r h).scene, (l.logs r h).stands);
    }

  -- what is known of a moment besides: who may have sent what, that the registry's groups are those of the end, and that its horizons were filed
  pub record Known (nodes : List AnyNode) (sent : List Packet) (told : ℕ → List Act) : Type 0 where
    pub says : (q : Packet) → In q sent → MaySay q.from q.body
    pub named : (b : BoardState) → board_of (node_in nodes (place_of k Registry)) ≡ Some b → (r : Role) → NamesGroups (g r) b.groups
    pub reached : (b : BoardState) → board_of (node_in nodes (place_of k Registry)) ≡ Some b → (r : Role) → There r → renews r ≡ false
        → Reached (told (log_by r)) (low_of (g r) b)

  pub eight : (c : ℕ) → c ≤ setup.clients → c ≤ 8
  eight c limit = (let h = ok.clients.1 in omega arith)

  -- each manager has a log of its own
  pub one_manager : (i j : ℕ) → There (OfManager i) → There (OfManager j) → log_by (OfManager i) ≡ log_by (OfManager j) → i ≡ j
  one_manager i j h k_ e =
      (let m = managers_log setup.clients setup.managers i ok.managers.1 h in let n = managers_log setup.clients setup.managers j ok.managers.1 k_ in
      omega (arith, e))

  -- ---- what is sent

  module _ (nodes : List AnyNode) (sent : List Packet) (told : ℕ → List Act) (good : Good nodes sent told) (clock : ℕ) where
    pub all_say : (packets : List Packet) → ((q : Packet) → In q (sent ++ map (sent_at clock) packets) → MaySay q.from q.body)
        → All (λ (p : Packet). MaySay p.from p.body) packets
    all_say packets says = λ i d less.
        says (sent_at clock (get_or packets i d))
        (in_after sent (map (sent_at clock) packets) _ (in_map (sent_at clock) packets (get_or packets i d) (in_get packets i d less)))

    pub all_fit : (packets : List Packet) → All (λ (p : Packet). PacketFits p.to p.body) packets → (q : Packet)
        → In q (sent ++ map (sent_at clock) packets)
        → PacketFits q.to q.body
    all_fit packets all q h = ⊎_elim (λ old. good.fits q old)
        (λ new. at_clock clock (λ (p : Packet). PacketFits p.to p.body) (λ (p : Packet). PacketFits p.to p.body) (λ p f. f) packets all q new)
        (in_append sent (map (sent_at clock) packets) q h)

    -- what is stored and listed is of the logs of the run
    pub all_ours : (packets : List Packet) → All (λ (p : Packet). CarriesOf owned p.body) packets → (q : Packet)
        → In q (sent ++ map (sent_at clock) packets)
        → CarriesOf owned q.body
    all_ours packets all q h = ⊎_elim (λ old. good.ours q old)
        (λ new. at_clock clock (λ (p : Packet). CarriesOf owned p.body) (λ (p : Packet). CarriesOf owned p.body) (λ p f. f) packets all q new)
        (in_append sent (map (sent_at clock) packets) q h)

    -- what comes is in range
    pub what_fits : (name : NodeId) (what : Do) → ((q : Packet) → what ≡ Deliver q → In q sent × (q.to ≡ name)) → DoFits name what
    what_fits name what gets = by what refl
      where
        by : (x : Do) → what ≡ x → DoFits name x
        by Begin same = tt
        by (Deliver q) same = (let h = gets q same in subst (λ to. PacketFits to q.body) h.1 (good.fits q h.0))
        by Tick same = tt

    -- and stores and lists fragments of the logs of the run
    pub what_comes : (what : Do) → ((q : Packet) → what ≡ Deliver q → In q sent) → ComesOf owned what
    what_comes what gets = by what refl
      where
        by : (x : Do) → what ≡ x → ComesOf owned x
        by Begin same = tt
        by (Deliver q) same = good.ours q (gets q same)
        by Tick same = tt

  -- an owner of a log of the run
  pub owns_one : (r : Role) → There r → owned (record { 0 = log_by r }) ≡ true
  owns_one r there = its_owner setup.clients setup.managers ok.managers.1 r there
