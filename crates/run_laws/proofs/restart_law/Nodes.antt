-- The nodes of a run beside the small world of one log: its owner is there, serves where it serves there, and reads its log back as far; shelves are the same.
use Rattle.std.proofs.Common.{◌≡◌, ⊎_elim, ℕ, zero, suc, ◌+◌, ◌-◌, ◌<◌, ◌≤◌, ◌&&◌, nat_lt, nat_le, true, false, cond, List, [], ◌∷◌, Option, Some, None, length, take, slice_get, slice_set, refl, sym, ap, subst, ◌∙◌, arith}
use Rattle.std.proofs.lemmas.Bool.Decides.{nat_tests}
use Rattle.std.specs.List.{fold}
use Rattle.std.specs.Prelude.{IfSome}
use Rattle.node_logs.specs.cleaner_log_tie.Owner.{CleanerAgrees, its_number}
use Rattle.cleaner_node.specs.CleanerEvents.{lasting_of as cleaners_lasting}
use Rattle.cleaner_node.specs.declared.cleaner.Phase as cleaners
use Rattle.cleaner_node.specs.declared.cleaner.Phase.TheVariants as cleaning
use Rattle.client_log.specs.LogState.{LogState}
use Rattle.node_logs.specs.client_log_tie.Owner.{Scene, ClientAgrees, SeesStage}
use Rattle.client_node.specs.declared.phase.Phase as clients
use Rattle.client_node.specs.declared.phase.Phase.TheVariants as phase
use Rattle.client_node.specs.Phases.{lasting_of as clients_lasting}
use Rattle.core_world.specs.AnyNode.{any_start, any_step}
use Rattle.core_world.specs.declared.any_node.AnyNode.{AnyNode}
use Rattle.core_world.specs.declared.any_node.AnyNode.TheVariants as any
use Rattle.fragment_store.specs.ShelfState.{ShelfState}
use Rattle.log_law.specs.Net.{Owner}
use Rattle.log_law.specs.Net.Owner.{Down, Opening, Serving, Writing}
use Rattle.log_law.specs.Restarts.{is_serving, is_writing}
use Rattle.log_owner.specs.declared.known.Known.{Known}
use Rattle.log_owner.specs.declared.opening.Stage.{Stage}
use Rattle.log_owner.specs.declared.opening.Stage.TheVariants as stage
use Rattle.log_tie.specs.Setting.{Setting}
use Rattle.node_logs.proofs.node_log_tie.Others.{same_or_other}
use Rattle.world_base.specs.Cluster.{cluster_of, place_behind, place_of}
use Rattle.world_base.specs.declared.cluster.Cluster.{Cluster}
use Rattle.world_base.specs.declared.estate.Estate.{Estate}
use Rattle.world_base.specs.declared.event.Event.{Event}
use Rattle.world_base.specs.declared.world.World.{World}
use Rattle.world_base.specs.Events.{node_of, what_of}
use Rattle.world_base.specs.NextWorld.{next_world, start_world}
use Rattle.run_laws.proofs.world_law.Nodes.{here, there}
use Rattle.run_laws.proofs.world_law.Start.{first_stands}
use Rattle.run_laws.proofs.world_law.Turning.{next_cluster, next_keeps}
use Rattle.headline.specs.Moments.{moment, node_in, node_named}
use Rattle.run_laws.specs.world_logs.Lines.{Line, setting}
use Rattle.headline.specs.Logs.{IsThere, Role, owner_by, renews}
use Rattle.headline.specs.Logs.Role.{OfClient, OfCleaner, OfManager}
use Rattle.headline.specs.Servers.{shelf_at, shelf_of}
use Rattle.run_laws.specs.world_logs.Standing.{CleanerThere, ClientThere, Seen, ServerThere}
use Rattle.xfs_base.proofs.Booleans.{contrary}
use Rattle.xfs_base.specs.declared.node.NodeId.{NodeId}
use Rattle.xfs_base.specs.declared.node.NodeId.TheVariants.{Server}
use Rattle.headline.specs.Restarts.{boot_at, boot_in, cleaner_reads_to, cleaner_writes, cleaners_log, client_reads_to, client_writes, clients_log, is_settling, log_at, log_in, low_at, low_in, reads_to, scans_to, writes_at, writes_in}

-- ---- the node of a name is there at each moment

module _ (k : Cluster) (name : NodeId) where
  abbrev pub Has : List AnyNode → Type 0
  Has nodes = (x : AnyNode) × (node_in nodes (place_of k name) ≡ Some x)

  pub record Holds (w : World AnyNode) : Type 0 where
    pub cluster : w.cluster ≡ k
    pub has : Has w.nodes

  turn_has : (nodes : List AnyNode) (other : NodeId) (place : ℕ) (x y : AnyNode) → place_of k other ≡ Some place → slice_get nodes place ≡ Some x
      → Has nodes → Has (slice_set nodes place y)
  turn_has nodes other place x y at fact had = ⊎_elim same differs (same_or_other name other)
    where
      same : name ≡ other → Has (slice_set nodes place y)
      same e = (y, subst (λ n. node_in (slice_set nodes place y) (place_of k n) ≡ Some y) (sym e) (here k nodes other place at y x fact))

      differs : (name ≡ other → ⊥) → Has (slice_set nodes place y)
      differs other_one = (had.0, there k nodes other place at y name other_one ∙ had.1)

  next_has : (w : World AnyNode) (event : Event) → w.cluster ≡ k → Has w.nodes → Has (next_world any_step w event).nodes
  next_has w event cluster had =
      next_keeps any_step (λ nodes sent acts. Has nodes) w event had
      (λ place node clock at fact. turn_has w.nodes (node_of event) place node (any_step node (what_of event)).node
      (subst (λ c. place_of c (node_of event) ≡ Some place) cluster at) fact had)

  front_has : (events : List Event) (count : ℕ) (w : World AnyNode) → Holds w → Holds (fold (next_world any_step) w (take count events))
  front_has [] zero w h = h
  front_has [] (suc count) w h = h
  front_has (event ∷ more) zero w h = h
  front_has (event ∷ more) (suc count) w h =
      front_has more count (next_world any_step w event)
      (record { cluster = next_cluster any_step w event ∙ h.cluster; has = next_has w event h.cluster h.has })

-- so it is of the node of each name that has a place
module _ (e : Estate AnyNode) (name : NodeId) (p : ℕ) (at : place_of (cluster_of e.script.setup) name ≡ Some p) where
  starts_there : Holds (cluster_of e.script.setup) name (start_world any_start e.script)
  unfolding start_world
  starts_there = record { cluster = refl; has = (_, first_stands e.script name p at) }

  pub node_there : (count : ℕ) → Holds (cluster_of e.script.setup) name (moment e count)
  node_there count = front_has (cluster_of e.script.setup) name e.events count (start_world any_start e.script) starts_there

-- there is a place behind others for each number from 1 up to how many there are
pub placed : (first count number : ℕ) → 0 < number → number ≤ count → place_behind first count number ≡ Some (first + number - 1)
placed first count number some within = ap (λ t. cond t (Some (first + number - 1)) None) (both number count some within)
  where
    both : (c limit : ℕ) → 0 < c → c ≤ limit → (nat_lt 0 c && nat_le c limit) ≡ true
    both c limit some within = grind (arith, nat_tests)

module _ (e : Estate AnyNode) (r : Role) (is_there : IsThere e.script.setup.clients e.script.setup.managers r) (keeps : renews r ≡ false) where
  -- its owner has a place
  its_place : (q : Role) → IsThere e.script.setup.clients e.script.setup.managers q → renews q ≡ false
      → (p : ℕ) × (place_of (cluster_of e.script.setup) (owner_by q) ≡ Some p)
  its_place (OfClient c) there_ keeps_ = (0 + c - 1, placed 0 e.script.setup.clients c there_.0 there_.1)
  its_place OfCleaner there_ keeps_ = (_, refl)
  its_place (OfManager j) there_ keeps_ = contrary (sym keeps_)

  pub owner_there : (count : ℕ) → Holds (cluster_of e.script.setup) (owner_by r) (moment e count)
  owner_there count = node_there e (owner_by r) (its_place r is_there keeps).0 (its_place r is_there keeps).1 count

-- ---- how its owner is seen

-- the log of one that serves in the small world
abbrev pub serving_log : Owner → Option LogState
serving_log Down = None
serving_log (Opening s) = None
serving_log (Writing chain s) = None
serving_log (Serving s) = Some s

-- down to which number the log is read back in it
abbrev pub owner_reads_to : Owner → Option ℕ
owner_reads_to Down = None
owner_reads_to (Opening s) = scans_to s.stage s.opening.low
owner_reads_to (Writing chain s) = Some (s.end.seq + 1 - length chain)
owner_reads_to (Serving s) = None

pub some_serving : (x : Owner) → is_serving x ≡ true → (s : LogState) × (x ≡ Serving s)
some_serving Down fact = contrary fact
some_serving (Opening s) fact = contrary fact
some_serving (Writing chain s) fact = contrary fact
some_serving (Serving s) fact = (s, refl)

none_serving : (x : Owner) → is_serving x ≡ false → serving_log x ≡ None
none_serving Down fact = refl
none_serving (Opening s) fact = refl
none_serving (Writing chain s) fact = refl
none_serving (Serving s) fact = contrary (sym fact)

module _ (g : Setting) (w : Scene) where
  stage_log : (c : ℕ) (k : Known) (last : ℕ) (at : Stage) → SeesStage g c w k last at → serving_log w.net.owner ≡ None
  stage_log c k last (stage.Scanning s) sees = ap serving_log sees.owner
  stage_log c k last (stage.Settling s) sees = ap serving_log sees.owner

  stage_low : (c : ℕ) (k : Known) (last : ℕ) (at : Stage) → SeesStage g c w k last at → owner_reads_to w.net.owner ≡ reads_to at
  stage_low c k last (stage.Scanning s) sees = ap owner_reads_to sees.owner
  stage_low c k last (stage.Settling s) sees = ap owner_reads_to sees.owner

  stage_writes : (c : ℕ) (k : Known) (last : ℕ) (at : Stage) → SeesStage g c w k last at → is_settling at ≡ is_writing w.net.owner
  stage_writes c k last (stage.Scanning s) sees = sym (ap is_writing sees.owner)
  stage_writes c k last (stage.Settling s) sees = sym (ap is_writing sees.owner)

  client_log : (c : ℕ) (p : clients.Phase) → ClientAgrees g c w p → clients_log p ≡ serving_log w.net.owner
  client_log c (phase.Down l) agrees = sym (ap serving_log agrees.1)
  client_log c (phase.Opening l o) agrees = sym (stage_log c o.known l.questions.last o.stage agrees.1)
  client_log c (phase.Serving s) agrees = sym (ap serving_log agrees.1.owner)

  cleaner_log : (p : cleaners.Phase) → CleanerAgrees g w p → cleaners_log p ≡ serving_log w.net.owner
  cleaner_log (cleaning.Down l) agrees = sym (ap serving_log agrees.1)
  cleaner_log (cleaning.Opening l o) agrees = sym (stage_log its_number o.known l.questions.last o.stage agrees.sees)
  cleaner_log (cleaning.Serving e) agrees = sym (ap serving_log agrees.log.owner)

  client_low : (c : ℕ) (p : clients.Phase) → ClientAgrees g c w p → client_reads_to p ≡ owner_reads_to w.net.owner
  client_low c (phase.Down l) agrees = sym (ap owner_reads_to agrees.1)
  client_low c (phase.Opening l o) agrees = sym (stage_low c o.known l.questions.last o.stage agrees.1)
  client_low c (phase.Serving s) agrees = sym (ap owner_reads_to agrees.1.owner)

  cleaner_low : (p : cleaners.Phase) → CleanerAgrees g w p → cleaner_reads_to p ≡ owner_reads_to w.net.owner
  cleaner_low (cleaning.Down l) agrees = sym (ap owner_reads_to agrees.1)
  cleaner_low (cleaning.Opening l o) agrees = sym (stage_low its_number o.known l.questions.last o.stage agrees.sees)
  cleaner_low (cleaning.Serving e) agrees = sym (ap owner_reads_to agrees.log.owner)

  client_writing : (c : ℕ) (p : clients.Phase) → ClientAgrees g c w p → client_writes p ≡ is_writing w.net.owner
  client_writing c (phase.Down l) agrees = sym (ap is_writing agrees.1)
  client_writing c (phase.Opening l o) agrees = stage_writes c o.known l.questions.last o.stage agrees.1
  client_writing c (phase.Serving s) agrees = sym (ap is_writing agrees.1.owner)

  cleaner_writing : (p : cleaners.Phase) → CleanerAgrees g w p → cleaner_writes p ≡ is_writing w.net.owner
  cleaner_writing (cleaning.Down l) agrees = sym (ap is_writing agrees.1)
  cleaner_writing (cleaning.Opening l o) agrees = stage_writes its_number o.known l.questions.last o.stage agrees.sees
  cleaner_writing (cleaning.Serving e) agrees = sym (ap is_writing agrees.log.owner)

  client_boot : (c : ℕ) (p : clients.Phase) → ClientAgrees g c w p → (clients_lasting p).inc ≡ w.net.inc
  client_boot c (phase.Down l) agrees = sym agrees.0.inc
  client_boot c (phase.Opening l o) agrees = sym agrees.0.inc
  client_boot c (phase.Serving s) agrees = sym agrees.0.inc

  cleaner_boot : (p : cleaners.Phase) → CleanerAgrees g w p → (cleaners_lasting p).inc ≡ w.net.inc
  cleaner_boot (cleaning.Down l) agrees = sym agrees.0.inc
  cleaner_boot (cleaning.Opening l o) agrees = sym agrees.lasts.inc
  cleaner_boot (cleaning.Serving e) agrees = sym agrees.lasts.inc

  -- what a node of the owner's name is
  pub record IsOwner (x : AnyNode) : Type 0 where
    pub log : log_in (Some x) ≡ serving_log w.net.owner
    pub boot : boot_in (Some x) ≡ w.net.inc
    pub low : low_in (Some x) ≡ owner_reads_to w.net.owner
    pub writes : writes_in (Some x) ≡ is_writing w.net.owner

  client_there : (c : ℕ) (x : AnyNode) → ClientThere g (OfClient c) w c x → IsOwner x
  client_there c (any.Client node) h = record {
    log = client_log c node.phase (h refl).agrees;
    boot = client_boot c node.phase (h refl).agrees;
    low = client_low c node.phase (h refl).agrees;
    writes = client_writing c node.phase (h refl).agrees;
  }
  client_there c (any.Manager node) h = absurd h
  client_there c (any.Server node) h = absurd h
  client_there c (any.Cleaner node) h = absurd h
  client_there c (any.Registry node) h = absurd h

  cleaner_there : (x : AnyNode) → CleanerThere g OfCleaner w x → IsOwner x
  cleaner_there (any.Client node) h = absurd h
  cleaner_there (any.Manager node) h = absurd h
  cleaner_there (any.Server node) h = absurd h
  cleaner_there (any.Cleaner node) h = record {
    log = cleaner_log node.phase h.agrees;
    boot = cleaner_boot node.phase h.agrees;
    low = cleaner_low node.phase h.agrees;
    writes = cleaner_writing node.phase h.agrees;
  }
  cleaner_there (any.Registry node) h = absurd h

  is_owner : (r : Role) → renews r ≡ false → (x : AnyNode) → Seen g r w (owner_by r) x → IsOwner x
  is_owner (OfClient c) keeps x h = client_there c x h
  is_owner OfCleaner keeps x h = cleaner_there x h
  is_owner (OfManager j) keeps x h = contrary (sym keeps)

  -- a shelf that is there is the one of its number
  abbrev pub ShelfIs : ℕ → Option ShelfState → Type 0
  ShelfIs v shelf = IfSome shelf (λ s. w.net.shelves v ≡ s)

  shelf_there : (r : Role) (v : ℕ) (x : AnyNode) → ServerThere g r w v x → ShelfIs v (shelf_of (Some x))
  shelf_there r v (any.Client node) h = absurd h
  shelf_there r v (any.Manager node) h = absurd h
  shelf_there r v (any.Server node) h = h.shelf
  shelf_there r v (any.Cleaner node) h = absurd h
  shelf_there r v (any.Registry node) h = absurd h

-- ---- along its line

module _ (base : Setting) (e : Estate AnyNode) (r : Role) (is_there : IsThere e.script.setup.clients e.script.setup.managers r) (keeps : renews r ≡ false)
    (line : Line base e r) where
  abbrev owner : ℕ → Owner
  owner count = (line.scene count).net.owner

  pub here_at : (count : ℕ) (name : NodeId) (o : Option AnyNode) → node_in (moment e count).nodes (place_of (cluster_of e.script.setup) name) ≡ o
      → node_named (moment e count) name ≡ o
  here_at count name o fact =
      subst (λ c. node_in (moment e count).nodes (place_of c name) ≡ o) (sym (owner_there e r is_there keeps count).cluster) fact

  there_at : (count : ℕ) → (x : AnyNode) × (node_named (moment e count) (owner_by r) ≡ Some x) × IsOwner (setting base e r) (line.scene count) x
  there_at count =
      let has = (owner_there e r is_there keeps count).has in (
        has.0,
        here_at count (owner_by r) (Some has.0) has.1,
        is_owner (setting base e r) (line.scene count) r keeps has.0 ((line.stands count).seen (owner_by r) has.0 has.1),
      )

  pub log_is : (count : ℕ) → log_at e r count ≡ serving_log (owner count)
  log_is count = (let x = there_at count in ap log_in x.1 ∙ x.2.log)

  -- its boot is that of the small world
  pub boot_is : (count : ℕ) → boot_at e r count ≡ (line.scene count).net.inc
  boot_is count = (let x = there_at count in ap boot_in x.1 ∙ x.2.boot)

  -- and it reads back as far
  pub low_is : (count : ℕ) → low_at e r count ≡ owner_reads_to (owner count)
  low_is count = (let x = there_at count in ap low_in x.1 ∙ x.2.low)

  -- it writes its opening segment where it writes there
  pub writes_is : (count : ℕ) → writes_at e r count ≡ is_writing (owner count)
  writes_is count = (let x = there_at count in ap writes_in x.1 ∙ x.2.writes)

  pub serves_there : (count : ℕ) (s : LogState) → owner count ≡ Serving s → log_at e r count ≡ Some s
  serves_there count s fact = log_is count ∙ ap serving_log fact

  pub away_there : (count : ℕ) → is_serving (owner count) ≡ false → log_at e r count ≡ None
  away_there count fact = log_is count ∙ none_serving (owner count) fact

  -- shelves are those of the small world
  pub shelf_is : (count v : ℕ) → ShelfIs (setting base e r) (line.scene count) v (shelf_at (moment e count) v)
  shelf_is count v = by (node_in (moment e count).nodes (place_of (cluster_of e.script.setup) (Server v))) refl
    where
      by : (o : Option AnyNode) → node_in (moment e count).nodes (place_of (cluster_of e.script.setup) (Server v)) ≡ o
          → ShelfIs (setting base e r) (line.scene count) v (shelf_at (moment e count) v)
      by None fact = subst (λ o. ShelfIs (setting base e r) (line.scene count) v (shelf_of o)) (sym (here_at count (Server v) None fact)) tt
      by (Some x) fact =
          subst (λ o. ShelfIs (setting base e r) (line.scene count) v (shelf_of o)) (sym (here_at count (Server v) (Some x) fact))
          (shelf_there (setting base e r) (line.scene count) r v x ((line.stands count).seen (Server v) x fact))
