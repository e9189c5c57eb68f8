-- Where no disk is lost no restart is doubtful: of the newest filed segment, while no server was told to delete it, each member holds its fragment.
use Rattle.std.proofs.Common.{◌≡◌, ◌⊎◌, ⊎_elim, ℕ, zero, suc, ◌+◌, ◌-◌, ◌<◌, Bool, true, false, List, [], ◌∷◌, Option, Some, None, length, nat_le, take, inl, inr, refl, sym, ap, subst, ◌∙◌, arith}
use Rattle.std.proofs.lemmas.Bool.Decides.{nat_tests}
use Rattle.std.specs.List.{fold}
use Rattle.std.specs.Prelude.{IfSome}
use Rattle.client_log.specs.LogState.{LogState}
use Rattle.core_world.specs.AnyNode.{any_start, any_step}
use Rattle.core_world.specs.declared.any_node.AnyNode.{AnyNode}
use Rattle.core_world.specs.declared.any_node.AnyNode.TheVariants as any
use Rattle.fragment_store.specs.ShelfState.{ShelfState, held_at}
use Rattle.group_map.specs.declared.group.Group.{Group}
use Rattle.group_map.specs.Sizes.{is_group_size}
use Rattle.group_map.specs.WellFormed.{IsServer, IsStripe}
use Rattle.log_flight.specs.Flights.{generation_of, no_member, server_of}
use Rattle.log_law.specs.Net.{Net, Owner}
use Rattle.log_law.specs.Net.Owner.{Down, Opening, Serving, Writing}
use Rattle.log_law.specs.Restarts.{IsSureRun}
use Rattle.log_protocol.specs.Tables as tables
use Rattle.log_tie.specs.Setting.{Setting, Stripe, fragment_over}
use Rattle.node_logs.proofs.node_log_tie.WholeMaps.{its_stripe}
use Rattle.node_logs.specs.node_log_tie.RegistryEvents.{RegistrySeen}
use Rattle.segment_format.specs.declared.segment.Segment.{Segment}
use Rattle.registry_node.specs.declared.node.RegistryNode.{RegistryNode}
use Rattle.world_base.specs.Cluster.{cluster_of, place_of}
use Rattle.world_base.specs.declared.estate.Estate.{Estate}
use Rattle.world_base.specs.declared.event.Event.{Event}
use Rattle.world_base.specs.declared.world.World.{World}
use Rattle.world_base.specs.NextWorld.{next_world, start_world}
use Rattle.world_base.specs.Runs.{IsRun, Leads}
use Rattle.run_laws.proofs.world_law.Places.{behind}
use Rattle.headline.specs.Moments.{moment, node_in, node_named}
use Rattle.run_laws.proofs.world_logs.Line.{grows}
use Rattle.run_laws.proofs.world_logs.Lists.{in_was}
use Rattle.run_laws.proofs.world_logs.Settings.{striped}
use Rattle.run_laws.specs.world_logs.Lines.{HasLines, Line, setting}
use Rattle.headline.specs.Logs.{IsThere, Role, renews}
use Rattle.headline.specs.Logs.Role.{OfClient, OfCleaner, OfManager}
use Rattle.run_laws.specs.world_logs.Settings.{stripe_by}
use Rattle.group_map.specs.Groups.{known_group as group_in}
use Rattle.headline.specs.Servers.{group_at, groups_of, piece, shelf_at, shelf_of}
use Rattle.run_laws.specs.world_logs.Standing.{Seen}
use Rattle.xfs_base.proofs.Booleans.{and_first}
use Rattle.xfs_base.specs.declared.fragment.Fragment.{Fragment}
use Rattle.xfs_base.specs.declared.node.NodeId.TheVariants.{Client, Manager, Registry, Server}
use Rattle.run_laws.specs.restart_law.Below.{Below}
use Rattle.headline.specs.Restarts.{DoubtfulRestart, LackedBetween, Lacks, LostDisk, NoDoubtfulRestart, log_at, log_in}
use Rattle.run_laws.specs.restart_law.Unlost.{NoDiskIsLost, WithoutLossesNoRestartIsDoubtful}
use Rattle.run_laws.proofs.restart_law.Nodes.{ShelfIs, here_at, log_is, node_there, placed, serving_log, shelf_is}
use Rattle.run_laws.proofs.restart_law.Sure.{all_sure}

last_or_before : (n count : ℕ) → n < suc count → (n ≡ count) ⊎ (n < count)
last_or_before n count less = by (nat_le count n) refl
  where
    by : (t : Bool) → nat_le count n ≡ t → (n ≡ count) ⊎ (n < count)
    by true fact = inl (grind (arith, nat_tests))
    by false fact = inr (grind (arith, nat_tests))

-- ---- what is there

pub end_at : (events : List Event) (w end : World AnyNode) → Leads any_step w events end → fold (next_world any_step) w (take (length events) events) ≡ end
end_at [] w end leads = leads
end_at (event ∷ events) w end leads = end_at events (next_world any_step w event) end leads.1

serving_so : (x : Owner) (s : LogState) → serving_log x ≡ Some s → x ≡ Serving s
serving_so Down s fact = absurd cc
serving_so (Opening o) s fact = absurd cc
serving_so (Writing chain o) s fact = absurd cc
serving_so (Serving o) s fact = cc

same_group : (a b : Group) → Some a ≡ Some b → a ≡ b
same_group a b fact = cc

held_none : (f : Fragment) → None ≡ Some f → ⊥
held_none f fact = absurd cc

has_member : (parity n : ℕ) → is_group_size parity n ≡ true → 0 < n
has_member parity n fact = (let least = and_first (nat_le (parity + 2) n) (nat_le n 8) fact in at_least least)
  where
    at_least : nat_le (parity + 2) n ≡ true → 0 < n
    at_least t = grind (arith, nat_tests)

module _ (base : Setting) (e : Estate AnyNode) (run : IsRun any_step any_start e.script e.events e.world) (lines : HasLines base e) where
  abbrev its : Line base e OfCleaner
  its = lines OfCleaner tt

  -- the registry at the end of the run
  record HasRegistry (x : AnyNode) : Type 0 where
    node : RegistryNode
    kind : x ≡ any.Registry node
    seen : RegistrySeen (setting base e OfCleaner) (its.scene (length e.events)).net node.board

  registry_so : (x : AnyNode) → Seen (setting base e OfCleaner) OfCleaner (its.scene (length e.events)) Registry x → HasRegistry x
  registry_so (any.Client node) h = absurd h
  registry_so (any.Manager node) h = absurd h
  registry_so (any.Server node) h = absurd h
  registry_so (any.Cleaner node) h = absurd h
  registry_so (any.Registry node) h = record { node = node; kind = refl; seen = h }

  stripe_so : (id : ℕ) (group : Group) → group_at e.world id ≡ Some group → IsStripe e.script.setup.servers group.parity group.members
  stripe_so id group fact =
      let end = length e.events in
      let h = node_there e Registry (e.script.setup.clients + e.script.setup.managers + e.script.setup.servers + 1) refl end in
      let x = registry_so h.has.0 ((its.stands end).seen Registry h.has.0 h.has.1) in
      let named : node_named (moment e end) Registry ≡ Some (any.Registry x.node) =
      here_at base e OfCleaner tt refl its end Registry (Some h.has.0) h.has.1 ∙ ap Some x.kind in
      let same : moment e end ≡ e.world = end_at e.events (start_world any_start e.script) e.world run in
      let found = ap (λ o. group_in (groups_of o) id) (sym named) ∙ (ap (λ w. group_at w id) same ∙ fact) in
      subst (λ n. IsStripe n group.parity group.members) x.seen.size (its_stripe x.node.board.groups x.seen.map id group found)

  -- ---- a server of a group

  server_so : (count v : ℕ) (x : AnyNode) → Seen (setting base e OfCleaner) OfCleaner (its.scene count) (Server v) x
      → (s : ShelfState) × (shelf_of (Some x) ≡ Some s)
  server_so count v (any.Client node) h = absurd h
  server_so count v (any.Manager node) h = absurd h
  server_so count v (any.Server node) h = (node.shelf, refl)
  server_so count v (any.Cleaner node) h = absurd h
  server_so count v (any.Registry node) h = absurd h

  pub has_shelf : (count v : ℕ) → IsServer e.script.setup.servers v → (s : ShelfState) × (shelf_at (moment e count) v ≡ Some s)
  has_shelf count v within =
      let h = node_there e (Server v) (e.script.setup.clients + e.script.setup.managers + v - 1)
      (placed (e.script.setup.clients + e.script.setup.managers) e.script.setup.servers v within.0 within.1) count in
      let s = server_so count v h.has.0 ((its.stands count).seen (Server v) h.has.0 h.has.1) in
      (s.0, ap shelf_of (here_at base e OfCleaner tt refl its count (Server v) (Some h.has.0) h.has.1) ∙ s.1)

  -- ---- whose log it is

  its_client : (c p : ℕ) → place_of (cluster_of e.script.setup) (Client c) ≡ Some p → IsThere e.script.setup.clients e.script.setup.managers (OfClient c)
  its_client c p at = (let b = behind 0 e.script.setup.clients c p at in (b.some, b.within))

  cluster_is : (count : ℕ) → (moment e count).cluster ≡ cluster_of e.script.setup
  cluster_is count = (node_there e Registry (e.script.setup.clients + e.script.setup.managers + e.script.setup.servers + 1) refl count).cluster

  kind_of_manager : (count j : ℕ) (s : LogState) → log_at e (OfManager j) count ≡ Some s → ⊥
  kind_of_manager count j s fact = by (node_named (moment e count) (Manager j)) refl
    where
      by : (o : Option AnyNode) → node_named (moment e count) (Manager j) ≡ o → ⊥
      by None at = none_serves (sym (ap log_in at) ∙ fact)
        where
          none_serves : None ≡ Some s → ⊥
          none_serves h = absurd cc
      by (Some x) at = by_kind x ((its.stands count).seen (Manager j) x (there_in at)) (sym (ap log_in at) ∙ fact)
        where
          there_in : node_named (moment e count) (Manager j) ≡ Some x
              → node_in (moment e count).nodes (place_of (cluster_of e.script.setup) (Manager j)) ≡ Some x
          there_in h = subst (λ k. node_in (moment e count).nodes (place_of k (Manager j)) ≡ Some x) (cluster_is count) h

          by_kind : (x : AnyNode) → Seen (setting base e OfCleaner) OfCleaner (its.scene count) (Manager j) x → log_in (Some x) ≡ Some s → ⊥
          by_kind (any.Client node) h at = h
          by_kind (any.Manager node) h at = absurd cc
          by_kind (any.Server node) h at = h
          by_kind (any.Cleaner node) h at = h
          by_kind (any.Registry node) h at = h

  record Whose (r : Role) : Type 0 where
    there : IsThere e.script.setup.clients e.script.setup.managers r
    keeps : renews r ≡ false

  whose : (r : Role) (count : ℕ) (s : LogState) → log_at e r count ≡ Some s → Whose r
  whose OfCleaner count s fact = record { there = tt; keeps = refl }
  whose (OfManager j) count s fact = absurd (kind_of_manager count j s fact)
  whose (OfClient c) count s fact = by (place_of (cluster_of e.script.setup) (Client c)) refl
    where
      by : (o : Option ℕ) → place_of (cluster_of e.script.setup) (Client c) ≡ o → Whose (OfClient c)
      by (Some p) at = record { there = its_client c p at; keeps = refl }
      by None at =
          absurd (no_log (ap (λ k. log_in (node_in (moment e count).nodes (place_of k (Client c)))) (sym (cluster_is count))
          ∙ fact) at)
        where
          no_log : log_in (node_in (moment e count).nodes (place_of (cluster_of e.script.setup) (Client c))) ≡ Some s
              → place_of (cluster_of e.script.setup) (Client c) ≡ None → ⊥
          no_log h none = none_serves (sym (ap (λ o. log_in (node_in (moment e count).nodes o)) none) ∙ h)
            where
              none_serves : None ≡ Some s → ⊥
              none_serves k = absurd cc

-- ---- a doubtful restart

module _ (b : Below) (base : Setting) (e : Estate AnyNode) (run : IsRun any_step any_start e.script e.events e.world) (lines : HasLines base e)
    (kept : NoDiskIsLost e) (count : ℕ) (none : NoDoubtfulRestart e count) (r : Role) (d : DoubtfulRestart e r count) where
  abbrev is_whose : Whose base e run lines r
  is_whose = whose base e run lines r d.last d.log d.served

  abbrev line : Line base e r
  line = lines r is_whose.there

  abbrev g : Setting
  g = setting base e r

  abbrev small : ℕ → Net
  small k = (line.scene k).net

  owner_is : (small d.last).owner ≡ Serving d.log
  owner_is = serving_so (small d.last).owner d.log (sym (log_is base e r is_whose.there is_whose.keeps line d.last) ∙ d.served)

  sure : IsSureRun (line.stands d.last).moment.run
  sure = all_sure b base e r is_whose.there is_whose.keeps line d.last (λ q n less. none q n (let a = d.before in omega arith))

  filed_last : tables.In d.segment.name (small d.last).filed
  filed_last =
      subst (λ n. tables.In n (small d.last).filed) (sym d.named)
      ((b.logs.last g (small d.last) is_whose.keeps (line.stands d.last).moment sure d.log owner_is).filed d.some)

  members : IsStripe e.script.setup.servers d.group.parity d.group.members
  members = stripe_so base e run lines d.segment.group d.group d.striped

  some_member : 0 < length d.group.members
  some_member = has_member d.group.parity (length d.group.members) members.size

  first : LackedBetween e r d.last count d.segment.name (server_of d.group.members 0)
  first = d.lost 0 some_member

  abbrev when : ℕ
  when = first.when

  filed : tables.In d.segment.name (small when).filed
  filed = (grows base e r line d.last when first.since).filed d.segment.name filed_last

  undropped : tables.In d.segment.name (small when).dropped → ⊥
  undropped fact =
      (let o = (line.stands when).deleted d.segment.name fact in
      first.kept o.0 (record { name = d.segment.name }) (in_was (moment e when).sent o.0 o.1) o.2 refl)

  abbrev flew : (s : Segment) × tables.In s (small when).flown × (s.name ≡ d.segment.name)
  flew = (b.logs.whole g (small when) (line.stands when).moment).flown d.segment.name filed

  abbrev grouped : (group : Group) × (group_at e.world flew.0.group ≡ Some group)
  grouped = striped base e.world e.script.setup.servers (group_at e.world flew.0.group)
      ((b.logs.whole g (small when) (line.stands when).moment).striped flew.0 flew.1)

  -- ---- a member of a group

  module _ (id : ℕ) (group : Group) (fact : group_at e.world id ≡ Some group) (place : ℕ) (within : place < length group.members) where
    has : (k : ℕ) → (s : ShelfState) × (shelf_at (moment e k) (server_of group.members place) ≡ Some s)
    has k = has_shelf base e run lines k (server_of group.members place)
        ((stripe_so base e run lines id group fact).exist place no_member within)

    shelf_so : (k : ℕ) → (small k).shelves (server_of group.members place) ≡ (has k).0
    shelf_so k =
        subst (ShelfIs g (line.scene k) (server_of group.members place)) (has k).1
        (shelf_is base e r is_whose.there is_whose.keeps line k (server_of group.members place))

    as_made : (k : ℕ) → (has k).0.generation ≡ generation_of group.members place
    as_made k =
        subst (λ (o : Option ShelfState). IfSome o (λ s. s.generation ≡ generation_of group.members place)) (has k).1 (kept k id group fact place within)

  -- ---- it held its fragment

  abbrev HasOver : Stripe → ℕ → Type 0
  HasOver s place = (held_at ((small when).shelves (server_of s.members place)).held flew.0.name ≡ Some (fragment_over flew.0 s place))
      ⊎ (generation_of s.members place < ((small when).shelves (server_of s.members place)).generation)

  all_have : (place : ℕ) → place < length grouped.0.members → HasOver (record { members = grouped.0.members; parity = grouped.0.parity }) place
  all_have = subst (λ (s : Stripe). (place : ℕ) → place < length s.members → HasOver s place) (ap stripe_by grouped.1)
      ((b.logs.whole g (small when) (line.stands when).moment).whole flew.0 flew.1 (subst (λ n. tables.In n (small when).filed) (sym flew.2) filed)
      (λ fact. undropped (subst (λ n. tables.In n (small when).dropped) flew.2 fact)))

  holds : (place : ℕ) → place < length grouped.0.members
      → held_at ((small when).shelves (server_of grouped.0.members place)).held d.segment.name ≡ Some (piece flew.0 grouped.0 place)
  holds place within =
      ⊎_elim (λ h. subst (λ n. held_at ((small when).shelves (server_of grouped.0.members place)).held n ≡ Some (piece flew.0 grouped.0 place)) flew.2 h)
      (λ later.
      let same = shelf_so flew.0.group grouped.0 grouped.1 place within when in
      let made = as_made flew.0.group grouped.0 grouped.1 place within when in
      let e_ = ap (λ (s : ShelfState). s.generation) same in absurd (omega arith)) (all_have place within)

  grouped_some : 0 < length grouped.0.members
  grouped_some = has_member grouped.0.parity (length grouped.0.members) (stripe_so base e run lines flew.0.group grouped.0 grouped.1).size

  -- so the group is the one of its text
  same_id : flew.0.group ≡ d.segment.group
  same_id =
      let x = has flew.0.group grouped.0 grouped.1 0 grouped_some when in
      let h = subst (λ (s : ShelfState). held_at s.held d.segment.name ≡ Some (piece flew.0 grouped.0 0))
      (shelf_so flew.0.group grouped.0 grouped.1 0 grouped_some when)
      (holds 0 grouped_some) in
      ap (λ (f : Fragment). f.meta.group)
      ((d.text when first.since (let m = first.before in omega arith)).held (server_of grouped.0.members 0) x.0 (piece flew.0 grouped.0 0) x.1 h)

  the_group : grouped.0 ≡ d.group
  the_group = same_group grouped.0 d.group (sym grouped.1 ∙ ap (group_at e.world) same_id ∙ d.striped)

  here : held_at ((small when).shelves (server_of d.group.members 0)).held d.segment.name ≡ Some (piece flew.0 grouped.0 0)
  here =
      subst (λ (x : Group). held_at ((small when).shelves (server_of x.members 0)).held d.segment.name ≡ Some (piece flew.0 grouped.0 0)) the_group
      (holds 0 grouped_some)

  pub never : ⊥
  never = ⊎_elim lacks loses first.lacked
    where
      lacks : Lacks (shelf_at (moment e when) (server_of d.group.members 0)) d.segment.name → ⊥
      lacks h =
          let x = has d.segment.group d.group d.striped 0 some_member when in
          let nothing = subst (λ (o : Option ShelfState). Lacks o d.segment.name) x.1 h in
          held_none (piece flew.0 grouped.0 0)
          (sym nothing
          ∙ subst (λ (s : ShelfState). held_at s.held d.segment.name ≡ Some (piece flew.0 grouped.0 0))
          (shelf_so d.segment.group d.group d.striped 0 some_member when) here)

      loses : LostDisk (shelf_at (moment e when) (server_of d.group.members 0)) (shelf_at (moment e (suc when)) (server_of d.group.members 0)) → ⊥
      loses h =
          let less = subst (λ (o : Option ShelfState). LostDisk (Some (has d.segment.group d.group d.striped 0 some_member when).0) o)
          (has d.segment.group d.group d.striped 0 some_member (suc when)).1
          (subst (λ (o : Option ShelfState). LostDisk o (shelf_at (moment e (suc when)) (server_of d.group.members 0)))
          (has d.segment.group d.group d.striped 0 some_member when).1 h) in
          let before = as_made d.segment.group d.group d.striped 0 some_member when in
          let now = as_made d.segment.group d.group d.striped 0 some_member (suc when) in
          absurd (omega arith)

-- over all counts
module _ (b : Below) (base : Setting) (e : Estate AnyNode) (run : IsRun any_step any_start e.script e.events e.world) (lines : HasLines base e)
    (kept : NoDiskIsLost e) where
  pub none_up_to : (count : ℕ) → NoDoubtfulRestart e count
  none_up_to zero r n less d = absurd (omega (arith, less))
  none_up_to (suc count) r n less d =
      ⊎_elim (λ same. never b base e run lines kept count (none_up_to count) r (subst (DoubtfulRestart e r) same d))
      (λ before. none_up_to count r n before d) (last_or_before n count less)

pub without_losses : Below → WithoutLossesNoRestartIsDoubtful
without_losses b base e run lines kept count = none_up_to b base e run lines kept count
