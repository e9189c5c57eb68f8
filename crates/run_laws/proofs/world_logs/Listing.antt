-- What is stored and listed in a run is of the logs of its owners.
use Rattle.std.proofs.Common.{◌≡◌, ◌+◌, ◌-◌, ◌==◌, ◌&&◌, ◌||◌, ◌<◌, ◌≤◌, ℕ, nat_le, nat_lt, Bool, true, false, List, [], ◌∷◌, map, inl, inr, refl, sym, ap, subst, arith}
use Rattle.std.proofs.lemmas.Bool.Decides.{nat_tests}
use Rattle.std.specs.List.{AllByRecursion}
use Rattle.core_world.specs.AnyNode.{any_start}
use Rattle.core_world.specs.declared.any_node.AnyNode.{AnyNode}
use Rattle.core_world.specs.declared.any_node.AnyNode.TheVariants as any
use Rattle.log_protocol.specs.Tables as tables
use Rattle.node_logs.specs.manager_log_tie.Listing.{CarriesOf, MetasOf, NameOf, ServerHolds, ServersStartBare}
use Rattle.node_logs.specs.node_log_tie.CleanerStores.{StoresItsOwn}
use Rattle.node_slots.specs.node_tie.RegistryEvents as board
use Rattle.registry.specs.BoardState.{BoardState}
use Rattle.script_text.specs.declared.script.Script.{Script}
use Rattle.version_model.specs.declared.work.Work.{Work}
use Rattle.wire_msg.specs.declared.body.Body.{Body}
use Rattle.wire_msg.specs.declared.body.Body.TheVariants as body
use Rattle.wire_msg.specs.declared.packet.Do.{Do}
use Rattle.wire_msg.specs.declared.storage.Listed.{Listed}
use Rattle.world_base.specs.Cluster.{cluster_of, nodes_of}
use Rattle.world_base.specs.Items.{items_of}
use Rattle.world_base.specs.NextWorld.{first_node, first_nodes}
use Rattle.run_laws.proofs.world_logs.Roles.{managers_log}
use Rattle.run_laws.proofs.world_logs.Says.{OfLog, Plain, SaidByCleaner}
use Rattle.run_laws.specs.world_logs.Listing.{HasOwner}
use Rattle.headline.specs.Logs.{IsThere, Role, log_by}
use Rattle.headline.specs.Logs.Role.{OfClient, OfCleaner, OfManager}
use Rattle.xfs_base.specs.declared.fragment.FragMeta.{FragMeta}
use Rattle.xfs_base.specs.declared.node.NodeId.{NodeId}
use Rattle.xfs_base.specs.declared.node.NodeId.TheVariants.{Client, Manager, Server, Cleaner, Registry}
use Rattle.xfs_base.specs.declared.segment.LogId.{LogId}
use Rattle.xfs_base.specs.declared.setup.Setup.{Setup}
use Rattle.xfs_base.specs.Limits.{block_logs, most_managers}
use Rattle.xfs_base.specs.Logs.{cleaners_number}

-- ---- whose log it is

module _ (clients managers : ℕ) where
  abbrev is_clients : ℕ → Bool
  is_clients l = nat_lt 0 l && nat_le l clients

  abbrev is_managers : ℕ → Bool
  is_managers l = nat_lt block_logs l && nat_le l (block_logs + managers)

  -- whether a log has an owner in the run
  abbrev pub has_owner : LogId → Bool
  has_owner log = (log.0 == cleaners_number) || (is_clients log.0 || is_managers log.0)

  any_left : (a b c : Bool) → a ≡ true → (b || (a || c)) ≡ true
  any_left true true c fact = refl
  any_left true false c fact = refl
  any_left false b c fact = absurd cc

  any_right : (a b c : Bool) → c ≡ true → (b || (a || c)) ≡ true
  any_right a true true fact = refl
  any_right true false true fact = refl
  any_right false false true fact = refl
  any_right a b false fact = absurd cc

  pub its_owner : managers ≤ most_managers → (r : Role) → IsThere clients managers r → has_owner (record { 0 = log_by r }) ≡ true
  its_owner few (OfClient c) there =
      (let some = there.0 in let limit = there.1 in
      let inside : is_clients c ≡ true = grind (arith, nat_tests, some, limit) in
      any_left (is_clients c) (c == cleaners_number) (is_managers c) inside)
  its_owner few OfCleaner there = refl
  its_owner few (OfManager j) there =
      (let l = log_by (OfManager j) in
      let fact = managers_log clients managers j few there in let some = there.0 in let limit = there.1 in
      let inside : is_managers l ≡ true = grind (arith, nat_tests, fact, some, limit) in
      any_right (is_clients l) (l == cleaners_number) (is_managers l) inside)

  pub owner_of : managers ≤ most_managers → (log : LogId) → has_owner log ≡ true → HasOwner clients managers log
  owner_of few log has = by (log.0 == cleaners_number) refl (is_clients log.0) refl (is_managers log.0) refl
    where
      by : (a : Bool) → (log.0 == cleaners_number) ≡ a → (b : Bool) → is_clients log.0 ≡ b → (c : Bool) → is_managers log.0 ≡ c → HasOwner clients managers log
      by true fact b at c there =
          record { role = OfCleaner; there = tt; own = ap (λ n. record { 0 = n }) (grind (arith, nat_tests, fact)) }
      by false fact true at c there = record { role = OfClient log.0; there = (grind (arith, nat_tests, at), grind (arith, nat_tests, at)); own = refl }
      by false fact false at true there =
          (let some : block_logs < log.0 = grind (arith, nat_tests, there) in
          let limit : log.0 ≤ block_logs + managers = grind (arith, nat_tests, there) in
          let j = log.0 - block_logs in
          let within : (0 < j) × (j ≤ managers) = (omega arith, omega arith) in
          let its = managers_log clients managers j few within in
          record { role = OfManager j; there = within; own = ap (λ n. record { 0 = n }) (omega arith) })
      by false fact false at false there = (let none = has in absurd cc)

  -- ---- what is sent

  -- what an owner of this log sends, which lists nothing
  pub owner_sends : (n : ℕ) → has_owner (record { 0 = n }) ≡ true → (m : Body) → Plain m → OfLog n m → CarriesOf has_owner m
  owner_sends n has (body.Store m) plain own = subst (λ x. has_owner (record { 0 = x }) ≡ true) (sym own) has
  owner_sends n has (body.Listed m) plain own = absurd plain
  owner_sends n has _ plain own = tt

  pub cleaner_lists : (m : Body) → SaidByCleaner m → StoresItsOwn m → CarriesOf has_owner m
  cleaner_lists (body.Store m) may own = subst (λ (x : LogId). has_owner x ≡ true) (sym own) refl
  cleaner_lists (body.Listed m) may own = absurd may
  cleaner_lists _ may own = tt

  pub registry_lists : (part : ℕ) (what : Do) (b : BoardState) (to : NodeId) (m : Body) → board.RegistrySends part what b to m → CarriesOf has_owner m
  registry_lists part what b to (body.Store m) h = absurd h
  registry_lists part what b to (body.Listed m) h = absurd h
  registry_lists part what b to _ h = tt

  in_metas : (metas : List FragMeta) → MetasOf has_owner metas → (meta : FragMeta) → tables.In meta metas → NameOf has_owner meta.name
  in_metas [] all meta h = absurd h
  in_metas (m ∷ metas) all meta (inl e) = subst (λ (x : FragMeta). NameOf has_owner x.name) (sym e) all.0
  in_metas (m ∷ metas) all meta (inr h) = in_metas metas all.1 meta h

  pub listed_of : (x : Body) (m : Listed) → x ≡ body.Listed m → CarriesOf has_owner x → (meta : FragMeta) → tables.In meta m.held
      → NameOf has_owner meta.name
  listed_of x m fact carries meta held = in_metas m.held (subst (CarriesOf has_owner) fact carries) meta held

  -- ---- what nodes hold

  abbrev pub NodeKeeps : AnyNode → Type 0
  NodeKeeps (any.Client node) = Unit {0}
  NodeKeeps (any.Manager node) = Unit {0}
  NodeKeeps (any.Server node) = ServerHolds has_owner node
  NodeKeeps (any.Cleaner node) = Unit {0}
  NodeKeeps (any.Registry node) = Unit {0}

  abbrev pub AllKeep : List AnyNode → Type 0
  AllKeep nodes = AllByRecursion NodeKeeps nodes

  first_keeps : ServersStartBare → (name : NodeId) (s : Setup) (items : List Work) → NodeKeeps (any_start name s items)
  first_keeps bare (Client d) s items = tt
  first_keeps bare (Manager j) s items = tt
  first_keeps bare (Server v) s items = bare has_owner v s items
  first_keeps bare Cleaner s items = tt
  first_keeps bare Registry s items = tt

  each_keeps : ServersStartBare → (script : Script) (names : List NodeId) → AllKeep (map (first_node any_start script) names)
  each_keeps bare script [] = tt
  each_keeps bare script (name ∷ names) = (first_keeps bare name script.setup (items_of script.lines name), each_keeps bare script names)

  pub start_keeps : ServersStartBare → (script : Script) → AllKeep (first_nodes any_start script (cluster_of script.setup))
  start_keeps bare script = each_keeps bare script (nodes_of (cluster_of script.setup))
