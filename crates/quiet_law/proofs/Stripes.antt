-- The group of a client's next segment: it is one of the setup's, over servers that exist, differ and never lost what they kept.
use Rattle.std.proofs.Common.{◌^◌, ◌≡◌, ℕ, ◌+◌, ◌-◌, ◌%◌, ◌==◌, ◌≤◌, ◌<◌, ◌&&◌, Bool, true, nat_le, List, [], ◌∷◌, map, length, Option, Some, None, refl, sym, ap, subst, ◌∙◌, mod-lt, arith}
use Rattle.std.specs.Prelude.{All, IsTrue, IsSomeAnd, find, nat_eq, unwrap_or}
use Rattle.std.specs.List.{AllByRecursion, IsDistinct}
use Rattle.std.proofs.lemmas.Bool.Decides.{nat_tests}
use Rattle.std.proofs.lemmas.Bool.{eqb-true}
use Rattle.std.proofs.lemmas.List.{get_or-replicate, length-map}
use Rattle.std.proofs.lemmas.List.Elements.{All-cons, All-head, All-nil, All-tail}
use Rattle.group_map.proofs.AlwaysCurrent.{some_current}
use Rattle.group_map.proofs.Numbers.{IsCurrent-chosen, length-numbered}
use Rattle.group_map.proofs.Presence.{is_present}
use Rattle.group_map.proofs.WellFormedMaps.{IsGroupMap-group_map_start}
use Rattle.group_map.specs.declared.group.Group.{Group}
use Rattle.group_map.specs.declared.group.Member.{Member}
use Rattle.group_map.specs.GroupMapState.{GroupMapState}
use Rattle.group_map.specs.Groups.{group_map_choose, current_ids, first_layout, generation_at, group_of}
use Rattle.group_map.specs.Sizes.{is_group_size}
use Rattle.group_map.specs.WellFormed.{IsGroupMap, IsNumbered, IsServer, IsStripe}
use Rattle.log_flight.specs.Flights.{group_for, no_group}
use Rattle.node_base.specs.Setups.{IsSetup}
use Rattle.version_model.specs.declared.work.Work.{Work}
use Rattle.xfs_base.proofs.Booleans.{by_test}
use Rattle.xfs_base.specs.declared.node.NodeId.{NodeId}
use Rattle.xfs_base.specs.declared.setup.Setup.{Setup}
use Rattle.quiet_nodes.specs.Layers.{IsFirst}
use Rattle.quiet_nodes.specs.Scene.{its_groups}
use Rattle.quiet_nodes.proofs.Tests.{le_test}

-- what is found is one of those that there are, and passes
found_is : (P : Group → Type 0) (test : Group → Bool) (gs : List Group) (g : Group) → All P gs → find test gs ≡ Some g → P g
found_is P test [] g all fact = absurd cc
found_is P test (x ∷ gs) g all fact =
    by_test (λ (o : Option Group). o ≡ Some g → P g) (test x) (Some x) (find test gs)
    (λ passes e. let same : x ≡ g = cc in subst P same (All-head P x gs all))
    (λ fails e. found_is P test gs g (All-tail P x gs all) e) fact

passes_is : (test : Group → Bool) (gs : List Group) (g : Group) → find test gs ≡ Some g → test g ≡ true
passes_is test [] g fact = absurd cc
passes_is test (x ∷ gs) g fact =
    by_test (λ (o : Option Group). o ≡ Some g → test g ≡ true) (test x) (Some x) (find test gs)
    (λ passes e. let same : x ≡ g = cc in subst (λ z. test z ≡ true) same passes)
    (λ fails e. passes_is test gs g e) fact

module _ (setup : Setup) (works : NodeId → List Work) (ok : IsSetup setup) where
  abbrev groups : GroupMapState
  groups = its_groups setup works

  well_formed : IsGroupMap groups
  well_formed =
      IsGroupMap-group_map_start setup.servers setup.groups ok.count.0 (let few = ok.count.1 in omega arith) ok.sizes ok.exist ok.differ ok.parity

  low_ids : (id : ℕ) (gs : List Group) → IsNumbered id gs → id + length gs ≤ 2 ^ 32 → All (λ (g : Group). g.id < 2 ^ 32) gs
  low_ids id [] numbered h = All-nil (λ (g : Group). g.id < 2 ^ 32)
  low_ids id (g ∷ gs) numbered h =
      All-cons (λ (x : Group). x.id < 2 ^ 32) g gs (let is = numbered.0 in omega (arith, h, is)) (low_ids (id + 1) gs numbered.1 (omega (arith, h)))

  few_groups : length groups.groups ≤ 8
  few_groups =
      subst (λ n. n ≤ 8) (sym (length-numbered 1 (map first_layout setup.groups) ∙ length-map setup.groups first_layout)) ok.count.1

  all_low : All (λ (g : Group). g.id < 2 ^ 32) groups.groups
  all_low = low_ids 1 groups.groups well_formed.by_id (let few = few_groups in omega (arith, few))

  -- a group that segments are striped over
  pub record IsStriped (group : Group) : Type 0 where
    pub found : group_of groups group.id ≡ Some group
    pub each : AllByRecursion (IsFirst setup) group.members
    pub differ : IsDistinct nat_eq (map (λ (m : Member). m.server) group.members)
    pub some : 1 ≤ length group.members
    pub low : group.id < 2 ^ 32
    pub few : length group.members ≤ 8

  first_is : (m : Member) → IsServer setup.servers m.server → m.generation ≡ generation_at groups.generations m.server → IsFirst setup m
  first_is m exists present = (
    present ∙ get_or-replicate setup.servers (m.server - 1) 1 0 (let least = exists.0 in let most = exists.1 in omega arith),
    ap (λ t. t && nat_le m.server setup.servers) (le_test 1 m.server exists.0) ∙ le_test m.server setup.servers exists.1,
  )

  all_first : (ms : List Member) → All (λ (m : Member). IsServer setup.servers m.server) ms
      → All (λ (m : Member). m.generation ≡ generation_at groups.generations m.server) ms → AllByRecursion (IsFirst setup) ms
  all_first [] exist present = tt
  all_first (m ∷ ms) exist present = (
    first_is m (All-head (λ (x : Member). IsServer setup.servers x.server) m ms exist)
        (All-head (λ (x : Member). x.generation ≡ generation_at groups.generations x.server) m ms present),
    all_first ms (All-tail (λ (x : Member). IsServer setup.servers x.server) m ms exist)
        (All-tail (λ (x : Member). x.generation ≡ generation_at groups.generations x.server) m ms present),
  )

  among : (log seq : ℕ) → (log + seq) % length (current_ids groups.groups) < length (current_ids groups.groups)
  among log seq = mod-lt (log + seq) (some_current groups.groups well_formed.current)

  at_least : (parity n : ℕ) → is_group_size parity n ≡ true → 1 ≤ n
  at_least parity n h = grind (arith, nat_tests)

  at_most : (parity n : ℕ) → is_group_size parity n ≡ true → n ≤ 8
  at_most parity n h = grind (arith, nat_tests)

  striped_by : (log seq : ℕ) (o : Option Group) → group_of groups (group_map_choose groups.groups log seq) ≡ o → IsSomeAnd o (λ (g : Group). IsTrue g.current)
      → IsStriped (group_for groups log seq)
  unfolding group_for
  striped_by log seq None fact some = absurd some
  striped_by log seq (Some g) fact current =
      let stripe : IsStripe setup.servers g.parity g.members =
      found_is (λ (x : Group). IsStripe setup.servers x.parity x.members) (λ (x : Group). x.id == group_map_choose groups.groups log seq) groups.groups g well_formed.stripes fact in
      let its_id : g.id ≡ group_map_choose groups.groups log seq =
      eqb-true g.id (group_map_choose groups.groups log seq) (passes_is (λ (x : Group). x.id == group_map_choose groups.groups log seq) groups.groups g fact) in
      subst IsStriped (sym (ap (λ o. unwrap_or o no_group) fact)) (record {
        found = subst (λ id. group_of groups id ≡ Some g) (sym its_id) fact;
        each = all_first g.members stripe.exist (is_present groups (group_map_choose groups.groups log seq) g well_formed.present fact current);
        differ = stripe.differ;
        low = found_is (λ (x : Group). x.id < 2 ^ 32) (λ (x : Group). x.id == group_map_choose groups.groups log seq) groups.groups g all_low fact;
        some = at_least g.parity (length g.members) stripe.size;
        few = at_most g.parity (length g.members) stripe.size;
      })

  -- that of the next segment of a log is so
  pub striped : (log seq : ℕ) → IsStriped (group_for groups log seq)
  striped log seq =
      striped_by log seq (group_of groups (group_map_choose groups.groups log seq)) refl
      (IsCurrent-chosen 1 groups.groups ((log + seq) % length (current_ids groups.groups)) well_formed.by_id (among log seq))
