-- A well formed map whose groups the setting names is a whole map.
use Rattle.std.proofs.Common.{◌≡◌, ℕ, ◌+◌, ◌%◌, ◌==◌, ◌<◌, ◌≤◌, Bool, true, false, cond, List, [], ◌∷◌, map, length, get_or, Option, Some, None, refl, sym, ap, subst, ◌∙◌, mod-lt, arith}
use Rattle.std.specs.Prelude.{All, IsTrue, IsSomeAnd, find, nat_lt, unwrap_or}
use Rattle.std.proofs.lemmas.Bool.Decides.{Decides-eqb, nat_tests}
use Rattle.std.proofs.lemmas.List.{get_or-map, length-map}
use Rattle.std.proofs.lemmas.List.Elements.{All-head, All-tail}
use Rattle.std.proofs.lemmas.Map.Made.{AllPairs-from_IsDistinct}
use Rattle.std.proofs.lemmas.Bool.{eqb-true}
use Rattle.xfs_base.proofs.Booleans.{by_test}
use Rattle.group_map.specs.declared.group.Group.{Group}
use Rattle.group_map.specs.declared.group.Member.{Member}
use Rattle.group_map.specs.GroupMapState.{GroupMapState}
use Rattle.group_map.specs.Groups.{group_of, generation_at, current_ids, group_map_choose}
use Rattle.group_map.specs.Sizes.{is_group_size}
use Rattle.group_map.specs.WellFormed.{IsServer, IsGroupMap}
use Rattle.group_map.specs.WellFormed as stripes
use Rattle.group_map.proofs.AlwaysCurrent.{some_current}
use Rattle.group_map.proofs.Numbers.{IsCurrent-chosen}
use Rattle.group_map.proofs.Presence.{is_present}
use Rattle.stripe_code.specs.Stripe.{IsCut}
use Rattle.log_flight.specs.Fate.{has_server}
use Rattle.log_flight.specs.Flights.{group_for, no_group, no_member, server_of}
use Rattle.log_tie.specs.Setting.{Setting, present_at, IsStripe, IsMap}
use Rattle.log_tie.specs.Scans.{WholeMap}
use Rattle.node_logs.specs.node_log_tie.RegistryEvents.{NamesGroups}

-- ---- what is found

found_all : (P : Group → Type 0) (test : Group → Bool) (gs : List Group) (g : Group) → All P gs → find test gs ≡ Some g → P g
found_all P test [] g all fact = absurd cc
found_all P test (x ∷ xs) g all fact =
    by_test (λ (o : Option Group). o ≡ Some g → P g) (test x) (Some x) (find test xs) (λ t e. let same : x ≡ g = cc in subst P same (All-head P x xs all))
    (λ t e. found_all P test xs g (All-tail P x xs all) e) fact

found_passes : (test : Group → Bool) (gs : List Group) (g : Group) → find test gs ≡ Some g → test g ≡ true
found_passes test [] g fact = absurd cc
found_passes test (x ∷ xs) g fact =
    by_test (λ (o : Option Group). o ≡ Some g → test g ≡ true) (test x) (Some x) (find test xs)
    (λ t e. let same : x ≡ g = cc in subst (λ z. test z ≡ true) same t)
    (λ t e. found_passes test xs g e) fact

-- a group that an id names has that id
pub has_its_id : (m : GroupMapState) (id : ℕ) (group : Group) → group_of m id ≡ Some group → group.id ≡ id
has_its_id m id group fact = eqb-true group.id id (found_passes (λ (x : Group). x.id == id) m.groups group fact)

module _ (m : GroupMapState) (ok : IsGroupMap m) where
  abbrev HasStripe : Group → Type 0
  HasStripe group = stripes.IsStripe m.servers group.parity group.members

  pub its_stripe : (id : ℕ) (group : Group) → group_of m id ≡ Some group → stripes.IsStripe m.servers group.parity group.members
  its_stripe id group fact = found_all HasStripe (λ (x : Group). x.id == id) m.groups group ok.stripes fact

  -- ---- what is chosen is current

  pub record Chosen (log seq : ℕ) : Type 0 where
    pub group : Group
    pub picked : group_for m log seq ≡ group
    pub found : group_of m group.id ≡ Some group
    pub current : group.current ≡ true

  among : (log seq : ℕ) → (log + seq) % length (current_ids m.groups) < length (current_ids m.groups)
  among log seq = mod-lt (log + seq) (some_current m.groups ok.current)

  choice : (log seq : ℕ) → IsSomeAnd (group_of m (group_map_choose m.groups log seq)) (λ (x : Group). IsTrue x.current)
  choice log seq = IsCurrent-chosen 1 m.groups ((log + seq) % length (current_ids m.groups)) ok.by_id (among log seq)

  chosen_at : (log seq : ℕ) (o : Option Group) → group_of m (group_map_choose m.groups log seq) ≡ o → IsSomeAnd o (λ (x : Group). IsTrue x.current) → Chosen log seq
  unfolding group_for
  chosen_at log seq None fact some = absurd some
  chosen_at log seq (Some group) fact current = record {
    group = group;
    picked = ap (λ o. unwrap_or o no_group) fact;
    found = subst (λ id. group_of m id ≡ Some group) (sym (has_its_id m (group_map_choose m.groups log seq) group fact)) fact;
    current = current;
  }

  pub the_chosen : (log seq : ℕ) → Chosen log seq
  the_chosen log seq = chosen_at log seq (group_of m (group_map_choose m.groups log seq)) refl (choice log seq)

  -- ---- its members

  module _ (group : Group) (stripe : stripes.IsStripe m.servers group.parity group.members) where
    exists : (j : ℕ) → j < length group.members → IsServer m.servers (server_of group.members j)
    exists j below = stripe.exist j no_member below

    servers_at : (j : ℕ) → j < length group.members → get_or (map (λ (x : Member). x.server) group.members) j 0 ≡ server_of group.members j
    servers_at j below = get_or-map (λ (x : Member). x.server) group.members j no_member 0 below

    apart : (i j : ℕ) → i < j → j < length group.members → server_of group.members i ≡ server_of group.members j → ⊥
    apart i j less below same =
        let pairs = AllPairs-from_IsDistinct Decides-eqb (map (λ (x : Member). x.server) group.members) stripe.differ in
        let long = length-map group.members (λ (x : Member). x.server) in
        pairs i j 0 less (omega arith) (servers_at i (omega arith) ∙ (same ∙ sym (servers_at j below)))

    differ : (i j : ℕ) → i < length group.members → j < length group.members → server_of group.members i ≡ server_of group.members j → i ≡ j
    differ i j a b same = by (nat_lt i j) (nat_lt j i) refl refl
      where
        by : (s t : Bool) → nat_lt i j ≡ s → nat_lt j i ≡ t → i ≡ j
        by true t e f = absurd (apart i j (grind (arith, nat_tests)) b same)
        by false true e f = absurd (apart j i (grind (arith, nat_tests)) a (sym same))
        by false false e f = grind (arith, nat_tests)

    has_one : (v : ℕ) → IsServer m.servers v → has_server m v ≡ true
    has_one v fact = let low = fact.0 in let high = fact.1 in grind (arith, nat_tests)

    size : (2 ≤ length group.members) × IsCut (length group.members) group.parity
    size =
        let fits : is_group_size group.parity (length group.members) ≡ true = stripe.size in
        let least : group.parity + 2 ≤ length group.members = grind (arith, nat_tests) in
        let limit : length group.members ≤ 8 = grind (arith, nat_tests) in
        (omega arith, record { some = stripe.one_or_two.0; few = stripe.one_or_two.1; least = least; limit = limit })

  module _ (g : Setting) (servers : m.servers ≡ g.servers) (named : NamesGroups g m) where
    chosen_is_stripe : (group : Group) → group_of m group.id ≡ Some group → group.current ≡ true → IsStripe g m group
    chosen_is_stripe group found current =
        let stripe = its_stripe group.id group found in
        record {
          some = (let s = (size group stripe).0 in omega arith);
          exist = λ j below. (let e = exists group stripe j below in let k = servers in let h = e.1 in omega arith);
          differ = differ group stripe;
          present = λ j below.
              is_present m group.id group ok.present found current j no_member below
              ∙ sym (ap (λ t. cond t (generation_at m.generations (server_of group.members j)) 0)
              (has_one group stripe (server_of group.members j) (exists group stripe j below)));
          named = named group.id group found;
        }

    is_map : IsMap g m
    is_map log seq = let c = the_chosen log seq in subst (IsStripe g m) (sym c.picked) (chosen_is_stripe c.group c.found c.current)

    module _ (registry : ℕ → ℕ) (known : (v : ℕ) → has_server m v ≡ true → registry v ≡ generation_at m.generations v) where
      past : (v : ℕ) → present_at m v ≤ registry v
      past v = by (has_server m v) refl
        where
          by : (t : Bool) → has_server m v ≡ t → cond t (generation_at m.generations v) 0 ≤ registry v
          by true fact = (let k = known v fact in omega arith)
          by false fact = omega arith

      pub whole_map : WholeMap g registry m
      whole_map = record {
        seen = record { whole = is_map; past = past };
        size = servers;
        named = named;
        some = λ id group fact j below. (let e = exists group (its_stripe id group fact) j below in let h = e.0 in omega arith);
        cut = λ id group fact. (size group (its_stripe id group fact)).1;
      }
