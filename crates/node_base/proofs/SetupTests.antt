-- What the tests of a setup tell.
use Rattle.std.proofs.Common.{◌≡◌, ◌≤◌, ℕ, Bool, true, false, cond, ◌&&◌, ◌||◌, not, nat_eq, List, [], ◌∷◌, length, get_or, refl, sym, ap, ◌∙◌}
use Rattle.std.specs.Prelude.{All, None, Some, find}
use Rattle.std.specs.List.{IsDistinct, AllByRecursion, list_all, list_any}
use Rattle.std.specs.Option.{option_map}
use Rattle.std.proofs.lemmas.Bool.{leb-true}
use Rattle.std.proofs.lemmas.List.Sums.{AllPass-from_list_all}
use Rattle.xfs_base.specs.declared.setup.GroupSetup.{GroupSetup}
use Rattle.xfs_base.specs.declared.setup.Setup.{Setup}
use Rattle.xfs_base.proofs.Booleans.{contrary, and_first, and_second, not_true}
use Rattle.xfs_base.specs.Limits.{most_clients, most_managers}
use Rattle.group_map.specs.Sizes.{IsParity, is_group_size}
use Rattle.group_map.specs.WellFormed.{IsServer}
use Rattle.node_base.specs.Setups.{IsSetup, is_within, are_distinct, is_group, has_nodes, has_groups, is_setup}

within : (least limit n : ℕ) → is_within least limit n ≡ true → (least ≤ n) × (n ≤ limit)
within least limit n h = (leb-true least n (and_first _ _ h), leb-true n limit (and_second _ _ h))

-- neither of two holds where one or the other does not
first_fails : (a b : Bool) → (a || b) ≡ false → a ≡ false
first_fails true b h = contrary (sym h)
first_fails false b h = refl

second_fails : (a b : Bool) → (a || b) ≡ false → b ≡ false
second_fails true b h = contrary (sym h)
second_fails false b h = h

none_equal : (n : ℕ) (ns : List ℕ) → list_any (nat_eq n) ns ≡ false → AllByRecursion (λ m. nat_eq n m ≡ false) ns
none_equal n [] h = tt
none_equal n (m ∷ ns) h = (first_fails (nat_eq n m) (list_any (nat_eq n) ns) h, none_equal n ns (second_fails (nat_eq n m) (list_any (nat_eq n) ns) h))

distinct : (ns : List ℕ) → are_distinct ns ≡ true → IsDistinct nat_eq ns
unfolding IsDistinct
distinct [] h = tt
distinct (n ∷ ns) h = (
  none_equal n ns (not_true (list_any (nat_eq n) ns) (and_first (not (list_any (nat_eq n) ns)) (are_distinct ns) h)),
  distinct ns (and_second (not (list_any (nat_eq n) ns)) (are_distinct ns) h),
)

-- the parts of a group
module _ (servers : ℕ) (g : GroupSetup) (h : is_group servers g ≡ true) where
  named : (list_all (is_within 1 servers) g.servers && are_distinct g.servers) ≡ true
  named = and_first (list_all (is_within 1 servers) g.servers && are_distinct g.servers) (is_within 1 2 g.parity && is_group_size g.parity (length g.servers)) h

  sized : (is_within 1 2 g.parity && is_group_size g.parity (length g.servers)) ≡ true
  sized = and_second (list_all (is_within 1 servers) g.servers && are_distinct g.servers)
      (is_within 1 2 g.parity && is_group_size g.parity (length g.servers)) h

  group_exist : All (IsServer servers) g.servers
  group_exist k d lt = within 1 servers _ (AllPass-from_list_all (is_within 1 servers) g.servers (and_first _ (are_distinct g.servers) named) k d lt)

  group_differ : IsDistinct nat_eq g.servers
  group_differ = distinct g.servers (and_second (list_all (is_within 1 servers) g.servers) (are_distinct g.servers) named)

  group_parity : IsParity g.parity
  group_parity = within 1 2 g.parity (and_first (is_within 1 2 g.parity) (is_group_size g.parity (length g.servers)) sized)

  group_size : is_group_size g.parity (length g.servers) ≡ true
  group_size = and_second (is_within 1 2 g.parity) (is_group_size g.parity (length g.servers)) sized

abbrev is_bad : GroupSetup → Bool
is_bad g = not (is_group_size g.parity (length g.servers))

none_bad : (servers : ℕ) (gs : List GroupSetup) → list_all (is_group servers) gs ≡ true → find is_bad gs ≡ None
none_bad servers [] h = refl
none_bad servers (g ∷ gs) h =
    ap (λ b. cond (not b) (Some g) (find is_bad gs)) (group_size servers g (and_first (is_group servers g) (list_all (is_group servers) gs) h))
    ∙ none_bad servers gs (and_second (is_group servers g) (list_all (is_group servers) gs) h)

pub is_right : (setup : Setup) → is_setup setup ≡ true → IsSetup setup
is_right setup h =
    let nodes = and_first (has_nodes setup) (is_within 1 1024 setup.cache && has_groups setup) h in
    let rest = and_second (has_nodes setup) (is_within 1 1024 setup.cache && has_groups setup) h in
    let groups = and_second (is_within 1 1024 setup.cache) (has_groups setup) rest in
    let others = and_second (is_within 1 most_clients setup.clients) (is_within 1 most_managers setup.managers && is_within 3 12 setup.servers) nodes in
    let each = and_second (is_within 1 8 (length setup.groups)) (list_all (is_group setup.servers) setup.groups) groups in
    let pass = AllPass-from_list_all (is_group setup.servers) setup.groups each in
    record {
      clients = within 1 most_clients setup.clients (and_first (is_within 1 most_clients setup.clients) (is_within 1 most_managers setup.managers && is_within 3 12 setup.servers) nodes);
      managers = within 1 most_managers setup.managers (and_first (is_within 1 most_managers setup.managers) (is_within 3 12 setup.servers) others);
      servers = within 3 12 setup.servers (and_second (is_within 1 most_managers setup.managers) (is_within 3 12 setup.servers) others);
      cache = within 1 1024 setup.cache (and_first (is_within 1 1024 setup.cache) (has_groups setup) rest);
      count = within 1 8 (length setup.groups) (and_first (is_within 1 8 (length setup.groups)) (list_all (is_group setup.servers) setup.groups) groups);
      exist = λ k d lt. group_exist setup.servers (get_or setup.groups k d) (pass k d lt);
      differ = λ k d lt. group_differ setup.servers (get_or setup.groups k d) (pass k d lt);
      parity = λ k d lt. group_parity setup.servers (get_or setup.groups k d) (pass k d lt);
      sizes = ap (λ found. option_map (λ g. length g.servers) found) (none_bad setup.servers setup.groups each);
    }
