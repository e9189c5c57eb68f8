-- A setup of which a run can be started.
use Rattle.std.specs.Prelude.{◌≡◌, ◌≤◌, ℕ, Bool, true, ◌&&◌, not, nat_le, List, [], ◌∷◌, All, None, length, nat_eq}
use Rattle.std.specs.List.{IsDistinct, list_all, list_any}
use Rattle.xfs_base.specs.declared.setup.GroupSetup.{GroupSetup}
use Rattle.xfs_base.specs.declared.setup.Setup.{Setup}
use Rattle.xfs_base.specs.Limits.{most_clients, most_managers}
use Rattle.group_map.specs.Sizes.{IsParity, is_group_size, bad_size}
use Rattle.group_map.specs.WellFormed.{IsServer}

-- how many nodes there are of each kind, and how many clean blocks a client may cache; and groups of
-- servers that exist and differ, as many as their parity allows
pub record IsSetup (setup : Setup) : Type 0 where
  pub clients : (1 ≤ setup.clients) × (setup.clients ≤ most_clients)
  pub managers : (1 ≤ setup.managers) × (setup.managers ≤ most_managers)
  pub servers : (3 ≤ setup.servers) × (setup.servers ≤ 12)
  pub cache : (1 ≤ setup.cache) × (setup.cache ≤ 1024)
  pub count : (1 ≤ length setup.groups) × (length setup.groups ≤ 8)
  pub exist : All (λ g. All (IsServer setup.servers) g.servers) setup.groups
  pub differ : All (λ g. IsDistinct nat_eq g.servers) setup.groups
  pub parity : All (λ g. IsParity g.parity) setup.groups
  pub sizes : bad_size setup.groups ≡ None

-- ---- the same as a test

abbrev pub is_within : ℕ → ℕ → ℕ → Bool
is_within least limit n = nat_le least n && nat_le n limit

abbrev pub are_distinct : List ℕ → Bool
are_distinct [] = true
are_distinct (n ∷ ns) = not (list_any (nat_eq n) ns) && are_distinct ns

-- a group of servers that exist and differ, as many as its parity allows
abbrev pub is_group : ℕ → GroupSetup → Bool
is_group servers g =
    (list_all (is_within 1 servers) g.servers && are_distinct g.servers) && (is_within 1 2 g.parity && is_group_size g.parity (length g.servers))

-- there are as many nodes of each kind as there may be
abbrev pub has_nodes : Setup → Bool
has_nodes setup = is_within 1 most_clients setup.clients && (is_within 1 most_managers setup.managers && is_within 3 12 setup.servers)

-- there are as many groups as there may be, each of them right
abbrev pub has_groups : Setup → Bool
has_groups setup = is_within 1 8 (length setup.groups) && list_all (is_group setup.servers) setup.groups

abbrev pub is_setup : Setup → Bool
is_setup setup = has_nodes setup && (is_within 1 1024 setup.cache && has_groups setup)
