-- The stripes that the groups of a run's maps name are those of its settings, and their ids fit.
use Rattle.std.proofs.Common.{◌≡◌, ◌^◌, ℕ, ◌+◌, ◌==◌, ◌<◌, ◌≤◌, List, [], ◌∷◌, Option, None, Some, length, unwrap_or, refl, sym, ap, subst, ◌∙◌, arith}
use Rattle.std.specs.Prelude.{find}
use Rattle.std.proofs.lemmas.Bool.{eqb-true}
use Rattle.node_logs.specs.client_log_tie.Texts.{MapFits}
use Rattle.core_world.specs.declared.any_node.AnyNode.{AnyNode}
use Rattle.group_map.specs.declared.group.Group.{Group}
use Rattle.group_map.specs.GroupMapState.{GroupMapState}
use Rattle.group_map.specs.Groups.{group_map_choose, known_group as group_in, group_of}
use Rattle.group_map.specs.WellFormed.{IsGroupMap, IsNumbered}
use Rattle.log_flight.specs.Flights.{group_for, no_group}
use Rattle.log_tie.specs.Setting.{Setting, Stripe}
use Rattle.node_logs.proofs.node_log_tie.WholeMaps.{Chosen, the_chosen}
use Rattle.node_logs.specs.node_log_tie.ServerEvents.{NamesStripes}
use Rattle.world_base.specs.declared.world.World.{World}
use Rattle.run_laws.proofs.world_logs.Groups.{HasMap, Names}
use Rattle.headline.specs.Logs.{Role}
use Rattle.run_laws.specs.world_logs.Settings.{setting_of, stripe_by}
use Rattle.headline.specs.Servers.{group_at, groups_of}
use Rattle.xfs_base.proofs.Booleans.{by_test}
use Rattle.xfs_base.specs.Limits.{u32_end}

module _ (base : Setting) (end : World AnyNode) (servers : ℕ) where
  pub names_at_end : (o : Option Group) (stripe : Stripe) → Names o stripe → stripe_by o ≡ stripe
  names_at_end o stripe n = ap stripe_by n.named ∙ n.stripe_is

  -- a stripe with a member is the one of a group
  pub striped : (o : Option Group) → 0 < length (stripe_by o).members → (group : Group) × (o ≡ Some group)
  striped None some = absurd (let s = some in omega arith)
  striped (Some group) some = (group, refl)

-- ---- ids are small

numbered_below : (first id : ℕ) (gs : List Group) (group : Group) → IsNumbered first gs → find (λ (g : Group). g.id == id) gs ≡ Some group
    → group.id < first + length gs
numbered_below first id [] group numbered fact = absurd cc
numbered_below first id (g ∷ gs) group numbered fact =
    by_test (λ (o : Option Group). o ≡ Some group → group.id < first + length (g ∷ gs)) (g.id == id) (Some g) (find (λ (x : Group). x.id == id) gs)
    (λ t e. let same : g.id ≡ group.id = ap (λ (o : Option Group). (unwrap_or o g).id) e in let n = numbered.0 in omega arith)
    (λ t e. let below = numbered_below (first + 1) id gs group numbered.1 e in omega arith) fact

-- a group is found by its id
found_id : (id : ℕ) (gs : List Group) (group : Group) → find (λ (g : Group). g.id == id) gs ≡ Some group → group.id ≡ id
found_id id [] group fact = absurd cc
found_id id (g ∷ gs) group fact =
    by_test (λ (o : Option Group). o ≡ Some group → group.id ≡ id) (g.id == id) (Some g) (find (λ (x : Group). x.id == id) gs)
    (λ t e. ap (λ (o : Option Group). (unwrap_or o g).id) (sym e) ∙ eqb-true g.id id t) (λ t e. found_id id gs group e) fact

-- the ids of the groups of a map fit their range
pub map_fits : (m : GroupMapState) → IsGroupMap m → MapFits m
map_fits m ok log seq =
    let c : Chosen m ok log seq = the_chosen m ok log seq in
    let below = numbered_below 1 c.group.id m.groups c.group ok.by_id c.found in
    let few = ok.few in
    subst (λ (g : Group). g.id < 2 ^ 32) (sym c.picked) (small c.group.id (length m.groups) below few)
  where
    small : (id count : ℕ) → id < 1 + count → count ≤ u32_end → id < 2 ^ 32
    small id count below few = omega arith

-- so are those that the registry has at the end of the run
pub ids_fit : (o : Option AnyNode) → HasMap o → (id : ℕ) (group : Group) → group_in (groups_of o) id ≡ Some group → id < 2 ^ 32
ids_fit o map id group fact = by (groups_of o) refl fact
  where
    by : (m : Option GroupMapState) → groups_of o ≡ m → group_in m id ≡ Some group → id < 2 ^ 32
    by None at fact = absurd cc
    by (Some m) at fact =
        let ok : IsGroupMap m = map m at in
        let below = numbered_below 1 id m.groups group ok.by_id fact in
        let same = found_id id m.groups group fact in
        let few = ok.few in omega arith

-- the groups of a map that names stripes of the run are among those, and their ids fit too
module _ (base : Setting) (end : World AnyNode) (servers : ℕ) (r : Role) (few : (id : ℕ) (group : Group) → group_at end id ≡ Some group → id < 2 ^ 32) where
  pub names_fit : (m : GroupMapState) → NamesStripes (setting_of base end servers r) m → MapFits m
  unfolding group_for
  names_fit m names log seq = by (group_of m (group_map_choose m.groups log seq)) refl
    where
      by : (o : Option Group) → group_of m (group_map_choose m.groups log seq) ≡ o → (unwrap_or o no_group).id < 2 ^ 32
      by None at = omega arith
      by (Some group) at =
          let id : ℕ = group_map_choose m.groups log seq in
          let cut = (names.cut id group at).least in
          let same = names.named id group at in
          let found = striped base end servers (group_at end id) (let e = ap (λ (s : Stripe). length s.members) same in omega arith) in
          let small = few id found.0 found.1 in
          let own = found_id id m.groups group at in omega arith
