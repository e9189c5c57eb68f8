use Rattle.std.proofs.Common.{◌≡◌, ◌+◌, ◌≤◌, ◌++◌, List, ℕ, length, map, sym, subst, arith, rules}
use Rattle.std.specs.Prelude.{filter}
use Rattle.std.proofs.lemmas.Grind.{common_steps}
use Rattle.group_map.specs.declared.group.Group.{Group}
use Rattle.group_map.specs.GroupMapState.{GroupMapState}
use Rattle.group_map.specs.Groups.{numbered, followers, generations_after, retired, is_hit}
use Rattle.group_map.specs.WellFormed.{IsServer, IsGroupMap}
use Rattle.group_map.proofs.WellFormedMaps.{IsGroupMap-after_loss}
use Rattle.xfs_base.specs.Limits.{u32_end}
use Rattle.group_map.proofs.group_map.GroupMap.after_loss.Goals as goal

pub invariant_of-self : goal.invariant_of-self
invariant_of-self c =
    let after : List ℕ = generations_after c.self.inside.generations c.args.server c.args.generation in
    let generations : c.from_vec.result ≡ generations_after c.self.inside.generations c.args.server c.args.generation =
    first_of (search rules, grind (arith, common_steps)) in
    let groups : c.in_ok-groups-2.groups ≡ map (retired c.args.server) c.self.inside.groups
    ++ numbered (length c.self.inside.groups + 1)
    (followers (generations_after c.self.inside.generations c.args.server c.args.generation) c.args.server c.self.inside.groups) =
    first_of (search rules, grind (arith, common_steps))
    in
    let room : length c.self.inside.groups + length (filter (is_hit c.args.server) c.self.inside.groups) ≤ u32_end =
    subst (λ (s : GroupMapState). length s.groups + length (filter (is_hit c.args.server) s.groups) ≤ u32_end) (sym c.self.view_is) c.requires.room
    in
    let exists : IsServer c.self.inside.servers c.args.server =
    subst (λ (s : GroupMapState). IsServer s.servers c.args.server) (sym c.self.view_is) c.requires.exists in
    subst (λ (ns : List ℕ). IsGroupMap (record { servers = c.self.inside.servers; generations = ns; groups = c.in_ok-groups-2.groups })) (sym generations)
    (subst (λ (gs : List Group). IsGroupMap
    (record { servers = c.self.inside.servers; generations = generations_after c.self.inside.generations c.args.server c.args.generation; groups = gs }))
    (sym groups)
    (IsGroupMap-after_loss
    (record { servers = c.self.inside.servers; generations = c.self.inside.generations; groups = c.self.inside.groups })
    c.args.server c.args.generation exists room c.self.invariant))
