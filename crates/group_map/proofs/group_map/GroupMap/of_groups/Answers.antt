use Rattle.std.proofs.Common.{◌≡◌, List, ℕ, map, sym, subst, arith, rules}
use Rattle.std.specs.Prelude.{replicate}
use Rattle.std.proofs.lemmas.Grind.{common_steps}
use Rattle.group_map.specs.declared.group.Group.{Group}
use Rattle.group_map.specs.Groups.{first_layout, numbered}
use Rattle.group_map.specs.WellFormed.{IsGroupMap}
use Rattle.group_map.proofs.WellFormedMaps.{IsGroupMap-group_map_start}
use Rattle.group_map.proofs.group_map.GroupMap.of_groups.Goals as goal

pub invariant_of-result : goal.invariant_of-result
invariant_of-result c =
    let generations : c.from_vec.result ≡ replicate c.args.servers 1 = first_of (search rules, grind (arith, common_steps)) in
    let groups : c.in_ok-from_list.field-0 ≡ numbered 1 (map first_layout c.args.groups.now) = first_of (search rules, grind (arith, common_steps)) in
    subst (λ (ns : List ℕ). IsGroupMap (record { servers = c.args.servers; generations = ns; groups = c.in_ok-from_list.field-0 })) (sym generations)
    (subst (λ (gs : List Group). IsGroupMap (record { servers = c.args.servers; generations = replicate c.args.servers 1; groups = gs })) (sym groups)
    (IsGroupMap-group_map_start c.args.servers c.args.groups.now c.requires.count.0 c.requires.count.1 c.requires.fits c.requires.exist c.requires.differ
    c.requires.parity))
