-- One step of the walk over the groups that ids name.
use Rattle.std.proofs.Common.{◌≡◌, ℕ, suc, ◌+◌, ◌-◌, ◌<◌, Bool, true, ◌&&◌, sym, ap, ◌∙◌, arith}
use Rattle.std.specs.Prelude.{Option, Some}
use Rattle.std.specs.List.{range_with_len}
use Rattle.group_map.specs.declared.group.Group.{Group}
use Rattle.group_map.specs.Groups.{group_of}
use Rattle.group_map.specs.GroupMapState.{GroupMapState}
use Rattle.node_base.specs.Maps.{has_it, has_next, has_named}

-- a group that is among the others leaves the rest to decide
next_kept : (others : GroupMapState) (found : Option Group) (group : Group) (rest : Bool) → found ≡ Some group → has_it group (group_of others group.id) ≡ true
    → has_next others found rest ≡ rest
next_kept others found group rest e kept =
    ap (λ o. has_next others o rest) e ∙ ap (λ b. b && rest) kept

pub named_step : (groups others : GroupMapState) (id end : ℕ) (group : Group) → id < end → group_of groups id ≡ Some group
    → has_it group (group_of others group.id) ≡ true
    → has_named groups others (range_with_len (id + 1) (end - (id + 1))) ≡ has_named groups others (range_with_len id (end - id))
named_step groups others id end group lt e kept =
    let k : end - id ≡ suc (end - (id + 1)) = omega arith in
    let rest = has_named groups others (range_with_len (id + 1) (end - (id + 1))) in
    sym (next_kept others (group_of groups id) group rest e kept) ∙ sym (ap (λ n. has_named groups others (range_with_len id n)) k)
