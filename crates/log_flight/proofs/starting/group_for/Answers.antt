use Rattle.std.proofs.Common.{◌≡◌, IfOk, Some, sym, ap, subst, ◌∙◌}
use Rattle.std.specs.Prelude.{unwrap_or}
use Rattle.group_map.specs.declared.group.Group.{Group}
use Rattle.group_map.specs.Groups.{group_of, group_map_choose}
use Rattle.log_flight.specs.Flights.{no_group, group_for}
use Rattle.log_flight.proofs.starting.group_for.Goals as goal

pub returns-clause-chosen : goal.returns-clause-chosen
unfolding group_for
returns-clause-chosen c =
    let map = c.args.groups.now in
    let found : group_of map c.choose.result ≡ Some c.unwrap-group.result.now = rw c.unwrap-group.ensures at c.lookup.ensures.exact in
    let same : c.unwrap-group.result.now ≡ unwrap_or (group_of map (group_map_choose map.groups c.args.log.0 c.args.seq)) no_group =
    sym (ap (λ o. unwrap_or o no_group) (ap (group_of map) (sym c.choose.ensures.exact) ∙ found)) in
    subst (λ (x : Group). IfOk c.copy.result (λ g. g ≡ x)) same c.copy.ensures
