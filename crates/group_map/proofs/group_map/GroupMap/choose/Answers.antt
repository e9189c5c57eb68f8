use Rattle.std.proofs.Common.{◌≡◌, ◌+◌, ◌<◌, ◌%◌, length, sym, ap, ◌∙◌, subst, arith}
use Rattle.std.specs.Prelude.{◌==◌, IsTrue, IsSomeAnd, slice_index, find}
use Rattle.group_map.specs.declared.group.Group.{Group}
use Rattle.group_map.specs.GroupMapState.{GroupMapState}
use Rattle.group_map.specs.Groups.{group_of, current_ids}
use Rattle.group_map.proofs.AlwaysCurrent.{some_current}
use Rattle.group_map.proofs.Numbers.{IsCurrent-chosen}
use Rattle.group_map.proofs.group_map.GroupMap.choose.Goals as goal

pub nonzero_rem-place : goal.nonzero_rem-place
nonzero_rem-place c =
    subst (λ n. 0 < n) (sym c.current_count.ensures)
    (subst (λ gs. 0 < length (current_ids gs)) (sym c.as_slice-groups.ensures) (some_current c.self.inside.groups c.self.invariant.current))

pub current_at-requires : goal.current_at-requires
current_at-requires c =
    let some : 0 < length (current_ids c.as_slice-groups.result.now) =
    subst (λ gs. 0 < length (current_ids gs)) (sym c.as_slice-groups.ensures) (some_current c.self.inside.groups c.self.invariant.current)
    in
    let count : c.current_count.result ≡ length (current_ids c.as_slice-groups.result.now) = c.current_count.ensures in
    let positive : 0 < c.current_count.result = omega arith in
    omega arith

pub returns-clause-current : goal.returns-clause-current
returns-clause-current c =
    let some : 0 < length (current_ids c.self.inside.groups) = some_current c.self.inside.groups c.self.invariant.current in
    let count : c.current_count.result ≡ length (current_ids c.self.inside.groups) =
    c.current_count.ensures ∙ ap (λ gs. length (current_ids gs)) c.as_slice-groups.ensures in
    let positive : 0 < c.current_count.result = omega arith in
    let below : (c.from.result + c.args.seq) % c.current_count.result < length (current_ids c.self.inside.groups) = omega arith in
    let chosen_id : c.current_at.result ≡ slice_index (current_ids c.self.inside.groups) ((c.from.result + c.args.seq) % c.current_count.result) =
    c.current_at.ensures ∙ ap (λ gs. slice_index (current_ids gs) ((c.from.result + c.args.seq) % c.current_count.result)) c.as_slice-groups.ensures
    in
    subst (λ (s : GroupMapState). IsSomeAnd (group_of s c.current_at.result) (λ g. IsTrue g.current)) c.self.view_is
    (subst (λ n. IsSomeAnd (find (λ (g : Group). g.id == n) c.self.inside.groups) (λ g. IsTrue g.current)) (sym chosen_id)
    (IsCurrent-chosen 1 c.self.inside.groups ((c.from.result + c.args.seq) % c.current_count.result) c.self.invariant.by_id below))
