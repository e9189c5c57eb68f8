use Rattle.std.proofs.Common.{◌≡◌, ℕ, ◌+◌, ◌-◌, ◌<◌, List, Option, Some, None, refl, ◌∙◌, subst, arith, rules}
use Rattle.std.specs.Prelude.{◌==◌, slice_get, find}
use Rattle.group_map.specs.declared.group.Group.{Group}
use Rattle.group_map.specs.GroupMapState.{GroupMapState}
use Rattle.group_map.specs.Groups.{group_of}
use Rattle.group_map.specs.WellFormed.{IsStripe, IsPresent, IsNumbered}
use Rattle.group_map.proofs.Numbers.{find-numbered, find-below}
use Rattle.group_map.proofs.Presence.{is_present}
use Rattle.group_map.proofs.Stripes.{stripe_at}
use Rattle.group_map.proofs.group_map.GroupMap.lookup.Goals as goal

-- the group of an id that is not 0 stands at the place one below it
at_place : (gs : List Group) (id : ℕ) (found : Option Group) → (id ≡ 0 → ⊥) → IsNumbered 1 gs → slice_get gs (id - 1) ≡ found
    → find (λ g. g.id == id) gs ≡ found
at_place gs id found apart h e =
    let back : 1 + (id - 1) ≡ id = omega arith in
    subst (λ n. find (λ (g : Group). g.id == n) gs ≡ slice_get gs (id - 1)) back (find-numbered 1 gs (id - 1) h) ∙ e

pub returns-then-id-eq0-clause-exact : goal.returns-then-id-eq0-clause-exact
returns-then-id-eq0-clause-exact c =
    let below : c.args.id < 1 = omega arith in
    (refl, subst (λ (s : GroupMapState). group_of s c.args.id ≡ None) c.self.view_is (find-below 1 c.self.inside.groups c.args.id below c.self.invariant.by_id))

pub returns-in-Some-clause-exact : goal.returns-in-Some-clause-exact
returns-in-Some-clause-exact c =
    let got : slice_get c.self.inside.groups (c.args.id - 1) ≡ Some c.in-Some.group.now = search rules in
    subst (λ (s : GroupMapState). group_of s c.args.id ≡ Some c.in-Some.group.now) c.self.view_is
    (at_place c.self.inside.groups c.args.id (Some c.in-Some.group.now) (λ e. omega arith) c.self.invariant.by_id got)

pub returns-in-Some-clause-stripe : goal.returns-in-Some-clause-stripe
returns-in-Some-clause-stripe c =
    let got : slice_get c.self.inside.groups (c.args.id - 1) ≡ Some c.in-Some.group.now = search rules in
    subst (λ (s : GroupMapState). IsStripe s.servers c.in-Some.group.now.parity c.in-Some.group.now.members) c.self.view_is
    (stripe_at c.self.inside.servers c.self.inside.groups (c.args.id - 1) c.in-Some.group.now c.self.invariant.stripes got)

pub returns-in-Some-clause-present : goal.returns-in-Some-clause-present
returns-in-Some-clause-present c =
    let got : slice_get c.self.inside.groups (c.args.id - 1) ≡ Some c.in-Some.group.now = search rules in
    let at : group_of
    (record { servers = c.self.inside.servers; generations = c.self.inside.generations; groups = c.self.inside.groups }) c.args.id ≡ Some c.in-Some.group.now =
    at_place c.self.inside.groups c.args.id (Some c.in-Some.group.now) (λ e. omega arith) c.self.invariant.by_id got
    in
    subst (λ (s : GroupMapState). IsPresent s.generations c.in-Some.group.now) c.self.view_is
    (is_present (record { servers = c.self.inside.servers; generations = c.self.inside.generations; groups = c.self.inside.groups })
    c.args.id c.in-Some.group.now c.self.invariant.present at)

pub returns-in-None-clause-exact : goal.returns-in-None-clause-exact
returns-in-None-clause-exact c =
    let got : slice_get c.self.inside.groups (c.args.id - 1) ≡ None = search rules in (
      refl,
      subst (λ (s : GroupMapState). group_of s c.args.id ≡ None) c.self.view_is
          (at_place c.self.inside.groups c.args.id None (λ e. omega arith) c.self.invariant.by_id got),
    )
