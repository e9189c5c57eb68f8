-- A group once made never changes but for `current`.
use Rattle.std.proofs.Common.{◌≡◌, ℕ, ◌+◌, true, false, cond, List, [], ◌∷◌, Some, length, map, refl, sym, ap, ◌∙◌, subst}
use Rattle.std.specs.Prelude.{◌==◌, not, IsSomeAnd, find}
use Rattle.std.specs.Option.{option_or, option_map}
use Rattle.std.proofs.lemmas.List.Folds.{find-append}
use Rattle.xfs_base.proofs.Booleans.{and_first}
use Rattle.group_map.specs.declared.group.Group.{Group}
use Rattle.group_map.specs.GroupMapState.{GroupMapState}
use Rattle.group_map.specs.Groups.{group_of, retired, has_server, after_loss, numbered, followers, generations_after}
use Rattle.group_map.specs.Losses.{Loss, after_losses, IsLater}

find-retired : (server id : ℕ) (gs : List Group) → find (λ g. g.id == id) (map (retired server) gs) ≡ option_map (retired server) (find (λ g. g.id == id) gs)
find-retired server id [] = refl
find-retired server id (g ∷ gs) =
    elim (g.id == id) as
    (λ b. cond b (Some (retired server g)) (find (λ (x : Group). x.id == id) (map (retired server) gs)) ≡ option_map (retired server)
    (cond b (Some g) (find (λ (x : Group). x.id == id) gs))) [
      | true ↦ refl
      | false ↦ find-retired server id gs
    ]

-- a loss leaves the group at its id
group_of-after_loss : (state : GroupMapState) (server generation id : ℕ) (group : Group) → group_of state id ≡ Some group
    → group_of (after_loss state server generation) id ≡ Some (retired server group)
group_of-after_loss state server generation id group e =
    let new : List Group = numbered (length state.groups + 1) (followers (generations_after state.generations server generation) server state.groups) in
    find-append (λ (g : Group). g.id == id) (map (retired server) state.groups) new
    ∙ ap (λ o. option_or o (find (λ (g : Group). g.id == id) new)) (find-retired server id state.groups ∙ ap (option_map (retired server)) e)

IsLater-retired : (server : ℕ) (old new : Group) → IsLater old new → IsLater old (retired server new)
IsLater-retired server old new l =
    record {
      id = l.id;
      members = l.members;
      parity = l.parity;
      obsolete_for_ever = λ c. l.obsolete_for_ever (and_first new.current (not (has_server server new)) c);
    }

IsLater-after : (state : GroupMapState) (losses : List Loss) (id : ℕ) (old new : Group) → IsLater old new → group_of state id ≡ Some new
    → IsSomeAnd (group_of (after_losses state losses) id) (IsLater old)
IsLater-after state [] id old new l e = subst (λ o. IsSomeAnd o (IsLater old)) (sym e) l
IsLater-after state (s ∷ ss) id old new l e =
    IsLater-after (after_loss state s.server s.generation) ss id old (retired s.server new) (IsLater-retired s.server old new l)
    (group_of-after_loss state s.server s.generation id new e)

pub stays : (state : GroupMapState) (losses : List Loss) (id : ℕ) (group : Group) → group_of state id ≡ Some group
    → IsSomeAnd (group_of (after_losses state losses) id) (IsLater group)
stays state losses id group e = IsLater-after state losses id group group (record { id = refl; members = refl; parity = refl; obsolete_for_ever = λ c. c }) e
