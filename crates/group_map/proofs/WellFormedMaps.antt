-- What is true of every map is true at its start and after each loss.
use Rattle.std.proofs.Common.{◌≡◌, ℕ, ◌+◌, ◌-◌, ◌≤◌, true, List, [], ◌∷◌, ◌++◌, None, length, map, refl, sym, ◌∙◌, subst, arith}
use Rattle.std.specs.Prelude.{All, nat_eq, filter}
use Rattle.std.specs.List.{IsDistinct}
use Rattle.std.proofs.lemmas.List.{length-map, length-set, length-replicate, length-append}
use Rattle.group_map.specs.declared.group.Group.{Group}
use Rattle.group_map.specs.GroupMapState.{GroupMapState}
use Rattle.group_map.specs.Groups.{group_map_start, after_loss, numbered, first_layout, followers, generations_after, retired, is_hit}
use Rattle.xfs_base.specs.declared.setup.GroupSetup.{GroupSetup}
use Rattle.xfs_base.specs.Limits.{u32_end}
use Rattle.group_map.specs.Losses.{Loss, MayLoseAll, after_losses}
use Rattle.group_map.specs.Sizes.{IsParity, bad_size}
use Rattle.group_map.specs.WellFormed.{IsServer, IsNumbered, IsGroupMap}
use Rattle.group_map.proofs.AlwaysCurrent.{any_current, any_current-lost}
use Rattle.group_map.proofs.Numbers.{IsNumbered-append, IsNumbered-retired, IsNumbered-numbered, length-numbered}
use Rattle.group_map.proofs.Presence.{present-started, present-lost}
use Rattle.group_map.proofs.Stripes.{stripes-started, stripes-lost}

any_current-started : (gs : List GroupSetup) → 1 ≤ length gs → any_current (numbered 1 (map first_layout gs)) ≡ true
any_current-started [] l = absurd (omega arith)
any_current-started (g ∷ gs) l = refl

pub IsGroupMap-group_map_start : (servers : ℕ) (gs : List GroupSetup) → 1 ≤ length gs → length gs ≤ u32_end → bad_size gs ≡ None
    → All (λ g. All (IsServer servers) g.servers) gs → All (λ g. IsDistinct nat_eq g.servers) gs → All (λ g. IsParity g.parity) gs
    → IsGroupMap (group_map_start servers gs)
IsGroupMap-group_map_start servers gs one few e exist differ parity = record {
  each_server = length-replicate servers 1;
  by_id = IsNumbered-numbered 1 (map first_layout gs);
  few = subst (λ n. n ≤ u32_end) (sym (length-numbered 1 (map first_layout gs) ∙ length-map gs first_layout)) few;
  stripes = stripes-started servers gs e exist differ parity;
  present = present-started servers gs exist;
  current = any_current-started gs one;
}

length-lost : (gs : List Group) (server k : ℕ) (generations : List ℕ)
    → length (map (retired server) gs ++ numbered k (followers generations server gs)) ≡ length gs + length (filter (is_hit server) gs)
length-lost gs server k generations = simp (length-append, length-map, length-numbered)

by_id-lost : (gs : List Group) (server : ℕ) (generations : List ℕ) → IsNumbered 1 gs
    → IsNumbered 1 (map (retired server) gs ++ numbered (length gs + 1) (followers generations server gs))
by_id-lost gs server generations h =
    let e : length gs + 1 ≡ 1 + length (map (retired server) gs) = simp length-map (omega arith) in
    IsNumbered-append 1 (map (retired server) gs) _ (IsNumbered-retired server 1 gs h)
    (subst (λ n. IsNumbered n (numbered (length gs + 1) (followers generations server gs))) e
    (IsNumbered-numbered (length gs + 1) (followers generations server gs)))

pub IsGroupMap-after_loss : (state : GroupMapState) (server generation : ℕ) → IsServer state.servers server
    → length state.groups + length (filter (is_hit server) state.groups) ≤ u32_end → IsGroupMap state → IsGroupMap (after_loss state server generation)
IsGroupMap-after_loss state server generation exists room h =
    let now : List ℕ = generations_after state.generations server generation in
    record {
      each_server = length-set state.generations (server - 1) generation ∙ h.each_server;
      by_id = by_id-lost state.groups server now h.by_id;
      few = subst (λ n. n ≤ u32_end) (sym (length-lost state.groups server (length state.groups + 1) now)) room;
      stripes = stripes-lost state.servers server (length state.groups + 1) now state.groups h.stripes;
      present = present-lost state.servers server generation (length state.groups + 1) state.generations state.groups exists h.stripes h.present;
      current = any_current-lost server (length state.groups + 1) now state.groups h.current;
    }

pub IsGroupMap-after : (state : GroupMapState) (losses : List Loss) → IsGroupMap state → MayLoseAll state losses → IsGroupMap (after_losses state losses)
IsGroupMap-after state [] h may = h
IsGroupMap-after state (l ∷ ls) h may =
    IsGroupMap-after (after_loss state l.server l.generation) ls (IsGroupMap-after_loss state l.server l.generation may.0.exists may.0.room h) may.1
