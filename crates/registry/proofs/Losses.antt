-- What the registry knows of a loss that it hears of.
use Rattle.std.proofs.Common.{◌≡◌, ℕ, zero, suc, ◌+◌, ◌<◌, ◌≤◌, Bool, true, false, cond, ◌&&◌, ◌||◌, List, [], ◌∷◌, length, refl, sym, ap, ◌∙◌, lit≤, arith}
use Rattle.std.specs.Prelude.{◌==◌, nat_lt, filter, slice_get}
use Rattle.std.specs.Option.{is_some}
use Rattle.std.proofs.lemmas.Bool.Decides.{nat_tests}
use Rattle.xfs_base.proofs.Booleans.{and_first, and_second, contrary, not_true}
use Rattle.xfs_base.specs.Limits.{u32_end}
use Rattle.group_map.specs.GroupMapState.{GroupMapState}
use Rattle.group_map.specs.Groups.{generation_at, group_of, is_hit, after_loss}
use Rattle.group_map.specs.WellFormed.{IsServer, IsGroupMap}
use Rattle.group_map.proofs.Numbers.{find-numbered}
use Rattle.group_map.proofs.WellFormedMaps.{IsGroupMap-after_loss}
use Rattle.registry.specs.BoardState.{BoardState}
use Rattle.registry.specs.Board.{has_room, may_lose, hears_server}

few_or_there : {X : Type 0} (xs : List X) (i : ℕ) → is_some (slice_get xs i) ≡ false → length xs ≤ i
few_or_there [] i none = omega arith
few_or_there (x ∷ xs) zero none = contrary (sym none)
few_or_there (x ∷ xs) (suc i) none = let rest : length xs ≤ i = few_or_there xs i none in omega arith

filter_short : {X : Type 0} (p : X → Bool) (xs : List X) → length (filter p xs) ≤ length xs
filter_short p [] = omega arith
filter_short p (x ∷ xs) =
    let rest : length (filter p xs) ≤ length xs = filter_short p xs in
    elim (p x) as (λ t. length (cond t (x ∷ filter p xs) (filter p xs)) ≤ suc (length xs)) [ true ↦ omega arith | false ↦ omega arith ]

twice : (a b n m : ℕ) → a ≤ n → b ≤ a → n + n ≤ m → a + b ≤ m
twice a b n m few short room = omega arith

room_for : (groups : GroupMapState) (server : ℕ) → IsGroupMap groups → has_room groups ≡ true
    → length groups.groups + length (filter (is_hit server) groups.groups) ≤ u32_end
room_for groups server fact room =
    let none : is_some (slice_get groups.groups 2147483647) ≡ false =
    ap is_some (sym (find-numbered 1 groups.groups 2147483647 fact.by_id)) ∙ not_true (is_some (group_of groups 2147483648)) room in
    twice (length groups.groups) (length (filter (is_hit server) groups.groups)) 2147483647 u32_end (few_or_there groups.groups 2147483647 none)
    (filter_short (is_hit server) groups.groups) (lit≤ tt)

module _ (groups : GroupMapState) (server generation : ℕ) (may : may_lose groups server generation ≡ true) where
  pub loss_exists : IsServer groups.servers server
  loss_exists = at ((server == 0) || nat_lt groups.servers server) refl may
    where
      at : (t : Bool) → ((server == 0) || nat_lt groups.servers server) ≡ t
          → cond t false (nat_lt (generation_at groups.generations server) generation && has_room groups) ≡ true → IsServer groups.servers server
      at true fact h = contrary h
      at false fact h = (grind (arith, nat_tests), grind (arith, nat_tests))

  known : (nat_lt (generation_at groups.generations server) generation && has_room groups) ≡ true
  known = at ((server == 0) || nat_lt groups.servers server) may
    where
      at : (t : Bool) → cond t false (nat_lt (generation_at groups.generations server) generation && has_room groups) ≡ true
          → (nat_lt (generation_at groups.generations server) generation && has_room groups) ≡ true
      at true h = contrary h
      at false h = h

  pub loss_newer : generation_at groups.generations server < generation
  loss_newer =
      let less : nat_lt (generation_at groups.generations server) generation ≡ true =
      and_first (nat_lt (generation_at groups.generations server) generation) (has_room groups) known in
      grind (arith, nat_tests)

  pub loss_room : IsGroupMap groups → length groups.groups + length (filter (is_hit server) groups.groups) ≤ u32_end
  loss_room fact = room_for groups server fact (and_second (nat_lt (generation_at groups.generations server) generation) (has_room groups) known)

  pub loss_kept : IsGroupMap groups → IsGroupMap (after_loss groups server generation)
  loss_kept fact = IsGroupMap-after_loss groups server generation loss_exists (loss_room fact) fact

pub loss_heard : (s : BoardState) (server generation : ℕ) → hears_server s server generation ≡ true → may_lose s.groups server generation ≡ true
loss_heard s server generation hears = and_second (nat_lt s.version u32_end) (may_lose s.groups server generation) hears
