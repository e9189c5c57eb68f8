-- Which members of a group are noted to have their fragment, and what becomes of a flight by that: it waits until the last one is, and then it is settled.
use Rattle.std.proofs.Common.{◌≡◌, ℕ, zero, suc, ◌+◌, ◌≤◌, ◌<◌, ◌==◌, ◌&&◌, ◌||◌, Bool, true, false, cond, nat_lt, List, [], ◌∷◌, length, replicate, slice_index, slice_set, refl, sym, ap, ◌∙◌, arith}
use Rattle.std.specs.List.{AllByRecursion, filter}
use Rattle.std.proofs.lemmas.Bool.Decides.{nat_tests}
use Rattle.std.proofs.lemmas.List.{get_or-set_other, get_or-set_same}
use Rattle.std.proofs.lemmas.List.Sums.{length-filter}
use Rattle.std.proofs.Math.ListN.{length-set}
use Rattle.group_map.specs.declared.group.Member.{Member}
use Rattle.group_map.specs.GroupMapState.{GroupMapState}
use Rattle.group_map.specs.Groups.{generation_at}
use Rattle.log_flight.specs.declared.flight.Fate.{Fate}
use Rattle.log_flight.specs.declared.flight.Fate.TheVariants.{Restripe, Settle, Wait}
use Rattle.log_flight.specs.Fate.{all_done, fate_of, has_server, is_lost, lost_count}
use Rattle.log_flight.specs.Flights.{FlightState, is_noted, none_noted}
use Rattle.version_model.specs.declared.work.Work.{Work}
use Rattle.xfs_base.specs.declared.node.NodeId.{NodeId}
use Rattle.xfs_base.specs.declared.setup.Setup.{Setup}
use Rattle.quiet_nodes.specs.Layers.{IsFirst}
use Rattle.quiet_nodes.specs.Scene.{its_groups}
use Rattle.quiet_nodes.proofs.Tests.{and_none, not_lt_test, lt_test}

-- the members before a place are noted, and no other
pub record AreNoted (noted : List Bool) (place : ℕ) : Type 0 where
  pub long : length noted ≡ 8
  pub each : (j : ℕ) → is_noted noted j ≡ nat_lt j place

pub none_are : AreNoted none_noted 0
none_are = record { long = refl; each = each }
  where
    each : (j : ℕ) → is_noted none_noted j ≡ nat_lt j 0
    each zero = refl
    each (suc zero) = refl
    each (suc (suc zero)) = refl
    each (suc (suc (suc zero))) = refl
    each (suc (suc (suc (suc zero)))) = refl
    each (suc (suc (suc (suc (suc zero))))) = refl
    each (suc (suc (suc (suc (suc (suc zero)))))) = refl
    each (suc (suc (suc (suc (suc (suc (suc zero))))))) = refl
    each (suc (suc (suc (suc (suc (suc (suc (suc j)))))))) = sym (not_lt_test (suc (suc (suc (suc (suc (suc (suc (suc j)))))))) 0 (omega arith))

-- one more
pub one_noted : (noted : List Bool) (place : ℕ) → place < 8 → AreNoted noted place → AreNoted (slice_set noted place true) (place + 1)
one_noted noted place within are = record { long = length-set noted place true ∙ are.long; each = each }
  where
    before : (j n : ℕ) → (j ≡ n → ⊥) → nat_lt j n ≡ nat_lt j (n + 1)
    before j n differs =
        elim (nat_lt j n) as (λ t. nat_lt j n ≡ t → t ≡ nat_lt j (n + 1)) [
          | true ↦ λ less. sym (more j n less)
          | false ↦ λ not. sym (not_lt_test j (n + 1) (omega (arith, least j n not, apart j n differs not)))
        ] refl
      where
        more : (a b : ℕ) → nat_lt a b ≡ true → nat_lt a (b + 1) ≡ true
        more a b h = grind (arith, nat_tests)

        least : (a b : ℕ) → nat_lt a b ≡ false → b ≤ a
        least a b h = grind (arith, nat_tests)

        apart : (a b : ℕ) → (a ≡ b → ⊥) → nat_lt a b ≡ false → b < a
        apart a b other h = grind (arith, nat_tests)

    each : (j : ℕ) → is_noted (slice_set noted place true) j ≡ nat_lt j (place + 1)
    each j =
        elim (j == place) as (λ t. (j == place) ≡ t → is_noted (slice_set noted place true) j ≡ nat_lt j (place + 1)) [
          | true ↦ λ same.
              ap (is_noted (slice_set noted place true)) (equal j place same)
              ∙ get_or-set_same noted place true false (let long = are.long in omega arith)
              ∙ sym (lt_test j (place + 1) (let is = equal j place same in omega arith))
          | false ↦ λ other.
              get_or-set_other noted place j true false (unequal j place other)
              ∙ are.each j
              ∙ before j place (unequal j place other)
        ] refl
      where
        equal : (a b : ℕ) → (a == b) ≡ true → a ≡ b
        equal a b h = grind (arith, nat_tests)

        unequal : (a b : ℕ) → (a == b) ≡ false → a ≡ b → ⊥
        unequal a b h same = grind (arith, nat_tests)

-- ---- no member is lost

at_most_one : (n i : ℕ) → slice_index (replicate n 1) i ≤ 1
at_most_one zero i = omega arith
at_most_one (suc n) zero = omega arith
at_most_one (suc n) (suc i) = at_most_one n i

module _ (setup : Setup) (works : NodeId → List Work) where
  abbrev groups : GroupMapState
  groups = its_groups setup works

  not_lost : (m : Member) → m.generation ≡ 1 → is_lost groups m ≡ false
  not_lost m first =
      ap (λ g. has_server groups m.server && nat_lt g (generation_at groups.generations m.server)) first
      ∙ ap (λ t. has_server groups m.server && t) (not_lt_test 1 (generation_at groups.generations m.server) (at_most_one setup.servers _))
      ∙ and_none (has_server groups m.server)

  none_lost : (ms : List Member) → AllByRecursion (IsFirst setup) ms → filter (is_lost groups) ms ≡ []
  none_lost [] each = refl
  none_lost (m ∷ ms) each = ap (λ t. cond t (m ∷ filter (is_lost groups) ms) (filter (is_lost groups) ms)) (not_lost m each.0.0) ∙ none_lost ms each.1

  pub no_loss : (ms : List Member) → AllByRecursion (IsFirst setup) ms → lost_count groups ms ≡ 0
  no_loss ms each = sym (length-filter (is_lost groups) ms) ∙ ap length (none_lost ms each)

  -- ---- all of these are noted, or one is not

  pub all_are_done : (noted : List Bool) (upto : ℕ) (ms : List Member) (place : ℕ) → AreNoted noted upto → place + length ms ≤ upto
      → all_done groups noted ms place ≡ true
  all_are_done noted upto [] place are h = refl
  all_are_done noted upto (m ∷ ms) place are h =
      ap (λ t. (t || is_lost groups m) && all_done groups noted ms (place + 1)) (are.each place ∙ lt_test place upto (omega arith))
      ∙ all_are_done noted upto ms (place + 1) are (omega (arith, h))

  pub one_isn't : (noted : List Bool) (upto : ℕ) (ms : List Member) (place : ℕ) → AreNoted noted upto → AllByRecursion (IsFirst setup) ms → place ≤ upto
      → upto < place + length ms → all_done groups noted ms place ≡ false
  one_isn't noted upto [] place are each least most = absurd (omega (arith, least, most))
  one_isn't noted upto (m ∷ ms) place are each least most =
      elim (nat_lt place upto) as (λ t. nat_lt place upto ≡ t → all_done groups noted (m ∷ ms) place ≡ false) [
        | true ↦ λ less.
            ap (λ t. (t || is_lost groups m) && all_done groups noted ms (place + 1)) (are.each place ∙ less)
            ∙ one_isn't noted upto ms (place + 1) are each.1 (below place upto less) (omega (arith, most))
        | false ↦ λ not.
            ap (λ t. (t || is_lost groups m) && all_done groups noted ms (place + 1)) (are.each place ∙ not)
            ∙ ap (λ t. t && all_done groups noted ms (place + 1)) (not_lost m each.0.0)
      ] refl
    where
      below : (a b : ℕ) → nat_lt a b ≡ true → a + 1 ≤ b
      below a b h = grind (arith, nat_tests)

  -- ---- the fate of a flight

  module _ (f : FlightState) (each : AllByRecursion (IsFirst setup) f.group.members) where
    abbrev by_notes : Bool → Fate
    by_notes all = cond all Settle Wait

    fate_is : fate_of groups f ≡ by_notes (all_done groups f.noted f.group.members 0)
    fate_is =
        ap (λ t. cond t Restripe (by_notes (all_done groups f.noted f.group.members 0)))
        (ap (nat_lt f.group.parity) (no_loss f.group.members each) ∙ not_lt_test f.group.parity 0 (omega arith))

    pub settles_last : (upto : ℕ) → AreNoted f.noted upto → length f.group.members ≤ upto → fate_of groups f ≡ Settle
    settles_last upto are h = fate_is ∙ ap by_notes (all_are_done f.noted upto f.group.members 0 are (omega (arith, h)))

    pub waits_on : (upto : ℕ) → AreNoted f.noted upto → upto < length f.group.members → fate_of groups f ≡ Wait
    waits_on upto are h = fate_is ∙ ap by_notes (one_isn't f.noted upto f.group.members 0 are each (omega arith) (omega (arith, h)))
