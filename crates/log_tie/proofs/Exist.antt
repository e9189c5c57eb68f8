-- A setting exists: names are numbers by pairing, counted along diagonals, and one group stands over three servers.
use Rattle.log_tie.specs.Scans.{WholeMap}
use Rattle.std.proofs.Common.{◌≡◌, ℕ, zero, suc, ◌+◌, ◌-◌, ◌%◌, ◌<◌, ◌≤◌, ◌==◌, Bool, true, false, cond, List, [], ◌∷◌, length, Some, None, is_some, unwrap_or, refl, sym, ap, subst, ◌∙◌, arith, mod-lt}
use Rattle.std.specs.Prelude.{slice_index}
use Rattle.xfs_base.proofs.Booleans.{contrary}
use Rattle.group_map.specs.declared.group.Group.{Group}
use Rattle.group_map.specs.declared.group.Member.{Member}
use Rattle.group_map.specs.GroupMapState.{GroupMapState}
use Rattle.group_map.specs.Groups.{group_of}
use Rattle.log_flight.specs.Fate.{has_server}
use Rattle.log_flight.specs.Flights.{generation_of, group_for, no_group, server_of}
use Rattle.log_tie.specs.Setting.{Setting, IsStripe, IsMap, present_at, stripe_of_group}
use Rattle.log_tie.specs.Exist.{SomeSetting}
use Rattle.stripe_code.specs.Stripe.{IsCut}

pub record Pair : Type 0 where
  pub x : ℕ
  pub y : ℕ

abbrev pub along : ℕ → ℕ → Pair
along zero y = record { x = suc y; y = 0 }
along (suc x) y = record { x = x; y = suc y }

abbrev pub unpair : ℕ → Pair
unpair zero = record { x = 0; y = 0 }
unpair (suc n) = along (unpair n).x (unpair n).y

Found : ℕ → ℕ → Type 0
Found x y = (n : ℕ) × (unpair n ≡ record { x = x; y = y })

-- on one diagonal, from the one before
on_diagonal : (s : ℕ) → ((y x : ℕ) → suc (x + y) ≡ s → Found x y) → (y x : ℕ) → x + y ≡ s → Found x y
unfolding Found
on_diagonal s before zero zero e = (0, refl)
on_diagonal s before zero (suc x) e = let r = before x zero (omega arith) in (suc r.0, ap (λ (p : Pair). along p.x p.y) r.1)
on_diagonal s before (suc y) x e = let r = on_diagonal s before y (suc x) (omega arith) in (suc r.0, ap (λ (p : Pair). along p.x p.y) r.1)

diagonal : (s y x : ℕ) → x + y ≡ s → Found x y
diagonal zero y x e = on_diagonal zero (λ v u f. absurd (never (u + v) f)) y x e
  where
    never : (n : ℕ) → suc n ≡ 0 → ⊥
    never n e = omega arith
diagonal (suc s) y x e = on_diagonal (suc s) (λ v u f. diagonal s v u (omega arith)) y x e

found : (x y : ℕ) → Found x y
found x y = diagonal (x + y) y x refl

pub pair : ℕ → ℕ → ℕ
unfolding Found
pair x y = (found x y).0

pub pair_is : (x y : ℕ) → unpair (pair x y) ≡ record { x = x; y = y }
unfolding Found pair
pair_is x y = (found x y).1

-- no two numbers are one pair
pub apart : (n m : ℕ) → (unpair n).x ≡ (unpair m).x → (unpair n).y ≡ (unpair m).y → n ≡ m
apart zero zero e f = refl
apart zero (suc m) e f = absurd (first (unpair m).x (unpair m).y e f)
  where
    first : (x y : ℕ) → 0 ≡ (along x y).x → 0 ≡ (along x y).y → ⊥
    first zero y e f = omega arith
    first (suc x) y e f = omega arith
apart (suc n) zero e f = absurd (first (unpair n).x (unpair n).y e f)
  where
    first : (x y : ℕ) → (along x y).x ≡ 0 → (along x y).y ≡ 0 → ⊥
    first zero y e f = omega arith
    first (suc x) y e f = omega arith
apart (suc n) (suc m) e f =
    ap suc (apart n m (same (unpair n).x (unpair n).y (unpair m).x (unpair m).y e f).0 (same (unpair n).x (unpair n).y (unpair m).x (unpair m).y e f).1)
  where
    same : (x y u v : ℕ) → (along x y).x ≡ (along u v).x → (along x y).y ≡ (along u v).y → (x ≡ u) × (y ≡ v)
    same zero y zero v e f = (refl, omega arith)
    same zero y (suc u) v e f = absurd (no_zero v f)
      where
        no_zero : (v : ℕ) → 0 ≡ suc v → ⊥
        no_zero v e = omega arith
    same (suc x) y zero v e f = absurd (no_zero y f)
      where
        no_zero : (y : ℕ) → suc y ≡ 0 → ⊥
        no_zero y e = omega arith
    same (suc x) y (suc u) v e f = (omega arith, omega arith)

-- three servers, one group of them
abbrev pub members : List Member
members = record { server = 1; generation = 1 } ∷ record { server = 2; generation = 1 } ∷ record { server = 3; generation = 1 } ∷ []

abbrev pub group : Group
group = record { id = 1; members = members; parity = 1; current = true }

abbrev pub the_map : GroupMapState
the_map = record { servers = 3; generations = 1 ∷ 1 ∷ 1 ∷ []; groups = group ∷ [] }

abbrev pub setting : Setting
setting = record {
  log = record { 0 = 1 };
  servers = 3;
  doubts = true;
  stripe = λ id. stripe_of_group group;
  number = λ text. 0;
  content = λ items. 0;
  no_content = refl;
  code = λ q c a. pair q (pair c a);
  seq_of = λ n. (unpair n).x;
  incarnation_of = λ n. (unpair (unpair n).y).x;
  attempt_of = λ n. (unpair (unpair n).y).y;
  its_seq = λ q c a. ap (λ (p : Pair). p.x) (pair_is q (pair c a));
  its_incarnation = λ q c a. ap (λ (p : Pair). (unpair p.y).x) (pair_is q (pair c a)) ∙ ap (λ (p : Pair). p.x) (pair_is c a);
  its_attempt = λ q c a. ap (λ (p : Pair). (unpair p.y).y) (pair_is q (pair c a)) ∙ ap (λ (p : Pair). p.y) (pair_is c a);
  names = record { apart = λ n m e f a. apart n m e (apart (unpair n).y (unpair m).y f a); none = refl };
}

number : (j : ℕ) → j < 3 → server_of members j ≡ suc j
number zero below = refl
number (suc zero) below = refl
number (suc (suc zero)) below = refl
number (suc (suc (suc j))) below = absurd (let b = below in omega arith)

stripe_there : IsStripe setting the_map group
stripe_there =
    record {
      some = omega arith;
      exist = λ j below. (let p = number j below in omega arith);
      differ = λ i j a b e. (let p = number i a in let q = number j b in omega arith);
      present = present;
      named = refl;
    }
  where
    present : (j : ℕ) → j < 3 → generation_of members j ≡ present_at the_map (server_of members j)
    present zero below = refl
    present (suc zero) below = refl
    present (suc (suc zero)) below = refl
    present (suc (suc (suc j))) below = absurd (let b = below in omega arith)

whole : IsMap setting the_map
unfolding group_for
whole log seq =
    subst (λ k. IsStripe setting the_map (unwrap_or (group_of the_map (slice_index (1 ∷ []) k)) no_group))
    (sym (nought ((log + seq) % 1) (mod-lt (log + seq) (omega arith)))) stripe_there
  where
    nought : (k : ℕ) → k < 1 → k ≡ 0
    nought k below = omega arith

past : (v : ℕ) → present_at the_map v ≤ 1
past v = either (has_server the_map v) (slice_index (1 ∷ 1 ∷ 1 ∷ []) (v - 1)) (limit (v - 1))
  where
    limit : (k : ℕ) → slice_index (1 ∷ 1 ∷ 1 ∷ []) k ≤ 1
    limit zero = omega arith
    limit (suc zero) = omega arith
    limit (suc (suc zero)) = omega arith
    limit (suc (suc (suc k))) = omega arith

    either : (t : Bool) (n : ℕ) → n ≤ 1 → cond t n 0 ≤ 1
    either true n h = h
    either false n h = omega arith

-- the one group that the map has
only : (id : ℕ) (g : Group) → group_of the_map id ≡ Some g → group ≡ g
only id g fact = by (1 == id) fact
  where
    by : (t : Bool) → cond t (Some group) None ≡ Some g → group ≡ g
    by true e = ap (λ o. unwrap_or o group) e
    by false e = contrary (ap is_some e)

three : IsCut 3 1
three = record { some = omega arith; few = omega arith; least = omega arith; limit = omega arith }

pub whole_map : WholeMap setting (λ v. 1) the_map
whole_map = record {
  seen = record { whole = whole; past = past };
  size = refl;
  named = λ id g fact. ap stripe_of_group (only id g fact);
  some = λ id g fact. subst (λ (z : Group). (j : ℕ) → j < length z.members → 0 < server_of z.members j) (only id g fact)
      (λ j below. (let p = number j below in omega arith));
  cut = λ id g fact. subst (λ (z : Group). IsCut (length z.members) z.parity) (only id g fact) three;
}

pub some_setting : SomeSetting
some_setting = (setting, the_map, whole_map)
