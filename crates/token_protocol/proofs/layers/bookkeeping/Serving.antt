-- Who serves: only clients do, and one that is down holds, wants and fetches nothing.
use Rattle.std.proofs.Common.{◌≡◌, ◌≤◌, ℕ, Bool, arith}
use Rattle.std.proofs.lemmas.Bool.Decides.{nat_tests}
use Rattle.token_protocol.specs.World.{World, start}
use Rattle.token_protocol.specs.Step.{Step}
use Rattle.token_protocol.specs.Step.Step.{Asks, WritesFirst, TakesAbsent, TakesSupply, TakesPlace, Fetches, RestartsAdopting, RestartsDiscarding}

pub record Serving (w : World) : Type 0 where
  -- A client serves or doesn't.
  pub serving_one : (c : ℕ) → (w.client c).serving ≤ 1
  -- A number that names no client never serves.
  pub outsider_down : (c : ℕ) → w.members ≤ c → (w.client c).serving ≡ 0
  -- Who is down holds nothing.
  pub down_mode : (c : ℕ) → (w.client c).serving ≡ 0 → (w.client c).mode ≡ 0
  -- Who is down wants nothing.
  pub down_want : (c : ℕ) → (w.client c).serving ≡ 0 → (w.client c).want ≡ 0
  -- Who is down fetches nothing.
  pub down_fetch : (c : ℕ) → (w.client c).serving ≡ 0 → (w.client c).fetching ≡ 0

pub keeps : (logs : Bool) (w v : World) → Step logs w v → Serving w → Serving v
keeps logs w v (Asks who mode request end h k) serving = grind (arith, nat_tests)
keeps logs w v (WritesFirst taken value h) serving = grind (arith, nat_tests)
keeps logs w v (TakesAbsent taken h t) serving = grind (arith, nat_tests)
keeps logs w v (TakesSupply taken value h t) serving = grind (arith, nat_tests)
keeps logs w v (TakesPlace taken h t) serving = grind (arith, nat_tests)
keeps logs w v (Fetches who value h k) serving = grind (arith, nat_tests)
keeps logs w v (RestartsAdopting who incarnation promised h k) serving = grind (arith, nat_tests)
keeps logs w v (RestartsDiscarding who incarnation promised h) serving = grind (arith, nat_tests)
keeps logs w v step serving = grind (arith, nat_tests)

pub begins : (n : ℕ) → Serving (start n)
begins n = record {
  serving_one = λ c. grind (arith, nat_tests);
  outsider_down = λ c k0. grind (arith, nat_tests);
  down_mode = λ c k0. grind (arith, nat_tests);
  down_want = λ c k0. grind (arith, nat_tests);
  down_fetch = λ c k0. grind (arith, nat_tests);
}
