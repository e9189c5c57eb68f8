-- What clients ask, and what they are allowed while they ask. Depends on: who serves.
use Rattle.std.proofs.Common.{◌≡◌, ◌<◌, ◌≤◌, ℕ, Bool, arith}
use Rattle.std.proofs.lemmas.Bool.Decides.{nat_tests}
use Rattle.token_protocol.specs.Basics.{In}
use Rattle.token_protocol.specs.Packets.{Want}
use Rattle.token_protocol.specs.World.{World, start, Dirty}
use Rattle.token_protocol.specs.Asking.{MayAsk, MayAskAgain, asks, asks_again}
use Rattle.token_protocol.specs.Step.{Step}
use Rattle.token_protocol.specs.Step.Step.{Asks, AsksAgain, TakesPlace, Writes, Evicts, Gives, RestartsAdopting, RestartsDiscarding}
use Rattle.token_protocol.proofs.layers.bookkeeping.Serving.{Serving}

pub record Asking (w : World) : Type 0 where
  -- A sent want names no incarnation that is still to come.
  pub want_incarnation : (p : Want) → In p w.wants → p.incarnation ≤ (w.client p.client).incarnation
  -- A sent want of this incarnation names no request that is still to come.
  pub want_request : (p : Want) → In p w.wants → p.incarnation ≡ (w.client p.client).incarnation → p.request ≤ (w.client p.client).request
  -- A sent want asks for a copy or to own.
  pub want_mode : (p : Want) → In p w.wants → (0 < p.mode) × (p.mode ≤ 2)
  -- A sent want is a client's.
  pub want_member : (p : Want) → In p w.wants → p.client < w.members
  -- An open want is for a mode.
  pub want_rank : (c : ℕ) → (w.client c).want ≤ 2
  -- Who wants doesn't own.
  pub open_want : (c : ℕ) → 0 < (w.client c).want → (w.client c).mode ≤ 1
  -- Only an owner is dirty.
  pub dirty_owned : (c : ℕ) → Dirty w c → (w.client c).mode ≡ 2
  -- Who fetches holds nothing yet.
  pub fetch_empty : (c : ℕ) → (w.client c).fetching ≡ 1 → (w.client c).mode ≡ 0

ask_keeps_asking : (w : World) (who mode request end : ℕ) → MayAsk w who mode request → Serving w → Asking w → Asking (asks w who mode request end)
ask_keeps_asking w who mode request end h serving asking = record {
  want_incarnation = λ p k0. grind (arith, nat_tests, asking.want_incarnation p);
  want_request = λ p k0 k1. grind (arith, nat_tests, asking.want_request p);
  want_mode = λ p k0. grind (arith, nat_tests, asking.want_mode p);
  want_member = λ p k0. grind (arith, nat_tests, asking.want_member p);
  want_rank = λ c. grind (arith, nat_tests, asking.want_rank c);
  open_want = λ c k0. grind (arith, nat_tests, asking.open_want c);
  dirty_owned = λ c k0. grind (arith, nat_tests, asking.dirty_owned c);
  fetch_empty = λ c k0. grind (arith, nat_tests, asking.fetch_empty c);
}

ask_again_keeps_asking : (w : World) (who end : ℕ) → MayAskAgain w who → Serving w → Asking w → Asking (asks_again w who end)
ask_again_keeps_asking w who end h serving asking = record {
  want_incarnation = λ p k0. grind (arith, nat_tests, asking.want_incarnation p);
  want_request = λ p k0 k1. grind (arith, nat_tests, asking.want_request p);
  want_mode = λ p k0. grind (arith, nat_tests, asking.want_mode p);
  want_member = λ p k0. grind (arith, nat_tests, asking.want_member p);
  want_rank = asking.want_rank;
  open_want = asking.open_want;
  dirty_owned = asking.dirty_owned;
  fetch_empty = asking.fetch_empty;
}

pub keeps : (logs : Bool) (w v : World) → Step logs w v → Serving w → Asking w → Asking v
keeps logs w v (Asks who mode request end h k) serving asking = ask_keeps_asking w who mode request end h serving asking
keeps logs w v (AsksAgain who end h k) serving asking = ask_again_keeps_asking w who end h serving asking
keeps logs w v (TakesPlace taken h t) serving asking = grind (arith, nat_tests)
keeps logs w v (Writes who value h) serving asking = grind (arith, nat_tests)
keeps logs w v (Evicts who h) serving asking = grind (arith, nat_tests)
keeps logs w v (Gives answered end h k) serving asking = grind (arith, nat_tests)
keeps logs w v (RestartsAdopting who incarnation promised h k) serving asking = grind (arith, nat_tests)
keeps logs w v (RestartsDiscarding who incarnation promised h) serving asking = grind (arith, nat_tests)
keeps logs w v step serving asking = grind (arith, nat_tests)

pub begins : (n : ℕ) → Asking (start n)
begins n = record {
  want_incarnation = λ p k0. absurd k0;
  want_request = λ p k0 k1. absurd k0;
  want_mode = λ p k0. absurd k0;
  want_member = λ p k0. absurd k0;
  want_rank = λ c. grind (arith, nat_tests);
  open_want = λ c k0. grind (arith, nat_tests);
  dirty_owned = λ c k0. grind (arith, nat_tests);
  fetch_empty = λ c k0. grind (arith, nat_tests);
}
