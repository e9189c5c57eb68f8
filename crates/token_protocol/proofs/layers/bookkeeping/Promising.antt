-- Every client has promised at least the reigning epoch, and its reports are of epochs that it promised. Depends on: who serves.
use Rattle.std.proofs.Common.{◌≡◌, ◌<◌, ◌≤◌, ℕ, Bool, arith}
use Rattle.std.proofs.lemmas.Bool.Decides.{nat_tests}
use Rattle.token_protocol.specs.Basics.{In}
use Rattle.token_protocol.specs.Entry.{Entry}
use Rattle.token_protocol.specs.Packets.{Report}
use Rattle.token_protocol.specs.World.{World, start}
use Rattle.token_protocol.specs.Takeover.{MayReport, MayActivate, reports, activates}
use Rattle.token_protocol.specs.Step.{Step}
use Rattle.token_protocol.specs.Step.Step.{TakesPlace, RestartsAdopting, RestartsDiscarding, Promises, Reports, Activates}
use Rattle.token_protocol.proofs.layers.bookkeeping.Serving.{Serving}

pub record Promising (w : World) : Type 0 where
  -- A sent report is of an epoch that its client has promised.
  pub report_promised : (y : Report) → In y w.reports → y.epoch ≤ (w.client y.client).promised
  -- A sent report is a client's.
  pub report_member : (y : Report) → In y w.reports → y.client < w.members
  -- Each client promises at least the reigning epoch: no manager below it is heard.
  pub promise : (c : ℕ) → c < w.members → w.epoch ≤ (w.client c).promised
  -- Who has promised more than the reigning epoch fetches nothing.
  pub deaf_fetch : (c : ℕ) → w.epoch < (w.client c).promised → (w.client c).fetching ≡ 0

report_keeps_promising : (w : World) (who end : ℕ) → MayReport w who → Serving w → Promising w → Promising (reports w who end)
report_keeps_promising w who end h serving promising = record {
  report_promised = λ y k0. grind (arith, nat_tests, promising.report_promised y);
  report_member = λ y k0. grind (arith, nat_tests, promising.report_member y);
  promise = promising.promise;
  deaf_fetch = promising.deaf_fetch;
}

activate_keeps_promising : (w : World) (epoch : ℕ) (report : ℕ → Report) (applied : ℕ → ℕ) (e : Entry) → MayActivate w epoch report → Serving w → Promising w
    → Promising (activates w epoch report applied e)
activate_keeps_promising w epoch report applied e h serving promising = record {
  report_promised = λ y k0. grind (arith, nat_tests, promising.report_promised y);
  report_member = promising.report_member;
  promise = λ c k0. grind (arith, nat_tests, promising.promise c, h.sent c k0, h.sender c k0, h.asked c k0, promising.report_promised (report c));
  deaf_fetch = λ c k0. grind (arith, nat_tests, promising.deaf_fetch c);
}

pub keeps : (logs : Bool) (w v : World) → Step logs w v → Serving w → Promising w → Promising v
keeps logs w v (TakesPlace taken h t) serving promising = grind (arith, nat_tests)
keeps logs w v (RestartsAdopting who incarnation promised h k) serving promising = grind (arith, nat_tests)
keeps logs w v (RestartsDiscarding who incarnation promised h) serving promising = grind (arith, nat_tests)
keeps logs w v (Promises who epoch h) serving promising = grind (arith, nat_tests)
keeps logs w v (Reports who end h k) serving promising = report_keeps_promising w who end h serving promising
keeps logs w v (Activates epoch report applied e h k) serving promising = activate_keeps_promising w epoch report applied e h serving promising
keeps logs w v step serving promising = grind (arith, nat_tests)

pub begins : (n : ℕ) → Promising (start n)
begins n = record {
  report_promised = λ y k0. absurd k0;
  report_member = λ y k0. absurd k0;
  promise = λ c k0. grind (arith, nat_tests);
  deaf_fetch = λ c k0. grind (arith, nat_tests);
}
