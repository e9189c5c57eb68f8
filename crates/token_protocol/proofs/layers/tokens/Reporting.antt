-- A report to a manager above the reigning one stays true until that manager reigns. Depends on: bookkeeping, giving.
use Rattle.std.proofs.Common.{◌≡◌, ◌<◌, ◌≤◌, ℕ, Bool, arith}
use Rattle.std.proofs.lemmas.Bool.Decides.{nat_tests}
use Rattle.token_protocol.specs.Basics.{In}
use Rattle.token_protocol.specs.Entry.{Entry}
use Rattle.token_protocol.specs.Packets.{Recall, Gave, Report}
use Rattle.token_protocol.specs.World.{World, start}
use Rattle.token_protocol.specs.Managing.{MayRecall, MayNote, recalls, notes}
use Rattle.token_protocol.specs.Giving.{MayGive, MayGiveAgain, gives, gives_again}
use Rattle.token_protocol.specs.Takeover.{MayPromise, MayReport, MayActivate, promises, reports, activates}
use Rattle.token_protocol.specs.Step.{Step}
use Rattle.token_protocol.specs.Step.Step.{Recalls, WritesFirst, TakesAbsent, TakesSupply, Fetches, Gives, GivesAgain, Notes, Promises, Reports, Activates}
use Rattle.token_protocol.proofs.layers.bookkeeping.{Bookkeeping}
use Rattle.token_protocol.proofs.layers.tokens.Giving.{Giving}

pub record Reporting (w : World) : Type 0 where
  -- Who has reported for a later epoch holds no more than it reported.
  pub report_mode : (y : Report) → In y w.reports → w.epoch < y.epoch → (w.client y.client).mode ≤ y.mode
  -- Of two reports of one client, the one for the later epoch tells of no more: two managers may be asking at once.
  pub report_order : (y : Report) (z : Report) → In y w.reports → In z w.reports → y.client ≡ z.client → w.epoch < z.epoch → z.epoch < y.epoch → y.mode ≤ z.mode
  -- Who gave for the awaited Recall has reported no more than it let keep.
  pub report_given : (y : Report) (x : Gave) → In y w.reports → w.epoch < y.epoch → In x w.gaves → x.client ≡ y.client → w.awaited y.client ≡ x.stamp
      → y.mode ≤ w.keep y.client

recall_keeps_reporting : (w : World) (who keep : ℕ) → MayRecall keep → Bookkeeping w → Giving w → Reporting w → Reporting (recalls w who keep)
recall_keeps_reporting w who keep h book giving reporting = record {
  report_mode = reporting.report_mode;
  report_order = reporting.report_order;
  report_given = λ y x k0 k1 k2 k3 k4. grind (arith, nat_tests, reporting.report_given y x, book.stamps.gave_turn x k2);
}

give_keeps_reporting : (w : World) (answered : Recall) (end : ℕ) → MayGive w answered → Bookkeeping w → Giving w → Reporting w
    → Reporting (gives w answered end)
give_keeps_reporting w answered end h book giving reporting = grind (arith, nat_tests)

give_again_keeps_reporting : (w : World) (answered : Recall) (end : ℕ) → MayGiveAgain w answered → Bookkeeping w → Giving w → Reporting w
    → Reporting (gives_again w answered end)
give_again_keeps_reporting w answered end h book giving reporting = grind (arith, nat_tests)

note_keeps_reporting : (w : World) (noted : Gave) → MayNote w noted → Bookkeeping w → Giving w → Reporting w → Reporting (notes w noted)
note_keeps_reporting w noted h book giving reporting = record {
  report_mode = reporting.report_mode;
  report_order = reporting.report_order;
  report_given = λ y x k0 k1 k2 k3 k4. grind (arith, nat_tests, reporting.report_given y x);
}

promise_keeps_reporting : (w : World) (who epoch : ℕ) → MayPromise w who epoch → Bookkeeping w → Giving w → Reporting w → Reporting (promises w who epoch)
promise_keeps_reporting w who epoch h book giving reporting = record {
  report_mode = λ y k0 k1. grind (arith, nat_tests, reporting.report_mode y);
  report_order = λ y z k0 k1 k2 k3 k4. grind (arith, nat_tests, reporting.report_order y z);
  report_given = λ y x k0 k1 k2 k3 k4. grind (arith, nat_tests, reporting.report_given y x);
}

report_keeps_reporting : (w : World) (who end : ℕ) → MayReport w who → Bookkeeping w → Giving w → Reporting w → Reporting (reports w who end)
report_keeps_reporting w who end h book giving reporting = record {
  report_mode = λ y k0 k1. grind (arith, nat_tests, reporting.report_mode y);
  report_order = λ y z k0 k1 k2 k3 k4. grind (arith, nat_tests, reporting.report_order y z);
  report_given = λ y x k0 k1 k2 k3 k4. grind (arith, nat_tests, reporting.report_given y x);
}

activate_keeps_reporting : (w : World) (epoch : ℕ) (report : ℕ → Report) (applied : ℕ → ℕ) (e : Entry) → MayActivate w epoch report → Bookkeeping w → Giving w
    → Reporting w → Reporting (activates w epoch report applied e)
activate_keeps_reporting w epoch report applied e h book giving reporting = record {
  report_mode = λ y k0 k1. grind (arith, nat_tests, reporting.report_mode y);
  report_order = λ y z k0 k1 k2 k3 k4. grind (arith, nat_tests, reporting.report_order y z);
  report_given = λ y x k0 k1 k2 k3 k4. grind (arith, nat_tests, reporting.report_given y x);
}

pub keeps : (logs : Bool) (w v : World) → Step logs w v → Bookkeeping w → Giving w → Reporting w → Reporting v
keeps logs w v (Recalls who keep h) book giving reporting = recall_keeps_reporting w who keep h book giving reporting
keeps logs w v (WritesFirst taken value h) book giving reporting = grind (arith, nat_tests)
keeps logs w v (TakesAbsent taken h t) book giving reporting = grind (arith, nat_tests)
keeps logs w v (TakesSupply taken value h t) book giving reporting = grind (arith, nat_tests)
keeps logs w v (Fetches who value h k) book giving reporting = grind (arith, nat_tests)
keeps logs w v (Gives answered end h k) book giving reporting = give_keeps_reporting w answered end h book giving reporting
keeps logs w v (GivesAgain answered end h k) book giving reporting = give_again_keeps_reporting w answered end h book giving reporting
keeps logs w v (Notes noted h) book giving reporting = note_keeps_reporting w noted h book giving reporting
keeps logs w v (Promises who epoch h) book giving reporting = promise_keeps_reporting w who epoch h book giving reporting
keeps logs w v (Reports who end h k) book giving reporting = report_keeps_reporting w who end h book giving reporting
keeps logs w v (Activates epoch report applied e h k) book giving reporting = activate_keeps_reporting w epoch report applied e h book giving reporting
keeps logs w v step book giving reporting = grind (arith, nat_tests)

pub begins : (n : ℕ) → Reporting (start n)
begins n = record {
  report_mode = λ y k0 k1. absurd k0;
  report_order = λ y z k0 k1 k2 k3 k4. absurd k0;
  report_given = λ y x k0 k1 k2 k3 k4. absurd k0;
}
