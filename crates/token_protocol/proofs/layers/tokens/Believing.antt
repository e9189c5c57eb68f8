-- The reigning manager believes at least what each client holds, fetches, may take or has reported, and believes one owner. Depends on: bookkeeping,
-- giving, reporting.
use Rattle.std.proofs.Common.{◌≡◌, ◌+◌, ◌<◌, ◌≤◌, ℕ, Bool, arith}
use Rattle.std.proofs.lemmas.Bool.Decides.{nat_tests}
use Rattle.token_protocol.specs.Basics.{In}
use Rattle.token_protocol.specs.Entry.{Entry}
use Rattle.token_protocol.specs.Packets.{Offer, Gave, Report}
use Rattle.token_protocol.specs.World.{World, start, Live}
use Rattle.token_protocol.specs.Managing.{MayNote, notes}
use Rattle.token_protocol.specs.Takeover.{MayActivate, activates}
use Rattle.token_protocol.specs.Step.{Step}
use Rattle.token_protocol.specs.Step.Step.{Asks, Offers, WritesFirst, TakesAbsent, TakesSupply, TakesPlace, Fetches, Gives, Notes, RestartsAdopting, RestartsDiscarding, Promises, Activates}
use Rattle.token_protocol.proofs.layers.bookkeeping.{Bookkeeping}
use Rattle.token_protocol.proofs.layers.tokens.Giving.{Giving}
use Rattle.token_protocol.proofs.layers.tokens.Reporting.{Reporting}

pub record Believing (w : World) : Type 0 where
  -- What a client holds is believed.
  pub covers : (c : ℕ) → (w.client c).mode ≤ w.belief c
  -- A client that fetches is believed to hold a copy at least.
  pub covers_fetch : (c : ℕ) → (w.client c).fetching ≡ 1 → 1 ≤ w.belief c
  -- Where one is believed to own, no other is believed to hold anything.
  pub single : (c : ℕ) (d : ℕ) → (c ≡ d → ⊥) → w.belief c + w.belief d ≤ 2
  -- What a client may still take is believed.
  pub pending : (g : Offer) → In g w.offers → Live w g → g.mode ≤ w.belief g.client
  -- What a client reports for a later epoch is believed.
  pub report_belief : (y : Report) → In y w.reports → w.epoch < y.epoch → y.mode ≤ w.belief y.client

note_keeps_believing : (w : World) (noted : Gave) → MayNote w noted → Bookkeeping w → Giving w → Reporting w → Believing w → Believing (notes w noted)
note_keeps_believing w noted h book giving reporting believing = record {
  covers = λ c. grind (arith, nat_tests, believing.covers c);
  covers_fetch = λ c k0. grind (arith, nat_tests, believing.covers_fetch c);
  single = λ c d k0. grind (arith, nat_tests, believing.single c d);
  pending = λ g k0 k1. grind (arith, nat_tests, believing.pending g);
  report_belief = λ y k0 k1. grind (arith, nat_tests, believing.report_belief y);
}

activate_keeps_believing : (w : World) (epoch : ℕ) (report : ℕ → Report) (applied : ℕ → ℕ) (e : Entry) → MayActivate w epoch report → Bookkeeping w → Giving w
    → Reporting w → Believing w → Believing (activates w epoch report applied e)
activate_keeps_believing w epoch report applied e h book giving reporting believing = record {
  covers = λ c. grind (arith, nat_tests, believing.covers c, h.sent c, h.sender c, h.asked c, reporting.report_mode (report c));
  covers_fetch = λ c k0. grind (
    arith,
    nat_tests,
    believing.covers_fetch c,
    h.sent c,
    h.sender c,
    h.asked c,
    book.promising.report_promised (report c),
    book.promising.deaf_fetch c,
    book.serving.outsider_down c,
    book.serving.down_fetch c,
  );
  single = λ c d k0. grind (
    arith,
    nat_tests,
    believing.single c d,
    h.sent c,
    h.sender c,
    h.asked c,
    h.sent d,
    h.sender d,
    h.asked d,
    believing.report_belief (report c),
    believing.report_belief (report d),
  );
  pending = λ g k0 k1. grind (arith, nat_tests, believing.pending g);
  report_belief = λ y k0 k1. grind (
    arith,
    nat_tests,
    believing.report_belief y,
    reporting.report_order y (report y.client) k0,
    book.promising.report_member y k0,
    h.sent y.client,
    h.sender y.client,
    h.asked y.client,
  );
}

pub keeps : (logs : Bool) (w v : World) → Step logs w v → Bookkeeping w → Giving w → Reporting w → Believing w → Believing v
keeps logs w v (Asks who mode request end h k) book giving reporting believing = grind (arith, nat_tests)
keeps logs w v (Offers asked h k) book giving reporting believing = grind (arith, nat_tests)
keeps logs w v (WritesFirst taken value h) book giving reporting believing = grind (arith, nat_tests)
keeps logs w v (TakesAbsent taken h t) book giving reporting believing = grind (arith, nat_tests)
keeps logs w v (TakesSupply taken value h t) book giving reporting believing = grind (arith, nat_tests)
keeps logs w v (TakesPlace taken h t) book giving reporting believing = grind (arith, nat_tests)
keeps logs w v (Fetches who value h k) book giving reporting believing = grind (arith, nat_tests)
keeps logs w v (Gives answered end h k) book giving reporting believing = grind (arith, nat_tests)
keeps logs w v (Notes noted h) book giving reporting believing = note_keeps_believing w noted h book giving reporting believing
keeps logs w v (RestartsAdopting who incarnation promised h k) book giving reporting believing = grind (arith, nat_tests)
keeps logs w v (RestartsDiscarding who incarnation promised h) book giving reporting believing = grind (arith, nat_tests)
keeps logs w v (Promises who epoch h) book giving reporting believing = grind (arith, nat_tests)
keeps logs w v (Activates epoch report applied e h k) book giving reporting believing =
    activate_keeps_believing w epoch report applied e h book giving reporting believing
keeps logs w v step book giving reporting believing = grind (arith, nat_tests)

pub begins : (n : ℕ) → Believing (start n)
begins n = record {
  covers = λ c. grind (arith, nat_tests);
  covers_fetch = λ c k0. grind (arith, nat_tests);
  single = λ c d k0. grind (arith, nat_tests);
  pending = λ g k0 k1. absurd k0;
  report_belief = λ y k0 k1. absurd k0;
}
