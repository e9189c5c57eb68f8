-- Rising: opening segments that have not served come after the head, and below each of them the priors lead to the head.
-- Stands on the shelves, Line and Spans. Holds while no doubtful opening has served, and under the premise on losses.
use Rattle.std.proofs.Common.{◌≡◌, ℕ, suc, ◌<◌, ◌≤◌, arith}
use Rattle.std.proofs.lemmas.Bool.Decides.{nat_tests}
use Rattle.log_protocol.specs.Phase
use Rattle.log_protocol.specs.Packets.{StorePacket, StoredPacket, FragmentPacket, FencedPacket}
use Rattle.log_protocol.specs.State.{State, new_log}
use Rattle.log_protocol.specs.ServerSteps.{loses, CanHear, hears, CanLearn, learns, CanSend, sends, CanAccept, accepts, CanAcceptAgain, accepts_again, CanTell, tells, CanFill, fills, CanDrop, drops, CanDelete, deletes, CanRaise, raises, CanFence, fences}
use Rattle.log_protocol.specs.OwnerSteps.{books, CanSeal, seals, CanRestripe, restripes, CanNote, notes, CanSettle, settles, crashes}
use Rattle.log_protocol.specs.OpeningSteps.{CanBegin, begins, CanPickNone, picks_none, CanPickKept, picks_kept, CanPickPrior, picks_prior, CanCut, cuts, CanOpen, opens, Undoubted}
use Rattle.log_protocol.proofs.ShelfInvariant.{ShelfInvariant}
use Rattle.log_protocol.proofs.Line.{Line}
use Rattle.log_protocol.proofs.Spans.{Spans}
use Rattle.log_protocol.proofs.HeadSeen.{no_head, picked_not_before, not_head}
use Rattle.log_protocol.proofs.PickedWhole.{picked_booked}
use Rattle.log_protocol.proofs.NewNames.{new_seal, new_restripe, new_opening}

pub record Rising (w : State) : Type 0 where
  -- a name of a boot later than the last that served comes after the head
  pub above : (x : ℕ) → w.booked x ≡ 1 → w.served < w.incarnation_of x → suc w.head ≤ w.seq_of x
  -- one just after the head has it as its prior
  pub root : (x : ℕ) → w.booked x ≡ 1 → w.served < w.incarnation_of x → w.seq_of x ≡ suc w.head → w.low_when_booked x ≤ w.head → w.prior_of x ≡ w.line w.head
  -- one further has a prior of a boot no earlier than the last that served
  pub root_up : (x : ℕ) → w.booked x ≡ 1 → w.served < w.incarnation_of x → suc w.head < w.seq_of x → w.low_when_booked x ≤ w.head
      → w.served ≤ w.incarnation_of (w.prior_of x)
  -- an opening segment comes after the head
  pub opening_above : Phase.reading ≤ w.phase → w.phase ≤ Phase.writing → suc w.head ≤ w.opening_seq
  -- one just after the head is built on it
  pub base_root : Phase.reading ≤ w.phase → w.phase ≤ Phase.writing → w.opening_seq ≡ suc w.head → w.pick_low ≤ w.head → w.base ≡ w.line w.head
  -- one further is built on a segment of a boot no earlier than the last that served
  pub base_up : Phase.reading ≤ w.phase → w.phase ≤ Phase.writing → suc w.head < w.opening_seq → w.pick_low ≤ w.head → w.served ≤ w.incarnation_of w.base

-- the premise on losses held before a loss
lost_sure : (w : State) (v : ℕ) → Undoubted (loses w v) → Undoubted w
lost_sure w v sure a b = let h = sure a b in (h.0, h.1, (let e = h.2 in grind (arith, nat_tests)))

-- and before a name was booked
booked_sure : (w : State) (x text count : ℕ) (server : ℕ → ℕ) (prior content : ℕ) → (w.booked x ≡ 1 → ⊥) → ShelfInvariant w → Line w
    → Undoubted (books w x text count server prior content) → Undoubted w
booked_sure w x text count server prior content new shelf line sure a b =
    let h = sure a b in
    let e = shelf.filed.filed_booked (w.line w.head) (line.line_filed w.head a (omega arith)) in
    (h.0, (let k = h.1 in grind (arith, nat_tests)), h.2)

-- and before a Begin that goes on with a span
span_sure : (w : State) → Spans w → (Undoubted w → Rising w) → Undoubted (begins w) → (x : ℕ) → w.booked x ≡ 1 → w.served < w.incarnation_of x → Rising w
span_sure w spans rising sure x b up =
    let on : 0 < w.spanning = grind (arith, spans.no_span x) in
    rising (λ a d. let h = sure a (grind (arith, nat_tests)) in (h.0, h.1, (let e = h.2 in grind (arith, nat_tests))))

pub loses_keeps_rising : (w : State) (v : ℕ) → ShelfInvariant w → Line w → Spans w → (Undoubted w → Rising w) → Undoubted (loses w v) → Rising (loses w v)
loses_keeps_rising w v shelf line spans rising sure = let now = rising (lost_sure w v sure) in grind (arith, nat_tests)

pub hears_keeps_rising : (w : State) (v g : ℕ) → CanHear w v g → ShelfInvariant w → Line w → Spans w → (Undoubted w → Rising w) → Undoubted (hears w v g)
    → Rising (hears w v g)
hears_keeps_rising w v g can shelf line spans rising sure = let now = rising sure in grind (arith, nat_tests)

pub learns_keeps_rising : (w : State) (map : ℕ → ℕ) → CanLearn w map → ShelfInvariant w → Line w → Spans w → (Undoubted w → Rising w) → Undoubted (learns w map)
    → Rising (learns w map)
learns_keeps_rising w map can shelf line spans rising sure = let now = rising sure in grind (arith, nat_tests)

pub sends_keeps_rising : (w : State) (x i : ℕ) → CanSend w x i → ShelfInvariant w → Line w → Spans w → (Undoubted w → Rising w) → Undoubted (sends w x i)
    → Rising (sends w x i)
sends_keeps_rising w x i can shelf line spans rising sure = let now = rising sure in grind (arith, nat_tests)

pub accepts_keeps_rising : (w : State) (p : StorePacket) → CanAccept w p → ShelfInvariant w → Line w → Spans w → (Undoubted w → Rising w)
    → Undoubted (accepts w p) → Rising (accepts w p)
accepts_keeps_rising w p can shelf line spans rising sure = let now = rising sure in grind (arith, nat_tests)

pub accepts_again_keeps_rising : (w : State) (p : StorePacket) → CanAcceptAgain w p → ShelfInvariant w → Line w → Spans w → (Undoubted w → Rising w)
    → Undoubted (accepts_again w p) → Rising (accepts_again w p)
accepts_again_keeps_rising w p can shelf line spans rising sure = let now = rising sure in grind (arith, nat_tests)

pub tells_keeps_rising : (w : State) (v x : ℕ) → CanTell w v x → ShelfInvariant w → Line w → Spans w → (Undoubted w → Rising w) → Undoubted (tells w v x)
    → Rising (tells w v x)
tells_keeps_rising w v x can shelf line spans rising sure = let now = rising sure in grind (arith, nat_tests)

pub fills_keeps_rising : (w : State) (v i : ℕ) (p : FragmentPacket) → CanFill w v i p → ShelfInvariant w → Line w → Spans w → (Undoubted w → Rising w)
    → Undoubted (fills w v i p) → Rising (fills w v i p)
fills_keeps_rising w v i p can shelf line spans rising sure = let now = rising sure in grind (arith, nat_tests)

pub drops_keeps_rising : (w : State) (x : ℕ) → CanDrop w x → ShelfInvariant w → Line w → Spans w → (Undoubted w → Rising w) → Undoubted (drops w x)
    → Rising (drops w x)
drops_keeps_rising w x can shelf line spans rising sure = let now = rising sure in grind (arith, nat_tests)

pub deletes_keeps_rising : (w : State) (v x : ℕ) → CanDelete w x → ShelfInvariant w → Line w → Spans w → (Undoubted w → Rising w) → Undoubted (deletes w v x)
    → Rising (deletes w v x)
deletes_keeps_rising w v x can shelf line spans rising sure = let now = rising sure in grind (arith, nat_tests)

pub raises_keeps_rising : (w : State) (low : ℕ) → CanRaise w low → ShelfInvariant w → Line w → Spans w → (Undoubted w → Rising w) → Undoubted (raises w low)
    → Rising (raises w low)
raises_keeps_rising w low can shelf line spans rising sure = let now = rising sure in grind (arith, nat_tests)

pub fences_keeps_rising : (w : State) (v c : ℕ) → CanFence w c → ShelfInvariant w → Line w → Spans w → (Undoubted w → Rising w) → Undoubted (fences w v c)
    → Rising (fences w v c)
fences_keeps_rising w v c can shelf line spans rising sure = let now = rising sure in grind (arith, nat_tests)

pub seals_keeps_rising : (w : State) (x text count : ℕ) (server : ℕ → ℕ) (content : ℕ) → CanSeal w x count server → ShelfInvariant w → Line w → Spans w
    → (Undoubted w → Rising w) → Undoubted (seals w x text count server content) → Rising (seals w x text count server content)
seals_keeps_rising w x text count server content can shelf line spans rising sure =
    let new : w.booked x ≡ 1 → ⊥ = new_seal w x count server can shelf.boots in
    let now = rising (booked_sure w x text count server w.end content new shelf line sure) in
    record {
      above = λ y k0 k1. grind (arith, nat_tests, now.above y);
      root = λ y k0 k1 k2 k3. grind (arith, nat_tests, now.root y);
      root_up = λ y k0 k1 k2 k3. grind (arith, nat_tests, now.root_up y);
      opening_above = λ k0 k1. grind (arith, nat_tests, now.opening_above);
      base_root = λ k0 k1 k2 k3. grind (arith, nat_tests, now.base_root);
      base_up = λ k0 k1 k2 k3. grind (arith, nat_tests, now.base_up);
    }

pub restripes_keeps_rising : (w : State) (x text count : ℕ) (server : ℕ → ℕ) → CanRestripe w x count server → ShelfInvariant w → Line w → Spans w
    → (Undoubted w → Rising w) → Undoubted (restripes w x text count server) → Rising (restripes w x text count server)
restripes_keeps_rising w x text count server can shelf line spans rising sure =
    let new : w.booked x ≡ 1 → ⊥ = new_restripe w x count server can shelf.boots in
    let now = rising (booked_sure w x text count server (w.prior_of w.flight) (w.content_of w.flight) new shelf line sure) in
    record {
      above = λ y k0 k1. grind (arith, nat_tests, now.above y);
      root = λ y k0 k1 k2 k3. grind (arith, nat_tests, now.root y);
      root_up = λ y k0 k1 k2 k3. grind (arith, nat_tests, now.root_up y);
      opening_above = λ k0 k1. grind (arith, nat_tests, now.opening_above);
      base_root = λ k0 k1 k2 k3. grind (arith, nat_tests, now.base_root);
      base_up = λ k0 k1 k2 k3. grind (arith, nat_tests, now.base_up);
    }

pub notes_keeps_rising : (w : State) (p : StoredPacket) → CanNote w p → ShelfInvariant w → Line w → Spans w → (Undoubted w → Rising w) → Undoubted (notes w p)
    → Rising (notes w p)
notes_keeps_rising w p can shelf line spans rising sure = let now = rising sure in grind (arith, nat_tests)

pub settles_keeps_rising : (w : State) → CanSettle w → ShelfInvariant w → Line w → Spans w → (Undoubted w → Rising w) → Undoubted (settles w)
    → Rising (settles w)
settles_keeps_rising w can shelf line spans rising sure = grind (arith, nat_tests)

pub crashes_keeps_rising : (w : State) → ShelfInvariant w → Line w → Spans w → (Undoubted w → Rising w) → Undoubted (crashes w) → Rising (crashes w)
crashes_keeps_rising w shelf line spans rising sure = let now = rising sure in grind (arith, nat_tests)

pub begins_keeps_rising : (w : State) → CanBegin w → ShelfInvariant w → Line w → Spans w → (Undoubted w → Rising w) → Undoubted (begins w) → Rising (begins w)
begins_keeps_rising w can shelf line spans rising sure = record {
  above = λ x k0 k1. (span_sure w spans rising sure x k0 k1).above x k0 k1;
  root = λ x k0 k1 k2 k3. (span_sure w spans rising sure x k0 k1).root x k0 k1 k2 k3;
  root_up = λ x k0 k1 k2 k3. (span_sure w spans rising sure x k0 k1).root_up x k0 k1 k2 k3;
  opening_above = λ k0 k1. grind (arith, nat_tests);
  base_root = λ k0 k1 k2 k3. grind (arith, nat_tests);
  base_up = λ k0 k1 k2 k3. grind (arith, nat_tests);
}

pub picks_none_keeps_rising : (w : State) (list_of : ℕ → FencedPacket) (low : ℕ) → CanPickNone w list_of low → ShelfInvariant w → Line w → Spans w
    → (Undoubted w → Rising w) → Undoubted (picks_none w low) → Rising (picks_none w low)
picks_none_keeps_rising w list_of low can shelf line spans rising sure =
    let now = rising sure in
    let none = no_head w list_of low can shelf line spans sure in
    record {
      above = λ y k0 k1. grind (arith, nat_tests, now.above y);
      root = λ y k0 k1 k2 k3. grind (arith, nat_tests, now.root y);
      root_up = λ y k0 k1 k2 k3. grind (arith, nat_tests, now.root_up y);
      opening_above = λ k0 k1. grind (arith, nat_tests, now.opening_above);
      base_root = λ k0 k1 k2 k3. grind (arith, nat_tests, now.base_root);
      base_up = λ k0 k1 k2 k3. grind (arith, nat_tests, now.base_up);
    }

pub picks_kept_keeps_rising : (w : State) (list_of : ℕ → FencedPacket) (low x : ℕ) → CanPickKept w list_of low x → ShelfInvariant w → Line w → Spans w
    → (Undoubted w → Rising w) → Undoubted (picks_kept w low x) → Rising (picks_kept w low x)
picks_kept_keeps_rising w list_of low x can shelf line spans rising sure =
    let booked : w.booked x ≡ 1 = picked_booked w list_of low x can.gathered can.picked shelf.lists in
    let now = rising sure in
    let after = picked_not_before w list_of low x can.gathering can.gathered can.picked shelf line spans sure in
    let up = can.picked.above in
    record {
      above = λ y k0 k1. grind (arith, nat_tests, now.above y);
      root = λ y k0 k1 k2 k3. grind (arith, nat_tests, now.root y);
      root_up = λ y k0 k1 k2 k3. grind (arith, nat_tests, now.root_up y);
      opening_above = λ k0 k1. grind (arith, nat_tests, now.opening_above, now.above x booked);
      base_root = λ k0 k1 k2 k3. grind (arith, nat_tests, now.base_root, now.above x booked);
      base_up = λ k0 k1 k2 k3. grind (arith, nat_tests, now.base_up, now.above x booked);
    }

pub picks_prior_keeps_rising : (w : State) (list_of : ℕ → FencedPacket) (low x i : ℕ) → CanPickPrior w list_of low x i → ShelfInvariant w → Line w → Spans w
    → (Undoubted w → Rising w) → Undoubted (picks_prior w low x) → Rising (picks_prior w low x)
picks_prior_keeps_rising w list_of low x i can shelf line spans rising sure =
    let booked : w.booked x ≡ 1 = picked_booked w list_of low x can.gathered can.picked shelf.lists in
    let now = rising sure in
    let after = picked_not_before w list_of low x can.gathering can.gathered can.picked shelf line spans sure in
    let up = can.picked.above in
    let old = shelf.boots.no_name_yet x (let h = can.gathering in omega arith) (let h = can.gathering in omega arith) booked in
    let begun = can.gathered.begun in
    let other = not_head w list_of low x i can shelf line spans in
    record {
      above = λ y k0 k1. grind (arith, nat_tests, now.above y);
      root = λ y k0 k1 k2 k3. grind (arith, nat_tests, now.root y);
      root_up = λ y k0 k1 k2 k3. grind (arith, nat_tests, now.root_up y);
      opening_above = λ k0 k1. grind (arith, nat_tests, now.opening_above, now.above x booked, λ (le : low ≤ w.head). other le);
      base_root = λ k0 k1 k2 k3. grind (arith, nat_tests, now.base_root);
      base_up = λ k0 k1 k2 k3. grind (arith, nat_tests, now.base_up);
    }

pub cuts_keeps_rising : (w : State) (low : ℕ) → CanCut w low → ShelfInvariant w → Line w → Spans w → (Undoubted w → Rising w) → Undoubted (cuts w low)
    → Rising (cuts w low)
cuts_keeps_rising w low can shelf line spans rising sure = let now = rising sure in grind (arith, nat_tests)

pub opens_keeps_rising : (w : State) (x text count : ℕ) (server : ℕ → ℕ) → CanOpen w x count server → ShelfInvariant w → Line w → Spans w
    → (Undoubted w → Rising w) → Undoubted (opens w x text count server) → Rising (opens w x text count server)
opens_keeps_rising w x text count server can shelf line spans rising sure =
    let new : w.booked x ≡ 1 → ⊥ = new_opening w x count server can shelf.boots in
    let now = rising (booked_sure w x text count server w.base 0 new shelf line sure) in
    record {
      above = λ y k0 k1. grind (arith, nat_tests, now.above y);
      root = λ y k0 k1 k2 k3. grind (arith, nat_tests, now.root y);
      root_up = λ y k0 k1 k2 k3. grind (arith, nat_tests, now.root_up y);
      opening_above = λ k0 k1. grind (arith, nat_tests, now.opening_above);
      base_root = λ k0 k1 k2 k3. grind (arith, nat_tests, now.base_root);
      base_up = λ k0 k1 k2 k3. grind (arith, nat_tests, now.base_up);
    }

pub new_log_rising : (servers : ℕ) (seq_of incarnation_of attempt_of : ℕ → ℕ) → Rising (new_log servers seq_of incarnation_of attempt_of)
new_log_rising servers seq_of incarnation_of attempt_of = grind (arith, nat_tests)
