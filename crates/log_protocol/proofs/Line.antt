-- Line: the filed segments are one line, one for each seq up to the head, and the names of the last boot that served stand to its head as their order says.
-- Stands on the shelves, and at the step that serves on Rising (Serving.antt has that step of the three groups of this layer). Holds while no
-- doubtful opening has served.
use Rattle.std.proofs.Common.{◌≡◌, ℕ, suc, ◌<◌, ◌≤◌, arith}
use Rattle.std.proofs.lemmas.Bool.Decides.{nat_tests}
use Rattle.log_protocol.specs.Phase
use Rattle.log_protocol.specs.Packets.{StorePacket, StoredPacket, FragmentPacket, FencedPacket}
use Rattle.log_protocol.specs.State.{State, Names, new_log}
use Rattle.log_protocol.specs.ServerSteps.{loses, CanHear, hears, CanLearn, learns, CanSend, sends, CanAccept, accepts, CanAcceptAgain, accepts_again, CanTell, tells, CanFill, fills, CanDrop, drops, CanDelete, deletes, CanRaise, raises, CanFence, fences}
use Rattle.log_protocol.specs.OwnerSteps.{CanSeal, seals, CanRestripe, restripes, CanNote, notes, CanSettle, settles, crashes}
use Rattle.log_protocol.specs.OpeningSteps.{CanBegin, begins, CanPickNone, picks_none, CanPickKept, picks_kept, CanPickPrior, picks_prior, CanCut, cuts, CanOpen, opens}
use Rattle.log_protocol.proofs.ShelfInvariant.{ShelfInvariant}
use Rattle.log_protocol.proofs.NewNames.{new_seal, new_restripe}

pub record Line (w : State) : Type 0 where
  -- the end is the head of the line, also while the owner is down or opens its log
  pub its_end : w.end ≡ w.line w.head
  -- before seq 1 there is nothing
  pub line_none : w.line 0 ≡ 0
  -- what is filed is on the line
  pub filed_line : (x : ℕ) → w.filed x ≡ 1 → w.line (w.seq_of x) ≡ x
  -- no later than the head
  pub filed_head : (x : ℕ) → w.filed x ≡ 1 → w.seq_of x ≤ w.head
  -- what is on the line is filed
  pub line_filed : (q : ℕ) → 0 < q → q ≤ w.head → w.filed (w.line q) ≡ 1
  -- at its seq
  pub line_seq : (q : ℕ) → 0 < q → q ≤ w.head → w.seq_of (w.line q) ≡ q
  -- the head too, also where there is none
  pub head_seq : w.seq_of (w.line w.head) ≡ w.head
  -- from the horizon to which the last opening read back, each has the one before as its prior
  pub line_prior : (q : ℕ) → q < w.head → w.line_low ≤ q → w.prior_of (w.line (suc q)) ≡ w.line q
  -- filed segments are of boots no later than the last that served
  pub line_boot : (x : ℕ) → w.filed x ≡ 1 → w.incarnation_of x ≤ w.served
  -- the head is of that boot
  pub head_boot : 0 < w.head → w.incarnation_of (w.line w.head) ≡ w.served
  -- and its last attempt at that seq
  pub head_attempt : (x : ℕ) → w.booked x ≡ 1 → w.incarnation_of x ≡ w.served → w.seq_of x ≡ w.head → w.attempt_of x ≤ w.attempt_of (w.line w.head)
  -- the least horizon is no further than one above the head
  pub low_head : w.low ≤ suc w.head
  -- that boot gave no name further than one above the head
  pub served_next : (x : ℕ) → w.booked x ≡ 1 → w.incarnation_of x ≡ w.served → w.seq_of x ≤ suc w.head
  -- and what it named there has the head as its prior
  pub next_prior : (x : ℕ) → w.booked x ≡ 1 → w.incarnation_of x ≡ w.served → w.seq_of x ≡ suc w.head → w.prior_of x ≡ w.line w.head
  -- the feed of a serving owner is the line above its base
  pub feed_line : (q : ℕ) → w.phase ≡ Phase.serving → w.feed_base < q → q ≤ w.head → w.feed q ≡ w.line q

pub loses_keeps_line : (w : State) (v : ℕ) → ShelfInvariant w → Line w → Line (loses w v)
loses_keeps_line w v shelf line = grind (arith, nat_tests)

pub hears_keeps_line : (w : State) (v g : ℕ) → CanHear w v g → ShelfInvariant w → Line w → Line (hears w v g)
hears_keeps_line w v g can shelf line = grind (arith, nat_tests)

pub learns_keeps_line : (w : State) (map : ℕ → ℕ) → CanLearn w map → ShelfInvariant w → Line w → Line (learns w map)
learns_keeps_line w map can shelf line = grind (arith, nat_tests)

pub sends_keeps_line : (w : State) (x i : ℕ) → CanSend w x i → ShelfInvariant w → Line w → Line (sends w x i)
sends_keeps_line w x i can shelf line = grind (arith, nat_tests)

pub accepts_keeps_line : (w : State) (p : StorePacket) → CanAccept w p → ShelfInvariant w → Line w → Line (accepts w p)
accepts_keeps_line w p can shelf line = grind (arith, nat_tests)

pub accepts_again_keeps_line : (w : State) (p : StorePacket) → CanAcceptAgain w p → ShelfInvariant w → Line w → Line (accepts_again w p)
accepts_again_keeps_line w p can shelf line = grind (arith, nat_tests)

pub tells_keeps_line : (w : State) (v x : ℕ) → CanTell w v x → ShelfInvariant w → Line w → Line (tells w v x)
tells_keeps_line w v x can shelf line = grind (arith, nat_tests)

pub fills_keeps_line : (w : State) (v i : ℕ) (p : FragmentPacket) → CanFill w v i p → ShelfInvariant w → Line w → Line (fills w v i p)
fills_keeps_line w v i p can shelf line = grind (arith, nat_tests)

pub drops_keeps_line : (w : State) (x : ℕ) → CanDrop w x → ShelfInvariant w → Line w → Line (drops w x)
drops_keeps_line w x can shelf line = grind (arith, nat_tests)

pub deletes_keeps_line : (w : State) (v x : ℕ) → CanDelete w x → ShelfInvariant w → Line w → Line (deletes w v x)
deletes_keeps_line w v x can shelf line = grind (arith, nat_tests)

pub raises_keeps_line : (w : State) (low : ℕ) → CanRaise w low → w.clean ≡ 1 → ShelfInvariant w → Line w → Line (raises w low)
raises_keeps_line w low can clean shelf line = let filed = can.filed clean in grind (arith, nat_tests)

pub fences_keeps_line : (w : State) (v c : ℕ) → CanFence w c → ShelfInvariant w → Line w → Line (fences w v c)
fences_keeps_line w v c can shelf line = grind (arith, nat_tests)

pub seals_keeps_line : (w : State) (x text count : ℕ) (server : ℕ → ℕ) (content : ℕ) → CanSeal w x count server → ShelfInvariant w → Line w
    → Line (seals w x text count server content)
seals_keeps_line w x text count server content can shelf line =
    let new : w.booked x ≡ 1 → ⊥ = new_seal w x count server can shelf.boots in
    grind (arith, nat_tests)

pub restripes_keeps_line : (w : State) (x text count : ℕ) (server : ℕ → ℕ) → CanRestripe w x count server → ShelfInvariant w → Line w
    → Line (restripes w x text count server)
restripes_keeps_line w x text count server can shelf line =
    let new : w.booked x ≡ 1 → ⊥ = new_restripe w x count server can shelf.boots in
    grind (arith, nat_tests)

pub notes_keeps_line : (w : State) (p : StoredPacket) → CanNote w p → ShelfInvariant w → Line w → Line (notes w p)
notes_keeps_line w p can shelf line = grind (arith, nat_tests)

pub settles_keeps_line : (w : State) → CanSettle w → ShelfInvariant w → Line w → Line (settles w)
settles_keeps_line w can shelf line = grind (arith, nat_tests)

pub crashes_keeps_line : (w : State) → ShelfInvariant w → Line w → Line (crashes w)
crashes_keeps_line w shelf line = grind (arith, nat_tests)

pub begins_keeps_line : (w : State) → CanBegin w → ShelfInvariant w → Line w → Line (begins w)
begins_keeps_line w can shelf line = grind (arith, nat_tests)

pub picks_none_keeps_line : (w : State) (list_of : ℕ → FencedPacket) (low : ℕ) → CanPickNone w list_of low → ShelfInvariant w → Line w → Line (picks_none w low)
picks_none_keeps_line w list_of low can shelf line = grind (arith, nat_tests)

pub picks_kept_keeps_line : (w : State) (list_of : ℕ → FencedPacket) (low x : ℕ) → CanPickKept w list_of low x → ShelfInvariant w → Line w
    → Line (picks_kept w low x)
picks_kept_keeps_line w list_of low x can shelf line = grind (arith, nat_tests)

pub picks_prior_keeps_line : (w : State) (list_of : ℕ → FencedPacket) (low x i : ℕ) → CanPickPrior w list_of low x i → ShelfInvariant w → Line w
    → Line (picks_prior w low x)
picks_prior_keeps_line w list_of low x i can shelf line = grind (arith, nat_tests)

pub cuts_keeps_line : (w : State) (low : ℕ) → CanCut w low → ShelfInvariant w → Line w → Line (cuts w low)
cuts_keeps_line w low can shelf line = grind (arith, nat_tests)

pub opens_keeps_line : (w : State) (x text count : ℕ) (server : ℕ → ℕ) → CanOpen w x count server → ShelfInvariant w → Line w
    → Line (opens w x text count server)
opens_keeps_line w x text count server can shelf line = grind (arith, nat_tests)

pub new_log_line : (servers : ℕ) (seq_of incarnation_of attempt_of : ℕ → ℕ) → Names seq_of incarnation_of attempt_of
    → Line (new_log servers seq_of incarnation_of attempt_of)
new_log_line servers seq_of incarnation_of attempt_of names = grind (arith, nat_tests)
