-- What only grows, or stays, over every step and every run: the book, what is filed and dropped, the line up to its head, the least horizon.
use Rattle.std.proofs.Common.{◌≡◌, ℕ, ◌<◌, ◌≤◌, arith}
use Rattle.std.proofs.lemmas.Bool.Decides.{nat_tests}
use Rattle.log_protocol.specs.Packets.{StorePacket, StoredPacket, FragmentPacket, FencedPacket}
use Rattle.log_protocol.specs.State.{State}
use Rattle.log_protocol.specs.ServerSteps.{loses, CanHear, hears, CanLearn, learns, CanSend, sends, CanAccept, accepts, CanAcceptAgain, accepts_again, CanTell, tells, CanFill, fills, CanDrop, drops, CanDelete, deletes, CanRaise, raises, CanFence, fences}
use Rattle.log_protocol.specs.OwnerSteps.{CanSeal, seals, CanRestripe, restripes, CanNote, notes, CanSettle, settles, crashes, CanRestart, restarts}
use Rattle.log_protocol.specs.OpeningSteps.{CanBegin, begins, CanPickNone, picks_none, CanPickKept, picks_kept, CanPickPrior, picks_prior, CanCut, cuts, CanOpen, opens, CanServe, serves}
use Rattle.log_protocol.specs.Step.{Step}
use Rattle.log_protocol.specs.Step.Step.{Loses, Hears, Learns, Sends, Accepts, Accepts_again, Tells, Fills, Drops, Deletes, Raises, Fences, Seals, Restripes, Notes, Settles, Crashes, Restarts, Begins, Picks_none, Picks_kept, Picks_prior, Cuts, Opens, Serves}
use Rattle.log_protocol.specs.Step.{Steps}
use Rattle.log_protocol.specs.Step.Steps.{Done, More}
use Rattle.log_protocol.proofs.Invariant.{Invariant}
use Rattle.log_protocol.proofs.Induction.{step_keeps}
use Rattle.log_protocol.proofs.NewNames.{new_seal, new_restripe, new_opening}
use Rattle.log_protocol.proofs.Serving.{served_clean, opening_after}

pub record Grows (w v : State) : Type 0 where
  -- what is booked stays booked,
  pub booked : (x : ℕ) → w.booked x ≡ 1 → v.booked x ≡ 1
  -- with its text,
  pub text_of : (x : ℕ) → w.booked x ≡ 1 → v.text_of x ≡ w.text_of x
  -- its group,
  pub member_count : (x : ℕ) → w.booked x ≡ 1 → v.member_count x ≡ w.member_count x
  pub member_server : (x j : ℕ) → w.booked x ≡ 1 → v.member_server x j ≡ w.member_server x j
  pub member_generation : (x j : ℕ) → w.booked x ≡ 1 → v.member_generation x j ≡ w.member_generation x j
  -- its prior
  pub prior_of : (x : ℕ) → w.booked x ≡ 1 → v.prior_of x ≡ w.prior_of x
  -- and its content
  pub content_of : (x : ℕ) → w.booked x ≡ 1 → v.content_of x ≡ w.content_of x
  -- what is filed, dropped or secured stays so
  pub filed : (x : ℕ) → w.filed x ≡ 1 → v.filed x ≡ 1
  pub dropped : (x : ℕ) → w.dropped x ≡ 1 → v.dropped x ≡ 1
  pub secured : (x j : ℕ) → w.secured x j ≡ 1 → v.secured x j ≡ 1
  -- generations, the least horizon and the incarnation never fall
  pub generation : (u : ℕ) → w.generation u ≤ v.generation u
  pub low : w.low ≤ v.low
  pub incarnation : w.incarnation ≤ v.incarnation
  -- a log that is clean was clean,
  pub clean : v.clean ≡ 1 → w.clean ≡ 1
  -- and its line only grew at its head
  pub head : v.clean ≡ 1 → w.head ≤ v.head
  pub line : (q : ℕ) → v.clean ≡ 1 → q ≤ w.head → v.line q ≡ w.line q
  -- what a name says never changes
  pub seq_of : (x : ℕ) → v.seq_of x ≡ w.seq_of x
  pub incarnation_of : (x : ℕ) → v.incarnation_of x ≡ w.incarnation_of x
  -- within a generation a mark stays,
  pub marked : (u x : ℕ) → w.marked u x ≡ 1 → v.generation u ≡ w.generation u → v.marked u x ≡ 1
  -- and a fragment too, unless it is marked
  pub holds : (u x : ℕ) → w.holds u x ≡ 1 → v.generation u ≡ w.generation u → (v.marked u x ≡ 1 → ⊥) → v.holds u x ≡ 1

loses_grows : (w : State) (v : ℕ) → Invariant w → Grows w (loses w v)
loses_grows w v i = grind (arith, nat_tests)

hears_grows : (w : State) (v g : ℕ) → CanHear w v g → Invariant w → Grows w (hears w v g)
hears_grows w v g can i = grind (arith, nat_tests)

learns_grows : (w : State) (map : ℕ → ℕ) → CanLearn w map → Invariant w → Grows w (learns w map)
learns_grows w map can i = grind (arith, nat_tests)

sends_grows : (w : State) (x i : ℕ) → CanSend w x i → Invariant w → Grows w (sends w x i)
sends_grows w x i can past = grind (arith, nat_tests)

accepts_grows : (w : State) (p : StorePacket) → CanAccept w p → Invariant w → Grows w (accepts w p)
accepts_grows w p can i = grind (arith, nat_tests)

accepts_again_grows : (w : State) (p : StorePacket) → CanAcceptAgain w p → Invariant w → Grows w (accepts_again w p)
accepts_again_grows w p can i = grind (arith, nat_tests)

tells_grows : (w : State) (v x : ℕ) → CanTell w v x → Invariant w → Grows w (tells w v x)
tells_grows w v x can i = grind (arith, nat_tests)

fills_grows : (w : State) (v i : ℕ) (p : FragmentPacket) → CanFill w v i p → Invariant w → Grows w (fills w v i p)
fills_grows w v i p can past = grind (arith, nat_tests)

drops_grows : (w : State) (x : ℕ) → CanDrop w x → Invariant w → Grows w (drops w x)
drops_grows w x can i = grind (arith, nat_tests)

deletes_grows : (w : State) (v x : ℕ) → CanDelete w x → Invariant w → Grows w (deletes w v x)
deletes_grows w v x can i = grind (arith, nat_tests)

raises_grows : (w : State) (low : ℕ) → CanRaise w low → Invariant w → Grows w (raises w low)
raises_grows w low can i = grind (arith, nat_tests)

fences_grows : (w : State) (v c : ℕ) → CanFence w c → Invariant w → Grows w (fences w v c)
fences_grows w v c can i = grind (arith, nat_tests)

seals_grows : (w : State) (x text count : ℕ) (server : ℕ → ℕ) (content : ℕ) → CanSeal w x count server → Invariant w
    → Grows w (seals w x text count server content)
seals_grows w x text count server content can i =
    let new : w.booked x ≡ 1 → ⊥ = new_seal w x count server can i.shelf.boots in
    grind (arith, nat_tests)

restripes_grows : (w : State) (x text count : ℕ) (server : ℕ → ℕ) → CanRestripe w x count server → Invariant w → Grows w (restripes w x text count server)
restripes_grows w x text count server can i =
    let new : w.booked x ≡ 1 → ⊥ = new_restripe w x count server can i.shelf.boots in
    grind (arith, nat_tests)

notes_grows : (w : State) (p : StoredPacket) → CanNote w p → Invariant w → Grows w (notes w p)
notes_grows w p can i = grind (arith, nat_tests)

settles_grows : (w : State) → CanSettle w → Invariant w → Grows w (settles w)
settles_grows w can i =
    let head : w.clean ≡ 1 → w.head < w.seq_of w.flight =
    λ k. let e = (i.line k).its_end in let f = i.shelf.boots.flight_seq can.flying can.serving in let h = (i.line k).head_seq in grind (arith, nat_tests) in
    grind (arith, nat_tests, head)

crashes_grows : (w : State) → Invariant w → Grows w (crashes w)
crashes_grows w i = grind (arith, nat_tests)

restarts_grows : (w : State) → CanRestart w → Invariant w → Grows w (restarts w)
restarts_grows w can i = grind (arith, nat_tests)

begins_grows : (w : State) → CanBegin w → Invariant w → Grows w (begins w)
begins_grows w can i = grind (arith, nat_tests)

picks_none_grows : (w : State) (list_of : ℕ → FencedPacket) (low : ℕ) → CanPickNone w list_of low → Invariant w → Grows w (picks_none w low)
picks_none_grows w list_of low can i = grind (arith, nat_tests)

picks_kept_grows : (w : State) (list_of : ℕ → FencedPacket) (low x : ℕ) → CanPickKept w list_of low x → Invariant w → Grows w (picks_kept w low x)
picks_kept_grows w list_of low x can i = grind (arith, nat_tests)

picks_prior_grows : (w : State) (list_of : ℕ → FencedPacket) (low x i : ℕ) → CanPickPrior w list_of low x i → Invariant w → Grows w (picks_prior w low x)
picks_prior_grows w list_of low x i can past = grind (arith, nat_tests)

cuts_grows : (w : State) (low : ℕ) → CanCut w low → Invariant w → Grows w (cuts w low)
cuts_grows w low can i = grind (arith, nat_tests)

opens_grows : (w : State) (x text count : ℕ) (server : ℕ → ℕ) → CanOpen w x count server → Invariant w → Grows w (opens w x text count server)
opens_grows w x text count server can i = let new : w.booked x ≡ 1 → ⊥ = new_opening w x count server can i.shelf.boots in grind (arith, nat_tests)

serves_grows : (w : State) (path : ℕ → ℕ) (lowest sure : ℕ) → CanServe w path lowest sure → Invariant w → Grows w (serves w path lowest sure)
serves_grows w path lowest sure can i =
    let clean : (serves w path lowest sure).clean ≡ 1 → w.clean ≡ 1 = λ k. (served_clean w path lowest sure can k).0 in
    let head : (serves w path lowest sure).clean ≡ 1 → w.head < w.opening_seq =
    λ k. let was = served_clean w path lowest sure can k in let writing = can.writing in let r =
    opening_after w writing i.shelf (λ z. i.rising was.0 (was.1 z)) in omega arith in
    grind (arith, nat_tests, clean, head)

pub step_grows : (w u : State) → Step w u → Invariant w → Grows w u
step_grows w u (Loses v) past = loses_grows w v past
step_grows w u (Hears v g can) past = hears_grows w v g can past
step_grows w u (Learns map can) past = learns_grows w map can past
step_grows w u (Sends x i can) past = sends_grows w x i can past
step_grows w u (Accepts p can) past = accepts_grows w p can past
step_grows w u (Accepts_again p can) past = accepts_again_grows w p can past
step_grows w u (Tells v x can) past = tells_grows w v x can past
step_grows w u (Fills v i p can) past = fills_grows w v i p can past
step_grows w u (Drops x can) past = drops_grows w x can past
step_grows w u (Deletes v x can) past = deletes_grows w v x can past
step_grows w u (Raises low can) past = raises_grows w low can past
step_grows w u (Fences v c can) past = fences_grows w v c can past
step_grows w u (Seals x text count server content can) past = seals_grows w x text count server content can past
step_grows w u (Restripes x text count server can) past = restripes_grows w x text count server can past
step_grows w u (Notes p can) past = notes_grows w p can past
step_grows w u (Settles can) past = settles_grows w can past
step_grows w u Crashes past = crashes_grows w past
step_grows w u (Restarts can) past = restarts_grows w can past
step_grows w u (Begins can) past = begins_grows w can past
step_grows w u (Picks_none list_of low can) past = picks_none_grows w list_of low can past
step_grows w u (Picks_kept list_of low x can) past = picks_kept_grows w list_of low x can past
step_grows w u (Picks_prior list_of low x i can) past = picks_prior_grows w list_of low x i can past
step_grows w u (Cuts low can) past = cuts_grows w low can past
step_grows w u (Opens x text count server can) past = opens_grows w x text count server can past
step_grows w u (Serves path lowest sure can) past = serves_grows w path lowest sure can past

grows_on : (w x v : State) → Grows w x → Grows x v → Grows w v
grows_on w x v a b = record {
  booked = grind (arith, a.booked, b.booked);
  text_of = grind (arith, a.text_of, b.text_of, a.booked);
  member_count = grind (arith, a.member_count, b.member_count, a.booked);
  member_server = grind (arith, a.member_server, b.member_server, a.booked);
  member_generation = grind (arith, a.member_generation, b.member_generation, a.booked);
  prior_of = grind (arith, a.prior_of, b.prior_of, a.booked);
  content_of = grind (arith, a.content_of, b.content_of, a.booked);
  filed = grind (arith, a.filed, b.filed);
  dropped = grind (arith, a.dropped, b.dropped);
  secured = grind (arith, a.secured, b.secured);
  generation = grind (arith, a.generation, b.generation);
  low = grind (arith, a.low, b.low);
  incarnation = grind (arith, a.incarnation, b.incarnation);
  clean = grind (arith, a.clean, b.clean);
  head = grind (arith, a.head, b.head);
  line = grind (arith, a.line, b.line);
  seq_of = grind (arith, a.seq_of, b.seq_of);
  incarnation_of = grind (arith, a.incarnation_of, b.incarnation_of);
  marked = grind (arith, a.marked, b.marked, a.generation, b.generation);
  holds = grind (arith, a.holds, b.holds, a.generation, b.generation);
}

-- over a run, with the invariant at its end
pub run_grows : (w u : State) → Steps w u → Invariant w → (Invariant u) × Grows w u
run_grows w u Done i = (i, same w)
  where
    same : (u : State) → Grows u u
    same u = grind (arith)
run_grows w u (More {v = x} run step) i = let a = run_grows w x run i in (step_keeps x u step a.0, grows_on w x u a.1 (step_grows x u step a.0))
