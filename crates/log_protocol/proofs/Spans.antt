-- Spans: between two boots that served, who lacks the head is remembered as hurt, and lists say so.
-- Stands on the shelves and Line, and at the step that serves on Rising. Holds while no doubtful opening has served.
use Rattle.std.proofs.Common.{◌≡◌, ℕ, suc, ◌<◌, ◌≤◌, inl, inr, sym, ap, ◌∙◌, arith}
use Rattle.std.proofs.lemmas.Bool.Decides.{nat_tests}
use Rattle.log_protocol.specs.Phase
use Rattle.log_protocol.specs.Tables.{In}
use Rattle.log_protocol.specs.Packets.{StorePacket, StoredPacket, FragmentPacket, FencedPacket}
use Rattle.log_protocol.specs.State.{State, new_log}
use Rattle.log_protocol.specs.ServerSteps.{loses, CanHear, hears, CanLearn, learns, CanSend, sends, CanAccept, accepts, CanAcceptAgain, accepts_again, CanTell, tells, CanFill, fills, CanDrop, drops, CanDelete, deletes, CanRaise, raises, CanFence, fences}
use Rattle.log_protocol.specs.OwnerSteps.{CanSeal, seals, CanRestripe, restripes, CanNote, notes, CanSettle, settles, crashes}
use Rattle.log_protocol.specs.OpeningSteps.{CanBegin, begins, CanPickNone, picks_none, CanPickKept, picks_kept, CanPickPrior, picks_prior, CanCut, cuts, CanOpen, opens}
use Rattle.log_protocol.proofs.ShelfInvariant.{ShelfInvariant}
use Rattle.log_protocol.proofs.Line.{Line}
use Rattle.log_protocol.proofs.NewNames.{new_seal, new_restripe}

pub record Spans (w : State) : Type 0 where
  -- a member that lacks the head is hurt, unless the head is dropped
  pub hurt_head : (j : ℕ) → 0 < w.head → w.dropped (w.line w.head) ≡ 0 → j < w.member_count (w.line w.head)
      → w.holds (w.member_server (w.line w.head) j) (w.line w.head) ≡ 0 → w.hurt j ≡ 1
  -- a member whose list for this opening lacks the head is hurt,
  pub unlisted_hurt : (p : FencedPacket) (j : ℕ) → In p w.fenceds → p.incarnation ≡ w.incarnation → w.served < w.incarnation → 0 < w.head → p.low ≤ w.head
      → j < w.member_count (w.line w.head) → w.member_server (w.line w.head) j ≡ p.from → p.listed (w.line w.head) ≡ 0 → w.hurt j ≡ 1
  -- and says that it is of a later generation
  pub unlisted_later : (p : FencedPacket) (j : ℕ) → In p w.fenceds → p.incarnation ≡ w.incarnation → w.served < w.incarnation → 0 < w.head → p.low ≤ w.head
      → j < w.member_count (w.line w.head) → w.member_server (w.line w.head) j ≡ p.from → p.listed (w.line w.head) ≡ 0
      → w.member_generation (w.line w.head) j < p.generation
  -- a member of the head that is of the generation that its group names isn't hurt
  pub original_unhurt : (j : ℕ) → 0 < w.head → j < w.member_count (w.line w.head)
      → w.member_generation (w.line w.head) j ≡ w.generation (w.member_server (w.line w.head) j) → w.hurt j ≡ 0
  -- where no opening segment was written since, no name is of a later boot than the last that served
  pub no_span : (x : ℕ) → w.spanning ≡ 0 → w.booked x ≡ 1 → w.incarnation_of x ≤ w.served
  -- a serving owner is in no span
  pub no_span_serving : w.phase ≡ Phase.serving → w.spanning ≡ 0
  -- what tells something beyond the head is of the last boot that served
  pub content_head : (x : ℕ) → w.booked x ≡ 1 → suc w.head ≤ w.seq_of x → 0 < w.content_of x → w.incarnation_of x ≡ w.served

-- what is claimed of one member of the head whose list lacks it
record Lacking (w : State) (p : FencedPacket) (j : ℕ) : Type 0 where
  hurt : w.hurt j ≡ 1
  later : w.member_generation (w.line w.head) j < p.generation

-- it holds of a list that was just sent: its sender lacks the head now
fresh_list : (w : State) (v c : ℕ) (p : FencedPacket) (j : ℕ) → ShelfInvariant w → Line w → Spans w → In p (fences w v c).fenceds
    → p.incarnation ≡ w.incarnation → w.served < w.incarnation → 0 < w.head → p.low ≤ w.head → j < w.member_count (w.line w.head)
    → w.member_server (w.line w.head) j ≡ p.from → p.listed (w.line w.head) ≡ 0 → Lacking w p j
fresh_list w v c p j shelf line spans (inr before) boot opening pos low member from lacks =
    record {
      hurt = spans.unlisted_hurt p j before boot opening pos low member from lacks;
      later = spans.unlisted_later p j before boot opening pos low member from lacks;
    }
fresh_list w v c p j shelf line spans (inl e) boot opening pos low member from lacks =
    let x = w.line w.head in
    let e1 : p.from ≡ v = ap (λ (z : FencedPacket). z.from) e in
    let e2 : p.generation ≡ w.generation v = ap (λ (z : FencedPacket). z.generation) e in
    let e3 : p.low ≡ w.low = ap (λ (z : FencedPacket). z.low) e in
    let e4 : p.listed x ≡ w.holds v x = ap (λ (z : FencedPacket). z.listed x) e in
    let none : w.holds (w.member_server x j) x ≡ 0 = ap (λ z. w.holds z x) (from ∙ e1) ∙ (sym e4 ∙ lacks) in
    let seq = line.head_seq in
    let kept : w.dropped x ≡ 0 = grind (arith, shelf.horizons.dropped_below x) in
    record {
      hurt = spans.hurt_head j pos kept member none;
      later = let g = shelf.secured.secured_held x j (shelf.filed.filed_secured x j (line.line_filed w.head pos (omega arith))) kept member none in let f =
          ap w.generation (from ∙ e1) in omega arith;
    }

pub loses_keeps_spans : (w : State) (v : ℕ) → ShelfInvariant w → Line w → Spans w → Spans (loses w v)
loses_keeps_spans w v shelf line spans = grind (arith, nat_tests)

pub hears_keeps_spans : (w : State) (v g : ℕ) → CanHear w v g → ShelfInvariant w → Line w → Spans w → Spans (hears w v g)
hears_keeps_spans w v g can shelf line spans = grind (arith, nat_tests)

pub learns_keeps_spans : (w : State) (map : ℕ → ℕ) → CanLearn w map → ShelfInvariant w → Line w → Spans w → Spans (learns w map)
learns_keeps_spans w map can shelf line spans = grind (arith, nat_tests)

pub sends_keeps_spans : (w : State) (x i : ℕ) → CanSend w x i → ShelfInvariant w → Line w → Spans w → Spans (sends w x i)
sends_keeps_spans w x i can shelf line spans = grind (arith, nat_tests)

pub accepts_keeps_spans : (w : State) (p : StorePacket) → CanAccept w p → ShelfInvariant w → Line w → Spans w → Spans (accepts w p)
accepts_keeps_spans w p can shelf line spans = grind (arith, nat_tests)

pub accepts_again_keeps_spans : (w : State) (p : StorePacket) → CanAcceptAgain w p → ShelfInvariant w → Line w → Spans w → Spans (accepts_again w p)
accepts_again_keeps_spans w p can shelf line spans = grind (arith, nat_tests)

pub tells_keeps_spans : (w : State) (v x : ℕ) → CanTell w v x → ShelfInvariant w → Line w → Spans w → Spans (tells w v x)
tells_keeps_spans w v x can shelf line spans = grind (arith, nat_tests)

pub fills_keeps_spans : (w : State) (v i : ℕ) (p : FragmentPacket) → CanFill w v i p → ShelfInvariant w → Line w → Spans w → Spans (fills w v i p)
fills_keeps_spans w v i p can shelf line spans = record {
  hurt_head = λ j k0 k1 k2 k3. grind (arith, nat_tests, spans.hurt_head j);
  unlisted_hurt = λ p j k0 k1 k2 k3 k4 k5 k6 k7. grind (arith, nat_tests, spans.unlisted_hurt p j);
  unlisted_later = λ p j k0 k1 k2 k3 k4 k5 k6 k7. grind (arith, nat_tests, spans.unlisted_later p j);
  original_unhurt = λ j k0 k1 k2. grind (arith, nat_tests, spans.original_unhurt j);
  no_span = λ y k0 k1. grind (arith, nat_tests, spans.no_span y);
  no_span_serving = λ k0. grind (arith, nat_tests, spans.no_span_serving);
  content_head = λ y k0 k1 k2. grind (arith, nat_tests, spans.content_head y);
}

pub drops_keeps_spans : (w : State) (x : ℕ) → CanDrop w x → ShelfInvariant w → Line w → Spans w → Spans (drops w x)
drops_keeps_spans w x can shelf line spans = record {
  hurt_head = λ j k0 k1 k2 k3. grind (arith, nat_tests, spans.hurt_head j);
  unlisted_hurt = λ p j k0 k1 k2 k3 k4 k5 k6 k7. grind (arith, nat_tests, spans.unlisted_hurt p j);
  unlisted_later = λ p j k0 k1 k2 k3 k4 k5 k6 k7. grind (arith, nat_tests, spans.unlisted_later p j);
  original_unhurt = λ j k0 k1 k2. grind (arith, nat_tests, spans.original_unhurt j);
  no_span = λ y k0 k1. grind (arith, nat_tests, spans.no_span y);
  no_span_serving = λ k0. grind (arith, nat_tests, spans.no_span_serving);
  content_head = λ y k0 k1 k2. grind (arith, nat_tests, spans.content_head y);
}

pub deletes_keeps_spans : (w : State) (v x : ℕ) → CanDelete w x → ShelfInvariant w → Line w → Spans w → Spans (deletes w v x)
deletes_keeps_spans w v x can shelf line spans = record {
  hurt_head = λ j k0 k1 k2 k3. grind (arith, nat_tests, spans.hurt_head j);
  unlisted_hurt = λ p j k0 k1 k2 k3 k4 k5 k6 k7. grind (arith, nat_tests, spans.unlisted_hurt p j);
  unlisted_later = λ p j k0 k1 k2 k3 k4 k5 k6 k7. grind (arith, nat_tests, spans.unlisted_later p j);
  original_unhurt = λ j k0 k1 k2. grind (arith, nat_tests, spans.original_unhurt j);
  no_span = λ y k0 k1. grind (arith, nat_tests, spans.no_span y);
  no_span_serving = λ k0. grind (arith, nat_tests, spans.no_span_serving);
  content_head = λ y k0 k1 k2. grind (arith, nat_tests, spans.content_head y);
}

pub raises_keeps_spans : (w : State) (low : ℕ) → CanRaise w low → ShelfInvariant w → Line w → Spans w → Spans (raises w low)
raises_keeps_spans w low can shelf line spans = grind (arith, nat_tests)

pub fences_keeps_spans : (w : State) (v c : ℕ) → CanFence w c → ShelfInvariant w → Line w → Spans w → Spans (fences w v c)
fences_keeps_spans w v c can shelf line spans = record {
  hurt_head = λ j k0 k1 k2 k3. grind (arith, nat_tests, spans.hurt_head j);
  unlisted_hurt = λ p j k0 k1 k2 k3 k4 k5 k6 k7. (fresh_list w v c p j shelf line spans k0 k1 k2 k3 k4 k5 k6 k7).hurt;
  unlisted_later = λ p j k0 k1 k2 k3 k4 k5 k6 k7. (fresh_list w v c p j shelf line spans k0 k1 k2 k3 k4 k5 k6 k7).later;
  original_unhurt = λ j k0 k1 k2. grind (arith, nat_tests, spans.original_unhurt j);
  no_span = λ x k0 k1. grind (arith, nat_tests, spans.no_span x);
  no_span_serving = λ k0. grind (arith, nat_tests, spans.no_span_serving);
  content_head = λ x k0 k1 k2. grind (arith, nat_tests, spans.content_head x);
}

pub seals_keeps_spans : (w : State) (x text count : ℕ) (server : ℕ → ℕ) (content : ℕ) → CanSeal w x count server → ShelfInvariant w → Line w → Spans w
    → Spans (seals w x text count server content)
seals_keeps_spans w x text count server content can shelf line spans =
    let new : w.booked x ≡ 1 → ⊥ = new_seal w x count server can shelf.boots in
    grind (arith, nat_tests)

pub restripes_keeps_spans : (w : State) (x text count : ℕ) (server : ℕ → ℕ) → CanRestripe w x count server → ShelfInvariant w → Line w → Spans w
    → Spans (restripes w x text count server)
restripes_keeps_spans w x text count server can shelf line spans =
    let new : w.booked x ≡ 1 → ⊥ = new_restripe w x count server can shelf.boots in
    record {
      hurt_head = λ j k0 k1 k2 k3. grind (arith, nat_tests, spans.hurt_head j);
      unlisted_hurt = λ p j k0 k1 k2 k3 k4 k5 k6 k7. grind (arith, nat_tests, spans.unlisted_hurt p j);
      unlisted_later = λ p j k0 k1 k2 k3 k4 k5 k6 k7. grind (arith, nat_tests, spans.unlisted_later p j);
      original_unhurt = λ j k0 k1 k2. grind (arith, nat_tests, spans.original_unhurt j);
      no_span = λ y k0 k1. grind
          (arith, nat_tests, spans.no_span y, spans.no_span w.flight, shelf.boots.flight_boot can.flying, shelf.boots.flight_booked can.flying);
      no_span_serving = λ k0. grind (arith, nat_tests, spans.no_span_serving);
      content_head = λ y k0 k1 k2. grind (arith, nat_tests, spans.content_head y);
    }

pub notes_keeps_spans : (w : State) (p : StoredPacket) → CanNote w p → ShelfInvariant w → Line w → Spans w → Spans (notes w p)
notes_keeps_spans w p can shelf line spans = grind (arith, nat_tests)

pub settles_keeps_spans : (w : State) → CanSettle w → ShelfInvariant w → Line w → Spans w → Spans (settles w)
settles_keeps_spans w can shelf line spans = grind (arith, nat_tests)

pub crashes_keeps_spans : (w : State) → ShelfInvariant w → Line w → Spans w → Spans (crashes w)
crashes_keeps_spans w shelf line spans = grind (arith, nat_tests)

pub begins_keeps_spans : (w : State) → CanBegin w → ShelfInvariant w → Line w → Spans w → Spans (begins w)
begins_keeps_spans w can shelf line spans = record {
  hurt_head = λ j k0 k1 k2 k3. grind (arith, nat_tests, spans.hurt_head j);
  unlisted_hurt = λ p j k0 k1 k2 k3 k4 k5 k6 k7. grind (arith, nat_tests, spans.unlisted_hurt p j, shelf.lists.fenced_boot p k0);
  unlisted_later = λ p j k0 k1 k2 k3 k4 k5 k6 k7. grind (arith, nat_tests, spans.unlisted_later p j, shelf.lists.fenced_boot p k0);
  original_unhurt = λ j k0 k1 k2. grind (arith, nat_tests, spans.original_unhurt j);
  no_span = λ x k0 k1. grind (arith, nat_tests, spans.no_span x);
  no_span_serving = λ k0. grind (arith, nat_tests, spans.no_span_serving);
  content_head = λ x k0 k1 k2. grind (arith, nat_tests, spans.content_head x);
}

pub picks_none_keeps_spans : (w : State) (list_of : ℕ → FencedPacket) (low : ℕ) → CanPickNone w list_of low → ShelfInvariant w → Line w → Spans w
    → Spans (picks_none w low)
picks_none_keeps_spans w list_of low can shelf line spans = grind (arith, nat_tests)

pub picks_kept_keeps_spans : (w : State) (list_of : ℕ → FencedPacket) (low x : ℕ) → CanPickKept w list_of low x → ShelfInvariant w → Line w → Spans w
    → Spans (picks_kept w low x)
picks_kept_keeps_spans w list_of low x can shelf line spans = grind (arith, nat_tests)

pub picks_prior_keeps_spans : (w : State) (list_of : ℕ → FencedPacket) (low x i : ℕ) → CanPickPrior w list_of low x i → ShelfInvariant w → Line w → Spans w
    → Spans (picks_prior w low x)
picks_prior_keeps_spans w list_of low x i can shelf line spans = grind (arith, nat_tests)

pub cuts_keeps_spans : (w : State) (low : ℕ) → CanCut w low → ShelfInvariant w → Line w → Spans w → Spans (cuts w low)
cuts_keeps_spans w low can shelf line spans = grind (arith, nat_tests)

pub opens_keeps_spans : (w : State) (x text count : ℕ) (server : ℕ → ℕ) → CanOpen w x count server → ShelfInvariant w → Line w → Spans w
    → Spans (opens w x text count server)
opens_keeps_spans w x text count server can shelf line spans = record {
  hurt_head = λ j k0 k1 k2 k3. grind (arith, nat_tests, spans.hurt_head j);
  unlisted_hurt = λ p j k0 k1 k2 k3 k4 k5 k6 k7. grind (arith, nat_tests, spans.unlisted_hurt p j);
  unlisted_later = λ p j k0 k1 k2 k3 k4 k5 k6 k7. grind (arith, nat_tests, spans.unlisted_later p j);
  original_unhurt = λ j k0 k1 k2. grind (arith, nat_tests, spans.original_unhurt j);
  no_span = λ y k0 k1. grind (arith, nat_tests, spans.no_span y);
  no_span_serving = λ k0. grind (arith, nat_tests, spans.no_span_serving);
  content_head = λ y k0 k1 k2. grind (arith, nat_tests, spans.content_head y);
}

pub new_log_spans : (servers : ℕ) (seq_of incarnation_of attempt_of : ℕ → ℕ) → Spans (new_log servers seq_of incarnation_of attempt_of)
new_log_spans servers seq_of incarnation_of attempt_of = grind (arith, nat_tests)
