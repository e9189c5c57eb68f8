-- What an opening promises for the slot is within the bounds of what the Welcomes said, and what it does a client may do in any world.
use Rattle.std.proofs.Common.{◌≡◌, ◌≤◌, ◌<◌, ℕ, ◌+◌, ◌==◌, Bool, true, false, List, [], ◌∷◌, length, nat_lt, refl, sym, subst, ◌∙◌, arith, slice_set}
use Rattle.std.specs.Prelude.{fold}
use Rattle.std.specs.List.{AllByRecursion}
use Rattle.std.proofs.lemmas.Bool.Decides.{nat_tests}
use Rattle.std.proofs.lemmas.List.{get_or-set_same, get_or-set_other}
use Rattle.std.proofs.lemmas.List.Elements.{All-from_recursion, All-weaker}
use Rattle.std.proofs.Math.ListN.{length-set}
use Rattle.std.proofs.lemmas.Bool.{eqb-true}
use Rattle.log_owner.specs.Behaves.{MayAct, MaySay, MayDo}
use Rattle.log_owner.specs.declared.ended.Owner.{Owner}
use Rattle.log_owner.specs.declared.opening.Stage.{Stage}
use Rattle.log_owner.specs.declared.opening.Stage.TheVariants as stage
use Rattle.log_owner.specs.declared.promised.Promised.{Promised}
use Rattle.log_owner.specs.Promised.{promised_start, promise, promised_of, managers_set}
use Rattle.log_owner.proofs.Promising as promising
use Rattle.node_base.specs.declared.effects.Effect.{Effect}
use Rattle.node_base.specs.declared.effects.Effect.TheVariants.{Send, Answer, Lose, Does}
use Rattle.node_base.specs.Shape.{are_in_order}
use Rattle.token_client.specs.State.{epoch_of}
use Rattle.token_law.specs.Owed.{IsNeutral}
use Rattle.version_model.specs.declared.act.Act.{Act}
use Rattle.version_model.specs.declared.act.Act.TheVariants as act
use Rattle.wire_msg.specs.declared.body.Body.{Body}
use Rattle.wire_msg.specs.declared.body.Body.TheVariants as body
use Rattle.xfs_base.proofs.Booleans.{by_test, and_first, and_second}
use Rattle.xfs_base.specs.declared.news.SlotNews.{SlotNews}
use Rattle.xfs_base.specs.declared.node.NodeId.{NodeId}
use Rattle.xfs_base.specs.Limits.{slot_count}
use Rattle.node_slots.specs.node_tie.CleanerEvents.{Bounded}
use Rattle.node_slots.specs.node_tie.ClientEvents.{AwaitsFirst}
use Rattle.node_slots.specs.node_tie.Sight.{ClientSends}
use Rattle.node_slots.proofs.node_tie.ClientFrames.{May, Plain}

-- ---- what it says

module _ (part c life : ℕ) (owner : Owner) (same : owner.inc ≡ life) where
  may_say : (to : NodeId) (b : Body) → MaySay owner to b → ClientSends part [] c life to b
  may_say to (body.Hello m) h = (let e : m.inc ≡ owner.inc = h.1 in omega arith)
  may_say to (body.Fence m) h = tt
  may_say to (body.Fetch m) h = tt
  may_say to (body.Store m) h = tt
  may_say to (body.Want m) h = absurd h
  may_say to (body.Gave m) h = absurd h
  may_say to (body.Report m) h = absurd h
  may_say to (body.Supply m) h = absurd h
  may_say to (body.Deltas m) h = absurd h
  may_say to _ h = h

  neutral : (a : Act) → MayAct a → IsNeutral a
  neutral (act.Filed seg) h = tt
  neutral (act.Lost node seg) h = tt
  neutral (act.Dropped seg) h = tt
  neutral (act.Answered node item answer) h = tt
  neutral _ h = h

  may_do : (e : Effect) → MayDo owner e → May part c life e
  may_do (Send to b) h = may_say to b h
  may_do (Answer item answer) h = tt
  may_do (Lose seg) h = tt
  may_do (Does a) h = neutral a h

  pub plain_does : (es : List Effect) → AllByRecursion (MayDo owner) es → Plain part c life es
  plain_does es h = All-weaker (MayDo owner) (May part c life) may_do es (All-from_recursion (MayDo owner) es h)

-- ---- what a Welcome promises

-- the first Welcome is awaited, in both words
pub awaits_there : (at : Stage) → AwaitsFirst at → promising.AwaitsFirst at
awaits_there (stage.Scanning s) h = h
awaits_there (stage.Settling s) h = h

pub awaits_here : (at : Stage) → promising.AwaitsFirst at → AwaitsFirst at
awaits_here (stage.Scanning s) h = h
awaits_here (stage.Settling s) h = h

module _ (part low high : ℕ) (small : part < slot_count) where
  -- what is said of the slot is within them
  abbrev pub Says : SlotNews → Type 0
  Says news = news.slot ≡ part → (low ≤ news.epoch) × (news.epoch ≤ high)

  apart : (n m : ℕ) → (n == m) ≡ false → m ≡ n → ⊥
  apart n m t = grind (arith, nat_tests)

  is_low : (k : ℕ) → nat_lt k slot_count ≡ false → k ≡ part → ⊥
  is_low k t = grind (arith, nat_tests)

  promise_eight : (p : Promised) (news : SlotNews) → length p.epochs ≡ slot_count → length (promise p news).epochs ≡ slot_count
  promise_eight p news e =
      by_test (λ (x : Promised). length x.epochs ≡ slot_count) (nat_lt news.slot slot_count)
      (record { epochs = slice_set p.epochs news.slot news.epoch; managers = managers_set p.managers news.slot news.manager }) p
      (λ t. length-set p.epochs news.slot news.epoch ∙ e) (λ t. e)

  -- the slot is promised
  pub promise_here : (p : Promised) (news : SlotNews) → length p.epochs ≡ slot_count → news.slot ≡ part → Says news → Bounded part low high (promise p news)
  promise_here p news e fact says =
      by_test (Bounded part low high) (nat_lt news.slot slot_count)
      (record { epochs = slice_set p.epochs news.slot news.epoch; managers = managers_set p.managers news.slot news.manager }) p
      (λ t.
      let inside : news.slot < length p.epochs = omega arith in
      let now : epoch_of (slice_set p.epochs news.slot news.epoch) part ≡ news.epoch = subst
      (λ k. epoch_of (slice_set p.epochs news.slot news.epoch) k ≡ news.epoch) fact (get_or-set_same p.epochs news.slot news.epoch 0 inside) in
      record {
        eight = length-set p.epochs news.slot news.epoch ∙ e;
        rises = subst (λ k. low ≤ k) (sym now) (says fact).0;
        within = subst (λ k. k ≤ high) (sym now) (says fact).1;
      })
      (λ t. absurd (is_low news.slot t fact))

  -- another slot is
  promise_there : (p : Promised) (news : SlotNews) → (part ≡ news.slot → ⊥) → Bounded part low high p → Bounded part low high (promise p news)
  promise_there p news other h =
      by_test (Bounded part low high) (nat_lt news.slot slot_count)
      (record { epochs = slice_set p.epochs news.slot news.epoch; managers = managers_set p.managers news.slot news.manager }) p
      (λ t.
      let now : epoch_of (slice_set p.epochs news.slot news.epoch) part ≡ epoch_of p.epochs part = get_or-set_other p.epochs news.slot part news.epoch 0 other
      in
      record {
        eight = length-set p.epochs news.slot news.epoch ∙ h.eight;
        rises = subst (λ k. low ≤ k) (sym now) h.rises;
        within = subst (λ k. k ≤ high) (sym now) h.within;
      })
      (λ t. h)

  pub promise_keeps : (p : Promised) (news : SlotNews) → Says news → Bounded part low high p → Bounded part low high (promise p news)
  promise_keeps p news says h = by_slot (news.slot == part) refl
    where
      by_slot : (t : Bool) → (news.slot == part) ≡ t → Bounded part low high (promise p news)
      by_slot true fact = promise_here p news h.eight (eqb-true news.slot part fact) says
      by_slot false fact = promise_there p news (apart news.slot part fact) h

  all_keep : (p : Promised) (slots : List SlotNews) → AllByRecursion Says slots → Bounded part low high p → Bounded part low high (fold promise p slots)
  all_keep p [] says h = h
  all_keep p (news ∷ slots) says h = all_keep (promise p news) slots says.1 (promise_keeps p news says.0 h)

  -- of slots in order, from one up to the slot on, the slot is promised
  reaches : (number : ℕ) (p : Promised) (slots : List SlotNews) → are_in_order number slots ≡ true → number ≤ part → part < number + length slots
      → length p.epochs ≡ slot_count → AllByRecursion Says slots → Bounded part low high (fold promise p slots)
  reaches number p [] ordered below above e says = absurd (omega arith)
  reaches number p (news ∷ slots) ordered below above e says =
      by_slot (number == part) refl
      (λ other. reaches (number + 1) (promise p news) slots (and_second (news.slot == number) (are_in_order (number + 1) slots) ordered) (next_below other)
      (next_above above) (promise_eight p news e) says.1)
    where
      here : news.slot ≡ number
      here = eqb-true news.slot number (and_first (news.slot == number) (are_in_order (number + 1) slots) ordered)

      next_below : (part ≡ number → ⊥) → number + 1 ≤ part
      next_below other = omega arith

      next_above : part < number + length (news ∷ slots) → part < number + 1 + length slots
      next_above k = omega arith

      by_slot : (t : Bool) → (number == part) ≡ t → ((part ≡ number → ⊥) → Bounded part low high (fold promise (promise p news) slots))
          → Bounded part low high (fold promise (promise p news) slots)
      by_slot true fact rest = all_keep (promise p news) slots says.1 (promise_here p news e (here ∙ eqb-true number part fact) says.0)
      by_slot false fact rest = rest (apart number part fact)

  pub welcome_promises : (slots : List SlotNews) → length slots ≡ slot_count → are_in_order 0 slots ≡ true → AllByRecursion Says slots
      → Bounded part low high (promised_of slots)
  welcome_promises slots eight ordered says = reaches 0 (promised_start 1) slots ordered (omega arith) (omega arith) refl says
