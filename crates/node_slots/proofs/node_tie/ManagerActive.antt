-- What the slot that is managed, and what each other one, makes of a want, a gave, deltas, a check and time.
use Rattle.std.proofs.Common.{◌≡◌, ◌⊎◌, ℕ, ◌-◌, ◌<◌, Bool, true, false, cond, List, [], ◌∷◌, inl, inr, length, Some, None, refl, sym, ap, subst, ◌∙◌, arith}
use Rattle.std.specs.List.{flat_map}
use Rattle.std.proofs.lemmas.Bool.{eqb-true, eq-eqb}
use Rattle.std.proofs.lemmas.Bool.Decides.{nat_tests}
use Rattle.xfs_base.specs.declared.block.BlockId.{BlockId}
use Rattle.xfs_base.specs.declared.segment.LogId.{LogId}
use Rattle.xfs_base.specs.Blocks.{slot_of}
use Rattle.xfs_base.specs.Steps.{still}
use Rattle.xfs_base.specs.Limits.{block_logs}
use Rattle.node_base.specs.declared.effects.Effect.{Effect}
use Rattle.slot_beliefs.specs.Recalls.{applied_of}
use Rattle.slot_beliefs.specs.Recalls as slot_recalls
use Rattle.token_client.specs.State.{is_in_slot}
use Rattle.token_law.specs.Net.{Net, Packet, Happens, slot_packets, after_slot}
use Rattle.token_law.specs.Net.Happens.{GetsDeltas, GetsWant, GetsGave, Ticks}
use Rattle.token_law.specs.Net.Runs.{Begun, On}
use Rattle.token_manager.specs.declared.input.In.{In as Input}
use Rattle.token_manager.specs.declared.input.In.TheVariants as input
use Rattle.token_manager.specs.declared.output.Out.{Out}
use Rattle.token_manager.specs.declared.output.Out.TheVariants as out
use Rattle.token_manager.specs.SlotState.{SlotState}
use Rattle.token_manager.specs.Transition as slot
use Rattle.token_protocol.specs.Basics.{put, In}
use Rattle.token_protocol.specs.Premises.{Premise}
use Rattle.token_protocol.proofs.Refining.{put_each}
use Rattle.wire_msg.specs.declared.cleaning.Check.{Check}
use Rattle.wire_msg.specs.declared.cleaning.UsageAsk.{UsageAsk}
use Rattle.wire_msg.specs.declared.deltas.Deltas.{Deltas}
use Rattle.wire_msg.specs.declared.tokens.Gave.{Gave}
use Rattle.wire_msg.specs.declared.tokens.Want.{Want}
use Rattle.manager_slots.specs.declared.slot_phase.Active.{Active}
use Rattle.manager_slots.specs.declared.slot_phase.SlotPhase.{SlotPhase}
use Rattle.manager_slots.specs.declared.slot_phase.SlotPhase.TheVariants as phase
use Rattle.manager_slots.specs.Slots.{with_slot}
use Rattle.manager_slots.specs.Tokens.{tokens_say, tokens_take, want_input, gone, on_want, gave_input, on_gave, deltas_input, on_deltas, check_input, tokens_answer, on_check, on_usage_ask, on_tick}
use Rattle.node_slots.specs.node_tie.Sight.{WantSeen, GaveSeen}
use Rattle.node_slots.specs.node_tie.ManagerEvents.{PhaseAgrees, ActiveAgrees, OtherAgrees, DeltasJoin}
use Rattle.node_slots.proofs.node_tie.ManagerPages.{takes_alike_both, takes_stay}
use Rattle.node_slots.proofs.node_tie.ManagerJobs.{IsOf, AllSpeakOf, IsInputOf, takes_of}
use Rattle.node_slots.proofs.node_tie.SmallWorld.{premise, premise_by}
use Rattle.node_slots.proofs.node_tie.ManagerMoves.{in_more, in_front, AllDone, Moves, Stays, moves_of, stays_same}

pub put_here : {X : Type 0} (f : ℕ → X) (c : ℕ) (x : X) → put f c x c ≡ x
put_here f c x = grind (arith, nat_tests)

pub put_there : {X : Type 0} (f : ℕ → X) (c : ℕ) (x : X) (d : ℕ) → (d ≡ c → ⊥) → put f c x d ≡ f d
put_there f c x d other = grind (arith, nat_tests)

pub some_none : {X : Type 0} (x : X) → Some x ≡ None → ⊥
some_none x h = cc

module _ (logs : Bool) (members part limit life : ℕ) where
  -- what the slot says is sent, where the small world has it sent
  said_seen : (n : Net) (k epoch : ℕ) (outs : List Out) → ((x : Packet) → In x (slot_packets outs) → In x n.sent)
      → AllDone logs members part limit life n (flat_map (tokens_say k epoch) outs)
  unfolding tokens_say
  said_seen n k epoch [] all = tt
  said_seen n k epoch (out.Grant client block stamp inc req mode entry ∷ os) all = (
    λ inside. all _ (inl refl),
    said_seen n k epoch os (λ x fact. all x (inr fact)),
  )
  said_seen n k epoch (out.Forward client block stamp to inc req ver ∷ os) all = (
    λ inside. all _ (inl refl),
    said_seen n k epoch os (λ x fact. all x (inr fact)),
  )
  said_seen n k epoch (out.Recall client block stamp keep ∷ os) all = (λ inside. all _ (inl refl), said_seen n k epoch os (λ x fact. all x (inr fact)))
  said_seen n k epoch (out.Applied log applied ∷ os) all = (tt, said_seen n k epoch os all)
  said_seen n k epoch (out.Live entry ∷ os) all = said_seen n k epoch os all
  said_seen n k epoch (out.Dead ∷ os) all = said_seen n k epoch os all

  elsewhere : {X : Type 0} (k : ℕ) (block : BlockId) → (k ≡ part → ⊥) → IsOf k block → is_in_slot part block ≡ true → X
  elsewhere k block other of inside = absurd (other (sym of ∙ eqb-true (slot_of block.ino.0) part inside))

  -- what another slot says is of no block of the slot
  said_other : (n : Net) (k epoch : ℕ) (outs : List Out) → (k ≡ part → ⊥) → AllSpeakOf k outs
      → AllDone logs members part limit life n (flat_map (tokens_say k epoch) outs)
  unfolding tokens_say
  said_other n k epoch [] other all = tt
  said_other n k epoch (out.Grant client block stamp inc req mode entry ∷ os) other all =
      (λ inside. elsewhere k block other all.0 inside, said_other n k epoch os other all.1)
  said_other n k epoch (out.Forward client block stamp to inc req ver ∷ os) other all =
      (λ inside. elsewhere k block other all.0 inside, said_other n k epoch os other all.1)
  said_other n k epoch (out.Recall client block stamp keep ∷ os) other all =
      (λ inside. elsewhere k block other all.0 inside, said_other n k epoch os other all.1)
  said_other n k epoch (out.Applied log applied ∷ os) other all = (tt, said_other n k epoch os other all.1)
  said_other n k epoch (out.Live entry ∷ os) other all = said_other n k epoch os other all.1
  said_other n k epoch (out.Dead ∷ os) other all = said_other n k epoch os other all.1

  -- what an event of the slot makes of the small world
  pub record Event (n : Net) (p q : SlotPhase) (outs : List Effect) : Type 0 where
    pub next : Net
    pub moves : Moves logs members part limit life n next p q outs
    pub agrees : PhaseAgrees members part next q

  pub event_staying : (n : Net) (p q : SlotPhase) (outs : List Effect) → Stays logs members part limit life n p q outs → PhaseAgrees members part n q
      → Event n p q outs
  event_staying n p q outs t agrees = record { next = n; moves = moves_of logs members part limit life n p q outs t; agrees = agrees }

  -- the same phase, and something is sent
  pub event_same : (n : Net) (p : SlotPhase) (outs : List Effect) → PhaseAgrees members part n p → AllDone logs members part limit life n outs
      → Event n p p outs
  event_same n p outs agrees done = event_staying n p p outs (stays_same logs members part limit life n p outs done) agrees

  -- any manager of the slot in the small world can take the input
  abbrev pub CanTake : Net → Input → Type 0
  CanTake n given = (e : ℕ) (z : SlotState) → n.slots e ≡ Some z → length z.applied ≡ block_logs → Happens logs members part n (after_slot n e (slot.transition z given))

  -- what the slot that is managed makes of an input
  abbrev Made : Net → ℕ → Active → slot.Done → Type 0
  Made n k a d = Event n (phase.Active a) (with_slot a d.state) (flat_map (tokens_say k a.slot.epoch) d.outs)

  active_takes : (n : Net) (k : ℕ) (a : Active) (given : Input) (agrees : ActiveAgrees members part n a)
      → Happens logs members part n (after_slot n a.slot.epoch (slot.transition agrees.slot given))
      → Made n k a (slot.transition a.slot given)
  active_takes n k a given agrees can =
      let z = agrees.slot in
      let e = a.slot.epoch in
      let d = slot.transition z given in
      let alike = takes_alike_both z a.slot given agrees.same in
      let stay = takes_stay a.slot given in
      let next : Net = after_slot n e d in
      record {
        next = after_slot n e d;
        moves = record {
          runs = On Begun can;
          tokens = refl;
          up = refl;
          books = refl;
          acts = refl;
          epoch = stay.0;
          slots = λ k other. put_there n.slots e (Some d.state) k (λ same. other (sym same));
          changed = put_each (λ k o. (o ≡ n.slots k) ⊎ ((slot.transition a.slot given).state.epoch ≡ k)) n.slots e (Some d.state) (inr stay.0)
              (λ k other. inl refl);
          entered = λ k y some none. absurd (put_each (λ x o. (y : SlotState) → o ≡ Some y → n.slots x ≡ None → ⊥) n.slots e (Some d.state)
              (λ y _ none. some_none z (sym agrees.there ∙ none)) (λ x other y some none. some_none y (sym some ∙ none)) k y some none);
          taking = λ k h. h;
          held = λ k h. sym stay.0 ∙ h;
          managed = λ k h. stay.0 ∙ h;
          grows = λ x fact. in_more x (slot_packets d.outs) n.sent fact;
          does = said_seen next k e (slot.transition a.slot given).outs
              (λ x fact. in_front x (slot_packets d.outs) n.sent (subst (λ os. In x (slot_packets os)) (sym alike.outs) fact));
        };
        agrees = record {
          slot = d.state;
          there = ap (put n.slots e (Some d.state)) stay.0 ∙ put_here n.slots e (Some d.state);
          same = alike.state;
          nine = stay.1 ∙ agrees.nine;
        };
      }

  -- an input that any manager of the slot can take
  pub slot_takes : (n : Net) (k : ℕ) (p : SlotPhase) (given : Input) → PhaseAgrees members part n p → CanTake n given
      → Event n p (tokens_take p k given).state (tokens_take p k given).outs
  unfolding tokens_take
  slot_takes n k (phase.Active a) given agrees can =
      active_takes n k a given agrees (can a.slot.epoch agrees.slot agrees.there (ap (λ (s : SlotState). length s.applied) agrees.same ∙ agrees.nine))
  slot_takes n k (phase.Away epoch) given agrees can = event_same n (phase.Away epoch) [] agrees tt
  slot_takes n k (phase.Taking t) given agrees can = event_same n (phase.Taking t) [] agrees tt
  slot_takes n k (phase.Broken epoch seg) given agrees can = event_same n (phase.Broken epoch seg) [] agrees tt

  inside_of : (block : BlockId) → slot_of block.ino.0 ≡ part → is_in_slot part block ≡ true
  inside_of block of = eq-eqb (slot_of block.ino.0) part of

  pub slot_wants : (n : Net) (p : SlotPhase) (c : ℕ) (want : Want) → PhaseAgrees members part n p → slot_of want.block.ino.0 ≡ part
      → WantSeen part n.sent c want → Event n p (on_want p c want).state (on_want p c want).outs
  unfolding on_want
  slot_wants n (phase.Broken epoch seg) c want agrees of seen = event_same n (phase.Broken epoch seg) (gone epoch seg c want) agrees (tt, tt)
  slot_wants n (phase.Active a) c want agrees of seen = slot_takes n (slot_of want.block.ino.0) (phase.Active a) (want_input c want) agrees
      (λ e z there nine. GetsWant e z c want.inc want.req want.again want.block want.mode want.end there (seen (inside_of want.block of)))
  slot_wants n (phase.Away epoch) c want agrees of seen = slot_takes n (slot_of want.block.ino.0) (phase.Away epoch) (want_input c want) agrees
      (λ e z there nine. GetsWant e z c want.inc want.req want.again want.block want.mode want.end there (seen (inside_of want.block of)))
  slot_wants n (phase.Taking t) c want agrees of seen = slot_takes n (slot_of want.block.ino.0) (phase.Taking t) (want_input c want) agrees
      (λ e z there nine. GetsWant e z c want.inc want.req want.again want.block want.mode want.end there (seen (inside_of want.block of)))

  pub slot_gaves : (n : Net) (p : SlotPhase) (c : ℕ) (gave : Gave) → PhaseAgrees members part n p → slot_of gave.block.ino.0 ≡ part
      → GaveSeen part n.sent c gave → Event n p (on_gave p c gave).state (on_gave p c gave).outs
  slot_gaves n p c gave agrees of seen = slot_takes n (slot_of gave.block.ino.0) p (gave_input c gave) agrees
      (λ e z there nine. GetsGave e z c gave.block gave.stamp gave.end there (seen (inside_of gave.block of)))

  -- deltas of a log that no slot follows, or that don't join on to what is applied, change nothing
  active_deltas : (n : Net) (a : Active) (log : LogId) (deltas : Deltas) → ActiveAgrees members part n a
      → Premise logs (DeltasJoin members part n (phase.Active a) log deltas) → Made n deltas.slot a (slot.transition a.slot (deltas_input log deltas))
  unfolding tokens_say
  active_deltas n a log deltas agrees owed =
      by (slot_recalls.is_followed log) refl
    where
      followed : (x : ℕ) → slot_recalls.is_followed (record { 0 = x }) ≡ true → (0 < x) × (x - 1 < block_logs)
      followed x h = (grind (arith, nat_tests), grind (arith, nat_tests))

      joined : (t : Bool) → slot_recalls.is_followed log ≡ true → slot.joins_on (applied_of a.slot.applied log.0) deltas.first deltas.upto ≡ t
          → Made n deltas.slot a (slot.transition a.slot (deltas_input log deltas))
      joined true of fact =
          let f = followed log.0 of in
          let nine : length agrees.slot.applied ≡ block_logs = ap (λ (s : SlotState). length s.applied) agrees.same ∙ agrees.nine in
          let joins = subst (λ (applied : List ℕ). slot.joins_on (applied_of applied log.0) deltas.first deltas.upto ≡ true)
          (sym (ap (λ (s : SlotState). s.applied) agrees.same)) fact in
          active_takes n deltas.slot a (deltas_input log deltas) agrees
          (GetsDeltas a.slot.epoch agrees.slot log deltas.first deltas.upto deltas.rows agrees.there (let w = f.1 in omega arith) (premise logs f.0)
          (premise_by logs
          (λ (owed : DeltasJoin members part n (phase.Active a) log deltas) latest. owed a.slot.epoch agrees.slot refl agrees.there latest joins) owed))
      joined false of fact =
          subst (Made n deltas.slot a)
          (sym (ap (λ t. cond t (slot.deltas_of a.slot log deltas.first deltas.upto deltas.rows) (still a.slot)) of
          ∙ ap (λ t. cond t (slot.slot_apply a.slot log deltas.upto deltas.rows) (slot.told_applied a.slot log)) fact))
          (event_same n (phase.Active a) _ agrees (tt, tt))

      by : (t : Bool) → slot_recalls.is_followed log ≡ t → Made n deltas.slot a (slot.transition a.slot (deltas_input log deltas))
      by true fact = joined (slot.joins_on (applied_of a.slot.applied log.0) deltas.first deltas.upto) fact refl
      by false fact =
          subst (Made n deltas.slot a) (sym (ap (λ t. cond t (slot.deltas_of a.slot log deltas.first deltas.upto deltas.rows) (still a.slot)) fact))
          (event_same n (phase.Active a) [] agrees tt)

  pub slot_deltas : (n : Net) (p : SlotPhase) (log : LogId) (deltas : Deltas) → PhaseAgrees members part n p
      → Premise logs (DeltasJoin members part n p log deltas) → Event n p (on_deltas p log deltas).state (on_deltas p log deltas).outs
  unfolding tokens_take
  slot_deltas n (phase.Active a) log deltas agrees owed = active_deltas n a log deltas agrees owed
  slot_deltas n (phase.Away epoch) log deltas agrees owed = event_same n (phase.Away epoch) [] agrees tt
  slot_deltas n (phase.Taking t) log deltas agrees owed = event_same n (phase.Taking t) [] agrees tt
  slot_deltas n (phase.Broken epoch seg) log deltas agrees owed = event_same n (phase.Broken epoch seg) [] agrees tt

  pub slot_ticks : (n : Net) (k : ℕ) (p : SlotPhase) → PhaseAgrees members part n p → Event n p (on_tick p k).state (on_tick p k).outs
  slot_ticks n k p agrees = slot_takes n k p input.Tick agrees (λ e z there nine. Ticks e z there)

  -- ---- a check, and a count: nothing changes

  pub checks_done : (n : Net) (check : Check) (epoch : ℕ) (outs : List Out) → AllDone logs members part limit life n (flat_map (tokens_answer check epoch) outs)
  unfolding tokens_answer
  checks_done n check epoch [] = tt
  checks_done n check epoch (out.Grant client block stamp inc req mode entry ∷ os) = (tt, checks_done n check epoch os)
  checks_done n check epoch (out.Forward client block stamp to inc req ver ∷ os) = (tt, checks_done n check epoch os)
  checks_done n check epoch (out.Recall client block stamp keep ∷ os) = (tt, checks_done n check epoch os)
  checks_done n check epoch (out.Applied log applied ∷ os) = (tt, checks_done n check epoch os)
  checks_done n check epoch (out.Live entry ∷ os) = (tt, checks_done n check epoch os)
  checks_done n check epoch (out.Dead ∷ os) = (tt, checks_done n check epoch os)

  pub check_same : (p : SlotPhase) (check : Check) → (on_check p check).state ≡ p
  unfolding on_check
  check_same (phase.Active a) check = refl
  check_same (phase.Away epoch) check = refl
  check_same (phase.Taking t) check = refl
  check_same (phase.Broken epoch seg) check = refl

  pub check_done : (n : Net) (p : SlotPhase) (check : Check) → AllDone logs members part limit life n (on_check p check).outs
  unfolding on_check
  check_done n (phase.Active a) check = checks_done n check a.slot.epoch (slot.transition a.slot (check_input check)).outs
  check_done n _ check = tt

  pub usage_done : (n : Net) (p : SlotPhase) (asked : UsageAsk) → AllDone logs members part limit life n (on_usage_ask p asked)
  unfolding on_usage_ask
  usage_done n (phase.Active a) asked = (tt, tt)
  usage_done n _ asked = tt

  -- ---- the other slots

  pub record Other (n : Net) (k : ℕ) (q : SlotPhase) (outs : List Effect) : Type 0 where
    pub agrees : OtherAgrees k q
    pub does : AllDone logs members part limit life n outs

  pub other_takes : (n : Net) (k : ℕ) (p : SlotPhase) (given : Input) → (k ≡ part → ⊥) → IsInputOf k given → OtherAgrees k p
      → Other n k (tokens_take p k given).state (tokens_take p k given).outs
  unfolding tokens_take
  other_takes n k (phase.Active a) given other of agrees =
      let t = takes_of k a.slot given of agrees in
      record { agrees = t.jobs; does = said_other n k a.slot.epoch (slot.transition a.slot given).outs other t.outs }
  other_takes n k (phase.Away epoch) given other of agrees = record { agrees = agrees; does = tt }
  other_takes n k (phase.Taking t) given other of agrees = record { agrees = agrees; does = tt }
  other_takes n k (phase.Broken epoch seg) given other of agrees = record { agrees = agrees; does = tt }

  pub other_wants : (n : Net) (p : SlotPhase) (c : ℕ) (want : Want) → (slot_of want.block.ino.0 ≡ part → ⊥) → OtherAgrees (slot_of want.block.ino.0) p
      → Other n (slot_of want.block.ino.0) (on_want p c want).state (on_want p c want).outs
  unfolding on_want
  other_wants n (phase.Broken epoch seg) c want other agrees = record { agrees = agrees; does = (tt, tt) }
  other_wants n (phase.Active a) c want other agrees = other_takes n (slot_of want.block.ino.0) (phase.Active a) (want_input c want) other refl agrees
  other_wants n (phase.Away epoch) c want other agrees = other_takes n (slot_of want.block.ino.0) (phase.Away epoch) (want_input c want) other refl agrees
  other_wants n (phase.Taking t) c want other agrees = other_takes n (slot_of want.block.ino.0) (phase.Taking t) (want_input c want) other refl agrees
