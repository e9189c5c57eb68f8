-- What the slot that is managed makes of a want, a gave, Deltas, a check and time.
use Rattle.std.proofs.Common.{◌≡◌, ℕ, ◌-◌, ◌<◌, ◌≤◌, ◌==◌, Bool, true, false, cond, List, [], ◌∷◌, ◌++◌, inl, length, length-set, get_or, Some, refl, sym, ap, subst, ◌∙◌, arith}
use Rattle.std.specs.List.{flat_map, slice_set}
use Rattle.std.proofs.lemmas.Bool.{eqb-true}
use Rattle.std.proofs.lemmas.Bool.Decides.{nat_tests}
use Rattle.std.proofs.lemmas.List.{get_or-set_other, get_or-set_same}
use Rattle.xfs_base.proofs.Booleans.{by_test}
use Rattle.xfs_base.specs.Blocks.{slot_of}
use Rattle.xfs_base.specs.Limits.{u32_end, block_logs}
use Rattle.xfs_base.specs.Steps.{still}
use Rattle.xfs_base.specs.declared.segment.LogId.{LogId}
use Rattle.node_slots.specs.node_index_tie.Pages.{Desk}
use Rattle.index_tie.specs.Net.{Net, Happens, with_slot, IsOfTokens, answer_packets}
use Rattle.index_tie.specs.Net.Packet.{AnsweredLive, AnsweredDead}
use Rattle.index_tie.specs.Net.Happens.{GetsDeltas, GetsOther, Answers}
use Rattle.index_tie.proofs.Slots.{Same}
use Rattle.manager_slots.specs.Slots.{with_slot as holding}
use Rattle.manager_slots.specs.Tokens.{tokens_say, tokens_take, want_input, gone, on_want, deltas_input, on_deltas, check_input, tokens_answer, on_check, on_usage_ask}
use Rattle.manager_slots.specs.declared.slot_phase.Active.{Active}
use Rattle.manager_slots.specs.declared.slot_phase.SlotPhase.{SlotPhase}
use Rattle.manager_slots.specs.declared.slot_phase.SlotPhase.TheVariants as phase
use Rattle.node_base.specs.declared.effects.Effect.{Effect}
use Rattle.slot_beliefs.specs.Index.{Indexed, pages_of}
use Rattle.slot_beliefs.specs.Recalls.{applied_of}
use Rattle.slot_beliefs.specs.Recalls as slot_recalls
use Rattle.token_manager.specs.SlotState.{SlotState}
use Rattle.token_manager.specs.Transition as slot
use Rattle.token_manager.specs.declared.input.In.{In as Input}
use Rattle.token_manager.specs.declared.output.Out.{Out}
use Rattle.token_manager.specs.declared.output.Out.TheVariants as out
use Rattle.wire_msg.specs.declared.cleaning.Check.{Check}
use Rattle.wire_msg.specs.declared.cleaning.UsageAsk.{UsageAsk}
use Rattle.wire_msg.specs.declared.deltas.Deltas.{Deltas}
use Rattle.wire_msg.specs.declared.tokens.Want.{Want}
use Rattle.node_slots.specs.node_index_tie.ManagerEvents.{PhaseAgrees, ActiveAgrees}
use Rattle.node_slots.specs.node_index_tie.Pages.{Paged}
use Rattle.node_slots.specs.node_index_tie.Sight.{Questions, held_in, DeltasKnown, CheckKnown}
use Rattle.headline.specs.Filed.{Texts}
use Rattle.node_slots.proofs.node_index_tie.Agreeing.{phase_on}
use Rattle.node_slots.proofs.node_index_tie.Inputs.{tokens_same, deltas_take}
use Rattle.node_slots.proofs.node_index_tie.Moves.{Brought, AllDone, Sees, some_none, grows_slot, grows_sent, put_here, sees_same, sees_sent, sees_slot}
use Rattle.node_slots.proofs.node_index_tie.Puts.{paged_put, paged_on, pages-merge_all}

module _ (part : ℕ) (texts : Texts) (asked : Questions) (brought : Brought) (desk : Desk) where
  -- an event of the slot
  abbrev pub Event : Net → SlotPhase → SlotPhase → List Effect → Type 0
  Event n p q outs = Sees part texts asked brought n p q outs (λ m. PhaseAgrees part texts m desk q)

  pub event_same : (n : Net) (p : SlotPhase) (outs : List Effect) → PhaseAgrees part texts n desk p → AllDone part texts asked n outs → Event n p p outs
  event_same n p outs agrees done = sees_same part texts asked brought n p outs (λ m. PhaseAgrees part texts m desk p) done agrees

  -- what a slot says of tokens tells nothing of where blocks lie
  pub said_done : (n : Net) (k epoch : ℕ) (outs : List Out) → AllDone part texts asked n (flat_map (tokens_say k epoch) outs)
  unfolding tokens_say
  said_done n k epoch [] = tt
  said_done n k epoch (out.Grant client block stamp inc req mode entry ∷ os) = (tt, said_done n k epoch os)
  said_done n k epoch (out.Forward client block stamp to inc req ver ∷ os) = (tt, said_done n k epoch os)
  said_done n k epoch (out.Recall client block stamp keep ∷ os) = (tt, said_done n k epoch os)
  said_done n k epoch (out.Applied of upto ∷ os) = (tt, said_done n k epoch os)
  said_done n k epoch (out.Live entry ∷ os) = said_done n k epoch os
  said_done n k epoch (out.Dead ∷ os) = said_done n k epoch os

  -- what is known of a slot that is managed, but that the small world has it
  record Stands (n : Net) (a : Active) (t : SlotState) : Type 0 where
    epoch : t.epoch ≡ a.slot.epoch
    nine : length t.applied ≡ block_logs
    short : (l : ℕ) → 0 < l → l ≤ block_logs → applied_of t.applied l < u32_end
    pages : Paged part texts n desk a.slot.epoch (pages_of t.index) a.parts

  -- the slot steps in the small world
  steps_to : (n : Net) (a : Active) (t : SlotState) (outs : List Effect) → n.slots a.slot.epoch ≡ Some a.slot
      → Happens part (held_in part texts) n (with_slot n a.slot.epoch t) → Stands n a t
      → AllDone part texts asked (with_slot n a.slot.epoch t) outs
      → Event n (phase.Active a) (holding a t) outs
  steps_to n a t outs there happens stands done =
      let e = a.slot.epoch in
      sees_slot part texts asked brought n (phase.Active a) (holding a t) e t outs (λ m. PhaseAgrees part texts m desk (holding a t)) happens refl
      (λ d h. sym stands.epoch ∙ h) (λ none. absurd (some_none a.slot (sym there ∙ none))) stands.epoch (let h = stands.epoch in omega arith) done
      (record {
        there = ap (with_slot n e t).slots stands.epoch ∙ put_here n.slots e (Some t);
        nine = stands.nine;
        short = stands.short;
        pages = subst (λ d. Paged part texts (with_slot n e t) desk d (pages_of t.index) a.parts) (sym stands.epoch)
            (paged_on part texts n (with_slot n e t) (grows_slot n e t) desk e (pages_of t.index) a.parts stands.pages);
      })

  stands_same : (n : Net) (a : Active) (t : SlotState) → Same a.slot t → ActiveAgrees part texts n desk a → Stands n a t
  stands_same n a t same k = record {
    epoch = same.epoch;
    nine = ap (λ (x : List ℕ). length x) same.applied ∙ k.nine;
    short = λ l some limit. subst (λ x. applied_of x l < u32_end) (sym same.applied) (k.short l some limit);
    pages = subst (λ (x : Indexed). Paged part texts n desk a.slot.epoch (pages_of x) a.parts) (sym same.index) k.pages;
  }

  -- an input of tokens
  pub slot_takes : (n : Net) (k : ℕ) (p : SlotPhase) (given : Input) → IsOfTokens given → PhaseAgrees part texts n desk p
      → Event n p (tokens_take p k given).state (tokens_take p k given).outs
  unfolding tokens_take
  slot_takes n k (phase.Active a) given of agrees =
      let d = slot.transition a.slot given in
      steps_to n a d.state (flat_map (tokens_say k a.slot.epoch) d.outs) agrees.there (GetsOther a.slot.epoch a.slot given agrees.there of)
      (stands_same n a d.state (tokens_same a.slot given of) agrees)
      (said_done (with_slot n a.slot.epoch d.state) k a.slot.epoch d.outs)
  slot_takes n k (phase.Away epoch) given of agrees = event_same n (phase.Away epoch) [] agrees tt
  slot_takes n k (phase.Taking t) given of agrees = event_same n (phase.Taking t) [] agrees tt
  slot_takes n k (phase.Broken epoch seg) given of agrees = event_same n (phase.Broken epoch seg) [] agrees tt

  pub slot_wants : (n : Net) (p : SlotPhase) (c : ℕ) (want : Want) → PhaseAgrees part texts n desk p
      → Event n p (on_want p c want).state (on_want p c want).outs
  unfolding on_want
  slot_wants n (phase.Broken epoch seg) c want agrees = event_same n (phase.Broken epoch seg) (gone epoch seg c want) agrees (tt, tt)
  slot_wants n (phase.Active a) c want agrees = slot_takes n (slot_of want.block.ino.0) (phase.Active a) (want_input c want) tt agrees
  slot_wants n (phase.Away epoch) c want agrees = slot_takes n (slot_of want.block.ino.0) (phase.Away epoch) (want_input c want) tt agrees
  slot_wants n (phase.Taking t) c want agrees = slot_takes n (slot_of want.block.ino.0) (phase.Taking t) (want_input c want) tt agrees

  -- ---- Deltas

  -- a number that is put into a list of numbers that are short
  short_put : (xs : List ℕ) (at upto l : ℕ) → length xs ≡ block_logs → at < block_logs → upto < u32_end → applied_of xs l < u32_end
      → applied_of (slice_set xs at upto) l < u32_end
  short_put xs at upto l nine within fits was = by (l - 1 == at) refl
    where
      apart : (x : ℕ) → (x == at) ≡ false → x ≡ at → ⊥
      apart x fact = grind (arith, nat_tests)

      by : (t : Bool) → (l - 1 == at) ≡ t → applied_of (slice_set xs at upto) l < u32_end
      by true fact =
          let same : l - 1 ≡ at = eqb-true (l - 1) at fact in
          subst (λ k. get_or (slice_set xs at upto) k 0 < u32_end) (sym same)
          (subst (λ x. x < u32_end) (sym (get_or-set_same xs at upto 0 (omega arith))) fits)
      by false fact = subst (λ x. x < u32_end) (sym (get_or-set_other xs at (l - 1) upto 0 (apart (l - 1) fact))) was

  stands_deltas : (n : Net) (a : Active) (of : LogId) (m : Deltas) → of.0 - 1 < block_logs → DeltasKnown part n of.0 m → ActiveAgrees part texts n desk a
      → Stands n a (slot.transition a.slot (deltas_input of m)).state
  stands_deltas n a of m within known k =
      deltas_take (Stands n a) a.slot of m.first m.upto m.rows (stands_same n a a.slot (record { epoch = refl; applied = refl; index = refl }) k)
      (λ t same. record {
        epoch = same.epoch;
        nine = ap (λ (x : List ℕ). length x) same.applied ∙ length-set a.slot.applied (of.0 - 1) m.upto ∙ k.nine;
        short = λ l some limit. subst (λ x. applied_of x l < u32_end) (sym same.applied)
            (short_put a.slot.applied (of.0 - 1) m.upto l k.nine within known.short (k.short l some limit));
        pages = subst (λ p. Paged part texts n desk a.slot.epoch p a.parts) (sym (ap pages_of same.index ∙ pages-merge_all a.slot.index m.rows))
            (paged_put part texts n desk a.slot.epoch (pages_of a.slot.index) a.parts m.rows known.fit k.pages);
      })

  abbrev IsEvent : Net → Active → ℕ → slot.Done → Type 0
  IsEvent n a k d = Event n (phase.Active a) (holding a d.state) (flat_map (tokens_say k a.slot.epoch) d.outs)

  active_deltas : (n : Net) (a : Active) (of : LogId) (m : Deltas) → DeltasKnown part n of.0 m → ActiveAgrees part texts n desk a
      → Event n (phase.Active a) (holding a (slot.transition a.slot (deltas_input of m)).state)
      (flat_map (tokens_say m.slot a.slot.epoch) (slot.transition a.slot (deltas_input of m)).outs)
  active_deltas n a of m known agrees = by (slot_recalls.is_followed of) refl
    where
      within : (x : ℕ) → slot_recalls.is_followed (record { 0 = x }) ≡ true → x - 1 < block_logs
      within x h = grind (arith, nat_tests)

      by : (t : Bool) → slot_recalls.is_followed of ≡ t → IsEvent n a m.slot (slot.transition a.slot (deltas_input of m))
      by true fact =
          let d = slot.transition a.slot (deltas_input of m) in
          let w = within of.0 fact in
          let nine = agrees.nine in
          steps_to n a d.state (flat_map (tokens_say m.slot a.slot.epoch) d.outs) agrees.there
          (GetsDeltas a.slot.epoch a.slot of m.first m.upto m.rows agrees.there (omega arith) known.tells) (stands_deltas n a of m w known agrees)
          (said_done (with_slot n a.slot.epoch d.state) m.slot a.slot.epoch d.outs)
      by false fact = subst (IsEvent n a m.slot) (sym (ap (λ t. cond t (slot.deltas_of a.slot of m.first m.upto m.rows) (still a.slot)) fact))
          (event_same n (phase.Active a) [] agrees tt)

  pub slot_deltas : (n : Net) (p : SlotPhase) (of : LogId) (m : Deltas) → DeltasKnown part n of.0 m → PhaseAgrees part texts n desk p
      → Event n p (on_deltas p of m).state (on_deltas p of m).outs
  unfolding tokens_take
  slot_deltas n (phase.Active a) of m known agrees = active_deltas n a of m known agrees
  slot_deltas n (phase.Away epoch) of m known agrees = event_same n (phase.Away epoch) [] agrees tt
  slot_deltas n (phase.Taking t) of m known agrees = event_same n (phase.Taking t) [] agrees tt
  slot_deltas n (phase.Broken epoch seg) of m known agrees = event_same n (phase.Broken epoch seg) [] agrees tt

  -- ---- checks

  active_check : (n : Net) (a : Active) (check : Check) → CheckKnown part asked n check → ActiveAgrees part texts n desk a
      → Event n (phase.Active a) (phase.Active a) (flat_map (tokens_answer check a.slot.epoch) (slot.transition a.slot (check_input check)).outs)
  unfolding tokens_answer
  active_check n a check known agrees =
      let e = a.slot.epoch in
      let s = a.slot in
      let happens = Answers e s known.number check.block check.place known.below agrees.there known.sent in
      by_test (λ (o : Out). Happens part (held_in part texts) n (record n
      { sent = answer_packets known.number check.block check.place.seg.name known.below e (o ∷ []) ++ n.sent })
      → Event n (phase.Active a) (phase.Active a) (flat_map (tokens_answer check e) (o ∷ []))) (slot.is_place (slot.entry_at s check.block).place check.place)
      (out.Live (slot.entry_at s check.block)) out.Dead
      (λ _ it. sees_sent part texts asked brought n (phase.Active a) (phase.Active a) (AnsweredLive check.block (slot.entry_at s check.block) ∷ []) _
      (λ m. PhaseAgrees part texts m desk (phase.Active a)) it (λ d h. h) (λ d h. h) (omega arith) ((λ _. inl refl), tt)
      (phase_on part texts n _ (grows_sent n (AnsweredLive check.block (slot.entry_at s check.block) ∷ [])) desk (phase.Active a) (λ d _. refl) agrees))
      (λ _ it. sees_sent part texts asked brought n (phase.Active a) (phase.Active a)
      (AnsweredDead known.number check.block check.place.seg.name known.below e ∷ []) _ (λ m. PhaseAgrees part texts m desk (phase.Active a)) it (λ d h. h)
      (λ d h. h)
      (omega arith)
      ((λ _. record { number = known.number; name = check.place.seg.name; below = known.below; sent = inl refl; question = known.question }), tt)
      (phase_on part texts n _ (grows_sent n (AnsweredDead known.number check.block check.place.seg.name known.below e ∷ [])) desk (phase.Active a)
      (λ d _. refl) agrees))
      happens

  pub slot_checks : (n : Net) (p : SlotPhase) (check : Check) → CheckKnown part asked n check → PhaseAgrees part texts n desk p
      → Event n p (on_check p check).state (on_check p check).outs
  unfolding on_check
  slot_checks n (phase.Active a) check known agrees = active_check n a check known agrees
  slot_checks n (phase.Away epoch) check known agrees = event_same n (phase.Away epoch) [] agrees tt
  slot_checks n (phase.Taking t) check known agrees = event_same n (phase.Taking t) [] agrees tt
  slot_checks n (phase.Broken epoch seg) check known agrees = event_same n (phase.Broken epoch seg) [] agrees tt

  -- a check of a block of another slot
  elsewhere : {X : Type 0} (k : ℕ) → (k ≡ part → ⊥) → k ≡ part → X
  elsewhere k other same = absurd (other same)

  check_done : (n : Net) (check : Check) (epoch : ℕ) (outs : List Out) → (slot_of check.block.ino.0 ≡ part → ⊥)
      → AllDone part texts asked n (flat_map (tokens_answer check epoch) outs)
  unfolding tokens_answer
  check_done n check epoch [] other = tt
  check_done n check epoch (out.Grant client block stamp inc req mode entry ∷ os) other = ((λ same. absurd (other same)), check_done n check epoch os other)
  check_done n check epoch (out.Forward client block stamp to inc req ver ∷ os) other = ((λ same. absurd (other same)), check_done n check epoch os other)
  check_done n check epoch (out.Recall client block stamp keep ∷ os) other = ((λ same. absurd (other same)), check_done n check epoch os other)
  check_done n check epoch (out.Applied of upto ∷ os) other = ((λ same. absurd (other same)), check_done n check epoch os other)
  check_done n check epoch (out.Live entry ∷ os) other = ((λ same. absurd (other same)), check_done n check epoch os other)
  check_done n check epoch (out.Dead ∷ os) other = ((λ same. absurd (other same)), check_done n check epoch os other)

  pub other_checks : (n : Net) (p : SlotPhase) (check : Check) → (slot_of check.block.ino.0 ≡ part → ⊥) → AllDone part texts asked n (on_check p check).outs
  unfolding on_check
  other_checks n (phase.Active a) check other = check_done n check a.slot.epoch (slot.transition a.slot (check_input check)).outs other
  other_checks n _ check other = tt

  -- ---- what other slots say

  pub other_takes : (n : Net) (k : ℕ) (p : SlotPhase) (given : Input) → AllDone part texts asked n (tokens_take p k given).outs
  unfolding tokens_take
  other_takes n k (phase.Active a) given = said_done n k a.slot.epoch (slot.transition a.slot given).outs
  other_takes n k _ given = tt

  pub other_wants : (n : Net) (p : SlotPhase) (c : ℕ) (want : Want) → AllDone part texts asked n (on_want p c want).outs
  unfolding on_want
  other_wants n (phase.Broken epoch seg) c want = (tt, tt)
  other_wants n (phase.Active a) c want = other_takes n (slot_of want.block.ino.0) (phase.Active a) (want_input c want)
  other_wants n (phase.Away epoch) c want = other_takes n (slot_of want.block.ino.0) (phase.Away epoch) (want_input c want)
  other_wants n (phase.Taking t) c want = other_takes n (slot_of want.block.ino.0) (phase.Taking t) (want_input c want)

  pub usage_done : (n : Net) (p : SlotPhase) (ask : UsageAsk) → AllDone part texts asked n (on_usage_ask p ask)
  unfolding on_usage_ask
  usage_done n (phase.Active a) ask = (tt, tt)
  usage_done n _ ask = tt
