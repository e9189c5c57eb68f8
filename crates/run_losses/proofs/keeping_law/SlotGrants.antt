-- The Grants that a manager's table of slots sends, at a Want, a Gave or Deltas, tell what it holds after that.
use Rattle.std.proofs.Common.{◌≡◌, ℕ, List, [], ◌∷◌, Option, None, Some, slice_get, slice_set, unwrap_or, refl, ap, subst, ◌∙◌}
use Rattle.std.specs.List.{AllByRecursion, flat_map}
use Rattle.manager_node.specs.declared.phase.Phase.TheVariants.{Serving as Serves}
use Rattle.manager_slots.specs.declared.slot_phase.Active.{Active}
use Rattle.manager_slots.specs.declared.slot_phase.SlotPhase.{SlotPhase}
use Rattle.manager_slots.specs.declared.slot_phase.SlotPhase.TheVariants as phase
use Rattle.manager_slots.specs.Slots.{with_slot}
use Rattle.manager_slots.specs.SlotTable as table
use Rattle.manager_slots.specs.SlotTable.{Table}
use Rattle.manager_slots.specs.Tokens as tokens
use Rattle.manager_serving.specs.declared.serving.Serving.{Serving}
use Rattle.node_base.specs.declared.effects.Effect.{Effect}
use Rattle.node_slots.proofs.node_tie.ManagerJobs.{AllSpeakOf, IsInputOf, SpeaksOf, takes_of}
use Rattle.node_slots.specs.node_tie.ManagerEvents.{OtherAgrees}
use Rattle.headline.specs.Managers.{active_in, phase_at}
use Rattle.token_manager.specs.declared.input.In.{In}
use Rattle.token_manager.specs.declared.output.Out.{Out}
use Rattle.token_manager.specs.declared.output.Out.TheVariants as out
use Rattle.token_manager.specs.SlotState.{SlotState}
use Rattle.token_manager.specs.Transition as slot
use Rattle.token_manager.specs.Transition.{entry_at}
use Rattle.wire_msg.specs.declared.body.Body.{Body}
use Rattle.wire_msg.specs.declared.body.Body.TheVariants as body
use Rattle.wire_msg.specs.declared.cleaning.Check.{Check}
use Rattle.wire_msg.specs.declared.deltas.Deltas.{Deltas}
use Rattle.wire_msg.specs.declared.tokens.Gave.{Gave}
use Rattle.wire_msg.specs.declared.tokens.Grant.{Grant}
use Rattle.wire_msg.specs.declared.tokens.Want.{Want}
use Rattle.run_laws.proofs.world_law.Nodes.{get_set_same}
use Rattle.xfs_base.specs.Blocks.{slot_of}
use Rattle.xfs_base.specs.declared.segment.LogId.{LogId}
use Rattle.xfs_base.specs.Steps.{Stepped}
use Rattle.xfs_base.proofs.Alls.{all_append, all_flat_map}
use Rattle.run_losses.proofs.keeping_law.Granted.{Granted, slot_grants}
use Rattle.run_laws.proofs.place_law.Saying.{AllSay, Says, say_more}
use Rattle.run_laws.proofs.place_law.SlotSays.{in_slot_so}
use Rattle.run_losses.specs.keeping_law.Grants.{GrantTells, IfGrant, WaitsInPlace}

-- of each Grant that is sent this is so
abbrev pub AllGrant : (Grant → Type 0) → List Effect → Type 0
AllGrant Is outs = AllSay (IfGrant Is) outs

grant_more : (One More : Grant → Type 0) → ((m : Grant) → One m → More m) → (m : Body) → IfGrant One m → IfGrant More m
grant_more One More more (body.Grant m) h = more m h
grant_more One More more _ h = tt

-- ---- one slot

-- a Grant of a block of this slot tells what the slot holds
record HeldIn (k : ℕ) (p : SlotPhase) (m : Grant) : Type 0 where
  slot : SlotState
  managed : active_in p ≡ Some slot
  of_slot : slot_of m.block.ino.0 ≡ k
  epoch : slot.epoch ≡ m.stamp.epoch
  entry : entry_at slot m.block ≡ m.entry

module _ (k : ℕ) where
  said_tells : (n epoch : ℕ) (a : Active) (s : SlotState) (o : Out) → SpeaksOf k o → Granted s.epoch s.index.rows o
      → AllGrant (HeldIn k (with_slot a s)) (tokens.tokens_say n epoch o)
  unfolding tokens.tokens_say
  said_tells n epoch a s (out.Grant client block stamp inc req mode entry) of granted =
      (record { slot = s; managed = refl; of_slot = of; epoch = granted.0; entry = granted.1 }, tt)
  said_tells n epoch a s (out.Forward client block stamp to inc req ver) of granted = (tt, tt)
  said_tells n epoch a s (out.Recall client block stamp keep) of granted = (tt, tt)
  said_tells n epoch a s (out.Applied log upto) of granted = (tt, tt)
  said_tells n epoch a s (out.Live entry) of granted = tt
  said_tells n epoch a s out.Dead of granted = tt

  all_tell : (n epoch : ℕ) (a : Active) (s : SlotState) (outs : List Out) → AllSpeakOf k outs → AllByRecursion (Granted s.epoch s.index.rows) outs
      → AllGrant (HeldIn k (with_slot a s)) (flat_map (tokens.tokens_say n epoch) outs)
  all_tell n epoch a s [] of granted = tt
  all_tell n epoch a s (o ∷ outs) of granted =
      all_append (Says (IfGrant (HeldIn k (with_slot a s)))) (tokens.tokens_say n epoch o) (flat_map (tokens.tokens_say n epoch) outs) (said_tells n epoch a s o of.0 granted.0)
      (all_tell n epoch a s outs of.1 granted.1)

  takes_tells : (p : SlotPhase) (n : ℕ) (given : In) → IsInputOf k given → OtherAgrees k p
      → AllGrant (HeldIn k (tokens.tokens_take p n given).state) (tokens.tokens_take p n given).outs
  unfolding tokens.tokens_take
  takes_tells (phase.Active a) n given of waits =
      all_tell n a.slot.epoch a (slot.transition a.slot given).state (slot.transition a.slot given).outs (takes_of k a.slot given of waits).outs
      (slot_grants a.slot given)
  takes_tells (phase.Away epoch) n given of waits = tt
  takes_tells (phase.Taking t) n given of waits = tt
  takes_tells (phase.Broken epoch seg) n given of waits = tt

want_so : (client : ℕ) (want : Want) (p : SlotPhase) → OtherAgrees (slot_of want.block.ino.0) p
    → AllGrant (HeldIn (slot_of want.block.ino.0) (tokens.on_want p client want).state) (tokens.on_want p client want).outs
unfolding tokens.on_want
want_so client want (phase.Active a) waits =
    takes_tells (slot_of want.block.ino.0) (phase.Active a) (slot_of want.block.ino.0) (tokens.want_input client want) refl waits
want_so client want (phase.Away epoch) waits =
    takes_tells (slot_of want.block.ino.0) (phase.Away epoch) (slot_of want.block.ino.0) (tokens.want_input client want) refl waits
want_so client want (phase.Taking t) waits =
    takes_tells (slot_of want.block.ino.0) (phase.Taking t) (slot_of want.block.ino.0) (tokens.want_input client want) refl waits
want_so client want (phase.Broken epoch seg) waits = (tt, tt)

-- what the cleaner is answered is no Grant
checked_so : (Is : Grant → Type 0) (check : Check) (epoch : ℕ) (o : Out) → AllGrant Is (tokens.tokens_answer check epoch o)
unfolding tokens.tokens_answer
checked_so Is check epoch (out.Grant client block stamp inc req mode entry) = (tt, tt)
checked_so Is check epoch (out.Forward client block stamp to inc req ver) = (tt, tt)
checked_so Is check epoch (out.Recall client block stamp keep) = (tt, tt)
checked_so Is check epoch (out.Applied log applied) = (tt, tt)
checked_so Is check epoch (out.Live entry) = (tt, tt)
checked_so Is check epoch out.Dead = (tt, tt)

check_so : (Is : Grant → Type 0) (check : Check) (p : SlotPhase) → AllGrant Is (tokens.on_check p check).outs
unfolding tokens.on_check
check_so Is check (phase.Active a) =
    all_flat_map (Says (IfGrant Is)) (tokens.tokens_answer check a.slot.epoch) (checked_so Is check a.slot.epoch)
    (slot.transition a.slot (tokens.check_input check)).outs
check_so Is check (phase.Away epoch) = tt
check_so Is check (phase.Taking t) = tt
check_so Is check (phase.Broken epoch seg) = tt

-- ---- in the table

pub checks_tell : (Is : Grant → Type 0) (t : Table) (check : Check) → AllGrant Is (table.on_check t check).outs
unfolding table.on_check
checks_tell Is t check =
    in_slot_so (IfGrant Is) t (slot_of check.block.ino.0) (λ p. tokens.on_check p check) (check_so Is check) (slice_get t (slot_of check.block.ino.0))

at_set : (t : Table) (k : ℕ) (p q : SlotPhase) → slice_get t k ≡ Some p → phase_at (slice_set t k q) k ≡ q
at_set t k p q fact = ap (λ o. unwrap_or o (phase.Away 0)) (get_set_same t k q p fact)

at_get : (t : Table) (k : ℕ) (p : SlotPhase) → slice_get t k ≡ Some p → phase_at t k ≡ p
at_get t k p fact = ap (λ o. unwrap_or o (phase.Away 0)) fact

module _ (s : Serving) (waits : WaitsInPlace (Serves s)) where
  -- the manager, with this table of slots
  abbrev with_table : Table → Serving
  with_table t = record s { slots = t }

  set_tells : (k : ℕ) (p q : SlotPhase) → slice_get s.slots k ≡ Some p → (m : Grant) → HeldIn k q m
      → GrantTells (Serves (with_table (slice_set s.slots k q))) m
  set_tells k p q fact m held = record {
    slot = held.slot;
    managed = ap (λ x. active_in (phase_at (slice_set s.slots k q) x)) held.of_slot ∙ (ap active_in (at_set s.slots k p q fact) ∙ held.managed);
    epoch = held.epoch;
    entry = held.entry;
  }

  in_slot_tells : (k : ℕ) (event : SlotPhase → Stepped SlotPhase Effect)
      → ((p : SlotPhase) → OtherAgrees k p → AllGrant (HeldIn k (event p).state) (event p).outs) → (o : Option SlotPhase) → slice_get s.slots k ≡ o
      → AllGrant (GrantTells (Serves (with_table (table.in_slot s.slots k event o).state))) (table.in_slot s.slots k event o).outs
  in_slot_tells k event each None fact = tt
  in_slot_tells k event each (Some p) fact =
      say_more (IfGrant (HeldIn k (event p).state)) (IfGrant (GrantTells (Serves (with_table (slice_set s.slots k (event p).state)))))
      (grant_more (HeldIn k (event p).state) (GrantTells (Serves (with_table (slice_set s.slots k (event p).state)))) (set_tells k p (event p).state fact))
      (event p).outs (each p (subst (OtherAgrees k) (at_get s.slots k p fact) (waits k)))

  pub wants_tell : (client : ℕ) (want : Want)
      → AllGrant (GrantTells (Serves (with_table (table.on_want s.slots client want).state))) (table.on_want s.slots client want).outs
  unfolding table.on_want
  wants_tell client want =
      in_slot_tells (slot_of want.block.ino.0) (λ p. tokens.on_want p client want) (want_so client want) (slice_get s.slots (slot_of want.block.ino.0)) refl

  pub gaves_tell : (client : ℕ) (gave : Gave)
      → AllGrant (GrantTells (Serves (with_table (table.on_gave s.slots client gave).state))) (table.on_gave s.slots client gave).outs
  unfolding table.on_gave
  gaves_tell client gave =
      in_slot_tells (slot_of gave.block.ino.0) (λ p. tokens.on_gave p client gave)
      (λ p. takes_tells (slot_of gave.block.ino.0) p (slot_of gave.block.ino.0) (tokens.gave_input client gave) refl)
      (slice_get s.slots (slot_of gave.block.ino.0)) refl

  pub deltas_tell : (log : LogId) (deltas : Deltas)
      → AllGrant (GrantTells (Serves (with_table (table.on_deltas s.slots log deltas).state))) (table.on_deltas s.slots log deltas).outs
  unfolding table.on_deltas
  deltas_tell log deltas =
      in_slot_tells deltas.slot (λ p. tokens.on_deltas p log deltas)
      (λ p. takes_tells deltas.slot p deltas.slot (tokens.deltas_input log deltas) tt) (slice_get s.slots deltas.slot) refl
