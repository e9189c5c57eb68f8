-- A manager's slots answer Live only to a Check, at the place of the block's entry.
use Rattle.std.proofs.Common.{◌≡◌, ℕ, Bool, true, false, cond, ◌&&◌, ◌==◌, [], ◌∷◌, Option, None, Some, slice_get, refl}
use Rattle.std.specs.List.{flat_map}
use Rattle.std.specs.Ordering.{is_eq}
use Rattle.std.proofs.lemmas.Map.Views.{tells_apart}
use Rattle.std.proofs.lemmas.Bool.{eqb-true}
use Rattle.token_manager.specs.Transition as slot
use Rattle.token_manager.specs.Transition.{entry_at, is_place, transition}
use Rattle.xfs_base.proofs.Booleans.{and_first, and_second, contrary}
use Rattle.xfs_base.proofs.Orders.{seg_cmp_exact}
use Rattle.xfs_base.specs.Segments.{seg_cmp}
use Rattle.xfs_base.specs.declared.entry.Entry.{Entry}
use Rattle.xfs_base.specs.declared.entry.Place.{Place}
use Rattle.manager_slots.specs.declared.slot_phase.SlotPhase.{SlotPhase}
use Rattle.manager_slots.specs.declared.slot_phase.SlotPhase.TheVariants as phase
use Rattle.manager_slots.specs.SlotTable as table
use Rattle.manager_slots.specs.SlotTable.{Hearer, Table, TableAsker}
use Rattle.manager_slots.specs.Tokens as tokens
use Rattle.token_manager.specs.declared.input.In.{In}
use Rattle.token_manager.specs.declared.output.Out.{Out}
use Rattle.token_manager.specs.declared.output.Out.TheVariants as out
use Rattle.wire_msg.specs.declared.cleaning.Check.{Check}
use Rattle.wire_msg.specs.declared.deltas.Deltas.{Deltas}
use Rattle.wire_msg.specs.declared.tokens.Gave.{Gave}
use Rattle.wire_msg.specs.declared.tokens.Want.{Want}
use Rattle.xfs_base.specs.Blocks.{slot_of}
use Rattle.xfs_base.specs.declared.segment.LogId.{LogId}
use Rattle.xfs_base.proofs.Alls.{all_flat_map}
use Rattle.run_laws.proofs.place_law.Saying.{AllSay, Says}
use Rattle.run_laws.proofs.place_law.SlotSays.{in_slot_so}
use Rattle.run_laws.specs.place_law.Answers.{AnswersCheck, IfLive}
use Rattle.wire_msg.specs.declared.cleaning.Live.{Live}

-- a place that is tested to be this one is
is_at : (o : Option Place) (place : Place) → is_place o place ≡ true → o ≡ Some place
is_at None place h = contrary h
is_at (Some at) place h =
    let names : Bool = is_eq (seg_cmp at.seg.name place.seg.name) in
    let groups : Bool = at.seg.group == place.seg.group in
    let both : (names && groups) ≡ true = and_first (names && groups) (at.item == place.item) h in
    let name : at.seg.name ≡ place.seg.name = tells_apart seg_cmp_exact at.seg.name place.seg.name (and_first names groups both) in
    let group : at.seg.group ≡ place.seg.group = eqb-true at.seg.group place.seg.group (and_second names groups both) in
    let item : at.item ≡ place.item = eqb-true at.item place.item (and_second (names && groups) (at.item == place.item) h) in
    λ i. Some (record { seg = record { name = name i; group = group i }; item = item i })

-- of each Live that is sent this is so
module _ (A : Live → Type 0) where
  -- ---- one slot

  tokens_say_so : (slot epoch : ℕ) (o : Out) → AllSay (IfLive A) (tokens.tokens_say slot epoch o)
  unfolding tokens.tokens_say
  tokens_say_so slot epoch (out.Grant client block stamp inc req mode entry) = (tt, tt)
  tokens_say_so slot epoch (out.Forward client block stamp to inc req ver) = (tt, tt)
  tokens_say_so slot epoch (out.Recall client block stamp keep) = (tt, tt)
  tokens_say_so slot epoch (out.Applied log applied) = (tt, tt)
  tokens_say_so slot epoch (out.Live entry) = tt
  tokens_say_so slot epoch out.Dead = tt

  tokens_take_so : (p : SlotPhase) (slot : ℕ) (given : In) → AllSay (IfLive A) (tokens.tokens_take p slot given).outs
  unfolding tokens.tokens_take
  tokens_take_so (phase.Active a) slot given =
      all_flat_map (Says (IfLive A)) (tokens.tokens_say slot a.slot.epoch) (tokens_say_so slot a.slot.epoch) (transition a.slot given).outs
  tokens_take_so (phase.Away epoch) slot given = tt
  tokens_take_so (phase.Taking t) slot given = tt
  tokens_take_so (phase.Broken epoch seg) slot given = tt

  want_so : (client : ℕ) (want : Want) (p : SlotPhase) → AllSay (IfLive A) (tokens.on_want p client want).outs
  unfolding tokens.on_want
  want_so client want (phase.Active a) = tokens_take_so (phase.Active a) (slot_of want.block.ino.0) (tokens.want_input client want)
  want_so client want (phase.Away epoch) = tokens_take_so (phase.Away epoch) (slot_of want.block.ino.0) (tokens.want_input client want)
  want_so client want (phase.Taking t) = tokens_take_so (phase.Taking t) (slot_of want.block.ino.0) (tokens.want_input client want)
  want_so client want (phase.Broken epoch seg) = (tt, tt)

  -- a Check is answered Live where the entry of the block is at its place
  module _ (check : Check) (may : (m : Live) → AnswersCheck check m → A m) where
    found_so : (epoch : ℕ) (entry : Entry) → AllSay (IfLive A) (flat_map (tokens.tokens_answer check epoch) (slot.found entry check.place ∷ []))
    unfolding tokens.tokens_answer
    found_so epoch entry = by (is_place entry.place check.place) refl
      where
        by : (t : Bool) → is_place entry.place check.place ≡ t
            → AllSay (IfLive A) (flat_map (tokens.tokens_answer check epoch) (cond t (out.Live entry) out.Dead ∷ []))
        by true fact = (
          may (record { block = check.block; ask = check.ask; epoch = epoch; entry = entry })
              (record { block = refl; ask = refl; place = is_at entry.place check.place fact }),
          tt,
        )
        by false fact = (tt, tt)

    check_so : (p : SlotPhase) → AllSay (IfLive A) (tokens.on_check p check).outs
    unfolding tokens.on_check
    check_so (phase.Active a) = found_so a.slot.epoch (entry_at a.slot check.block)
    check_so (phase.Away epoch) = tt
    check_so (phase.Taking t) = tt
    check_so (phase.Broken epoch seg) = tt

  -- ---- in the table

  pub wants_say : (t : Table) (client : ℕ) (want : Want) → AllSay (IfLive A) (table.on_want t client want).outs
  unfolding table.on_want
  wants_say t client want =
      in_slot_so (IfLive A) t (slot_of want.block.ino.0) (λ p. tokens.on_want p client want) (want_so client want)
      (slice_get t (slot_of want.block.ino.0))

  pub gaves_say : (t : Table) (client : ℕ) (gave : Gave) → AllSay (IfLive A) (table.on_gave t client gave).outs
  unfolding table.on_gave
  gaves_say t client gave =
      in_slot_so (IfLive A) t (slot_of gave.block.ino.0) (λ p. tokens.on_gave p client gave)
      (λ p. tokens_take_so p (slot_of gave.block.ino.0) (tokens.gave_input client gave)) (slice_get t (slot_of gave.block.ino.0))

  pub deltas_say : (t : Table) (log : LogId) (deltas : Deltas) → AllSay (IfLive A) (table.on_deltas t log deltas).outs
  unfolding table.on_deltas
  deltas_say t log deltas =
      in_slot_so (IfLive A) t deltas.slot (λ p. tokens.on_deltas p log deltas) (λ p. tokens_take_so p deltas.slot (tokens.deltas_input log deltas))
      (slice_get t deltas.slot)

  pub checks_say : (t : Table) (check : Check) → ((m : Live) → AnswersCheck check m → A m) → AllSay (IfLive A) (table.on_check t check).outs
  unfolding table.on_check
  checks_say t check may =
      in_slot_so (IfLive A) t (slot_of check.block.ino.0) (λ p. tokens.on_check p check) (check_so check may) (slice_get t (slot_of check.block.ino.0))
