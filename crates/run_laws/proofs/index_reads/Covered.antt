-- Deltas that come to a slot that both small worlds see, in the small world of tokens.
use Rattle.std.proofs.Common.{◌≡◌, ℕ, true, Some, None, sym, ap, subst, ◌∙◌, arith}
use Rattle.delta_index.specs.Index.{entry_of, merged_all}
use Rattle.index_tie.specs.Net as index
use Rattle.index_tie.proofs.Slots.{rows-merge_all}
use Rattle.manager_slots.specs.declared.slot_phase.SlotPhase.{SlotPhase}
use Rattle.manager_slots.specs.declared.slot_phase.SlotPhase.TheVariants as phase
use Rattle.node_slots.specs.node_index_tie.ManagerEvents as places
use Rattle.node_slots.specs.node_index_tie.Pages.{Desk}
use Rattle.node_slots.specs.node_index_tie.Sight.{DeltasKnown, held_in}
use Rattle.headline.specs.Filed.{Texts}
use Rattle.node_slots.specs.node_tie.ManagerEvents as owners
use Rattle.slot_beliefs.specs.Index.{merge_all}
use Rattle.slot_beliefs.specs.Recalls.{applied_of}
use Rattle.token_client.specs.State.{is_in_slot}
use Rattle.token_law.specs.Net as tokens
use Rattle.token_law.specs.Owed.{Covers, DeltasCover}
use Rattle.token_law.proofs.Views.{some_one}
use Rattle.token_manager.specs.SlotState.{SlotState}
use Rattle.token_manager.specs.Transition.{entry_at, joins_on}
use Rattle.wire_msg.specs.declared.deltas.Deltas.{Deltas}
use Rattle.xfs_base.specs.declared.block.BlockId.{BlockId}
use Rattle.xfs_base.specs.declared.node.NodeId.TheVariants.{Client, Manager, Server, Cleaner, Registry}
use Rattle.xfs_base.specs.Logs.{cleaners_number}
use Rattle.run_laws.specs.index_reads.Managers.{DeltasAreCovered}
use Rattle.run_laws.specs.index_reads.Ties.{Tied}
use Rattle.run_laws.proofs.index_reads.Deltas.{covers}
use Rattle.run_laws.proofs.index_reads.Worlds.{of_slot, some_block, good, same, begins, its_block}

module _ (members part : ℕ) (texts : Texts) (t : tokens.Net) (i : index.Net) (tied : Tied members part (held_in part texts) t i) where
  none_there : (e : ℕ) (z : SlotState) → t.slots e ≡ None → t.slots e ≡ Some z → ⊥
  none_there e z none some = absurd (cc)

  -- a slot of the small world of tokens that is that of the index, but for its pages
  slot_covers : (z s : SlotState) (e l : ℕ) (m : Deltas) → owners.SameButPages z s → i.slots e ≡ Some s → DeltasKnown part i l m
      → joins_on (applied_of z.applied l) m.first m.upto ≡ true → DeltasCover part t.books z (record { 0 = l }) m.upto m.rows
  slot_covers z s e l m pages at known joins = record {
    filed =
        let told = known.tells (some_block part) (its_block members part (held_in part texts) t i tied) in
        let end = tied.books.end l told.some told.known in
        let last = told.filed in
        omega arith;
    each = λ b inside. each_block b inside;
  }
    where
      rows : z.index.rows ≡ s.index.rows
      rows = ap (λ (x : SlotState). x.index.rows) pages

      here : joins_on (applied_of s.applied l) m.first m.upto ≡ true
      here = subst (λ xs. joins_on (applied_of xs l) m.first m.upto ≡ true) (ap (λ (x : SlotState). x.applied) pages) joins

      each_block : (b : BlockId) → is_in_slot part b ≡ true → Covers t.books b l m.upto (entry_at z b) (entry_of (merge_all z.index m.rows).rows b)
      each_block b inside =
          let holds = held_in part texts in
          let of = of_slot part b inside in
          let v = (good members part holds t i tied).views b of in
          subst (λ rs. Covers t.books b l m.upto (entry_at z b) (entry_of rs b)) (sym (rows-merge_all z.index m.rows))
          (subst (λ rs. Covers t.books b l m.upto (entry_of rs b) (entry_of (merged_all rs m.rows) b)) (sym rows)
          (covers t.books i.filed (same members part holds t i tied) (begins members part holds t i tied) b v.state v.reached v.tells s l m.first m.upto m.rows
          (v.slots e s at)
          (known.tells b of) here))

  joins_covered : (p : SlotPhase) (desk : Desk) (l : ℕ) (m : Deltas) → owners.PhaseAgrees members part t p → places.PhaseAgrees part texts i desk p
      → DeltasKnown part i l m → owners.DeltasJoin members part t p (record { 0 = l }) m
  joins_covered (phase.Active a) desk l m owned placed known e z held at latest joins =
      let fact : owned.slot ≡ z = some_one owned.slot z (sym owned.there ∙ ap t.slots held ∙ at) in
      slot_covers z a.slot a.slot.epoch l m (subst (λ x. owners.SameButPages x a.slot) fact owned.same) placed.there known joins
  joins_covered (phase.Taking u) desk l m owned placed known e z held at latest joins = absurd (none_there e z (ap t.slots (sym held) ∙ owned.free) at)
  joins_covered (phase.Away epoch) desk l m owned placed known e z held at latest joins = absurd held
  joins_covered (phase.Broken epoch seg) desk l m owned placed known e z held at latest joins = absurd held

pub deltas_are_covered : DeltasAreCovered
deltas_are_covered members part j texts asked t i p (Client c) m seen gets =
    λ of. joins_covered members part texts t i seen.tied p seen.desk c m seen.tokens_see seen.index_sees (gets of)
deltas_are_covered members part j texts asked t i p (Manager c) m seen gets = tt
deltas_are_covered members part j texts asked t i p (Server c) m seen gets = tt
deltas_are_covered members part j texts asked t i p Cleaner m seen gets =
    λ of. joins_covered members part texts t i seen.tied p seen.desk cleaners_number m seen.tokens_see seen.index_sees (gets of)
deltas_are_covered members part j texts asked t i p Registry m seen gets = tt
