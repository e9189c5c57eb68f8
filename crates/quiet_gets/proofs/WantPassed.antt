-- The want of a copy of a block that others have copies of, and nobody owns: the first of them is told to pass its copy on; and a want that is sent again is granted.
use Rattle.token_manager.specs.declared.input.In.TheVariants as input
use Rattle.token_manager.specs.declared.output.Out.TheVariants as out
use Rattle.xfs_base.specs.declared.token.Mode.TheVariants.{Copy}
use Rattle.slot_beliefs.proofs.Shares.{belief, holder_cmp_total, holder_laws}
use Rattle.slot_beliefs.specs.Beliefs.{beliefs_hold, holder, holder_cmp, others}
use Rattle.slot_beliefs.specs.Recalls.{stamp}
use Rattle.slot_beliefs.specs.declared.job.Holder.{Holder}
use Rattle.std.proofs.Common.{Bool, List, Some, [], ap, cond, false, is_some, refl, true, ℕ, ◌+◌, ◌∙◌, ◌∷◌, ◌≡◌}
use Rattle.std.specs.BTreeMap.{insert_entry}
use Rattle.token_manager.specs.SlotState.{SlotState}
use Rattle.token_manager.specs.Transition.{entry_at, has_turns, is_dropped, transition, want_of}
use Rattle.xfs_base.proofs.BlockOrder.{lookup-insert_entry}
use Rattle.xfs_base.specs.declared.block.BlockId.{BlockId}

pub want_passes : (z : SlotState) (c inc req end : ℕ) (b : BlockId) (d : ℕ) (ds : List ℕ) → is_dropped z (want_of c b inc req 0 Copy) end ≡ false
    → others z.beliefs b c true ≡ [] → others z.beliefs b c false ≡ d ∷ ds → has_turns z.turn 1 ≡ true
    → transition z (input.Want (want_of c b inc req 0 Copy) end) ≡ record {
      state = record z { beliefs = beliefs_hold z.beliefs (holder b c); turn = z.turn + 1 };
      outs = out.Forward d b (stamp z.epoch (z.turn + 1)) c inc req (entry_at z b).ver ∷ [];
    }
want_passes z c inc req end b d ds taken unowned held room = simp (taken, unowned, held, room)

pub want_again_grants : (z : SlotState) (c inc req end : ℕ) (b : BlockId) → is_dropped z (want_of c b inc req 1 Copy) end ≡ false
    → others z.beliefs b c true ≡ [] → has_turns z.turn 1 ≡ true
    → transition z (input.Want (want_of c b inc req 1 Copy) end) ≡ record {
      state = record z { beliefs = beliefs_hold z.beliefs (holder b c); turn = z.turn + 1 };
      outs = out.Grant c b (stamp z.epoch (z.turn + 1)) inc req Copy (entry_at z b) ∷ [];
    }
want_again_grants z c inc req end b taken unowned room = simp (taken, unowned, room)

-- a holder that is believed is no other once more
pub held_again : (bs : List (Holder × Bool)) (h : Holder) → beliefs_hold (beliefs_hold bs h) h ≡ beliefs_hold bs h
held_again bs h =
    elim (is_some (belief bs h)) as (λ t. is_some (belief bs h) ≡ t → beliefs_hold (cond t bs (insert_entry holder_cmp bs h false)) h ≡ cond t bs (insert_entry holder_cmp bs h false)) [
      | true ↦ λ some. ap (λ t. cond t bs (insert_entry holder_cmp bs h false)) some
      | false ↦ λ none.
          ap (λ t. cond t (insert_entry holder_cmp bs h false) (insert_entry holder_cmp (insert_entry holder_cmp bs h false) h false))
          (ap is_some (lookup-insert_entry holder_cmp_total h h false bs ∙ ap (λ t. cond t (Some false) (belief bs h)) (holder_laws.refl h)))
    ] refl
