-- The want of a copy of a block that nobody else is believed to hold is granted.
use Rattle.std.proofs.Common.{◌≡◌, ◌||◌, ◌&&◌, ◌==◌, not, ℕ, ◌+◌, Bool, true, false, cond, List, [], ◌∷◌, refl}
use Rattle.slot_beliefs.specs.Beliefs.{beliefs_hold, holder, others}
use Rattle.slot_beliefs.specs.declared.job.Holder.{Holder}
use Rattle.slot_beliefs.specs.Recalls.{stamp}
use Rattle.token_manager.specs.declared.input.In.TheVariants as input
use Rattle.token_manager.specs.declared.output.Out.TheVariants as out
use Rattle.token_manager.specs.SlotState.{SlotState}
use Rattle.token_manager.specs.Transition.{entry_at, has_turns, is_dropped, transition, want_of}
use Rattle.xfs_base.specs.Blocks.{same_block}
use Rattle.xfs_base.specs.declared.block.BlockId.{BlockId}
use Rattle.xfs_base.specs.declared.token.Mode.TheVariants.{Copy}

-- where nobody else holds the block, nobody else owns it
pub none_owns : (bs : List (Holder × Bool)) (b : BlockId) (c : ℕ) → others bs b c false ≡ [] → others bs b c true ≡ []
none_owns [] b c none = refl
none_owns (e ∷ es) b c none =
    by_test (same_block e.0.block b && not (e.0.client == c)) e.1 (λ rest. none_owns es b c rest) none
  where
    by_test : (t owns : Bool) → (others es b c false ≡ [] → others es b c true ≡ [])
        → cond (t && (owns || not false)) (e.0.client ∷ others es b c false) (others es b c false) ≡ []
        → cond (t && (owns || not true)) (e.0.client ∷ others es b c true) (others es b c true) ≡ []
    by_test true true rest same = absurd (cc)
    by_test true false rest same = absurd (cc)
    by_test false owns rest same = rest same

pub want_copies : (z : SlotState) (c inc req end : ℕ) (b : BlockId) → is_dropped z (want_of c b inc req 0 Copy) end ≡ false → others z.beliefs b c false ≡ []
    → has_turns z.turn 1 ≡ true
    → transition z (input.Want (want_of c b inc req 0 Copy) end) ≡ record {
      state = record z { beliefs = beliefs_hold z.beliefs (holder b c); turn = z.turn + 1 };
      outs = out.Grant c b (stamp z.epoch (z.turn + 1)) inc req Copy (entry_at z b) ∷ [];
    }
want_copies z c inc req end b taken alone room = let owned = none_owns z.beliefs b c alone in simp (taken, owned, alone, room)
