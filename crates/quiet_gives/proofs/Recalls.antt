-- A want of a block that one other has to give up first: the manager recalls it, and once the Gave has come the want is answered as if there had been no other.
use Rattle.std.proofs.Common.{◌≡◌, ℕ, ◌+◌, not, Bool, true, false, cond, nat_le, [], ◌∷◌, None, refl, ap}
use Rattle.std.proofs.lemmas.Cmp.{tied_itself}
use Rattle.std.specs.BTreeMap.{is_at}
use Rattle.std.specs.Ordering.{is_eq}
use Rattle.slot_beliefs.specs.Beliefs.{give_way, holder, others}
use Rattle.slot_beliefs.specs.declared.job.Wanted.{Wanted}
use Rattle.slot_beliefs.specs.Recalls.{applied_of, stamp, without_job}
use Rattle.token_manager.specs.declared.input.In.TheVariants as input
use Rattle.token_manager.specs.declared.output.Out.TheVariants as out
use Rattle.token_manager.specs.SlotState.{SlotState}
use Rattle.token_manager.specs.Transition.{slot_finish, gave_noted, has_turns, is_dropped, transition, want_of}
use Rattle.xfs_base.proofs.BlockOrder.{block_cmp_total}
use Rattle.xfs_base.specs.Blocks.{block_cmp}
use Rattle.xfs_base.specs.declared.block.BlockId.{BlockId}
use Rattle.xfs_base.specs.declared.token.Mode.{Mode}
use Rattle.xfs_base.specs.declared.token.Stamp.{Stamp}
use Rattle.xfs_base.specs.Modes.{is_own}
use Rattle.quiet_nodes.proofs.Tests.{same_test}
use Rattle.quiet_nodes.proofs.DeltasLayer.{NoneReady}

at_itself : (b : BlockId) → is_at (block_cmp b) b ≡ true
at_itself b = ap is_eq (tied_itself block_cmp_total b)

module _ (c inc req end : ℕ) (b : BlockId) (mode : Mode) where
  abbrev pub its_want : Wanted
  its_want = want_of c b inc req 0 mode

  -- a copy may stay where the block is wanted to be read
  abbrev pub keeps : Bool
  keeps = not (is_own mode)

  module _ (z : SlotState) where
    -- nobody has to give way
    pub want_finishes : is_dropped z its_want end ≡ false → others z.beliefs b c keeps ≡ [] → has_turns z.turn 1 ≡ true
        → transition z (input.Want (want_of c b inc req 0 mode) end) ≡ slot_finish z its_want
    want_finishes taken alone room = rw (taken, alone, room) refl

    module _ (o : ℕ) where
      abbrev pub its_stamp : Stamp
      its_stamp = stamp z.epoch (z.turn + 1)

      -- the want waits
      abbrev pub waiting : SlotState
      waiting = record z {
        jobs = (b, record { want = its_want; awaited = record { client = o; stamp = its_stamp; keep = keeps; end = None } ∷ [] }) ∷ [];
        turn = z.turn + 1;
      }

      -- one has to
      pub want_recalls : is_dropped z its_want end ≡ false → others z.beliefs b c keeps ≡ o ∷ [] → has_turns z.turn 1 ≡ true → z.jobs ≡ []
          → transition z (input.Want (want_of c b inc req 0 mode) end) ≡ record { state = waiting; outs = out.Recall o b its_stamp keeps ∷ [] }
      want_recalls taken one room none = rw (taken, one, room, none) refl

      pub none_ready : NoneReady waiting.jobs
      none_ready applied = refl

-- the Gave that a want waits for
module _ (z : SlotState) (w : Wanted) (o end : ℕ) (b : BlockId) (st : Stamp) (keep : Bool) where
  -- the slot without the want, once the block is given up
  abbrev pub given_slot : SlotState
  given_slot = record z { beliefs = give_way z.beliefs (holder b o) (not (is_own w.mode)); jobs = [] }

  none_wait : without_job ((b, record { want = w; awaited = record { client = o; stamp = st; keep = keep; end = None } ∷ [] }) ∷ []) b ≡ []
  none_wait = ap (λ t. cond t [] ((b, record { want = w; awaited = record { client = o; stamp = st; keep = keep; end = None } ∷ [] }) ∷ [])) (at_itself b)

  pub gave_ends : z.jobs ≡ (b, record { want = w; awaited = record { client = o; stamp = st; keep = keep; end = None } ∷ [] }) ∷ []
      → nat_le end (applied_of z.applied o) ≡ true → has_turns z.turn 1 ≡ true → transition z (input.Gave o b st end) ≡ slot_finish given_slot w
  unfolding gave_noted
  gave_ends jobs done room =
      rw (jobs, at_itself b, same_test o, same_test st.epoch, same_test st.turn, done, room) (ap (λ js. slot_finish (record given_slot { jobs = js }) w) none_wait)
