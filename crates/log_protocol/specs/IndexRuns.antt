-- A run of the index machine that exists: that its laws speak of something, and that every kind of step is taken.
use Rattle.std.specs.Prelude.{◌≡◌, List, [], ◌∷◌}
use Rattle.log_protocol.specs.Tables.{In}
use Rattle.log_protocol.specs.IndexState.{IndexState}
use Rattle.log_protocol.specs.IndexStepKinds.{IndexKind, index_kinds}
use Rattle.log_protocol.specs.IndexStepKinds.IndexKind.{File, File_none, Copy, Merge, Activate, Keep, Move, Promise, Answer_dead, Count, Drop_row}
use Rattle.log_protocol.specs.IndexLaws.{IndexReached}

abbrev pub moved_steps : List IndexKind
moved_steps = File ∷ Activate ∷ File ∷ Merge ∷ Keep ∷ Answer_dead ∷ Count ∷ Drop_row ∷ Move ∷ Promise ∷ Activate ∷ Copy ∷ File_none ∷ []

-- Two versions are filed, the manager of epoch 1 becomes active, applies both and keeps a horizon; the older row is answered Dead, counted and dropped;
-- the slot moves, the cleaner promises its next epoch, the manager of epoch 2 becomes active, and the cleaner copies the newer row.
pub record IndexMoved : Type 0 where
  pub state : IndexState
  pub reached : IndexReached state
  pub steps : index_kinds reached ≡ moved_steps
  pub both_active : (state.active 1 ≡ 1) × (state.active 2 ≡ 1)
  pub horizon : state.floor 2 1 ≡ 3
  pub dropped : state.dropped 1 1 ≡ 1
  pub older : state.version 1 1 ≡ 5
  pub newest : state.joined.version ≡ 6
  pub copied : state.joined.hop ≡ 1

-- Every kind of step is taken.
abbrev pub EveryIndexStepTaken : Type 0
EveryIndexStepTaken = (k : IndexKind) → In k moved_steps
