-- The kinds of steps of one log, by which a run says what it does.
use Rattle.std.specs.Prelude.{List, [], ◌∷◌}
use Rattle.log_protocol.specs.State.{State}
use Rattle.log_protocol.specs.Step.{Step, Steps}
use Rattle.log_protocol.specs.Step.Step.{Loses, Hears, Learns, Sends, Accepts, Accepts_again, Tells, Fills, Drops, Deletes, Raises, Fences, Seals, Restripes, Notes, Settles, Crashes, Restarts, Begins, Picks_none, Picks_kept, Picks_prior, Cuts, Opens, Serves}
use Rattle.log_protocol.specs.Step.Steps.{Done, More}

pub data Kind : Type 0 where
  Lose : Kind
  Hear : Kind
  Learn : Kind
  Send : Kind
  Accept : Kind
  Accept_again : Kind
  Tell : Kind
  Fill : Kind
  Drop : Kind
  Delete : Kind
  Raise : Kind
  Fence : Kind
  Seal : Kind
  Restripe : Kind
  Note : Kind
  Settle : Kind
  Crash : Kind
  Restart : Kind
  Begin : Kind
  Pick_none : Kind
  Pick_kept : Kind
  Pick_prior : Kind
  Cut : Kind
  Open : Kind
  Serve : Kind

abbrev pub kind : {w u : State} → Step w u → Kind
kind (Loses v) = Lose
kind (Hears v g can) = Hear
kind (Learns map can) = Learn
kind (Sends x i can) = Send
kind (Accepts p can) = Accept
kind (Accepts_again p can) = Accept_again
kind (Tells v x can) = Tell
kind (Fills v i p can) = Fill
kind (Drops x can) = Drop
kind (Deletes v x can) = Delete
kind (Raises low can) = Raise
kind (Fences v c can) = Fence
kind (Seals x text count server content can) = Seal
kind (Restripes x text count server can) = Restripe
kind (Notes p can) = Note
kind (Settles can) = Settle
kind Crashes = Crash
kind (Restarts can) = Restart
kind (Begins can) = Begin
kind (Picks_none list_of low can) = Pick_none
kind (Picks_kept list_of low x can) = Pick_kept
kind (Picks_prior list_of low x i can) = Pick_prior
kind (Cuts low can) = Cut
kind (Opens x text count server can) = Open
kind (Serves path lowest sure can) = Serve

-- the kinds of a run's steps, in order, and then the rest
abbrev pub kinds_then : {w u : State} → Steps w u → List Kind → List Kind
kinds_then Done rest = rest
kinds_then (More run step) rest = kinds_then run (kind step ∷ rest)

abbrev pub kinds : {w u : State} → Steps w u → List Kind
kinds run = kinds_then run []
