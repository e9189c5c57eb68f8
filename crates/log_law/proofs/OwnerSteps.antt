-- What a step makes of the owner of a log: its boot and its phase stay, or it falls, restarts, picks where the log goes on, or comes to write or serve.
use Rattle.std.proofs.Common.{◌≡◌, suc, ◌≤◌, refl, arith}
use Rattle.log_protocol.specs.Phase
use Rattle.log_protocol.specs.State.{State}
use Rattle.log_protocol.specs.Step.{Step}
use Rattle.log_protocol.specs.Step.Step.{Crashes, Restarts, Begins, Picks_none, Picks_kept, Picks_prior, Opens, Serves}

-- and what becomes of the span and of the horizon of the pick
pub data Turn (v u : State) : Type 0 where
  Rests : u.phase ≡ v.phase → u.incarnation ≡ v.incarnation → u.pick_low ≡ v.pick_low → u.spanning ≡ v.spanning → Turn v u
  Falls : u.phase ≡ Phase.down → u.incarnation ≡ v.incarnation → u.pick_low ≡ v.pick_low → Turn v u
  Boots : u.incarnation ≡ suc v.incarnation → Turn v u
  Picks : v.phase ≡ Phase.gathering → u.incarnation ≡ v.incarnation → u.spanning ≡ v.spanning → Turn v u
  Writes : Phase.writing ≤ u.phase → u.incarnation ≡ v.incarnation → u.pick_low ≡ v.pick_low → Turn v u

pub turn_of : (v u : State) → Step v u → Turn v u
turn_of v u Crashes = Falls refl refl refl
turn_of v u (Restarts can) = Boots refl
turn_of v u (Begins can) = Boots refl
turn_of v u (Picks_none list_of low can) = Picks can.gathering refl refl
turn_of v u (Picks_kept list_of low x can) = Picks can.gathering refl refl
turn_of v u (Picks_prior list_of low x i can) = Picks can.gathering refl refl
turn_of v u (Opens x text count server can) = Writes (omega arith) refl refl
turn_of v u (Serves path lowest sure can) = Writes (omega arith) refl refl
turn_of v u step = Rests refl refl refl refl
