-- Generations never fall.
use Rattle.std.proofs.Common.{ℕ, zero, suc, ◌-◌, ◌<◌, ◌≤◌, List, [], ◌∷◌, arith}
use Rattle.std.specs.Prelude.{slice_index, slice_set}
use Rattle.group_map.specs.GroupMapState.{GroupMapState}
use Rattle.group_map.specs.Groups.{generation_at, after_loss}
use Rattle.group_map.specs.Losses.{Loss, after_losses, MayLoseAll}

-- a greater number is written over one of the list
rises : (gs : List ℕ) (i j n : ℕ) → slice_index gs i < n → slice_index gs j ≤ slice_index (slice_set gs i n) j
rises [] i j n l = omega arith
rises (g ∷ gs) zero zero n l = omega arith
rises (g ∷ gs) zero (suc j) n l = omega arith
rises (g ∷ gs) (suc i) zero n l = omega arith
rises (g ∷ gs) (suc i) (suc j) n l = rises gs i j n l

pub never_fall : (state : GroupMapState) (losses : List Loss) → MayLoseAll state losses → (server : ℕ)
    → generation_at state.generations server ≤ generation_at (after_losses state losses).generations server
never_fall state [] may server = omega arith
never_fall state (l ∷ ls) may server =
    let first : generation_at state.generations server ≤ generation_at (after_loss state l.server l.generation).generations server =
    rises state.generations (l.server - 1) (server - 1) l.generation may.0.newer in
    let later : generation_at (after_loss state l.server l.generation).generations server ≤ generation_at
    (after_losses (after_loss state l.server l.generation) ls).generations server = never_fall (after_loss state l.server l.generation) ls may.1 server in
    omega arith
