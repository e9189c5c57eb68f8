-- Any list of losses, one after the other.
use Rattle.std.specs.Prelude.{◌≡◌, ℕ, ◌+◌, ◌<◌, ◌≤◌, IsTrue, List, [], ◌∷◌, length, filter}
use Rattle.xfs_base.specs.Limits.{u32_end}
use Rattle.group_map.specs.declared.group.Group.{Group}
use Rattle.group_map.specs.GroupMapState.{GroupMapState}
use Rattle.group_map.specs.Groups.{generation_at, is_hit, after_loss}
use Rattle.group_map.specs.WellFormed.{IsServer}

-- a server that lost what it kept, and its generation from then on
pub record Loss : Type 0 where
  pub server : ℕ
  pub generation : ℕ

-- what a loss must meet: the server exists, its generation rises, and there is room for the new ids
pub record MayLose (state : GroupMapState) (loss : Loss) : Type 0 where
  pub exists : IsServer state.servers loss.server
  pub newer : generation_at state.generations loss.server < loss.generation
  pub room : length state.groups + length (filter (is_hit loss.server) state.groups) ≤ u32_end

abbrev pub after_losses : GroupMapState → List Loss → GroupMapState
after_losses state [] = state
after_losses state (l ∷ ls) = after_losses (after_loss state l.server l.generation) ls

-- each loss meets that where it comes
abbrev pub MayLoseAll : GroupMapState → List Loss → Type 0
MayLoseAll state [] = Unit {0}
MayLoseAll state (l ∷ ls) = MayLose state l × MayLoseAll (after_loss state l.server l.generation) ls

-- the second is the first at a later time: the same but for `current`, and current only if the first is
pub record IsLater (old new : Group) : Type 0 where
  pub id : new.id ≡ old.id
  pub members : new.members ≡ old.members
  pub parity : new.parity ≡ old.parity
  pub obsolete_for_ever : IsTrue new.current → IsTrue old.current
