use Rattle.std.proofs.Common.{refl}
use Rattle.fragment_store.proofs.Histories.{marks_stay, held_until_deleted, deleted_stay_away, nothing_marked}
use Rattle.fragment_store.specs.Calls.{on_lose}
use Rattle.fragment_store.specs.ShelfState.{new_shelf}
use Rattle.fragment_store.proofs.laws.kept_until_deleted.Goals as goal

pub returns-clause-held : goal.returns-clause-held
returns-clause-held c = held_until_deleted

pub returns-clause-marked : goal.returns-clause-marked
returns-clause-marked c = marks_stay

pub returns-clause-away : goal.returns-clause-away
returns-clause-away c = deleted_stay_away

pub returns-clause-away_at_first : goal.returns-clause-away_at_first
returns-clause-away_at_first c = nothing_marked new_shelf refl

pub returns-clause-away_after_a_loss : goal.returns-clause-away_after_a_loss
returns-clause-away_after_a_loss c = λ s. nothing_marked (on_lose s) refl
