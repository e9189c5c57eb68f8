-- How one event of the small world is followed: it is seen after it, by steps of which it is known what they leave alone.
use Rattle.log_law.proofs.Steady.{Steady}
use Rattle.log_law.specs.Restarts.{is_serving, is_writing}
use Rattle.std.proofs.Common.{◌≡◌, ℕ, ◌⊎◌, false}
use Rattle.log_protocol.specs.State.{State}
use Rattle.log_protocol.specs.Step.{Steps}
use Rattle.log_tie.specs.Setting.{Setting}
use Rattle.log_law.specs.Net.{Net}
use Rattle.log_law.proofs.Views.{View}

-- Others stepped: the owner is as it was, and each server is of the generation that it had, or has lost all.
pub record Aside (n o : Net) (w u : State) : Type 0 where
  pub owner : o.owner ≡ n.owner
  pub servers : (v : ℕ) → (u.generation v ≡ w.generation v) ⊎ (((x : ℕ) → u.holds v x ≡ 0) × (u.dropped ≡ w.dropped))

-- The owner stepped: the servers are as they were.
pub record Alone (w u : State) : Type 0 where
  pub generation : u.generation ≡ w.generation
  pub holds : u.holds ≡ w.holds
  pub dropped : u.dropped ≡ w.dropped

pub record Next (g : Setting) (n : Net) (h : View g n) (o : Net) : Type 0 where
  pub view : View g o
  pub steps : Steps h.w view.w
  pub by : Aside n o h.w view.w ⊎ Alone h.w view.w
  -- an opening segment that is written begins a span, and one that serves ends it: nothing else does
  pub spans : is_writing o.owner ≡ false → is_serving o.owner ≡ false → view.w.spanning ≡ h.w.spanning
  -- where the owner doesn't serve, the last boot that served stays so
  pub steady : is_serving o.owner ≡ false → Steady h.w view.w
