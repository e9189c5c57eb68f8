-- Once an opening has picked where the log goes on, the horizon of the pick stays, until the owner restarts.
use Rattle.std.proofs.Common.{◌≡◌, suc, ◌≤◌, ◌<◌, ◌⊎◌, refl, ◌∙◌, inl, inr, arith}
use Rattle.log_protocol.specs.Phase
use Rattle.log_protocol.specs.State.{State}
use Rattle.log_protocol.specs.Step.{Steps}
use Rattle.log_protocol.specs.Step.Steps.{Done, More}
use Rattle.log_law.proofs.OwnerSteps.{Turn, turn_of}
use Rattle.log_law.proofs.OwnerSteps.Turn.{Rests, Falls, Boots, Picks, Writes}

-- the owner has not restarted since
pub record Picked (w v : State) : Type 0 where
  pub low : v.pick_low ≡ w.pick_low
  pub phase : (Phase.reading ≤ v.phase) ⊎ (v.phase ≡ Phase.down)
  pub boot : w.incarnation ≤ v.incarnation

abbrev pub Since : State → State → Type 0
Since w v = Picked w v ⊎ (w.incarnation < v.incarnation)

carry : (w v u : State) → u.pick_low ≡ v.pick_low → u.phase ≡ v.phase → u.incarnation ≡ v.incarnation → Since w v → Since w u
carry w v u low phase boot (inl p) = inl (record { low = low ∙ p.low; phase = by p.phase; boot = (let a = p.boot in let b = boot in omega arith) })
  where
    by : (Phase.reading ≤ v.phase) ⊎ (v.phase ≡ Phase.down) → (Phase.reading ≤ u.phase) ⊎ (u.phase ≡ Phase.down)
    by (inl a) = inl (let b = phase in omega arith)
    by (inr a) = inr (phase ∙ a)
carry w v u low phase boot (inr less) = inr (let b = boot in omega arith)

-- with a later phase
forth : (w v u : State) → u.pick_low ≡ v.pick_low → (Phase.reading ≤ u.phase) ⊎ (u.phase ≡ Phase.down) → u.incarnation ≡ v.incarnation → Since w v → Since w u
forth w v u low phase boot (inl p) = inl (record { low = low ∙ p.low; phase = phase; boot = (let a = p.boot in let b = boot in omega arith) })
forth w v u low phase boot (inr less) = inr (let b = boot in omega arith)

-- none is picked
never : (w v u : State) → v.phase ≡ Phase.gathering → u.incarnation ≡ v.incarnation → Since w v → Since w u
never w v u one boot (inl p) = absurd (by p.phase)
  where
    by : (Phase.reading ≤ v.phase) ⊎ (v.phase ≡ Phase.down) → ⊥
    by (inl a) = omega arith
    by (inr a) = omega arith
never w v u one boot (inr less) = inr (let b = boot in omega arith)

-- the owner restarts
again : (w v u : State) → u.incarnation ≡ suc v.incarnation → Since w v → Since w u
again w v u boot (inl p) = inr (let a = p.boot in let b = boot in omega arith)
again w v u boot (inr less) = inr (let b = boot in omega arith)

turn_since : (w v u : State) → Turn v u → Since w v → Since w u
turn_since w v u (Rests phase boot low span) s = carry w v u low phase boot s
turn_since w v u (Falls down boot low) s = forth w v u low (inr down) boot s
turn_since w v u (Boots boot) s = again w v u boot s
turn_since w v u (Picks one boot span) s = never w v u one boot s
turn_since w v u (Writes late boot low) s = forth w v u low (inl (omega arith)) boot s

since : (w v : State) → Phase.reading ≤ w.phase → Steps w v → Since w v
since w v some Done = inl (record { low = refl; phase = inl some; boot = omega arith })
since w v some (More {v = u} run step) = turn_since w u v (turn_of u v step) (since w u some run)

-- in one boot the horizon of the pick stays
pub pick_stays : (w v : State) → Phase.reading ≤ w.phase → Steps w v → v.incarnation ≡ w.incarnation → v.pick_low ≡ w.pick_low
pick_stays w v some run same = by (since w v some run)
  where
    by : Since w v → v.pick_low ≡ w.pick_low
    by (inl p) = p.low
    by (inr less) = absurd (let b = same in omega arith)
