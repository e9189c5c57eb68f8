-- While an opening goes on in its boot and hasn't begun to write, the span stays as it was: only an opening segment that is written begins one.
use Rattle.std.proofs.Common.{◌≡◌, suc, ◌≤◌, ◌<◌, ◌⊎◌, refl, ◌∙◌, inl, inr, arith}
use Rattle.log_protocol.specs.Phase
use Rattle.log_protocol.specs.State.{State}
use Rattle.log_protocol.specs.Step.{Steps}
use Rattle.log_protocol.specs.Step.Steps.{Done, More}
use Rattle.log_law.proofs.OwnerSteps.{Turn, turn_of}
use Rattle.log_law.proofs.OwnerSteps.Turn.{Rests, Falls, Boots, Picks, Writes}

-- nothing was written since
record Stays (w v : State) : Type 0 where
  span : v.spanning ≡ w.spanning
  boot : w.incarnation ≤ v.incarnation

-- the owner has fallen, or it writes or serves, or another boot has begun
record Leaves (w v : State) : Type 0 where
  past : (v.phase ≡ Phase.down) ⊎ ((Phase.writing ≤ v.phase) ⊎ (w.incarnation < v.incarnation))
  boot : w.incarnation ≤ v.incarnation

abbrev Since : State → State → Type 0
Since w v = Stays w v ⊎ Leaves w v

began : (w v : State) → Since w v → w.incarnation ≤ v.incarnation
began w v (inl s) = s.boot
began w v (inr l) = l.boot

carry : (w v u : State) → u.spanning ≡ v.spanning → u.phase ≡ v.phase → u.incarnation ≡ v.incarnation → Since w v → Since w u
carry w v u span phase boot (inl s) = inl (record { span = span ∙ s.span; boot = (let a = s.boot in let b = boot in omega arith) })
carry w v u span phase boot (inr l) = inr (record { past = by l.past; boot = (let a = l.boot in let b = boot in omega arith) })
  where
    by : (v.phase ≡ Phase.down) ⊎ ((Phase.writing ≤ v.phase) ⊎ (w.incarnation < v.incarnation)) → (u.phase ≡ Phase.down) ⊎ ((Phase.writing ≤ u.phase) ⊎ (w.incarnation < u.incarnation))
    by (inl none) = inl (phase ∙ none)
    by (inr (inl late)) = inr (inl (let p = phase in omega arith))
    by (inr (inr less)) = inr (inr (let b = boot in omega arith))

-- it falls, writes or serves
leaves : (w v u : State) → (u.phase ≡ Phase.down) ⊎ (Phase.writing ≤ u.phase) → u.incarnation ≡ v.incarnation → Since w v → Since w u
leaves w v u past boot s = inr (record { past = by past; boot = (let a = began w v s in let b = boot in omega arith) })
  where
    by : (u.phase ≡ Phase.down) ⊎ (Phase.writing ≤ u.phase) → (u.phase ≡ Phase.down) ⊎ ((Phase.writing ≤ u.phase) ⊎ (w.incarnation < u.incarnation))
    by (inl none) = inl none
    by (inr late) = inr (inl late)

-- it picks
picks : (w v u : State) → v.phase ≡ Phase.gathering → u.spanning ≡ v.spanning → u.incarnation ≡ v.incarnation → Since w v → Since w u
picks w v u one span boot (inl s) = inl (record { span = span ∙ s.span; boot = (let a = s.boot in let b = boot in omega arith) })
picks w v u one span boot (inr l) = inr (record { past = by l.past; boot = (let a = l.boot in let b = boot in omega arith) })
  where
    by : (v.phase ≡ Phase.down) ⊎ ((Phase.writing ≤ v.phase) ⊎ (w.incarnation < v.incarnation)) → (u.phase ≡ Phase.down) ⊎ ((Phase.writing ≤ u.phase) ⊎ (w.incarnation < u.incarnation))
    by (inl none) = absurd (let p = one in omega arith)
    by (inr (inl late)) = absurd (let p = one in omega arith)
    by (inr (inr less)) = inr (inr (let b = boot in omega arith))

-- it restarts
again : (w v u : State) → u.incarnation ≡ suc v.incarnation → Since w v → Since w u
again w v u boot s = let a = began w v s in inr (record { past = inr (inr (let b = boot in omega arith)); boot = (let b = boot in omega arith) })

turn_since : (w v u : State) → Turn v u → Since w v → Since w u
turn_since w v u (Rests phase boot low span) s = carry w v u span phase boot s
turn_since w v u (Falls down boot low) s = leaves w v u (inl down) boot s
turn_since w v u (Boots boot) s = again w v u boot s
turn_since w v u (Picks one boot span) s = picks w v u one span boot s
turn_since w v u (Writes late boot low) s = leaves w v u (inr late) boot s

since : (w v : State) → Steps w v → Since w v
since w v Done = inl (record { span = refl; boot = omega arith })
since w v (More {v = u} run step) = turn_since w u v (turn_of u v step) (since w u run)

pub unwritten : (w v : State) → Steps w v → v.incarnation ≡ w.incarnation → Phase.down < v.phase → v.phase < Phase.writing → v.spanning ≡ w.spanning
unwritten w v run same some few = by (since w v run)
  where
    none : (v.phase ≡ Phase.down) ⊎ ((Phase.writing ≤ v.phase) ⊎ (w.incarnation < v.incarnation)) → ⊥
    none (inl down) = (let a = some in omega arith)
    none (inr (inl late)) = (let a = few in omega arith)
    none (inr (inr less)) = (let a = same in omega arith)

    by : Since w v → v.spanning ≡ w.spanning
    by (inl s) = s.span
    by (inr l) = absurd (none l.past)
