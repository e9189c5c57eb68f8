-- Each input leaves the state as it is, or gives it the next version.
use Rattle.std.proofs.Common.{◌≡◌, ℕ, ◌+◌, cond, List, [], ◌∷◌, inl, inr, refl, arith}
use Rattle.std.specs.Prelude.{Contains, ◌↔◌, ◌==◌, nat_lt}
use Rattle.xfs_base.specs.declared.node.NodeId.TheVariants.{Client, Manager, Server, Cleaner, Registry}
use Rattle.xfs_base.specs.declared.segment.SegRef.{SegRef}
use Rattle.xfs_base.proofs.Booleans.{by_test}
use Rattle.xfs_base.proofs.Members.{contains_nothing, contains_first, contains_cases}
use Rattle.xfs_base.specs.Limits.{u32_end}
use Rattle.manager_map.specs.Slots.{manager_map_advance, entry_at}
use Rattle.registry.specs.declared.input.In.{In}
use Rattle.registry.specs.declared.input.In.TheVariants.{Hello, Reassign, Done}
use Rattle.registry.specs.declared.output.Out.{Out}
use Rattle.registry.specs.declared.output.Out.TheVariants.{Changed, Epoch, Kept}
use Rattle.registry.specs.BoardState.{BoardState}
use Rattle.registry.specs.Board.{Made, transition, hears_manager, manager_restarted, manager_hello, hears_server, server_lost, server_hello, can_move, moved, reassign, is_kept, checkpointed, keep, done}
use Rattle.registry.specs.Slots.{entry_of}
use Rattle.registry.specs.Laws.{StaysOrRises, IsNotCheckpoint}

module _ (s : BoardState) where
  -- the state stays or its version rises, and in the second case all are told unless it is a checkpoint
  record Rises (made : Made) (told : Type 0) : Type 0 where
    one : StaysOrRises s made.state
    only : Contains made.outs Changed ↔ ((made.state.version ≡ s.version + 1) × told)

  nobody : (told : Type 0) → Rises (record { state = s; outs = [] }) told
  nobody told = record { one = inl refl; only = (λ h. absurd (contains_nothing Changed h), λ h. absurd (no_rise h.0)) }
    where
      no_rise : s.version ≡ s.version + 1 → ⊥
      no_rise e = absurd (omega arith)

  -- an answer to a checkpoint tells nobody
  answered : (t : BoardState) (epoch : ℕ) → StaysOrRises s t → Rises (record { state = t; outs = Kept epoch ∷ [] }) ⊥
  answered t epoch one = record { one = one; only = (λ h. absurd (not_told h), λ h. absurd h.1) }
    where
      not_told : Contains (Kept epoch ∷ []) Changed → ⊥
      not_told h = elim (contains_cases (Kept epoch) Changed [] h) [ inl e ↦ absurd cc | inr k ↦ contains_nothing Changed k ]

  all_told : (t : BoardState) (outs : List Out) → t.version ≡ s.version + 1 → Rises (record { state = t; outs = Changed ∷ outs }) (Unit {0})
  all_told t outs rises = record { one = inr rises; only = (λ _. (rises, tt), λ _. contains_first Changed outs) }

  rises-manager : (manager inc : ℕ) → Rises (manager_hello s manager inc) (Unit {0})
  unfolding manager_hello
  rises-manager manager inc =
      by_test (λ made. Rises made (Unit {0})) (hears_manager s manager inc) (record { state = manager_restarted s manager inc; outs = Changed ∷ [] })
      (record { state = s; outs = [] }) (λ _. all_told (manager_restarted s manager inc) [] refl) (λ _. nobody (Unit {0}))

  rises-server : (server generation : ℕ) → Rises (server_hello s server generation) (Unit {0})
  unfolding server_hello
  rises-server server generation =
      by_test (λ made. Rises made (Unit {0})) (hears_server s server generation) (record { state = server_lost s server generation; outs = Changed ∷ [] })
      (record { state = s; outs = [] }) (λ _. all_told (server_lost s server generation) [] refl) (λ _. nobody (Unit {0}))

  rises-reassign : (slot manager : ℕ) → Rises (reassign s slot manager) (Unit {0})
  unfolding reassign
  rises-reassign slot manager =
      let answer : List Out = Epoch (entry_at (manager_map_advance s.entries slot manager) slot).epoch ∷ [] in
      by_test (λ made. Rises made (Unit {0})) (can_move s slot) (record { state = moved s slot manager; outs = Changed ∷ answer })
      (record { state = s; outs = [] }) (λ _. all_told (moved s slot manager) answer refl) (λ _. nobody (Unit {0}))

  rises-keep : (slot epoch : ℕ) (parts : List SegRef) (horizon : List ℕ) → Rises (keep s slot epoch parts horizon) ⊥
  unfolding keep
  rises-keep slot epoch parts horizon =
      by_test (λ made. Rises made ⊥) (s.version == u32_end) (record { state = s; outs = [] })
      (record { state = checkpointed s slot parts horizon; outs = Kept epoch ∷ [] }) (λ _. nobody ⊥)
      (λ _. answered (checkpointed s slot parts horizon) epoch (inr refl))

  rises-done : (slot epoch : ℕ) (parts : List SegRef) (horizon : List ℕ) → Rises (done s slot epoch parts horizon) ⊥
  unfolding done
  rises-done slot epoch parts horizon =
      let other : Made = record { state = s; outs = Kept (entry_of s.entries slot).epoch ∷ [] } in
      by_test (λ made. Rises made ⊥) (nat_lt 7 slot) (record { state = s; outs = [] })
      (cond (is_kept s slot epoch horizon) (keep s slot epoch parts horizon) other) (λ _. nobody ⊥)
      (λ _. by_test (λ made. Rises made ⊥) (is_kept s slot epoch horizon) (keep s slot epoch parts horizon) other
      (λ _. rises-keep slot epoch parts horizon) (λ _. answered s (entry_of s.entries slot).epoch (inl refl)))

  rises : (input : In) → Rises (transition s input) (IsNotCheckpoint input)
  rises (Hello (Client n) inc) = nobody (Unit {0})
  rises (Hello (Manager n) inc) = rises-manager n inc
  rises (Hello (Server n) inc) = rises-server n inc
  rises (Hello Cleaner inc) = nobody (Unit {0})
  rises (Hello Registry inc) = nobody (Unit {0})
  rises (Reassign slot manager) = rises-reassign slot manager
  rises (Done slot epoch parts horizon) = rises-done slot epoch parts horizon

  pub stays_or_rises : (input : In) → StaysOrRises s (transition s input).state
  stays_or_rises input = (rises input).one

  pub told_where_it_rises : (input : In)
      → Contains (transition s input).outs Changed ↔ (((transition s input).state.version ≡ s.version + 1) × IsNotCheckpoint input)
  told_where_it_rises input = (rises input).only
