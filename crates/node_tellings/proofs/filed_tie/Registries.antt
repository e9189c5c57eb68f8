-- Whatever happens to the registry, the checkpoints that it keeps, and what it sends of them, keep to the bounds.
use Rattle.std.proofs.Common.{◌≡◌, ◌≢◌, ℕ, zero, suc, ◌==◌, ◌<◌, Bool, true, false, List, [], ◌∷◌, replicate, refl, sym, subst, arith}
use Rattle.std.specs.Prelude.{slice_set, nat_lt}
use Rattle.std.specs.List.{AllByRecursion}
use Rattle.std.proofs.lemmas.Bool.{eqb-true}
use Rattle.std.proofs.lemmas.Bool.Decides.{nat_tests}
use Rattle.node_base.specs.declared.effects.Effect.{Effect}
use Rattle.registry.specs.Board.{manager_restarted, moved, is_kept, checkpointed, board_slots}
use Rattle.registry.specs.BoardState.{BoardState}
use Rattle.registry.specs.Checkpoints.{covers_kept, horizon_at}
use Rattle.registry.specs.declared.checkpoint.Checkpoint.{Checkpoint}
use Rattle.registry.specs.Slots.{entry_of}
use Rattle.registry_node.specs.declared.node.RegistryNode.{RegistryNode}
use Rattle.registry_node.specs.Events.{registry_start, takes}
use Rattle.version_model.specs.declared.work.Work.{Work}
use Rattle.wire_msg.specs.declared.packet.Do.{Do}
use Rattle.wire_msg.specs.declared.registry.CkptDone.{CkptDone}
use Rattle.xfs_base.proofs.Booleans.{and_first}
use Rattle.xfs_base.specs.declared.node.NodeId.TheVariants.{Registry}
use Rattle.xfs_base.specs.declared.setup.Setup.{Setup}
use Rattle.xfs_base.proofs.Alls.{all_weaker}
use Rattle.xfs_base.proofs.Leaving.{Leaves}
use Rattle.node_moves.proofs.registry_moves.Keeping.{Keeps, event_keeps}
use Rattle.node_moves.specs.registry_moves.Moves.{Said}
use Rattle.node_moves.specs.registry_moves.Moves.Said.{TellsMaps, Welcomes}
use Rattle.node_tellings.specs.filed_tie.Bounds.{Bounds, RegistryBounded, NewEpochsBounded, NewsBounded, BodyBounded, DoBounded}
use Rattle.node_tellings.proofs.filed_tie.Bounding.{EffectBounded}

-- what holds of each slot's horizon goes on to where one slot has another checkpoint
one_put : (P : ℕ → List ℕ → Type 0) (kept_ : List Checkpoint) (slot : ℕ) (new : Checkpoint) → P slot new.horizon
    → ((k : ℕ) → P k (horizon_at kept_ k)) → (k : ℕ) → P k (horizon_at (slice_set kept_ slot new) k)
one_put P [] slot new here all k = all k
one_put P (c ∷ kept_) zero new here all zero = here
one_put P (c ∷ kept_) zero new here all (suc k) = all (suc k)
one_put P (c ∷ kept_) (suc slot) new here all zero = all zero
one_put P (c ∷ kept_) (suc slot) new here all (suc k) = one_put (λ l h. P (suc l) h) kept_ slot new here (λ l. all (suc l)) k

module _ (b : Bounds) where
  abbrev BoardBounded : BoardState → Type 0
  BoardBounded s = (slot : ℕ) → slot < 8 → b.horizon slot (entry_of s.entries slot).epoch (horizon_at s.checkpoints slot)

  -- where a slot gets another epoch
  abbrev New : BoardState → BoardState → Type 0
  New s t =
      (slot : ℕ) → slot < 8 → (entry_of t.entries slot).epoch ≢ (entry_of s.entries slot).epoch
      → b.horizon slot (entry_of t.entries slot).epoch (horizon_at s.checkpoints slot)

  -- ---- what is kept

  module _ (s : BoardState) (h : BoardBounded s) where
    -- each slot keeps its epoch, or gets another
    by_epochs : (t : BoardState) → t.checkpoints ≡ s.checkpoints → New s t → BoardBounded t
    by_epochs t same new slot within =
        subst (λ (cs : List Checkpoint). b.horizon slot (entry_of t.entries slot).epoch (horizon_at cs slot)) (sym same)
        (at ((entry_of t.entries slot).epoch == (entry_of s.entries slot).epoch) refl)
      where
        apart : ((entry_of t.entries slot).epoch == (entry_of s.entries slot).epoch) ≡ false → (entry_of t.entries slot).epoch ≢ (entry_of s.entries slot).epoch
        apart fact = grind (arith, nat_tests)

        at : (e : Bool) → ((entry_of t.entries slot).epoch == (entry_of s.entries slot).epoch) ≡ e
            → b.horizon slot (entry_of t.entries slot).epoch (horizon_at s.checkpoints slot)
        at true fact =
            subst (λ epoch. b.horizon slot epoch (horizon_at s.checkpoints slot))
            (sym (eqb-true (entry_of t.entries slot).epoch (entry_of s.entries slot).epoch fact))
            (h slot within)
        at false fact = new slot within (apart fact)

    -- a checkpoint that is told is of the epoch that is kept, or it isn't kept
    kept_so : (m : CkptDone) → is_kept s m.slot m.epoch m.horizon ≡ true → b.horizon m.slot m.epoch m.horizon
        → BoardBounded (checkpointed s m.slot m.parts m.horizon)
    kept_so m fact told =
        one_put (λ k x. k < 8 → b.horizon k (entry_of s.entries k).epoch x) s.checkpoints m.slot (record { parts = m.parts; horizon = m.horizon })
        (λ within. subst (λ e. b.horizon m.slot e m.horizon) (sym present) told) h
      where
        present : (entry_of s.entries m.slot).epoch ≡ m.epoch
        present =
            eqb-true (entry_of s.entries m.slot).epoch m.epoch
            (and_first ((entry_of s.entries m.slot).epoch == m.epoch) (covers_kept s.checkpoints m.slot m.horizon) fact)

  -- ---- what is sent

  below : (slot : ℕ) → nat_lt slot 8 ≡ true → slot < 8
  below slot fact = grind (arith, nat_tests)

  news_bounded : (s : BoardState) → BoardBounded s → AllByRecursion (NewsBounded b) (board_slots s)
  news_bounded s h =
      let at = λ (slot : ℕ) (fact : nat_lt slot 8 ≡ true). h slot (below slot fact) in
      (at 0 refl, (at 1 refl, (at 2 refl, (at 3 refl, (at 4 refl, (at 5 refl, (at 6 refl, (at 7 refl, tt))))))))

  -- ---- all events, where a slot that gets another epoch is owed its horizon

  abbrev Kept : RegistryNode → BoardState → Type 0
  Kept node now = New node.board now → BoardBounded now

  abbrev Tells : RegistryNode → BoardState → Effect → Type 0
  Tells node now e = New node.board now → EffectBounded b Registry e

  tells_so : (node : RegistryNode) (what : Do) (now : BoardState) (e : Effect) → Kept node now → Said node what now e → Tells node now e
  tells_so node what now e so (TellsMaps to) new = news_bounded now (so new)
  tells_so node what now e so (Welcomes packet m came room fact) new = news_bounded now (so new)
  tells_so node what now e so _ new = tt

  keeps : (node : RegistryNode) (what : Do) → RegistryBounded b node → DoBounded b what → Keeps node what (Kept node) (Tells node)
  keeps node what h told = record {
    restarts = λ packet m manager came from hears so. by_epochs node.board h (manager_restarted node.board manager m.inc) refl;
    loses = λ packet m server came from hears so new. h;
    moves = λ slot manager can so. by_epochs node.board h (moved node.board slot manager) refl;
    checkpoints = λ packet m came kept so new.
        kept_so node.board h m kept (subst (BodyBounded b packet.from) came.says (subst (DoBounded b) came.event told));
    says = tells_so node what;
  }

  pub registry_goes : (node : RegistryNode) (what : Do) → RegistryBounded b node → DoBounded b what → NewEpochsBounded b node (takes node what).state
      → Leaves (RegistryBounded b) (EffectBounded b Registry) (takes node what)
  registry_goes node what h told new =
      let now : BoardState = (takes node what).state.board in
      let d = event_keeps node what (Kept node) (Tells node) (keeps node what h told) (λ none. h) in
      record {
        state = d.state new;
        outs = all_weaker (Tells node now) (EffectBounded b Registry) (λ e so. so new) (takes node what).outs d.outs;
      }

  -- ---- the start

  -- each slot has epoch 1, and no checkpoint covers anything
  pub first_registry : (setup : Setup) (works : List Work) → ((slot : ℕ) → b.horizon slot 1 (replicate 9 1)) → RegistryBounded b (registry_start setup works)
  first_registry setup works none zero within = none 0
  first_registry setup works none (suc zero) within = none 1
  first_registry setup works none (suc (suc zero)) within = none 2
  first_registry setup works none (suc (suc (suc zero))) within = none 3
  first_registry setup works none (suc (suc (suc (suc zero)))) within = none 4
  first_registry setup works none (suc (suc (suc (suc (suc zero))))) within = none 5
  first_registry setup works none (suc (suc (suc (suc (suc (suc zero)))))) within = none 6
  first_registry setup works none (suc (suc (suc (suc (suc (suc (suc zero))))))) within = none 7
  first_registry setup works none (suc (suc (suc (suc (suc (suc (suc (suc slot)))))))) within = absurd (omega arith)
