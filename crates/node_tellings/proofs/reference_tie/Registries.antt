-- Whatever happens to the registry, the parts of the checkpoints that it keeps, and of which it tells, it was told.
use Rattle.std.proofs.Common.{ℕ, zero, suc, List, [], ◌∷◌, subst}
use Rattle.std.specs.Prelude.{slice_set}
use Rattle.std.specs.List.{AllByRecursion}
use Rattle.node_base.specs.declared.effects.Effect.{Effect}
use Rattle.registry.specs.Board.{board_slots}
use Rattle.registry.specs.BoardState.{BoardState}
use Rattle.registry.specs.Checkpoints.{parts_at}
use Rattle.registry.specs.declared.checkpoint.Checkpoint.{Checkpoint}
use Rattle.registry_node.specs.declared.node.RegistryNode.{RegistryNode}
use Rattle.registry_node.specs.Events.{registry_start, registry_step, takes}
use Rattle.version_model.specs.declared.work.Work.{Work}
use Rattle.wire_msg.specs.declared.packet.Do.{Do}
use Rattle.xfs_base.specs.declared.node.NodeId.TheVariants.{Registry}
use Rattle.xfs_base.specs.declared.segment.SegRef.{SegRef}
use Rattle.xfs_base.specs.declared.setup.Setup.{Setup}
use Rattle.node_moves.proofs.Effects.{Says, packets_so}
use Rattle.node_moves.proofs.registry_moves.Keeping.{Keeps, event_keeps}
use Rattle.node_moves.specs.registry_moves.Moves.{Said}
use Rattle.node_moves.specs.registry_moves.Moves.Said.{TellsMaps, Welcomes}
use Rattle.node_tellings.specs.reference_tie.Managers.{RefersThen}
use Rattle.node_tellings.specs.reference_tie.Registries.{RegistryRefers}
use Rattle.node_tellings.specs.reference_tie.References.{BodyRefers, DoRefers, NewsRefer, PacketRefers, PartsRefer, References}

-- what holds of each slot's parts goes on to where one slot has another checkpoint
one_put : (P : List SegRef → Type 0) (kept_ : List Checkpoint) (slot : ℕ) (new : Checkpoint) → P new.parts
    → ((k : ℕ) → P (parts_at kept_ k)) → (k : ℕ) → P (parts_at (slice_set kept_ slot new) k)
one_put P [] slot new here all k = all k
one_put P (c ∷ kept_) zero new here all zero = here
one_put P (c ∷ kept_) zero new here all (suc k) = all (suc k)
one_put P (c ∷ kept_) (suc slot) new here all zero = all zero
one_put P (c ∷ kept_) (suc slot) new here all (suc k) = one_put P kept_ slot new here (λ l. all (suc l)) k

module _ (refs : References) where
  abbrev BoardRefers : BoardState → Type 0
  BoardRefers s = (slot : ℕ) → PartsRefer refs (parts_at s.checkpoints slot)

  abbrev Tells : BoardState → Effect → Type 0
  Tells now e = Says (λ said. BodyRefers refs Registry said) e

  news_refer : (s : BoardState) → BoardRefers s → AllByRecursion (NewsRefer refs) (board_slots s)
  news_refer s h = (h 0, (h 1, (h 2, (h 3, (h 4, (h 5, (h 6, (h 7, tt))))))))

  tells_so : (node : RegistryNode) (what : Do) (now : BoardState) (e : Effect) → BoardRefers now → Said node what now e → Tells now e
  tells_so node what now e h (TellsMaps to) = news_refer now h
  tells_so node what now e h (Welcomes packet m came room fact) = news_refer now h
  tells_so node what now e h _ = tt

  keeps : (node : RegistryNode) (what : Do) → DoRefers refs what → Keeps node what BoardRefers Tells
  keeps node what told = record {
    restarts = λ packet m manager came from hears h. h;
    loses = λ packet m server came from hears h. h;
    moves = λ slot manager can h. h;
    checkpoints = λ packet m came kept h.
        one_put (PartsRefer refs) node.board.checkpoints m.slot (record { parts = m.parts; horizon = m.horizon })
        (subst (BodyRefers refs packet.from) came.says (subst (DoRefers refs) came.event told)) h;
    says = tells_so node what;
  }

  -- ---- the start

  -- no slot has a checkpoint
  first_registry : (setup : Setup) (works : List Work) → RegistryRefers refs (registry_start setup works)
  first_registry setup works zero = tt
  first_registry setup works (suc zero) = tt
  first_registry setup works (suc (suc zero)) = tt
  first_registry setup works (suc (suc (suc zero))) = tt
  first_registry setup works (suc (suc (suc (suc zero)))) = tt
  first_registry setup works (suc (suc (suc (suc (suc zero))))) = tt
  first_registry setup works (suc (suc (suc (suc (suc (suc zero)))))) = tt
  first_registry setup works (suc (suc (suc (suc (suc (suc (suc zero))))))) = tt
  first_registry setup works (suc (suc (suc (suc (suc (suc (suc (suc slot)))))))) = tt

-- ---- the laws

pub registry_starts : (r : References) (setup : Setup) (works : List Work) → RegistryRefers r (registry_start setup works)
registry_starts r setup works = first_registry r setup works

pub registry_keeps : (r : References) (node : RegistryNode) (what : Do) → RegistryRefers r node → DoRefers r what
    → RefersThen RegistryRefers r (registry_step node what)
registry_keeps r node what h told =
    let d = event_keeps node what (BoardRefers r) (Tells r) (keeps r node what told) h in
    record { node = d.state; packets = packets_so (λ said. BodyRefers r Registry said) (PacketRefers r) Registry (λ to said tells. tells) (takes node what).outs d.outs }
