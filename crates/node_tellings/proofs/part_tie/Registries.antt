-- Whatever happens to the registry, what it names of checkpoints is known, and so is what it sends.
use Rattle.std.proofs.Common.{ℕ, zero, suc, List, [], ◌∷◌, slice_get, subst}
use Rattle.std.specs.Prelude.{map}
use Rattle.std.specs.List.{AllByRecursion}
use Rattle.node_base.specs.declared.effects.Effect.{Effect}
use Rattle.registry.specs.Board.{slot_news}
use Rattle.registry.specs.BoardState.{BoardState}
use Rattle.registry.specs.Checkpoints.{parts_in}
use Rattle.registry.specs.declared.checkpoint.Checkpoint.{Checkpoint}
use Rattle.registry.specs.Slots.{all_slots}
use Rattle.registry_node.specs.declared.node.RegistryNode.{RegistryNode}
use Rattle.registry_node.specs.Events.{registry_start, registry_step, takes}
use Rattle.version_model.specs.declared.work.Work.{Work}
use Rattle.wire_msg.specs.declared.packet.Do.{Do}
use Rattle.xfs_base.specs.declared.node.NodeId.TheVariants.{Registry}
use Rattle.xfs_base.specs.declared.segment.SegRef.{SegRef}
use Rattle.xfs_base.specs.declared.setup.Setup.{Setup}
use Rattle.xfs_base.proofs.Alls.{all_put, all_weaker}
use Rattle.node_moves.proofs.registry_moves.Keeping.{Keeps, event_keeps}
use Rattle.node_moves.specs.registry_moves.Moves.{Said}
use Rattle.node_moves.specs.registry_moves.Moves.Said.{TellsMaps, Welcomes}
use Rattle.node_tellings.specs.part_tie.Names.{AllKnown, BodyNames, DoNames, Known, NamesKnown, NewsNames, named_by}
use Rattle.node_tellings.specs.part_tie.RegistryNames.{BoardNames, CheckpointNames, RegistryNames, RegistryNamesKnown, RegistryNamesRise, RegistryStartsNaming}
use Rattle.node_tellings.proofs.part_tie.Saying.{Says, packets_name}

module _ (known : Known) where
  got_parts : (xs : List Checkpoint) (place : ℕ) → AllByRecursion (CheckpointNames known) xs → AllKnown known (parts_in (slice_get xs place))
  got_parts [] place all = tt
  got_parts (x ∷ xs) zero all = all.0
  got_parts (x ∷ xs) (suc place) all = got_parts xs place all.1

  news_name : (s : BoardState) (slots : List ℕ) → BoardNames known s → AllByRecursion (NewsNames known) (map (slot_news s) slots)
  news_name s [] h = tt
  news_name s (slot ∷ slots) h = (got_parts s.checkpoints slot h, news_name s slots h)

  says_so : (node : RegistryNode) (what : Do) (now : BoardState) (e : Effect) → BoardNames known now → Said node what now e → Says known e
  says_so node what now e h (TellsMaps to) = news_name now all_slots h
  says_so node what now e h (Welcomes packet m came room fact) = news_name now all_slots h
  says_so node what now e h _ = tt

  keeps : (node : RegistryNode) (what : Do) → DoNames known what → Keeps node what (BoardNames known) (λ now e. Says known e)
  keeps node what new = record {
    restarts = λ packet m manager came from hears h. h;
    loses = λ packet m server came from hears h. h;
    moves = λ slot manager can h. h;
    checkpoints = λ packet m came kept h.
        all_put (CheckpointNames known) node.board.checkpoints m.slot (record { parts = m.parts; horizon = m.horizon })
        (subst (BodyNames known) came.says (subst (DoNames known) came.event new)) h;
    says = says_so node what;
  }

-- ---- the laws

-- of any segments that are known
pub first_names : (known : Known) (setup : Setup) (works : List Work) → RegistryNames known (registry_start setup works)
first_names known setup works = (tt, (tt, (tt, (tt, (tt, (tt, (tt, (tt, tt))))))))

pub any_registry_names : (known : Known) (node : RegistryNode) (what : Do) → RegistryNames known node → DoNames known what
    → NamesKnown (RegistryNames known) known (registry_step node what)
any_registry_names known node what h fact =
    let d = event_keeps node what (BoardNames known) (λ now e. Says known e) (keeps known node what fact) h in
    record { node = d.state; packets = packets_name known Registry (takes node what).outs d.outs }

pub any_names_rise : (known later : Known) (node : RegistryNode) → ((ref : SegRef) → known ref → later ref) → RegistryNames known node
    → RegistryNames later node
any_names_rise known later node more h =
    all_weaker (CheckpointNames known) (CheckpointNames later) (λ c all. all_weaker known later more c.parts all) node.board.checkpoints h

-- so it is of those of a list
pub registry_starts : RegistryStartsNaming
registry_starts refs setup works = first_names (named_by refs) setup works

pub registry_names : RegistryNamesKnown
registry_names refs node what h fact = any_registry_names (named_by refs) node what h fact

pub registry_names_rise : RegistryNamesRise
registry_names_rise refs later node more h = any_names_rise (named_by refs) (named_by later) node more h
