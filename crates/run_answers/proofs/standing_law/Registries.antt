-- What an event of the registry answers it may answer: only the item that begins, by which a slot goes to a manager, with its next epoch.
use Rattle.std.proofs.Common.{◌≡◌, ℕ, List, [], ◌∷◌, Option, Some, None, refl, sym, ap, subst, ◌∙◌}
use Rattle.core_world.specs.declared.any_node.AnyNode.TheVariants as any
use Rattle.manager_map.specs.Slots.{manager_map_advance, entry_at}
use Rattle.node_base.specs.Beginning.{items_begin, next_item, work_at}
use Rattle.node_base.specs.declared.effects.Effect.TheVariants.{Answer as Answers}
use Rattle.node_base.specs.Room.{has_room}
use Rattle.registry.specs.Board.{Made, can_move, moved, reassign}
use Rattle.registry.specs.declared.output.Out.TheVariants.{Changed, Epoch}
use Rattle.registry_node.specs.declared.node.RegistryNode.{RegistryNode}
use Rattle.registry_node.specs.Events as events
use Rattle.registry_node.specs.Events.{Done, move_of, takes, tell_all}
use Rattle.serving_moves.proofs.item_moves.Registries.{all_told, registry_turned}
use Rattle.serving_moves.specs.item_moves.Moves.{IsNone}
use Rattle.serving_moves.specs.item_moves.Moves.Losses.{Silent}
use Rattle.version_model.specs.declared.answer.Answer.TheVariants as answer
use Rattle.version_model.specs.declared.work.Work.{Work}
use Rattle.version_model.specs.declared.work.Work.TheVariants as work
use Rattle.wire_msg.specs.declared.packet.Do.{Do}
use Rattle.wire_msg.specs.declared.packet.Do.TheVariants.{Begin, Deliver, Tick}
use Rattle.xfs_base.proofs.Alls.{all_append}
use Rattle.xfs_base.proofs.Booleans.{by_test}
use Rattle.xfs_base.specs.Steps.{still}
use Rattle.run_answers.proofs.once_law.Items.{begun_works}
use Rattle.run_answers.proofs.standing_law.Allowed.{May, serves_apart}
use Rattle.run_answers.proofs.standing_law.Meeting.{AllMeet, Meets, event_meets, plain_meets}
use Rattle.headline.specs.Items.{asked_at}
use Rattle.headline.specs.Standings.{MayAnswer}

module _ (works : List Work) (r : RegistryNode) where
  abbrev pub Fits : Done → Type 0
  Fits d = AllMeet (May works (any.Registry r) (any.Registry d.state)) d.outs

  module _ (number : ℕ) (next : next_item r.items ≡ Some number) where
    abbrev w : RegistryNode
    w = record r { items = items_begin r.items }

    -- the maps are told, and the slot's new epoch is the answer
    moved_so : (slot manager : ℕ) → asked_at works number ≡ Some (work.Move slot manager)
        → Fits (events.after_move w number (record { state = moved w.board slot manager; outs = Changed ∷ Epoch (entry_at (manager_map_advance w.board.entries slot manager) slot).epoch ∷ [] }))
    moved_so slot manager asked =
        let now : RegistryNode = record w { board = moved w.board slot manager } in
        let epoch : ℕ = (entry_at (manager_map_advance w.board.entries slot manager) slot).epoch in
        all_append (Meets (May works (any.Registry r) (any.Registry now))) (tell_all now) (Answers number (answer.Epoch epoch) ∷ [])
        (plain_meets (May works (any.Registry r) (any.Registry now)) Silent (tell_all now) (all_told now))
        (subst (λ wanted. MayAnswer (any.Registry r) (any.Registry now) number wanted (answer.Epoch epoch)) (sym asked) (next, (refl, refl)), tt)

    move_so : (slot manager : ℕ) → asked_at works number ≡ Some (work.Move slot manager) → Fits (events.on_move w number slot manager)
    unfolding events.on_move reassign
    move_so slot manager asked =
        by_test (λ (m : Made). Fits (events.after_move w number m)) (can_move w.board slot) _ (still w.board) (λ _. moved_so slot manager asked) (λ _. tt)

    wish_so : (wanted : Option Work) → asked_at works number ≡ wanted → Fits (events.on_item w number (move_of wanted))
    wish_so None asked = tt
    wish_so (Some (work.Move slot manager)) asked = move_so slot manager asked
    wish_so (Some _) asked = tt

  begin_so : r.items.works ≡ works → Fits (events.on_begin r)
  unfolding events.on_begin
  begin_so has = by (next_item r.items) refl
    where
      by : (item : Option ℕ) → next_item r.items ≡ item → Fits (events.at_item (record r { items = items_begin r.items }) item)
      by None fact = tt
      by (Some number) fact =
          wish_so number fact (work_at (items_begin r.items) number) (sym (ap (λ (ws : List Work). asked_at ws number) (begun_works r.items ∙ has)))

  -- where none begins nothing is answered
  quiet_so : (what : Do) → (what ≡ Begin → ⊥) → Fits (takes r what)
  quiet_so what none =
      (event_meets (May works (any.Registry r) (any.Registry (takes r what).state)) Silent IsNone (λ item. Unit {0}) (λ item a so this. absurd so)
      (λ item name this. serves_apart (any.Registry r) refl) _ r.items what (takes r what).state.items (takes r what).outs none (λ item waits. tt)
      (registry_turned r what).event).meets

  pub registry_fits : (what : Do) → r.items.works ≡ works → Fits (takes r what)
  registry_fits Begin has = by_test Fits (has_room r.board.version) (events.on_begin r) (still r) (λ _. begin_so has) (λ _. tt)
  registry_fits (Deliver packet) has = quiet_so (Deliver packet) (λ e. cc)
  registry_fits Tick has = quiet_so Tick (λ e. cc)
