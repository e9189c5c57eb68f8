-- What managers, servers and the registry cut they cut as they fall.
use Rattle.std.proofs.Common.{◌≡◌, ℕ, List, [], ◌∷◌, ◌++◌, Option, Some, None, inl, refl, sym, ap, subst, ◌∙◌}
use Rattle.manager_node.specs.declared.manager.Manager.{Manager}
use Rattle.manager_node.specs.Events as manager
use Rattle.manager_node.specs.Phases.{lasting_of}
use Rattle.node_base.specs.Beginning.{answers_unanswered, items_begin, items_wait}
use Rattle.node_base.specs.declared.effects.Effect.{Effect}
use Rattle.node_base.specs.declared.effects.Effect.TheVariants.{Answer as Answers}
use Rattle.registry_node.specs.declared.node.RegistryNode.{RegistryNode}
use Rattle.registry_node.specs.Events as registry
use Rattle.store_nodes.specs.declared.server.Server.{Server}
use Rattle.store_nodes.specs.ServerEvents as server
use Rattle.version_model.specs.declared.act.Act.{Act}
use Rattle.version_model.specs.declared.answer.Answer.{Answer}
use Rattle.version_model.specs.declared.answer.Answer.TheVariants as answer
use Rattle.version_model.specs.declared.work.Work.{Work}
use Rattle.wire_msg.specs.declared.packet.Do.{Do}
use Rattle.xfs_base.specs.declared.node.NodeId.{NodeId}
use Rattle.node_base.specs.declared.items.Items.{Items}
use Rattle.serving_moves.proofs.item_moves.Keeping.{all_plain_more}
use Rattle.serving_moves.proofs.item_moves.Managers.{manager_turned}
use Rattle.serving_moves.proofs.item_moves.Registries.{registry_turned}
use Rattle.serving_moves.proofs.item_moves.Servers.{server_turned}
use Rattle.serving_moves.specs.item_moves.Moves as moves
use Rattle.serving_moves.specs.item_moves.Moves.{Begun, Event, IsCount, IsNone, IsPrompt, IsRebuilt, Losses, MayAnswer, Moves}
use Rattle.headline.specs.Items.{Falls, asked_at}
use Rattle.serving_moves.specs.item_moves.Moves.Begun.{AtOnce, Waits}
use Rattle.serving_moves.specs.item_moves.Moves.Event.{Begins, GoesOn, Idles, Cuts}
use Rattle.serving_moves.specs.item_moves.Moves.Losses.{Silent, Telling}
use Rattle.run_answers.proofs.act_law.Telling.{DoneIn, Foundation, Founded, Grows, acted, founded_then, moves_founded, plain_founded}
use Rattle.run_answers.proofs.once_law.Items.{begun_works}
use Rattle.run_answers.proofs.once_law.Ledger.{AllPlain}
use Rattle.headline.specs.Answers.{IsCut}

-- An answer of a manager, a server or the registry is founded so: what they cut they cut as they crash.
abbrev pub IsOthers : List Work → (ℕ → Type 0) → Answer → Type 0
IsOthers works done answer.Cut = IsCut works done
IsOthers works done _ = Unit {0}

module _ (me : NodeId) (works : List Work) where
  -- what an answer of these nodes is founded on
  abbrev pub Its : Foundation
  Its item before done a = IsOthers works done a

  pub its_grow : Grows Its
  its_grow item said done all answer.Cut up f = (f.0, (f.1.0, up f.0 f.1.1))
  its_grow item said done all _ up f = tt

  prompt_founded : (item : ℕ) (said : List Act) (done : ℕ → Type 0) (a : Answer) → IsPrompt a → Its item said done a
  prompt_founded item said done answer.Cut so = absurd so
  prompt_founded item said done _ so = tt

  -- the open item is cut, and the item by which the node falls is done
  cuts_founded : (said : List Act) (o : Option ℕ) (number : ℕ) → Falls (asked_at works number) → (more : List Effect) → AllPlain more
      → Founded me Its said (answers_unanswered o answer.Cut ++ Answers number answer.Done ∷ more)
  cuts_founded said o number falls more plain = by o
    where
      by : (p : Option ℕ) → Founded me Its said (answers_unanswered p answer.Cut ++ Answers number answer.Done ∷ more)
      by None = (tt, plain_founded me Its its_grow _ more plain)
      by (Some item) = ((number, (falls, inl refl)), (tt, plain_founded me Its its_grow _ more plain))

  asked_is : (ws : List Work) (number : ℕ) → ws ≡ works → asked_at works number ≡ asked_at ws number
  asked_is ws number same = sym (ap (λ (xs : List Work). asked_at xs number) same)

  -- ---- any event of such a node

  module _ (losses : Losses) (J : Answer → Type 0) (prompt : (a : Answer) → J a → IsPrompt a) (silent : MayAnswer losses → ⊥) where
    moves_so : (before after : Items) (outs : List Effect) → Moves losses J before outs after → Founded me Its [] outs
    moves_so = moves_founded me Its its_grow IsPrompt prompt_founded losses J prompt (λ name may. absurd (silent may)) []

    -- behind what answers nothing
    behind : (first more : List Effect) → moves.AllPlain losses first → Founded me Its (acted me [] first) more → Founded me Its [] (first ++ more)
    behind first more plain f =
        founded_then me Its its_grow [] first more (plain_founded me Its its_grow [] first (all_plain_more losses first plain)) f

    begun_so : (before after : Items) (number : ℕ) (outs : List Effect) → Begun losses J IsPrompt before number outs after → Founded me Its [] outs
    begun_so before after number outs (AtOnce a first more so plain rest) =
        behind first (Answers number a ∷ more) plain
        (prompt_founded number (acted me [] first) (DoneIn more) a so, plain_founded me Its its_grow _ more (all_plain_more losses more rest))
    begun_so before after number outs (Waits made) = moves_so (items_wait before number) after outs made

    event_so : (before after : Items) (what : Do) (outs : List Effect) → before.works ≡ works → Event losses J IsPrompt before what outs after
        → Founded me Its [] outs
    event_so before after what outs its (GoesOn made) = moves_so before after outs made
    event_so before after what outs its (Idles is) = tt
    event_so before after what outs its (Begins number is next made) = begun_so (items_begin before) after number outs made
    event_so before after what outs its (Cuts number first more is next falls plain rest) =
        behind first (answers_unanswered (items_begin before).unanswered answer.Cut ++ Answers number answer.Done ∷ more) plain
        (cuts_founded (acted me [] first) (items_begin before).unanswered number
        (subst Falls (sym (asked_is (items_begin before).works number (begun_works before ∙ its))) falls) more
        (all_plain_more losses more rest))

  count_prompt : (a : Answer) → IsCount a → IsPrompt a
  count_prompt (answer.Count count) so = tt
  count_prompt _ so = absurd so

  rebuilt_prompt : (a : Answer) → IsRebuilt a → IsPrompt a
  rebuilt_prompt (answer.Rebuilt filled gone) so = tt
  rebuilt_prompt _ so = absurd so

  pub manager_cuts : (m : Manager) (what : Do) → (lasting_of m.phase).items.works ≡ works → Founded me Its [] (manager.happens m what).outs
  manager_cuts m what its =
      event_so Telling IsCount count_prompt (λ may. may) (lasting_of m.phase).items (lasting_of (manager.happens m what).state).items what
      (manager.happens m what).outs its (manager_turned m what).event

  pub server_cuts : (v : Server) (what : Do) → v.items.works ≡ works → Founded me Its [] (server.takes v what).outs
  server_cuts v what its =
      event_so Silent IsRebuilt rebuilt_prompt (λ may. may) v.items (server.takes v what).state.items what (server.takes v what).outs its
      (server_turned v what).event

  pub registry_cuts : (r : RegistryNode) (what : Do) → r.items.works ≡ works → Founded me Its [] (registry.takes r what).outs
  registry_cuts r what its =
      event_so Silent IsNone (λ a none. absurd none) (λ may. may) r.items (registry.takes r what).state.items what (registry.takes r what).outs its
      (registry_turned r what).event
