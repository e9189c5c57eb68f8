-- What managers, servers, the cleaner and the registry act is for no client's item: it is read off what their events make of their items.
use Rattle.std.proofs.Common.{ℕ, List, [], ◌∷◌, ◌++◌, Option, Some, None}
use Rattle.std.specs.List.{AllByRecursion}
use Rattle.cleaner_node.specs.CleanerEvents as cleaner
use Rattle.cleaner_node.specs.declared.cleaner.Phase.{Phase as CleanerPhase}
use Rattle.cleaner_node.specs.declared.cleaner.Phase.TheVariants as phases
use Rattle.core_world.specs.declared.any_node.AnyNode.TheVariants as any
use Rattle.log_owner.specs.declared.opening.Stage.{Stage}
use Rattle.log_owner.specs.declared.opening.Stage.TheVariants as stage
use Rattle.manager_node.specs.Events as manager
use Rattle.manager_node.specs.Phases as managers
use Rattle.node_base.specs.Beginning.{answers_unanswered, items_begin, items_wait}
use Rattle.node_base.specs.declared.effects.Effect.{Effect}
use Rattle.node_base.specs.declared.effects.Effect.TheVariants.{Send, Answer as Answers, Lose, Does}
use Rattle.node_base.specs.declared.items.Items.{Items}
use Rattle.node_base.specs.Effects.{acts_of}
use Rattle.registry_node.specs.Events as registry
use Rattle.serving_moves.proofs.item_moves.Cleaners.{cleaner_turned}
use Rattle.serving_moves.proofs.item_moves.Keeping.{filing_aside}
use Rattle.serving_moves.proofs.item_moves.Managers.{manager_turned}
use Rattle.serving_moves.proofs.item_moves.Registries.{registry_turned}
use Rattle.serving_moves.proofs.item_moves.Servers.{server_turned}
use Rattle.serving_moves.specs.item_moves.Events.{cleaner_losses, log_losses}
use Rattle.serving_moves.specs.item_moves.Moves.{AllPlain, Begun, Event, IsAside, IsCleaners, IsCount, IsNone, IsPrompt, IsRebuilt, Losses, MayAct, Move, Moves}
use Rattle.serving_moves.specs.item_moves.Moves.Begun.{AtOnce, Waits}
use Rattle.serving_moves.specs.item_moves.Moves.Event.{Begins, Cuts, GoesOn, Idles}
use Rattle.serving_moves.specs.item_moves.Moves.Losses.{Silent, Telling}
use Rattle.serving_moves.specs.item_moves.Moves.Move.{Stays, Ends, Loses}
use Rattle.serving_moves.specs.item_moves.Moves.Moves.{Last, Then}
use Rattle.store_nodes.specs.ServerEvents as server
use Rattle.version_model.specs.declared.act.Act.{Act}
use Rattle.version_model.specs.declared.act.Act.TheVariants as act
use Rattle.version_model.specs.declared.answer.Answer.{Answer}
use Rattle.version_model.specs.declared.answer.Answer.TheVariants as answer
use Rattle.wire_msg.specs.declared.packet.Do.{Do}
use Rattle.xfs_base.proofs.Alls.{all_append}
use Rattle.xfs_base.specs.declared.node.NodeId.{NodeId}
use Rattle.run_answers.specs.own_law.Others.{OthersActNone}
use Rattle.headline.specs.Calls.{IsClients}

-- an effect by which nothing is acted but what is for no item, and answers
abbrev IsBare : Effect → Type 0
IsBare (Does a) = IsAside a
IsBare _ = Unit {0}

abbrev AllBare : List Effect → Type 0
AllBare outs = AllByRecursion IsBare outs

both_bare : (xs ys : List Effect) → AllBare xs → AllBare ys → AllBare (xs ++ ys)
both_bare xs ys a b = all_append IsBare xs ys a b

answers_bare : (item : Option ℕ) (a : Answer) → AllBare (answers_unanswered item a)
answers_bare None a = tt
answers_bare (Some item) a = (tt, tt)

aside_none : (a : Act) → IsAside a → IsClients a → ⊥
aside_none (act.Filed seg) aside is = is
aside_none (act.Dropped seg) aside is = is
aside_none _ aside is = absurd aside

bare_acts : (me : NodeId) (outs : List Effect) → AllBare outs → AllByRecursion (λ a. IsClients a → ⊥) (acts_of me outs)
bare_acts me [] bare = tt
bare_acts me (Send to said ∷ outs) bare = bare_acts me outs bare.1
bare_acts me (Answers item a ∷ outs) bare = (λ is. is, bare_acts me outs bare.1)
bare_acts me (Lose name ∷ outs) bare = (λ is. is, bare_acts me outs bare.1)
bare_acts me (Does a ∷ outs) bare = (aside_none a bare.0, bare_acts me outs bare.1)

module _ (losses : Losses) (aside : (a : Act) → MayAct losses a → IsAside a) (J K : Answer → Type 0) where
  plain_bare : (outs : List Effect) → AllPlain losses outs → AllBare outs
  plain_bare [] plain = tt
  plain_bare (Send to said ∷ outs) plain = (tt, plain_bare outs plain.1)
  plain_bare (Answers item a ∷ outs) plain = (tt, plain_bare outs plain.1)
  plain_bare (Lose name ∷ outs) plain = (tt, plain_bare outs plain.1)
  plain_bare (Does a ∷ outs) plain = (aside a plain.0, plain_bare outs plain.1)

  move_bare : (before after : Items) (outs : List Effect) → Move losses J before outs after → AllBare outs
  move_bare before after outs (Stays stay plain) = plain_bare outs plain
  move_bare before after outs (Ends a so) = answers_bare before.unanswered a
  move_bare before after outs (Loses name first may plain among) =
      both_bare first (answers_unanswered before.unanswered (answer.Lost name)) (plain_bare first plain) (answers_bare before.unanswered (answer.Lost name))

  moves_bare : (before after : Items) (outs : List Effect) → Moves losses J before outs after → AllBare outs
  moves_bare before after outs (Last move) = move_bare before after outs move
  moves_bare before after outs (Then between first more move rest) =
      both_bare first more (move_bare before between first move) (moves_bare between after more rest)

  begun_bare : (before after : Items) (number : ℕ) (outs : List Effect) → Begun losses J K before number outs after → AllBare outs
  begun_bare before after number outs (AtOnce a first more so plain rest) =
      both_bare first (Answers number a ∷ more) (plain_bare first plain) (tt, plain_bare more rest)
  begun_bare before after number outs (Waits made) = moves_bare (items_wait before number) after outs made

  event_bare : (before after : Items) (what : Do) (outs : List Effect) → Event losses J K before what outs after → AllBare outs
  event_bare before after what outs (GoesOn made) = moves_bare before after outs made
  event_bare before after what outs (Idles is) = tt
  event_bare before after what outs (Begins number is next made) = begun_bare (items_begin before) after number outs made
  event_bare before after what outs (Cuts number first more is next falls plain rest) =
      both_bare first (answers_unanswered (items_begin before).unanswered answer.Cut ++ Answers number answer.Done ∷ more) (plain_bare first plain)
      (both_bare (answers_unanswered (items_begin before).unanswered answer.Cut) (Answers number answer.Done ∷ more)
      (answers_bare (items_begin before).unanswered answer.Cut) (tt, plain_bare more rest))

log_aside : (at : Stage) (a : Act) → MayAct (log_losses at) a → IsAside a
log_aside (stage.Scanning s) a may = may
log_aside (stage.Settling s) a may = may

cleaner_aside : (p : CleanerPhase) (a : Act) → MayAct (cleaner_losses p) a → IsAside a
cleaner_aside (phases.Down l) a may = may
cleaner_aside (phases.Opening l o) a may = log_aside o.stage a may
cleaner_aside (phases.Serving e) a may = may

pub others_act : OthersActNone
others_act (any.Client c) what is = absurd is
others_act (any.Manager m) what is =
    bare_acts _ (manager.happens m what).outs
    (event_bare Telling filing_aside IsCount IsPrompt (managers.lasting_of m.phase).items (managers.lasting_of (manager.happens m what).state).items what
    (manager.happens m what).outs (manager_turned m what).event)
others_act (any.Server v) what is =
    bare_acts _ (server.takes v what).outs
    (event_bare Silent (λ a may. may) IsRebuilt IsPrompt v.items (server.takes v what).state.items what (server.takes v what).outs (server_turned v what).event)
others_act (any.Cleaner c) what is =
    bare_acts _ (cleaner.takes c.peers c.phase what).outs
    (event_bare (cleaner_losses c.phase) (cleaner_aside c.phase) IsCleaners IsPrompt (cleaner.lasting_of c.phase).items
    (cleaner.lasting_of (cleaner.takes c.peers c.phase what).state).items what (cleaner.takes c.peers c.phase what).outs (cleaner_turned c what).event)
others_act (any.Registry r) what is =
    bare_acts _ (registry.takes r what).outs
    (event_bare Silent (λ a may. may) IsNone IsPrompt r.items (registry.takes r what).state.items what (registry.takes r what).outs (registry_turned r what).event)
