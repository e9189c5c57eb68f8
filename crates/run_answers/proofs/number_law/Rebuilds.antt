-- In every run what a server answers of its rebuild is true.
use Rattle.std.proofs.Common.{◌≡◌, ◌⊎◌, ℕ, suc, List, [], ◌∷◌, Some, drop, length, map, slice_get, inl, inr, refl, sym, ap, subst, ◌∙◌, arith}
use Rattle.std.proofs.Math.Seq.{drop-append_seam, drop-length}
use Rattle.std.specs.List.{AllByRecursion}
use Rattle.core_world.specs.AnyNode.{any_start, any_step}
use Rattle.core_world.specs.declared.any_node.AnyNode.{AnyNode}
use Rattle.core_world.specs.declared.any_node.AnyNode.TheVariants as any
use Rattle.node_base.specs.declared.effects.Effect.{Effect}
use Rattle.node_base.specs.declared.effects.Effect.TheVariants.{Answer as Answers, Does, Lose, Send}
use Rattle.node_base.specs.Effects.{acts_of, packets_of}
use Rattle.store_nodes.specs.declared.server.Server.{Server as Node}
use Rattle.store_nodes.specs.ServerEvents.{takes}
use Rattle.token_protocol.specs.Basics.{In}
use Rattle.version_model.specs.declared.act.Act.{Act}
use Rattle.version_model.specs.declared.act.Act.TheVariants as act
use Rattle.version_model.specs.declared.answer.Answer.{Answer}
use Rattle.version_model.specs.declared.answer.Answer.TheVariants as answer
use Rattle.wire_msg.specs.declared.body.Body.{Body}
use Rattle.wire_msg.specs.declared.body.Body.TheVariants as body
use Rattle.wire_msg.specs.declared.packet.Packet.{Packet}
use Rattle.wire_msg.specs.declared.storage.Fetch.{Fetch}
use Rattle.world_base.specs.declared.estate.Estate.{Estate}
use Rattle.world_base.specs.declared.event.Event.{Event}
use Rattle.world_base.specs.declared.world.World.{World}
use Rattle.world_base.specs.Events.{node_of, what_of}
use Rattle.world_base.specs.Items.{items_of}
use Rattle.world_base.specs.NextWorld.{sent_at}
use Rattle.world_base.specs.Runs.{IsRun}
use Rattle.xfs_base.specs.declared.node.NodeId.{NodeId}
use Rattle.xfs_base.specs.declared.node.NodeId.TheVariants as nodes
use Rattle.run_laws.proofs.world_reads.Taking.{Took, moment_next}
use Rattle.headline.specs.Dues.{NothingComes, TakesTurn}
use Rattle.headline.specs.Moments.{acts_in, moment, node_named, sent_in}
use Rattle.headline.specs.Numbers.{IsRebuilt}
use Rattle.headline.specs.Servers.{shelf_of}
use Rattle.run_answers.proofs.due_law.Runs.{turn, turns_or_ends}
use Rattle.run_answers.proofs.number_law.Acting.{acting, event_begins, event_delivers, node_behind}
use Rattle.run_answers.proofs.number_law.Asking.{Acted, AnswerSo, AskSo, AsksNow, EffectSo, Led, SentSo}
use Rattle.run_answers.proofs.number_law.Events.{event_leads}
use Rattle.run_answers.proofs.number_law.Running.{NodeSo, so_later}
use Rattle.run_answers.proofs.once_law.Runs.{node_known, runs_answer_once}
use Rattle.run_answers.proofs.repeat_law.Among.{in_map}
use Rattle.run_answers.proofs.standing_law.Moments.{each_moment}
use Rattle.run_answers.proofs.wait_law.Again.{sent}
use Rattle.run_answers.specs.number_law.Runs.{EachRunsRebuildsAreTrue}

no_client : (a b : ℕ) → nodes.Client a ≡ nodes.Server b → ⊥
no_client a b fact = cc

no_manager : (a b : ℕ) → nodes.Manager a ≡ nodes.Server b → ⊥
no_manager a b fact = cc

no_cleaner : (b : ℕ) → nodes.Cleaner ≡ nodes.Server b → ⊥
no_cleaner b fact = cc

no_registry : (b : ℕ) → nodes.Registry ≡ nodes.Server b → ⊥
no_registry b fact = cc

one_server : (a b : ℕ) → nodes.Server a ≡ nodes.Server b → a ≡ b
one_server a b fact = cc

-- what a server answers is so
module _ (e : Estate AnyNode) (v count item filled gone : ℕ) (me : NodeId) where
  abbrev its : Act
  its = act.Answered (nodes.Server v) item (answer.Rebuilt filled gone)

  answer_so : (n : ℕ) (a : Answer) → AnswerSo e v count n a → its ≡ act.Answered me n a → IsRebuilt e count v item filled gone
  answer_so n a so same =
      subst (λ (x : ℕ). IsRebuilt e count v x filled gone) (sym number) (subst (λ (x : Answer). AnswerSo e v count n x) (sym same_answer) so)
    where
      number : item ≡ n
      number = cc

      same_answer : answer.Rebuilt filled gone ≡ a
      same_answer = cc

  acts_so : (outs : List Effect) → AllByRecursion (EffectSo e v count) outs → In its (acts_of me outs) → IsRebuilt e count v item filled gone
  acts_so [] all among = absurd among
  acts_so (Send to said ∷ outs) all among = acts_so outs all.1 among
  acts_so (Answers n a ∷ outs) all (inl same) = answer_so n a all.0 same
  acts_so (Answers n a ∷ outs) all (inr among) = acts_so outs all.1 among
  acts_so (Lose seg ∷ outs) all among = absurd all.0
  acts_so (Does done ∷ outs) all among = absurd all.0

module _ (e : Estate AnyNode) where
  -- ---- at each moment

  abbrev ServerSo : ℕ → ℕ → AnyNode → Type 0
  ServerSo count v (any.Server node) = NodeSo e v count node
  ServerSo count v _ = Unit {0}

  abbrev Stands : ℕ → NodeId → AnyNode → Type 0
  Stands count (nodes.Server v) x = ServerSo count v x
  Stands count _ x = Unit {0}

  starts : (name : NodeId) → Stands 0 name (any_start name e.script.setup (items_of e.script.lines name))
  starts (nodes.Client k) = tt
  starts (nodes.Manager k) = tt
  starts (nodes.Server k) = tt
  starts nodes.Cleaner = tt
  starts nodes.Registry = tt

  server_later : (count v : ℕ) (x : AnyNode) → ServerSo count v x → ServerSo (suc count) v x
  server_later count v (any.Client c) h = tt
  server_later count v (any.Manager m) h = tt
  server_later count v (any.Server node) h = so_later e v count node.items.unanswered node.maps.groups node.rebuilding h
  server_later count v (any.Cleaner c) h = tt
  server_later count v (any.Registry r) h = tt

  later : (count : ℕ) (name : NodeId) (x : AnyNode) → Stands count name x → Stands (suc count) name x
  later count (nodes.Client k) x h = tt
  later count (nodes.Manager k) x h = tt
  later count (nodes.Server v) x h = server_later count v x h
  later count nodes.Cleaner x h = tt
  later count nodes.Registry x h = tt

  -- ---- an event of a server

  module _ (count : ℕ) (event : Event) (happens : slice_get e.events count ≡ Some event) (v : ℕ) (named : node_of event ≡ nodes.Server v) (node : Node)
      (was : node_named (moment e count) (nodes.Server v) ≡ Some (any.Server node))
      (is : node_named (moment e (suc count)) (nodes.Server v) ≡ Some (any_step (any.Server node) (what_of event)).node)
      (took : TakesTurn e count event (any.Server node)) (h : NodeSo e v count node) where
    abbrev outs : List Effect
    outs = (takes node (what_of event)).outs

    number : node.number ≡ v
    number = one_server node.number v (node_known e count (nodes.Server v) (any.Server node) was).named

    abbrev asking : ℕ → Fetch → Packet
    asking other m = record { from = nodes.Server node.number; to = nodes.Server other; clock = 0; body = body.Fetch m }

    added : sent_in (moment e count) event ≡ map (sent_at took.clock) (packets_of (nodes.Server node.number) outs)
    added =
        ap (drop (length (moment e count).sent)) (ap (λ (w : World AnyNode). w.sent) (sym (moment_next e count event happens)) ∙ took.sent)
        ∙ drop-append_seam (moment e count).sent (map (sent_at took.clock) (packets_of (nodes.Server node.number) outs))

    asks_now : (other : ℕ) (m : Fetch) → In (Send (nodes.Server other) (body.Fetch m)) outs → AsksNow e v count other m
    asks_now other m among = λ begun since. record {
      place = count;
      since = since;
      before = omega arith;
      event = event;
      happens = happens;
      packet = sent_at took.clock (asking other m);
      sent = subst (λ (packets : List Packet). In (sent_at took.clock (asking other m)) packets) (sym added)
          (in_map (sent_at took.clock) (asking other m) (packets_of (nodes.Server node.number) outs)
          (sent (nodes.Server node.number) (nodes.Server other) (body.Fetch m) outs among));
      from_it = ap nodes.Server number;
      to_server = refl;
      says = refl;
    }

    said_so : (other : ℕ) (said : Body) → In (Send (nodes.Server other) said) outs → AskSo e v count other said
    said_so other (body.Fetch m) among = asks_now other m among
    said_so other _ among = tt

    sent_so : (to : NodeId) (said : Body) → In (Send to said) outs → SentSo e v count to said
    sent_so (nodes.Server other) said among = said_so other said among
    sent_so (nodes.Client k) said among = tt
    sent_so (nodes.Manager k) said among = tt
    sent_so nodes.Cleaner said among = tt
    sent_so nodes.Registry said among = tt

    -- what it does it does in this event
    all_acted : (xs : List Effect) → ((x : Effect) → In x xs → In x outs) → AllByRecursion (Acted e v count) xs
    all_acted [] within = tt
    all_acted (Send to said ∷ xs) within = (sent_so to said (within (Send to said) (inl refl)), all_acted xs (λ x among. within x (inr among)))
    all_acted (Answers n a ∷ xs) within = (tt, all_acted xs (λ x among. within x (inr among)))
    all_acted (Lose seg ∷ xs) within = (tt, all_acted xs (λ x among. within x (inr among)))
    all_acted (Does act ∷ xs) within = (tt, all_acted xs (λ x among. within x (inr among)))

    leads : Led e v count (takes node (what_of event))
    leads =
        event_leads e v count node h was number (what_of event) (λ begins. happens ∙ ap Some (event_begins event (nodes.Server v) named begins))
        (λ packet comes. (
          happens ∙ ap Some (event_delivers event packet comes),
          ap node_of (sym (event_delivers event packet comes)) ∙ named,
        ))
        (ap shelf_of is) (all_acted outs (λ x among. among))

  one_node : (a b : AnyNode) → Some a ≡ Some b → a ≡ b
  one_node a b fact = cc

  turns : (count : ℕ) (event : Event) → slice_get e.events count ≡ Some event → (x : AnyNode) → node_named (moment e count) (node_of event) ≡ Some x
      → Took (moment e count) event x → Stands count (node_of event) x → Stands (suc count) (node_of event) (any_step x (what_of event)).node
  turns count event happens x was took h = by (turn e count event happens x was (turns_or_ends (moment e count) event x was))
    where
      behind : node_named (moment e (suc count)) (node_of event) ≡ Some (any_step x (what_of event)).node
      behind = node_behind e count event happens x took

      by_name : (name : NodeId) → node_of event ≡ name → (x : AnyNode) → node_named (moment e count) name ≡ Some x
          → node_named (moment e (suc count)) name ≡ Some (any_step x (what_of event)).node → TakesTurn e count event x → Stands count name x
          → Stands (suc count) name (any_step x (what_of event)).node
      by_name (nodes.Client k) named x was is turned h = tt
      by_name (nodes.Manager k) named x was is turned h = tt
      by_name (nodes.Server v) named (any.Client c) was is turned h = tt
      by_name (nodes.Server v) named (any.Manager m) was is turned h = tt
      by_name (nodes.Server v) named (any.Server node) was is turned h = (leads count event happens v named node was is turned h).state
      by_name (nodes.Server v) named (any.Cleaner c) was is turned h = tt
      by_name (nodes.Server v) named (any.Registry r) was is turned h = tt
      by_name nodes.Cleaner named x was is turned h = tt
      by_name nodes.Registry named x was is turned h = tt

      by : NothingComes e count event ⊎ TakesTurn e count event x → Stands (suc count) (node_of event) (any_step x (what_of event)).node
      by (inl none) =
          let here : node_named (moment e (suc count)) (node_of event) ≡ Some x =
          ap (λ (w : World AnyNode). node_named w (node_of event)) none.stays ∙ was in
          subst (Stands (suc count) (node_of event)) (one_node x (any_step x (what_of event)).node (sym here ∙ behind)) (later count (node_of event) x h)
      by (inr turned) = by_name (node_of event) refl x was behind turned h

  stands_at : (count : ℕ) (name : NodeId) (x : AnyNode) → node_named (moment e count) name ≡ Some x → Stands count name x
  stands_at = each_moment Stands e starts (λ count name x idles h. later count name x h) turns

  module _ (run : IsRun any_step any_start e.script e.events e.world) where
    rebuilds : (count : ℕ) (event : Event) → slice_get e.events count ≡ Some event → (v item filled gone : ℕ)
        → In (act.Answered (nodes.Server v) item (answer.Rebuilt filled gone)) (acts_in (moment e count) event) → IsRebuilt e count v item filled gone
    rebuilds count event happens v item filled gone acted =
        let a = acting e count event happens _ acted in
        let own : nodes.Server v ≡ node_of event =
        ((runs_answer_once e run).own count event happens (nodes.Server v) item (answer.Rebuilt filled gone) acted).own in
        by a.x (node_of event) (sym own) refl a.was a.is (turn e count event happens a.x a.was (turns_or_ends (moment e count) event a.x a.was)) a.among
      where
        none_acted : NothingComes e count event → acts_in (moment e count) event ≡ []
        none_acted none =
            ap (λ (w : World AnyNode). drop (length (moment e count).acts) w.acts) (sym (moment_next e count event happens) ∙ none.stays)
            ∙ drop-length (moment e count).acts

        by : (x : AnyNode) (name : NodeId) → name ≡ nodes.Server v → node_of event ≡ name → node_named (moment e count) name ≡ Some x
            → node_named (moment e (suc count)) name ≡ Some (any_step x (what_of event)).node → NothingComes e count event ⊎ TakesTurn e count event x
            → In (act.Answered (nodes.Server v) item (answer.Rebuilt filled gone)) (any_step x (what_of event)).acts → IsRebuilt e count v item filled gone
        by x name same named was is (inl none) among =
            absurd (subst (λ (xs : List Act). In (act.Answered (nodes.Server v) item (answer.Rebuilt filled gone)) xs) (none_acted none) acted)
        by (any.Server node) name same named was is (inr turned) among =
            let was_v = subst (λ (n : NodeId). node_named (moment e count) n ≡ Some (any.Server node)) same was in
            let is_v = subst (λ (n : NodeId). node_named (moment e (suc count)) n ≡ Some (any_step (any.Server node) (what_of event)).node) same is in
            acts_so e v count item filled gone (nodes.Server node.number) (takes node (what_of event)).outs
            (leads count event happens v (named ∙ same) node was_v is_v turned (stands_at count (nodes.Server v) (any.Server node) was_v)).outs among
        by (any.Client c) name same named was is (inr turned) among = absurd (no_client _ v ((node_known e count name (any.Client c) was).named ∙ same))
        by (any.Manager m) name same named was is (inr turned) among = absurd (no_manager _ v ((node_known e count name (any.Manager m) was).named ∙ same))
        by (any.Cleaner c) name same named was is (inr turned) among = absurd (no_cleaner v ((node_known e count name (any.Cleaner c) was).named ∙ same))
        by (any.Registry r) name same named was is (inr turned) among = absurd (no_registry v ((node_known e count name (any.Registry r) was).named ∙ same))

pub each_run : EachRunsRebuildsAreTrue
each_run e run = rebuilds e run
