-- In every run, where a sync is done, nothing waits to be written to the log of its client, or is in flight.
use Rattle.std.proofs.Common.{◌≡◌, ◌⊎◌, ℕ, suc, List, [], ◌∷◌, ◌++◌, slice_get, Option, Some, None, inl, inr, refl, sym, ap, subst, ◌∙◌}
use Rattle.client_call.specs.Calls.{call_new}
use Rattle.client_call.specs.declared.call.Call.{Call}
use Rattle.client_call.specs.declared.call.Going.{Going}
use Rattle.client_call.specs.declared.call.Going.TheVariants.{On}
use Rattle.client_call.specs.declared.call.Plan.{Plan}
use Rattle.client_call.specs.declared.call.Plan.TheVariants.{One, File}
use Rattle.client_node.specs.declared.client.Client.{Client}
use Rattle.client_node.specs.declared.phase.Phase.{Phase}
use Rattle.client_node.specs.Phases.{client_step, lasting_of}
use Rattle.client_running.specs.Opens.{call_at}
use Rattle.client_serving.specs.declared.serving.Serving.{Serving}
use Rattle.core_world.specs.declared.any_node.AnyNode.{AnyNode}
use Rattle.core_world.specs.declared.any_node.AnyNode.TheVariants as any
use Rattle.file_plan.specs.declared.block_call.BlockCall.{BlockCall}
use Rattle.file_plan.specs.declared.block_call.BlockCall.TheVariants.{Get, Put, PutAt, Sync}
use Rattle.serving_moves.proofs.item_moves.Keeping.{one_number}
use Rattle.token_protocol.specs.Basics.{In}
use Rattle.version_model.specs.declared.act.Act.{Act}
use Rattle.version_model.specs.declared.act.Act.TheVariants as act
use Rattle.version_model.specs.declared.answer.Answer.{Answer}
use Rattle.version_model.specs.declared.answer.Answer.TheVariants as answer
use Rattle.version_model.specs.declared.work.Work.{Work}
use Rattle.version_model.specs.declared.work.Work.TheVariants as work
use Rattle.world_base.specs.declared.estate.Estate.{Estate}
use Rattle.world_base.specs.declared.event.Event.{Event}
use Rattle.world_base.specs.Events.{node_of, what_of}
use Rattle.world_base.specs.Items.{items_of}
use Rattle.run_laws.proofs.world_law.Sent.{in_append}
use Rattle.headline.specs.Moments.{acts_in, moment, node_named}
use Rattle.xfs_base.specs.declared.node.NodeId.{NodeId}
use Rattle.xfs_base.specs.declared.node.NodeId.TheVariants as nodes
use Rattle.run_answers.proofs.linear_law.Stretches.{in_items}
use Rattle.run_answers.proofs.linear_law.Turns.{ClientTurn, named_turn}
use Rattle.run_answers.proofs.once_law.Runs.{Known, node_known}
use Rattle.run_answers.proofs.own_law.Answered.{ends_it, is_it}
use Rattle.run_answers.proofs.own_law.Runs.{owns, runs_act}
use Rattle.run_answers.proofs.own_law.Since.{one_client}
use Rattle.run_answers.proofs.own_law.Single.{IsOwnCall}
use Rattle.run_answers.proofs.own_law.Whole.{forget}
use Rattle.headline.specs.Items.{ItemsAnsweredOnce, asked_at}
use Rattle.headline.specs.Linear.{HasDrained, IsSync, SyncsDrain, asked}
use Rattle.headline.specs.Calls.{Acts, IsCrash, IsDrained, IsRefusal, SyncDrains, answered_so, call_in, of_items, open_in}
use Rattle.headline.specs.Calls.Acts.{Rests, Passes, AtOnce, GoesOn, Begins, Loses, Falls, Stops, Returns}
use Rattle.headline.specs.Standings.{IsRestart}

-- ---- a sync is a call, and one call on blocks

no_going : (g : Going) → None ≡ Some g → ⊥
no_going g fact = cc

-- the call of an item that asks for a sync
is_sync : (client : ℕ) (w : Option Work) → IsSync w → (plan : Plan) (step : BlockCall) → IsOwnCall client w plan step → (plan ≡ One) × (step ≡ Sync)
is_sync client (Some (work.Sync c)) is One Sync own = (refl, refl)
is_sync client (Some (work.Sync c)) is One (Get block) own = absurd own
is_sync client (Some (work.Sync c)) is One (Put block value) own = absurd own
is_sync client (Some (work.Sync c)) is One (PutAt block named value) own = absurd own
is_sync client (Some (work.Sync c)) is (File p) step own = absurd own
is_sync client _ is plan step own = absurd is

-- and that which it begins with
sync_going : (s : Serving) (item : ℕ) (w : Option Work) → IsSync w → call_at s item w ≡ Some (On (call_new One Sync))
sync_going s item (Some (work.Sync c)) is = refl
sync_going s item _ is = absurd is

no_crash : (w : Option Work) → IsSync w → IsCrash w → ⊥
no_crash (Some (work.Sync c)) is crash = crash
no_crash _ is crash = is

no_restart : (w : Option Work) → IsSync w → IsRestart w → ⊥
no_restart (Some (work.Sync c)) is restart = restart
no_restart _ is restart = is

-- ---- one event

module _ (e : Estate AnyNode) (count : ℕ) (event : Event) (t : ClientTurn e count event) (client : ℕ) (named : nodes.Client client ≡ node_of event) (item : ℕ)
    (syncs : IsSync (asked e client item)) where
  abbrev c : Client
  c = t.client

  known : Known e (node_of event) (any.Client c)
  known = node_known e count (node_of event) (any.Client c) t.there

  number : (lasting_of c.phase).number ≡ client
  number = one_client (lasting_of c.phase).number client (known.named ∙ sym named)

  -- what the item of this number asks for, by its own list
  asked_here : (n : ℕ) (w : Option Work) → asked_at (lasting_of c.phase).items.works n ≡ w → n ≡ item → IsSync w
  asked_here n w asks same =
      subst IsSync
      (sym (sym asks ∙ (ap (λ (ws : List Work). asked_at ws n) (known.works ∙ ap (items_of e.script.lines) (sym named)) ∙ ap (asked e client) same))) syncs

  -- it is answered that it is done
  abbrev IsDone : List Act → Type 0
  IsDone acts = In (act.Answered (nodes.Client client) item answer.Done) acts

  not_so : (o : Option ℕ) (x : Answer) → (x ≡ answer.Done → ⊥) → IsDone (answered_so (nodes.Client client) o x) → ⊥
  not_so o x other among = other (is_it client item answer.Done o x among).answer

  same_item : (n : ℕ) (x : Answer) → IsDone (act.Answered (nodes.Client client) n x ∷ []) → n ≡ item
  same_item n x among = one_number n item (is_it client item answer.Done (Some n) x among).same

  refused : (x : Answer) → IsRefusal x → x ≡ answer.Done → ⊥
  refused x refuses same = subst IsRefusal same refuses

  no_fall : (n : ℕ) (w : Option Work) (o : Option ℕ) → asked_at (lasting_of c.phase).items.works n ≡ w → IsCrash w
      → IsDone (answered_so (nodes.Client client) o answer.Cut ++ act.Answered (nodes.Client client) n answer.Done ∷ []) → ⊥
  no_fall n w o asks crash among =
      by (in_append (answered_so (nodes.Client client) o answer.Cut) (act.Answered (nodes.Client client) n answer.Done ∷ [])
      (act.Answered (nodes.Client client) item answer.Done) among)
    where
      by : IsDone (answered_so (nodes.Client client) o answer.Cut) ⊎ IsDone (act.Answered (nodes.Client client) n answer.Done ∷ []) → ⊥
      by (inl cut) = not_so o answer.Cut (λ same. cc) cut
      by (inr done) = no_crash w (asked_here n w asks (same_item n answer.Done done)) crash

  -- its open call
  own_sync : (call : Call) → call_in c.phase ≡ Some call → open_in c.phase ≡ Some item → (call.plan ≡ One) × (call.step ≡ Sync)
  own_sync call at waits =
      is_sync (lasting_of c.phase).number (asked_at (items_of e.script.lines (node_of event)) item)
      (subst (λ (n : NodeId). IsSync (asked_at (items_of e.script.lines n) item)) named syncs) call.plan call.step
      (owns e count event c t.there c.phase refl item waits call at)

  drains_so : (q : Phase) (acts : List Act) → Acts client c.phase (what_of event) acts q → IsDone acts → IsDrained q
  drains_so q acts (Rests x y) among = absurd among
  drains_so q acts (Passes {s = s} n w same b free made calls items) among =
      absurd (no_going (On (call_new One Sync)) (sym made ∙ sync_going s n w (asked_here n w b.asks (same_item n answer.Done among))))
  drains_so q acts (AtOnce n w x refuses b calls items) among = absurd (not_so (Some n) x (refused x refuses) among)
  drains_so q acts (GoesOn call at stays drains st) among =
      let end = ends_it answer.Done (forget client st) among in
      let own = own_sync call at end.0 in
      drains own.0 own.1 end.1
  drains_so q acts (Begins {s = s} n w going same b free made stays drains st) among =
      let end = ends_it answer.Done (forget client st) among in
      let is : Some going ≡ Some (On (call_new One Sync)) = sym made ∙ sync_going s n w (asked_here n w b.asks (one_number n item end.0)) in
      let sync : going ≡ On (call_new One Sync) = cc in
      (subst (λ (g : Going). SyncDrains g q) sync drains) refl refl end.1
  drains_so q acts (Loses name over none) among = absurd (not_so (open_in c.phase) (answer.Lost name) (λ same. cc) among)
  drains_so q acts (Falls n w flight falls s b crash f) (inl same) = absurd (let clash = same in cc)
  drains_so q acts (Falls n w flight falls s b crash f) (inr among) = absurd (no_fall n w (open_in c.phase) b.asks crash among)
  drains_so q acts (Stops n w o b crash f) among = absurd (no_fall n w (open_in c.phase) b.asks crash among)
  drains_so q acts (Returns chain o s over none) (inl same) = absurd (let clash = same in cc)
  drains_so q acts (Returns chain o s over none) (inr among) =
      absurd
      (no_restart (asked e client item) syncs
      (subst (λ (n : NodeId). IsRestart (asked_at (items_of e.script.lines n) item)) (sym named)
      ((runs_act e).opening count (node_of event) c t.there o item (is_it client item answer.Done (open_in c.phase) answer.Done among).same)))

  drained : slice_get e.events count ≡ Some event → In (act.Answered (nodes.Client client) item answer.Done) (acts_in (moment e count) event)
      → HasDrained e client (suc count)
  drained happens among = record {
    node = (client_step c (what_of event)).node;
    there = ap (node_named (moment e (suc count))) named ∙ t.behind;
    drained = drains_so (client_step c (what_of event)).node.phase (of_items (client_step c (what_of event)).acts)
        (subst
        (λ (n : ℕ). Acts n c.phase (what_of event) (of_items (client_step c (what_of event)).acts) (client_step c (what_of event)).node.phase) number
        ((runs_act e).events count event happens c t.there).acts)
        (in_items (act.Answered (nodes.Client client) item answer.Done) refl (client_step c (what_of event)).acts
        (subst (In (act.Answered (nodes.Client client) item answer.Done)) t.acts among));
  }

pub syncs_drain : (e : Estate AnyNode) → ItemsAnsweredOnce e → SyncsDrain e
syncs_drain e once count event happens client item among syncs =
    let own : nodes.Client client ≡ node_of event = (once.own count event happens (nodes.Client client) item answer.Done among).own in
    drained e count event (named_turn e count event happens (act.Answered (nodes.Client client) item answer.Done) among client own) client own item syncs happens
    among
