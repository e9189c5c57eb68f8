-- An item that is answered by its call has run whole by then.
use Rattle.std.proofs.Common.{◌≡◌, ◌⊎◌, ℕ, List, [], ◌∷◌, ◌++◌, append-nil, slice_get, Option, Some, None, inl, inr, refl, sym, ap, subst, ◌∙◌}
use Rattle.client_call.specs.Calls.{call_of}
use Rattle.client_call.specs.declared.call.Call.{Call}
use Rattle.client_call.specs.declared.call.Going.{Going}
use Rattle.client_node.specs.declared.client.Client.{Client}
use Rattle.client_node.specs.declared.phase.Phase.{Phase}
use Rattle.client_node.specs.Phases.{client_step, lasting_of}
use Rattle.client_running.specs.Opens.{call_at}
use Rattle.client_serving.specs.declared.serving.Serving.{Serving}
use Rattle.core_world.specs.declared.any_node.AnyNode.{AnyNode}
use Rattle.core_world.specs.declared.any_node.AnyNode.TheVariants as any
use Rattle.file_plan.specs.declared.block_call.BlockAnswer.{BlockAnswer}
use Rattle.file_plan.specs.declared.block_call.BlockAnswer.TheVariants.{Got, Changed, Synced}
use Rattle.file_plan.specs.declared.block_call.BlockAnswer.TheVariants.{Put as Written}
use Rattle.file_plan.specs.declared.block_call.BlockCall.{BlockCall}
use Rattle.file_plan.specs.declared.block_call.BlockCall.TheVariants.{Get, Put, PutAt, Sync}
use Rattle.headline.specs.Calls.{Acts, IsCrash, IsRefusal, Stretch, answered_so, call_in, of_items, open_in, told}
use Rattle.token_protocol.specs.Basics.{In}
use Rattle.version_model.specs.declared.act.Act.{Act}
use Rattle.version_model.specs.declared.act.Act.TheVariants as act
use Rattle.version_model.specs.declared.answer.Answer.{Answer}
use Rattle.version_model.specs.declared.answer.Answer.TheVariants as answer
use Rattle.version_model.specs.declared.work.Work.{Work}
use Rattle.version_model.specs.declared.work.Work.TheVariants as work
use Rattle.world_base.specs.declared.estate.Estate.{Estate}
use Rattle.world_base.specs.declared.event.Event.{Event}
use Rattle.world_base.specs.Events.{node_of, what_of}
use Rattle.world_base.specs.Items.{items_of}
use Rattle.run_laws.proofs.world_law.Sent.{in_append}
use Rattle.headline.specs.Moments.{moment, node_named}
use Rattle.client_node.specs.declared.phase.Phase.TheVariants.{Serving as Serves}
use Rattle.serving_moves.proofs.item_moves.Keeping.{one_number}
use Rattle.xfs_base.specs.declared.node.NodeId.{NodeId}
use Rattle.xfs_base.specs.declared.node.NodeId.TheVariants as nodes
use Rattle.node_base.specs.Beginning.{work_at}
use Rattle.run_answers.proofs.act_law.Runs.{begins_next}
use Rattle.run_answers.proofs.once_law.Runs.{Known, node_known}
use Rattle.run_answers.proofs.own_law.Runs.{runs_act}
use Rattle.run_answers.proofs.own_law.Since.{each_has_run, one_client}
use Rattle.run_answers.proofs.own_law.Whole.{forget}
use Rattle.headline.specs.Items.{asked_at}
use Rattle.run_answers.specs.own_law.Answered.{EachCallIsAnswered}
use Rattle.headline.specs.ItemActs.{HasRun, IsItsCall, IsOfCall}
use Rattle.headline.specs.Calls.Acts.{Rests, Passes, AtOnce, GoesOn, Begins, Loses, Falls, Stops, Returns}
use Rattle.headline.specs.Standings.{IsRestart}
use Rattle.headline.specs.Calls.Stretch.{Waits, Told, Finishes}

one_going : (a b : Going) → Some a ≡ Some b → a ≡ b
one_going a b fact = cc

no_going : (a : Going) → None ≡ Some a → ⊥
no_going a fact = cc

-- it is the one that is answered so
pub record IsIt (item : ℕ) (a : Answer) (open_item : Option ℕ) (x : Answer) : Type 0 where
  pub same : open_item ≡ Some item
  pub answer : x ≡ a

pub is_it : (client item : ℕ) (a : Answer) (o : Option ℕ) (x : Answer) → In (act.Answered (nodes.Client client) item a) (answered_so (nodes.Client client) o x)
    → IsIt item a o x
is_it client item a None x among = absurd among
is_it client item a (Some n) x (inl e) = (let one : n ≡ item = cc in let two : x ≡ a = cc in record { same = ap Some one; answer = two })
is_it client item a (Some n) x (inr among) = absurd among

-- what an answer to a call on blocks tells of answers no item
pub told_no : (client item : ℕ) (a : Answer) (step : BlockCall) (x : BlockAnswer) → In (act.Answered (nodes.Client client) item a) (told client step x) → ⊥
told_no client item a (Get block) (Got ver value) (inl e) = cc
told_no client item a (Put block value) (Written ver) (inl e) = cc
told_no client item a (PutAt block named value) (Written ver) (inl e) = cc
told_no client item a Sync Synced (inl e) = cc
told_no client item a (Get block) (Got ver value) (inr among) = among
told_no client item a (Put block value) (Written ver) (inr among) = among
told_no client item a (PutAt block named value) (Written ver) (inr among) = among
told_no client item a Sync Synced (inr among) = among
told_no client item a (Get block) (Written ver) among = among
told_no client item a (Get block) Changed among = among
told_no client item a (Get block) Synced among = among
told_no client item a (Put block value) (Got ver v) among = among
told_no client item a (Put block value) Changed among = among
told_no client item a (Put block value) Synced among = among
told_no client item a (PutAt block named value) (Got ver v) among = among
told_no client item a (PutAt block named value) Changed among = among
told_no client item a (PutAt block named value) Synced among = among
told_no client item a Sync (Got ver v) among = among
told_no client item a Sync (Written ver) among = among
told_no client item a Sync Changed among = among

pub ends_it : {client item : ℕ} (a : Answer) {o : Option ℕ} {g : Going} {acts : List Act} {after : Option Call} → Stretch client o g acts after
    → In (act.Answered (nodes.Client client) item a) acts → (o ≡ Some item) × (after ≡ None)
ends_it a (Waits p q) among = absurd among
ends_it {client} {item} a {o} {after = after} (Told {call = call} {acts = rest} x fits st) among =
    by (λ later. ends_it a st later) (in_append (told client call.step x) rest (act.Answered (nodes.Client client) item a) among)
  where
    by : (In (act.Answered (nodes.Client client) item a) rest → (o ≡ Some item) × (after ≡ None))
        → In (act.Answered (nodes.Client client) item a) (told client call.step x) ⊎ In (act.Answered (nodes.Client client) item a) rest
        → (o ≡ Some item) × (after ≡ None)
    by behind (inl first) = absurd (told_no client item a call.step x first)
    by behind (inr later) = behind later
ends_it {client} {item} a {o} (Finishes x) among = ((is_it client item a o x among).same, refl)

-- ---- one event

module _ (e : Estate AnyNode) (count : ℕ) (event : Event) (happens : slice_get e.events count ≡ Some event) (client : ℕ)
    (named : nodes.Client client ≡ node_of event) (c : Client) (there : node_named (moment e count) (node_of event) ≡ Some (any.Client c)) (item : ℕ) (a : Answer)
    (of_call : IsOfCall a) (its : IsItsCall (asked_at (items_of e.script.lines (nodes.Client client)) item) item client) where
  known : Known e (node_of event) (any.Client c)
  known = node_known e count (node_of event) (any.Client c) there

  asked : (n : ℕ) (w : Option Work) → work_at (lasting_of c.phase).items n ≡ w → n ≡ item → w ≡ Some its.wanted
  asked n w at same =
      sym at ∙ (ap (λ (ws : List Work). asked_at ws n) (known.works ∙ ap (items_of e.script.lines) (sym named))
      ∙ (ap (asked_at (items_of e.script.lines (nodes.Client client))) same ∙ its.asks))

  -- neither a crash nor a restart is a call
  no_crash : (w : Work) (g : Going) → call_of w item client ≡ Some g → IsCrash (Some w) → ⊥
  no_crash (work.Crash node) g makes is = cc
  no_crash _ g makes is = is

  no_restart : (w : Work) (g : Going) → call_of w item client ≡ Some g → IsRestart (Some w) → ⊥
  no_restart (work.Restart node) g makes is = cc
  no_restart _ g makes is = is

  refused : (x : Answer) → IsRefusal x → x ≡ a → ⊥
  refused answer.Busy so same = subst IsOfCall (sym same) of_call
  refused answer.Down so same = subst IsOfCall (sym same) of_call
  refused answer.Up so same = subst IsOfCall (sym same) of_call
  refused _ so same = so

  abbrev Its : List Act → Type 0
  Its acts = In (act.Answered (nodes.Client client) item a) acts

  abbrev Whole : List Act → Type 0
  Whole acts = HasRun e client item (moment e count).acts acts None

  number : (lasting_of c.phase).number ≡ client
  number = one_client (lasting_of c.phase).number client (known.named ∙ sym named)

  makes_here : (n : ℕ) (s : Serving) (w : Option Work) (o : Option Going) → n ≡ item → Serves s ≡ c.phase → w ≡ Some its.wanted → call_at s n w ≡ o
      → o ≡ Some its.going
  makes_here n s w o same is asks made =
      sym made ∙ (ap (call_at s n) asks ∙ (ap (λ (k : ℕ). call_of its.wanted k s.lasting.number) same
      ∙ (ap (call_of its.wanted item) (ap (λ (p : Phase). (lasting_of p).number) is ∙ number) ∙ its.makes)))

  no_cut : (x : Answer) (o : Option ℕ) → (IsOfCall x → ⊥) → In (act.Answered (nodes.Client client) item a) (answered_so (nodes.Client client) o x) → ⊥
  no_cut x o none among = none (subst IsOfCall (sym (is_it client item a o x among).answer) of_call)

  -- it is cut, or is the item by which the client falls
  no_fall : (n : ℕ) (w : Option Work) (o : Option ℕ) → work_at (lasting_of c.phase).items n ≡ w → IsCrash w
      → Its (answered_so (nodes.Client client) o answer.Cut ++ act.Answered (nodes.Client client) n answer.Done ∷ []) → ⊥
  no_fall n w o at crash among =
      by (in_append (answered_so (nodes.Client client) o answer.Cut) (act.Answered (nodes.Client client) n answer.Done ∷ []) (act.Answered (nodes.Client client) item a) among)
    where
      by : Its (answered_so (nodes.Client client) o answer.Cut) ⊎ Its (act.Answered (nodes.Client client) n answer.Done ∷ []) → ⊥
      by (inl cut) = no_cut answer.Cut o (λ no_way. no_way) cut
      by (inr done) =
          let same : n ≡ item = one_number n item (is_it client item a (Some n) answer.Done done).same in
          no_crash its.wanted its.going its.makes (subst IsCrash (asked n w at same) crash)

  run_so : (q : Phase) (acts : List Act) → Acts client c.phase (what_of event) acts q → Its acts → Whole acts
  run_so q acts (Rests x y) among = absurd among
  run_so q acts (Passes {s = s} n wanted same b f made calls items) among =
      let nq : n ≡ item = one_number n item (is_it client item a (Some n) answer.Done among).same in
      absurd (no_going its.going (makes_here n s wanted None nq (sym same) (asked n wanted b.asks nq) made))
  run_so q acts (AtOnce n wanted x refuses b calls items) among =
      absurd (refused x refuses (is_it client item a (Some n) x among).answer)
  run_so q acts (GoesOn call at stays drains here) among =
      let st = forget client here in
      let end = ends_it a st among in
      let h = (each_has_run e).1 count client c (ap (node_named (moment e count)) named ∙ there) call at acts (call_in q) st in
      let same : h.0 ≡ item = one_number h.0 item (sym h.1.0 ∙ end.0) in
      subst (λ (i : ℕ). HasRun e client i (moment e count).acts acts None) same
      (subst (λ (o : Option Call). HasRun e client h.0 (moment e count).acts acts o) end.1 h.1.1)
  run_so q acts (Begins {s = s} n wanted going same b free made stays drains here) among =
      let st = forget client here in
      let end = ends_it a st among in
      let nq : n ≡ item = one_number n item end.0 in
      let gq : going ≡ its.going = one_going going its.going (makes_here n s wanted (Some going) nq (sym same) (asked n wanted b.asks nq) made) in
      record {
        wanted = its.wanted;
        asks = its.asks;
        going = its.going;
        makes = its.makes;
        first = (moment e count).acts;
        since = [];
        all = sym (append-nil (moment e count).acts);
        begins = begins_next e count event happens c client named there b.begins item (b.next ∙ ap Some nq);
        run = subst (λ (g : Going). Stretch client (Some item) g acts None) gq
            (subst (λ (k : ℕ). Stretch client (Some k) going acts None) nq (subst (λ (o : Option Call). Stretch client (Some n) going acts o) end.1 st));
      }
  run_so q acts (Loses name over none) among = absurd (no_cut (answer.Lost name) (open_in c.phase) (λ no_way. no_way) among)
  run_so q acts (Falls n wanted flight falls s b cr f) (inl same) = absurd (let clash = same in cc)
  run_so q acts (Falls n wanted flight falls s b cr f) (inr among) = absurd (no_fall n wanted (open_in c.phase) b.asks cr among)
  run_so q acts (Stops n wanted o b cr f) among = absurd (no_fall n wanted (open_in c.phase) b.asks cr among)
  run_so q acts (Returns chain o s over none) (inl same) = absurd (let clash = same in cc)
  run_so q acts (Returns chain o s over none) (inr among) =
      let fact : open_in c.phase ≡ Some item = (is_it client item a (open_in c.phase) answer.Done among).same in
      absurd (no_restart its.wanted its.going its.makes
      (subst IsRestart (ap (λ (n : NodeId). asked_at (items_of e.script.lines n) item) (sym named) ∙ its.asks)
      ((runs_act e).opening count (node_of event) c there o item fact)))

  answered_so_far : Its (of_items (client_step c (what_of event)).acts) → Whole (of_items (client_step c (what_of event)).acts)
  answered_so_far among =
      run_so (client_step c (what_of event)).node.phase (of_items (client_step c (what_of event)).acts)
      (subst (λ (n : ℕ). Acts n c.phase (what_of event) (of_items (client_step c (what_of event)).acts) (client_step c (what_of event)).node.phase) number
      ((runs_act e).events count event happens c there).acts) among

pub each_answered : EachCallIsAnswered
each_answered e count event happens client named c there item a of_call among its =
    answered_so_far e count event happens client named c there item a of_call its among
