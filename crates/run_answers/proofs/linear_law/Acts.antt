-- In every run each act of blocks is of an open call, and the answer of a call is the end of its course.
use Rattle.std.proofs.Common.{◌≡◌, ◌⊎◌, ◌<◌, ◌≤◌, ℕ, suc, true, false, Bool, cond, List, [], ◌∷◌, ◌++◌, append-nil, append_assoc, slice_get, Option, Some, None, inl, inr, refl, sym, ap, subst, ◌∙◌, arith}
use Rattle.client_call.specs.Calls.{call_of}
use Rattle.client_call.specs.declared.call.Call.{Call}
use Rattle.client_call.specs.declared.call.Going.{Going}
use Rattle.client_call.specs.declared.call.Going.TheVariants.{On}
use Rattle.client_node.specs.declared.client.Client.{Client}
use Rattle.client_node.specs.declared.phase.Phase.{Phase}
use Rattle.client_node.specs.declared.phase.Phase.TheVariants.{Serving as Serves}
use Rattle.client_node.specs.Phases.{client_step, lasting_of}
use Rattle.client_running.specs.Opens.{call_at}
use Rattle.client_serving.specs.declared.serving.Serving.{Serving}
use Rattle.core_world.specs.declared.any_node.AnyNode.{AnyNode}
use Rattle.core_world.specs.declared.any_node.AnyNode.TheVariants as any
use Rattle.node_base.specs.Beginning.{next_item}
use Rattle.serving_moves.proofs.item_moves.Keeping.{next_is}
use Rattle.token_protocol.specs.Basics.{In}
use Rattle.version_model.specs.declared.act.Act.{Act}
use Rattle.version_model.specs.declared.act.Act.TheVariants as act
use Rattle.version_model.specs.declared.answer.Answer.{Answer}
use Rattle.version_model.specs.declared.answer.Answer.TheVariants as answer
use Rattle.version_model.specs.declared.work.Work.{Work}
use Rattle.world_base.specs.declared.estate.Estate.{Estate}
use Rattle.world_base.specs.declared.event.Event.{Event}
use Rattle.world_base.specs.Events.{node_of, what_of}
use Rattle.world_base.specs.Items.{items_of}
use Rattle.headline.specs.Moments.{acts_in, moment, node_named}
use Rattle.xfs_base.specs.declared.node.NodeId.TheVariants as nodes
use Rattle.run_answers.proofs.act_law.Telling.{in_behind}
use Rattle.run_answers.proofs.linear_law.Courses.{Coursed, Made, coursed, going_of, made_of}
use Rattle.run_answers.proofs.linear_law.Stretches.{AnswersLast, in_items, items_split, stretch_last}
use Rattle.run_answers.proofs.linear_law.Turns.{ClientTurn, answered_has_begun, began_before, begins_in, clients_turn, named_turn}
use Rattle.run_answers.proofs.once_law.Runs.{Known, left_at, node_known, unanswered_both}
use Rattle.run_answers.proofs.own_law.Answered.{each_answered}
use Rattle.run_answers.proofs.own_law.Runs.{runs_act}
use Rattle.run_answers.proofs.own_law.Since.{each_has_run, one_client}
use Rattle.run_answers.proofs.own_law.Single.{NoneOfBlocks, answers_none, no_such, stretch_by}
use Rattle.run_answers.proofs.own_law.Whole.{blocks_then, forget, of_items_same}
use Rattle.headline.specs.Items.{IsUnanswered, ItemsAnsweredOnce, asked_at}
use Rattle.headline.specs.Linear.{ActsAreOfCalls, AnswersEndCourses, BeginsIn, DoesCall, HasDone, IsOfOpenCall, asked}
use Rattle.headline.specs.Courses.{Course, Doing}
use Rattle.headline.specs.ItemActs.{HasRun, IsBy, IsOfBlocks, IsOfCall, blocks_by, is_block_of}
use Rattle.headline.specs.Calls.{Acts, IsClients, Stretch, answered_so, call_in, is_of_items, of_items, open_in}
use Rattle.headline.specs.Calls.Acts.{Rests, Passes, AtOnce, GoesOn, Begins, Loses, Falls, Stops, Returns}

-- an act of blocks is one of a client, and of an item
blocks_are_clients : (a : Act) → IsOfBlocks a → IsClients a
blocks_are_clients (act.Wrote c block value) is = tt
blocks_are_clients (act.Read c block ver value) is = tt
blocks_are_clients (act.Synced c) is = tt
blocks_are_clients _ is = absurd is

blocks_are_items : (a : Act) → IsOfBlocks a → is_of_items a ≡ true
blocks_are_items (act.Wrote c block value) is = refl
blocks_are_items (act.Read c block ver value) is = refl
blocks_are_items (act.Synced c) is = refl
blocks_are_items _ is = absurd is

-- its acts of blocks have no others among them
blocks_again : (client : ℕ) (acts : List Act) → blocks_by client (blocks_by client acts) ≡ blocks_by client acts
blocks_again client [] = refl
blocks_again client (a ∷ acts) = by (blocks_again client acts) (is_block_of client a) refl
  where
    by : blocks_by client (blocks_by client acts) ≡ blocks_by client acts → (t : Bool) → is_block_of client a ≡ t
        → blocks_by client (cond t (a ∷ blocks_by client acts) (blocks_by client acts)) ≡ cond t (a ∷ blocks_by client acts) (blocks_by client acts)
    by more true is =
        ap (λ (t : Bool). cond t (a ∷ blocks_by client (blocks_by client acts)) (blocks_by client (blocks_by client acts))) is
        ∙ ap (λ (xs : List Act). a ∷ xs) more
    by more false is = more

module _ (e : Estate AnyNode) (count : ℕ) (event : Event) (happens : slice_get e.events count ≡ Some event) (t : ClientTurn e count event) (client : ℕ)
    (named : nodes.Client client ≡ node_of event) where
  abbrev c : Client
  c = t.client

  abbrev new : List Act
  new = (client_step c (what_of event)).acts

  here : node_named (moment e count) (nodes.Client client) ≡ Some (any.Client c)
  here = ap (node_named (moment e count)) named ∙ t.there

  known : Known e (node_of event) (any.Client c)
  known = node_known e count (node_of event) (any.Client c) t.there

  -- ---- from a stretch since an item began to the course of its call

  -- since an item began its call has run so, with these acts of this event
  record Ran (item : ℕ) (acts : List Act) : Type 0 where
    wanted : Work
    asks : asked e client item ≡ Some wanted
    going : Going
    makes : call_of wanted item client ≡ Some going
    place : ℕ
    before : place < suc count
    begins : BeginsIn e client item place
    since : List Act
    all : (moment e count).acts ≡ (moment e place).acts ++ since
    after : Option Call
    run : Stretch client (Some item) going (blocks_by client since ++ acts) after

  ran_on : (item : ℕ) (acts : List Act) (after : Option Call) (h : HasRun e client item (moment e count).acts acts after) → h.begins.count < suc count
      → Ran item acts
  ran_on item acts after h before = record {
    wanted = h.wanted;
    asks = h.asks;
    going = h.going;
    makes = h.makes;
    place = h.begins.count;
    before = before;
    begins = record { happens = h.begins.happens; node = h.begins.node; its = h.begins.its; next = h.begins.next };
    since = h.since;
    all = h.all ∙ ap (λ (xs : List Act). xs ++ h.since) h.begins.before;
    after = after;
    run = h.run;
  }

  -- the item is answered by then, or not yet
  record Ended (item : ℕ) : Type 0 where
    answer : Option Answer
    done : HasDone e client item (suc count) answer
    told : (n : ℕ) (a : Answer) → In (act.Answered (nodes.Client client) n a) (of_items new) → answer ≡ Some a

  ended : (item : ℕ) → Ran item (of_items new) → Ended item
  ended item r = record {
    answer = k.answer;
    done = record {
      does = made.does;
      call = record { wanted = r.wanted; asks = r.asks; call = made.call };
      place = r.place;
      before = r.before;
      begins = r.begins;
      since = r.since ++ new;
      all = t.grown ∙ (ap (λ (xs : List Act). xs ++ new) r.all ∙ append_assoc (moment e r.place).acts r.since new);
      course = subst (λ (xs : List Act). Course client made.does [] xs k.answer) blocks k.course;
    };
    told = λ n a among. k.told n a (in_behind (act.Answered (nodes.Client client) n a) (blocks_by client r.since) (of_items new) among);
  }
    where
      made : Made r.wanted item client r.going
      made = made_of r.wanted item client r.going r.makes

      k : Coursed made.does client [] (blocks_by client r.since ++ of_items new)
      k = coursed made.does client made.at r.run

      blocks : blocks_by client (blocks_by client r.since ++ of_items new) ≡ blocks_by client (r.since ++ new)
      blocks =
          blocks_then client (blocks_by client r.since) (of_items new)
          ∙ (ap (λ (xs : List Act). xs ++ blocks_by client (of_items new)) (blocks_again client r.since)
          ∙ (ap (λ (xs : List Act). blocks_by client r.since ++ xs) (of_items_same client new) ∙ sym (blocks_then client r.since new)))

  -- ---- one event

  -- These acts are of the call of an item that none before answers.
  record OfCall (acts : List Act) : Type 0 where
    item : ℕ
    waits : IsUnanswered (moment e count).acts (nodes.Client client) item
    last : AnswersLast client acts
    by : (a : Act) → IsOfBlocks a → In a acts → IsBy client a
    ran : Ran item acts

  cut_none : (o : Option ℕ) (n : ℕ)
      → NoneOfBlocks (answered_so (nodes.Client client) o answer.Cut ++ act.Answered (nodes.Client client) n answer.Done ∷ [])
  cut_none None n = (λ is. is, tt)
  cut_none (Some item) n = (λ is. is, (λ is. is, tt))

  goes_on : (q : Phase) (acts : List Act) (call : Call) → call_in c.phase ≡ Some call → Stretch client (open_in c.phase) (On call) acts (call_in q) → OfCall acts
  goes_on q acts call at st = record {
    item = h.0;
    waits = left_at e count (nodes.Client client) (any.Client c) here h.0 (inl h.1.0);
    last = stretch_last client st;
    by = stretch_by client st;
    ran = ran_on h.0 acts (call_in q) h.1.1 (let less = before in omega arith);
  }
    where
      h : (item : ℕ) × ((open_in c.phase ≡ Some item) × HasRun e client item (moment e count).acts acts (call_in q))
      h = (each_has_run e).1 count client c here call at acts (call_in q) st

      before : h.1.1.begins.count < count
      before =
          began_before e client h.0 count h.1.1.begins.count (any.Client c) here (known.waits h.0 h.1.0)
          (record { happens = h.1.1.begins.happens; node = h.1.1.begins.node; its = h.1.1.begins.its; next = h.1.1.begins.next })

  begins_so : (q : Phase) (acts : List Act) (s : Serving) (item : ℕ) (wanted : Option Work) (going : Going) → c.phase ≡ Serves s
      → next_item (lasting_of c.phase).items ≡ Some item → asked_at (lasting_of c.phase).items.works item ≡ wanted → call_at s item wanted ≡ Some going
      → BeginsIn e client item count → Stretch client (Some item) going acts (call_in q) → OfCall acts
  begins_so q acts s item wanted going same next asks makes begins st = record {
    item = item;
    waits = left_at e count (nodes.Client client) (any.Client c) here item (inr (let one = next_is (lasting_of c.phase).items item next in omega arith));
    last = stretch_last client st;
    by = stretch_by client st;
    ran = of wanted asks makes;
  }
    where
      number : s.lasting.number ≡ client
      number = ap (λ (p : Phase). (lasting_of p).number) (sym same) ∙ one_client (lasting_of c.phase).number client (known.named ∙ sym named)

      works : (lasting_of c.phase).items.works ≡ items_of e.script.lines (nodes.Client client)
      works = known.works ∙ ap (items_of e.script.lines) (sym named)

      of : (o : Option Work) → asked_at (lasting_of c.phase).items.works item ≡ o → call_at s item o ≡ Some going → Ran item acts
      of None asks makes = absurd cc
      of (Some work) asks makes = record {
        wanted = work;
        asks = ap (λ (ws : List Work). asked_at ws item) (sym works) ∙ asks;
        going = going;
        makes = ap (call_of work item) (sym number) ∙ makes;
        place = count;
        before = omega arith;
        begins = begins;
        since = [];
        all = sym (append-nil (moment e count).acts);
        after = call_in q;
        run = st;
      }

  -- the acts of an event are of one call, or none of them is of blocks
  one_call : (q : Phase) (acts : List Act) → Acts client c.phase (what_of event) acts q → OfCall acts ⊎ NoneOfBlocks acts
  one_call q acts (Rests x y) = inr tt
  one_call q acts (Passes n wanted same b free made calls items) = inr (λ is. is, tt)
  one_call q acts (AtOnce n wanted x refuses b calls items) = inr (λ is. is, tt)
  one_call q acts (GoesOn call at stays drains st) = inl (goes_on q acts call at (forget client st))
  one_call q acts (Begins {s = s} n wanted going same b free made stays drains st) =
      inl (begins_so q acts s n wanted going same b.next b.asks made (begins_in e count event happens client named c t.there b.begins n b.next) (forget client st))
  one_call q acts (Loses name over none) = inr (answers_none (nodes.Client client) (open_in c.phase) (answer.Lost name))
  one_call q acts (Falls n wanted flight falls s b crash f) = inr (λ is. is, cut_none (open_in c.phase) n)
  one_call q acts (Stops n wanted o b crash f) = inr (cut_none (open_in c.phase) n)
  one_call q acts (Returns chain o s over none) = inr (λ is. is, answers_none (nodes.Client client) (open_in c.phase) answer.Done)

  acts_so : Acts client c.phase (what_of event) (of_items new) (client_step c (what_of event)).node.phase
  acts_so =
      subst (λ (n : ℕ). Acts n c.phase (what_of event) (of_items new) (client_step c (what_of event)).node.phase)
      (one_client (lasting_of c.phase).number client (known.named ∙ sym named)) ((runs_act e).events count event happens c t.there).acts

  -- ---- what is said of it

  -- an act of blocks in it, among these acts of it
  of_open : (before behind : List Act) (a : Act) → IsOfBlocks a → acts_in (moment e count) event ≡ before ++ a ∷ behind
      → IsOfOpenCall e count event ((moment e count).acts ++ before) a
  of_open before behind a is at = by (one_call (client_step c (what_of event)).node.phase (of_items new) acts_so)
    where
      split : of_items new ≡ of_items before ++ a ∷ of_items behind
      split = ap of_items (sym t.acts ∙ at) ∙ items_split before behind a (blocks_are_items a is)

      among : In a (of_items new)
      among = subst (In a) (sym split) (in_behind a (of_items before) (a ∷ of_items behind) (inl refl))

      by : OfCall (of_items new) ⊎ NoneOfBlocks (of_items new) → IsOfOpenCall e count event ((moment e count).acts ++ before) a
      by (inr none) = absurd (no_such (of_items new) none a is among)
      by (inl k) = (let end = ended k.item k.ran in record {
        client = client;
        own = named;
        by = k.by a is among;
        item = k.item;
        waits = unanswered_both (moment e count).acts before (nodes.Client client) k.item k.waits
            (λ x found. k.last (of_items before) (of_items behind) a is split k.item x
            (in_items (act.Answered (nodes.Client client) k.item x) refl before found));
        answer = end.answer;
        done = end.done;
      })

  -- an answer of a call in it
  of_answer : (item : ℕ) (a : Answer) → IsOfCall a → In (act.Answered (nodes.Client client) item a) (acts_in (moment e count) event) → (does : Doing)
      → DoesCall e client item does → HasDone e client item (suc count) (Some a)
  of_answer item a of_call among does call = subst (HasDone e client item (suc count)) (end.told item a found) end.done
    where
      of_step : In (act.Answered (nodes.Client client) item a) new
      of_step = subst (In (act.Answered (nodes.Client client) item a)) t.acts among

      found : In (act.Answered (nodes.Client client) item a) (of_items new)
      found = in_items (act.Answered (nodes.Client client) item a) refl new of_step

      its : (g : Going) × (call_of call.wanted item client ≡ Some g)
      its = going_of call.wanted item client does call.call

      h : HasRun e client item (moment e count).acts (of_items new) None
      h =
          each_answered e count event happens client named c t.there item a of_call found
          (record { wanted = call.wanted; asks = call.asks; going = its.0; makes = its.1 })

      begun : item ≤ (lasting_of (client_step c (what_of event)).node.phase).items.begun
      begun = answered_has_begun (any.Client c) (what_of event) known.waits (nodes.Client client) item a of_step

      before : h.begins.count < suc count
      before =
          began_before e client item (suc count) h.begins.count (any.Client (client_step c (what_of event)).node)
          (ap (node_named (moment e (suc count))) named ∙ t.behind) begun
          (record { happens = h.begins.happens; node = h.begins.node; its = h.begins.its; next = h.begins.next })

      end : Ended item
      end = ended item (ran_on item (of_items new) None h before)

pub acts_are : (e : Estate AnyNode) → ActsAreOfCalls e
acts_are e count event happens before behind a is at =
    let t : ClientTurn e count event =
    clients_turn e count event happens a (subst (In a) (sym at) (in_behind a before (a ∷ behind) (inl refl))) (blocks_are_clients a is) in
    of_open e count event happens t (lasting_of t.client.phase).number (node_known e count (node_of event) (any.Client t.client) t.there).named before behind a is at

pub answers_are : (e : Estate AnyNode) → ItemsAnsweredOnce e → AnswersEndCourses e
answers_are e once count event happens client item a of_call among does call =
    let own : nodes.Client client ≡ node_of event = (once.own count event happens (nodes.Client client) item a among).own in
    of_answer e count event happens (named_turn e count event happens (act.Answered (nodes.Client client) item a) among client own) client own item a of_call
    among does call
