-- The run, moment by moment: no call is open, or one is, and the machine has come as far.
use Rattle.std.proofs.Common.{true≢false, ◌≡◌, ◌≤◌, ◌⊎◌, ℕ, zero, suc, Bool, true, false, List, [], ◌∷◌, ◌++◌, inl, inr, length, slice_get, Option, Some, None, refl, sym, ap, subst, ◌∙◌}
use Rattle.std.specs.List.{AllByRecursion}
use Rattle.client_call.specs.Calls.{call_of}
use Rattle.client_call.specs.declared.call.Call.{Call}
use Rattle.client_call.specs.declared.call.Going.{Going}
use Rattle.client_call.specs.declared.call.Going.TheVariants.{On}
use Rattle.client_node.specs.declared.client.Client.{Client}
use Rattle.client_node.specs.declared.phase.Phase.{Phase}
use Rattle.client_node.specs.Phases.{client_step, lasting_of}
use Rattle.client_running.specs.Opens.{call_at}
use Rattle.core_world.specs.AnyNode.{any_start, any_step}
use Rattle.core_world.specs.declared.any_node.AnyNode.{AnyNode}
use Rattle.core_world.specs.declared.any_node.AnyNode.TheVariants as any
use Rattle.file_plan.proofs.Versions.{reads_again}
use Rattle.file_plan.specs.declared.block_call.BlockAnswer.{BlockAnswer}
use Rattle.file_plan.specs.Driving.{World, nothing_written}
use Rattle.headline.specs.Calls.{EventStretch, IsClients, ItemStays, call_in, held_in, of_items, open_in}
use Rattle.headline.specs.Changes.{CallsFind, CallsFindVersions, FoundStretch}
use Rattle.headline.specs.Courses.{Doing}
use Rattle.headline.specs.InLine.{answers_in}
use Rattle.headline.specs.ItemActs.{ClientsActForItems, IsClientsEvent, IsOfCall}
use Rattle.headline.specs.Items.{IsOwnItem, ItemsAnsweredOnce, asked_at, name_in}
use Rattle.headline.specs.Linear.{DoesCall}
use Rattle.headline.specs.Moments.{acts_in, moment, node_named}
use Rattle.headline.specs.OneMachine.{AreCalls, AreDone, BeginsAlone, NoneIsOpen}
use Rattle.headline.specs.Restarts.{NoDoubtfulRestart}
use Rattle.headline.specs.Standings.{standing}
use Rattle.headline.specs.Standings.Standing.{Serves as Stood_up}
use Rattle.log_tie.proofs.Listings.{in_back}
use Rattle.one_machine.specs.Trees.{AreFit}
use Rattle.run_answers.proofs.act_law.Runs.{moment_past}
use Rattle.run_answers.proofs.linear_law.Courses.{At, Made, made_of}
use Rattle.run_answers.proofs.once_law.Runs.{Known, node_known}
use Rattle.run_laws.proofs.world_reads.Taking.{NothingHappens, Took, moment_next, takes_or_not}
use Rattle.token_protocol.specs.Basics.{In}
use Rattle.version_model.specs.declared.act.Act.{Act}
use Rattle.version_model.specs.declared.act.Act.TheVariants as act
use Rattle.version_model.specs.declared.answer.Answer.{Answer}
use Rattle.version_model.specs.declared.work.Work.{Work}
use Rattle.version_model.specs.Legal.{AreLegal, AreLegalFrom}
use Rattle.version_model.specs.History.{nothing_yet}
use Rattle.wire_msg.specs.declared.packet.Do.{Do}
use Rattle.wire_msg.specs.declared.packet.Do.TheVariants as whats
use Rattle.world_base.specs.declared.estate.Estate.{Estate}
use Rattle.world_base.specs.declared.event.Event.{Event}
use Rattle.world_base.specs.declared.event.Event.TheVariants.{Begin, Deliver, Tick}
use Rattle.world_base.specs.declared.world.World.{World as Run}
use Rattle.world_base.specs.Events.{node_of, what_of}
use Rattle.world_base.specs.Items.{items_of}
use Rattle.world_base.specs.Runs.{IsRun}
use Rattle.quiet_flow.proofs.Places.{not_same}
use Rattle.xfs_base.proofs.NodeOrder.{same_node_is}
use Rattle.xfs_base.specs.declared.node.NodeId.{NodeId}
use Rattle.xfs_base.specs.declared.node.NodeId.TheVariants as nodes
use Rattle.xfs_base.specs.Limits.{max_lines}
use Rattle.xfs_base.specs.Nodes.{same_node}
use Rattle.run_text.proofs.Acts.{all_items, calls_items, each_done, is_of_calls, item_among, legal_behind, of_calls}
use Rattle.run_text.proofs.CallEvents.{IsTurn, turn}
use Rattle.run_text.proofs.CallFinding.{beginning_finds, going_finds, reads_once}
use Rattle.run_text.proofs.CallItems.{IsAskedFor, asked_for, caller}
use Rattle.run_text.proofs.CallMoments.{GivesAll, HasNoCall, Stood, all_named, its_acts, its_behind, its_there, legal_of_items, same_named, stood_done, stood_on, stood_still}
use Rattle.run_text.proofs.CallStates.{RestsAt, State, WaitsAt, as_was, first_state, rests_still, waits_still}
use Rattle.run_text.proofs.Driven.{Comes, Reaches, at_start, behind, comes}
use Rattle.run_text.proofs.Moments.{acts_then, last_moment, stays}
use Rattle.run_text.proofs.Serving.{IsNoReturn}

-- a node is a client or not
record IsOther (x : AnyNode) : Type 0 where
  apart : (c : Client) → x ≡ any.Client c → ⊥
  names : (number : ℕ) → name_in x ≡ nodes.Client number → ⊥
  free : HasNoCall x

client_or_not : (x : AnyNode) → ((c : Client) × (x ≡ any.Client c)) ⊎ IsOther x
client_or_not (any.Client c) = inl (c, refl)
client_or_not (any.Manager m) = inr (record { apart = λ c is. cc; names = λ number is. cc; free = tt })
client_or_not (any.Server v) = inr (record { apart = λ c is. cc; names = λ number is. cc; free = tt })
client_or_not (any.Cleaner d) = inr (record { apart = λ c is. cc; names = λ number is. cc; free = tt })
client_or_not (any.Registry r) = inr (record { apart = λ c is. cc; names = λ number is. cc; free = tt })

-- and stays what it is
others_after : (x : AnyNode) (what : Do) → IsOther x → HasNoCall (any_step x what).node
others_after (any.Client c) what other = absurd (other.apart c refl)
others_after (any.Manager m) what other = tt
others_after (any.Server v) what other = tt
others_after (any.Cleaner d) what other = tt
others_after (any.Registry r) what other = tt

one_node : (a b : AnyNode) → Some a ≡ Some b → a ≡ b
one_node a b fact = cc

one_call : (a b : Call) → Some a ≡ Some b → a ≡ b
one_call a b fact = cc

one_client : (a b : Client) → any.Client a ≡ any.Client b → a ≡ b
one_client a b fact = cc

one_number : (a b : ℕ) → nodes.Client a ≡ nodes.Client b → a ≡ b
one_number a b fact = cc

no_call : (call : Call) → None ≡ Some call → ⊥
no_call call fact = cc

no_going : (g : Going) → None ≡ Some g → ⊥
no_going g fact = cc

no_item : (item : ℕ) → None ≡ Some item → ⊥
no_item item fact = cc

begin_is : (event : Event) → what_of event ≡ whats.Begin → event ≡ Begin (node_of event)
begin_is (Begin node) fact = refl
begin_is (Deliver packet) fact = absurd cc
begin_is (Tick node) fact = absurd cc

module _ (e : Estate AnyNode) (run : IsRun any_step any_start e.script e.events e.world) (calls : AreCalls e.script.lines) (fit : AreFit e.script.lines)
    (few : length e.script.lines ≤ max_lines) (done : AreDone e.world.acts) (alone : BeginsAlone e) (own : ClientsActForItems e) (once : ItemsAnsweredOnce e)
    (serve : (count : ℕ) (name : NodeId) (x : AnyNode) → node_named (moment e count) name ≡ Some x → standing x ≡ Stood_up)
    (legal : (count : ℕ) → AreLegal (moment e count).acts) (undoubted : (count : ℕ) → NoDoubtfulRestart e count) (finds : CallsFindVersions e) where
  abbrev acts_at : ℕ → List Act
  acts_at count = (moment e count).acts

  module _ (count : ℕ) (event : Event) (happens : slice_get e.events count ≡ Some event) where
    abbrev xs : List Act
    xs = acts_in (moment e count) event

    then_ : acts_at (suc count) ≡ acts_at count ++ xs
    then_ = acts_then e count event happens

    its_done : (node : NodeId) (item : ℕ) (x : Answer) → In (act.Answered node item x) xs → IsOfCall x
    its_done node item x among =
        each_done e.world.acts done node item x
        (stays e run (suc count) (act.Answered node item x) (subst (In (act.Answered node item x)) (sym then_) (in_back (act.Answered node item x) (acts_at count) xs among)))

    none_open : what_of event ≡ whats.Begin → NoneIsOpen (moment e count)
    none_open begins = alone count (node_of event) (happens ∙ ap Some (begin_is event begins))

    still_open : (s : WaitsAt e count) → what_of event ≡ whats.Begin → ⊥
    still_open s begins = no_item s.item (sym (none_open begins (nodes.Client s.client) (any.Client s.c) s.there) ∙ s.opened)

    -- ---- a node takes it

    module _ (x : AnyNode) (took : Took (moment e count) event x) where
      abbrev after : AnyNode
      after = (any_step x (what_of event)).node

      here : node_named (moment e count) (node_of event) ≡ Some x
      here = its_there e count event happens x took

      known : Known e (node_of event) x
      known = node_known e count (node_of event) x here

      -- ---- one that is no client

      module _ (other : IsOther x) where
        no_clients : (a : Act) → IsClients a → In a xs → ⊥
        no_clients a is among = by (own.own count event happens a is among)
          where
            by : (c : Client) × IsClientsEvent e count event c → ⊥
            by (c, its) = other.apart c (one_node x (any.Client c) (sym here ∙ its.there))

        no_answers : (node : NodeId) (item : ℕ) (a : Answer) → In (act.Answered node item a) xs → ⊥
        no_answers node item a among =
            let o : IsOwnItem e count event node item = once.own count event happens node item a among in
            let asked : IsAskedFor e.script.lines calls fit node item = asked_for e.script.lines calls fit node item o.above o.there in
            let whose = caller asked.its asked.call.called in
            let same : node ≡ nodes.Client whose.0 = one_name node (nodes.Client whose.0) (sym asked.call.actor ∙ whose.1) in
            other.names whose.0 (known.named ∙ (sym o.own ∙ same))
          where
            one_name : (a b : NodeId) → Some a ≡ Some b → a ≡ b
            one_name a b fact = cc

        first : (y : Act) → is_of_calls y ≡ true → In y xs → ⊥
        first (act.Wrote client block value) its among = no_clients (act.Wrote client block value) tt among
        first (act.Read client block ver value) its among = no_clients (act.Read client block ver value) tt among
        first (act.Synced client) its among = no_clients (act.Synced client) tt among
        first (act.Fell client flight falls) its among = no_clients (act.Fell client flight falls) tt among
        first (act.Back client chain) its among = no_clients (act.Back client chain) tt among
        first (act.Answered node item a) its among = no_answers node item a among
        first (act.Filed seg) its among = true≢false (sym its)
        first (act.Dropped seg) its among = true≢false (sym its)
        first (act.Lost node seg) its among = true≢false (sym its)

        no_calls : of_calls xs ≡ []
        no_calls = by (of_calls xs) refl
          where
            by : (ys : List Act) → of_calls xs ≡ ys → of_calls xs ≡ []
            by [] is = is
            by (y ∷ ys) is =
                absurd (first y (subst (λ zs. AllByRecursion (λ a. is_of_calls a ≡ true) zs) is (all_items xs)).0
                (item_among xs y (subst (In y) (sym is) (inl refl))))

        others_turn : State e count → State e (suc count)
        others_turn (inl s) = inl (rests_still e count event happens x took no_calls (others_after x (what_of event) other) s)
        others_turn (inr s) =
            inr (waits_still e count event happens x took no_calls (others_after x (what_of event) other) s
            (λ same. other.apart s.c (one_node x (any.Client s.c) (sym here ∙ (ap (node_named (moment e count)) (sym same) ∙ s.there)))))

      -- ---- a client

      module _ (c : Client) (is : x ≡ any.Client c) where
        abbrev number : ℕ
        number = (lasting_of c.phase).number

        abbrev me : NodeId
        me = nodes.Client number

        abbrev new : List Act
        new = (client_step c (what_of event)).acts

        abbrev behind_it : Phase
        behind_it = (client_step c (what_of event)).node.phase

        c_there : node_named (moment e count) (node_of event) ≡ Some (any.Client c)
        c_there = here ∙ ap Some is

        c_known : Known e (node_of event) (any.Client c)
        c_known = node_known e count (node_of event) (any.Client c) c_there

        c_behind : node_named (moment e (suc count)) (node_of event) ≡ Some (any.Client (client_step c (what_of event)).node)
        c_behind = its_behind e count event happens x took ∙ ap (λ (y : AnyNode). Some (any_step y (what_of event)).node) is

        acts_are : xs ≡ new
        acts_are = its_acts e count event happens x took ∙ ap (λ (y : AnyNode). (any_step y (what_of event)).acts) is

        items_are : of_items xs ≡ of_items new
        items_are = ap of_items acts_are

        after_is : after ≡ any.Client (client_step c (what_of event)).node
        after_is = ap (λ (y : AnyNode). (any_step y (what_of event)).node) is

        found : CallsFind number (acts_at count) c.phase (what_of event) (of_items new) behind_it
        found =
            subst (λ ys. CallsFind number (acts_at count) c.phase (what_of event) ys behind_it) items_are
            (finds count event happens (undoubted (suc count)) c (client_step c (what_of event)).node c_there c_behind)

        its_turn : IsTurn number c.phase (what_of event) (of_items new) behind_it
        its_turn =
            turn e calls fit few own once count event happens c c_there acts_are (serve count (node_of event) (any.Client c) c_there)
            (λ item a among. its_done me item a among)

        legal_here : AreLegalFrom (behind (acts_at count)) (of_items new)
        legal_here =
            subst (AreLegalFrom (behind (acts_at count))) items_are
            (legal_of_items xs (behind (acts_at count)) (legal_behind (acts_at count) xs nothing_yet (subst AreLegal then_ (legal (suc count)))))

        quiet_calls : of_items new ≡ [] → of_calls xs ≡ []
        quiet_calls none = sym (calls_items xs) ∙ ap of_calls (items_are ∙ none)

        free_then : call_in behind_it ≡ None → HasNoCall after
        free_then free = subst HasNoCall (sym after_is) free

        -- a call of it has gone on
        module _ (item : ℕ) (does : Doing) (call : DoesCall e number item does) (start table : World) (stood : Stood e.script.lines (acts_at count) start table)
            (stay : ItemStays (Some item) behind_it)
            (others : (name : NodeId) (y : AnyNode) → node_named (moment e count) name ≡ Some y → (name ≡ me → ⊥) → HasNoCall y) where
          abbrev Came : Option Call → Type 0
          Came o = Comes number item does start (behind (acts_at count)) (of_items xs) o

          others_then : (name : NodeId) (y : AnyNode) → node_named (moment e (suc count)) name ≡ Some y → (name ≡ me → ⊥) → HasNoCall y
          others_then =
              all_named e count event happens x took (λ name y. (name ≡ me → ⊥) → HasNoCall y) (λ apart. absurd (apart (sym c_known.named)))
              (λ name y differs fact apart. others name y fact apart)

          went_on : (o : Option Call) → call_in behind_it ≡ o → Came o → State e (suc count)
          went_on (Some next) calling g = inr (record {
            start = start;
            table = g.table;
            client = number;
            item = item;
            does = does;
            call = call;
            stood = subst (λ acts. Stood e.script.lines acts start g.table) (sym then_)
                (stood_on e.script.lines (acts_at count) xs start table stood number item does next g);
            c = (client_step c (what_of event)).node;
            there = ap (node_named (moment e (suc count))) c_known.named ∙ c_behind;
            opened = stay next calling;
            now = next;
            calling = calling;
            had = g.had;
            at = g.at;
            reached = g.reached;
            others = others_then;
          })
          went_on None free g = inl (record {
            table = g.table;
            stood = subst (λ acts. Stood e.script.lines acts g.table g.table) (sym then_)
                (stood_done e.script.lines (acts_at count) xs start table stood number item does g
                (record { client = number; own = refl; wanted = call.wanted; asks = call.asks; does = does; call = call.call; replied = g.replied }));
            none = all_named e count event happens x took (λ name y. HasNoCall y) (free_then free)
                (λ name y differs fact. others name y fact (λ same. differs (same ∙ c_known.named)));
          })

          goes : (had : List BlockAnswer) (g : Going) → At does had g → Reaches does start had table
              → FoundStretch number (Some item) (acts_at count) g (of_items new) (call_in behind_it) → State e (suc count)
          goes had g at reached stretch =
              went_on (call_in behind_it) refl
              (subst (λ ys. Comes number item does start (behind (acts_at count)) ys (call_in behind_it)) (sym items_are)
              (comes number item does start stretch had table at reached stood.shows legal_here))

        -- ---- none was open

        rests_turn : RestsAt e count → IsTurn number c.phase (what_of event) (of_items new) behind_it → State e (suc count)
        rests_turn s (inl t) = inl (rests_still e count event happens x took (quiet_calls t.none) (free_then t.calls) s)
        rests_turn s (inr (inl t)) = absurd (no_call t.call (sym (s.none (node_of event) (any.Client c) c_there) ∙ t.was))
        rests_turn s (inr (inr t)) = of t.wanted refl
          where
            of : (o : Option Work) → t.wanted ≡ o → State e (suc count)
            of None asks = absurd (no_going t.going (ap (call_at t.s t.item) (sym asks) ∙ t.makes))
            of (Some w) asks =
                goes t.item made.does call s.table s.table s.stood t.stays (λ name y fact apart. s.none name y fact) [] t.going made.at
                (at_start made.does s.table)
                (beginning_finds number (acts_at count) c.phase (what_of event) (of_items new) behind_it made.does []
                (reads_once reads_again w t.item number made.does made.call) t.s t.item t.wanted t.going t.serving t.begun t.makes
                (s.none (node_of event) (any.Client c) c_there) made.at t.stretch found)
              where
                self : t.s.lasting.number ≡ number
                self = ap (λ (p : Phase). (lasting_of p).number) (sym t.serving)

                made : Made w t.item number t.going
                made = made_of w t.item number t.going (ap (call_of w t.item) (sym self) ∙ (ap (call_at t.s t.item) (sym asks) ∙ t.makes))

                call : DoesCall e number t.item made.does
                call = record {
                  wanted = w;
                  asks = ap (λ (ws : List Work). asked_at ws t.item) (sym (c_known.works ∙ ap (items_of e.script.lines) (sym c_known.named))) ∙ (t.begun.asks ∙ asks);
                  call = made.call;
                }

        -- ---- one is open

        module _ (s : WaitsAt e count) where
          -- it is one of another client
          beside : (nodes.Client s.client ≡ node_of event → ⊥) → IsTurn number c.phase (what_of event) (of_items new) behind_it → State e (suc count)
          beside apart (inl t) = inr (waits_still e count event happens x took (quiet_calls t.none) (free_then t.calls) s apart)
          beside apart (inr (inl t)) =
              absurd (no_call t.call (sym (s.others (node_of event) (any.Client c) c_there (λ same. apart (sym same))) ∙ t.was))
          beside apart (inr (inr t)) = absurd (still_open s t.begun.begins)

          -- it is one of this client
          module _ (same : nodes.Client s.client ≡ node_of event) where
            it_is : s.c ≡ c
            it_is = one_client s.c c (one_node (any.Client s.c) (any.Client c) (sym s.there ∙ (ap (node_named (moment e count)) same ∙ c_there)))

            numbered : s.client ≡ number
            numbered = one_number s.client number (same ∙ sym c_known.named)

            calling : call_in c.phase ≡ Some s.now
            calling = ap (λ (d : Client). call_in d.phase) (sym it_is) ∙ s.calling

            opened : open_in c.phase ≡ Some s.item
            opened = ap (λ (d : Client). open_in d.phase) (sym it_is) ∙ s.opened

            call : DoesCall e number s.item s.does
            call = subst (λ n. DoesCall e n s.item s.does) numbered s.call

            others : (name : NodeId) (y : AnyNode) → node_named (moment e count) name ≡ Some y → (name ≡ me → ⊥) → HasNoCall y
            others name y fact apart = s.others name y fact (λ is. apart (is ∙ ap nodes.Client numbered))

            inside : IsTurn number c.phase (what_of event) (of_items new) behind_it → State e (suc count)
            inside (inl t) = by t.were
              where
                by : (call_in c.phase ≡ None) ⊎ (open_in c.phase ≡ None) → State e (suc count)
                by (inl none) = absurd (no_call s.now (sym none ∙ calling))
                by (inr none) = absurd (no_item s.item (sym none ∙ opened))
            inside (inr (inr t)) = absurd (no_item s.item (sym t.free ∙ opened))
            inside (inr (inl t)) =
                by (going_finds number (acts_at count) c.phase (what_of event) (of_items new) behind_it s.does s.had
                (reads_once reads_again s.call.wanted s.item s.client s.does s.call.call) (Some s.item) s.now opened calling (still_open s) s.at stretch found)
              where
                stays_open : ItemStays (Some s.item) behind_it
                stays_open next calls_it = t.stays next calls_it ∙ opened

                stretch : EventStretch number (Some s.item) (held_in behind_it) (On s.now) (of_items new) (call_in behind_it)
                stretch =
                    subst (λ (o : Option ℕ). EventStretch number o (held_in behind_it) (On s.now) (of_items new) (call_in behind_it)) opened
                    (subst (λ (k : Call). EventStretch number (open_in c.phase) (held_in behind_it) (On k) (of_items new) (call_in behind_it))
                    (one_call t.call s.now (sym t.was ∙ calling)) t.stretch)

                by : FoundStretch number (Some s.item) (acts_at count) (On s.now) (of_items new) (call_in behind_it)
                    ⊎ ((of_items new ≡ []) × (call_in behind_it ≡ Some s.now)) → State e (suc count)
                by (inl st) = goes s.item s.does call s.start s.table s.stood stays_open others s.had (On s.now) s.at s.reached st
                by (inr (none, waits)) = inr (record {
                  start = s.start;
                  table = s.table;
                  client = number;
                  item = s.item;
                  does = s.does;
                  call = call;
                  stood = subst (λ acts. Stood e.script.lines acts s.start s.table) (sym then_)
                      (stood_still e.script.lines (acts_at count) xs s.start s.table s.stood (quiet_calls none));
                  c = (client_step c (what_of event)).node;
                  there = ap (node_named (moment e (suc count))) c_known.named ∙ c_behind;
                  opened = stays_open s.now waits;
                  now = s.now;
                  calling = waits;
                  had = s.had;
                  at = s.at;
                  reached = s.reached;
                  others = others_then s.item s.does call s.start s.table s.stood stays_open others;
                })

          waits_turn : State e (suc count)
          waits_turn = by (same_node (nodes.Client s.client) (node_of event)) refl
            where
              by : (t : Bool) → same_node (nodes.Client s.client) (node_of event) ≡ t → State e (suc count)
              by true same = inside (same_node_is (nodes.Client s.client) (node_of event) same) its_turn
              by false apart = beside (not_same (nodes.Client s.client) (node_of event) apart) its_turn

        clients_turn : State e count → State e (suc count)
        clients_turn (inl s) = rests_turn s its_turn
        clients_turn (inr s) = waits_turn s

      taken : State e count → State e (suc count)
      taken s = by (client_or_not x)
        where
          by : ((c : Client) × (x ≡ any.Client c)) ⊎ IsOther x → State e (suc count)
          by (inl (c, is)) = clients_turn c is s
          by (inr other) = others_turn other s

    next : State e count → State e (suc count)
    next s = by (takes_or_not (moment e count) event)
      where
        by : NothingHappens (moment e count) event ⊎ ((x : AnyNode) × Took (moment e count) event x) → State e (suc count)
        by (inl none) =
            as_was e count (sym (ap (λ (v : Run AnyNode). v.acts) (moment_next e count event happens) ∙ none.acts)) (same_named e count event happens none) s
        by (inr (x, took)) = taken x took s

  then_state : (count : ℕ) → State e count → State e (suc count)
  then_state count s = by (slice_get e.events count) refl
    where
      by : (o : Option Event) → slice_get e.events count ≡ o → State e (suc count)
      by (Some event) happens = next count event happens s
      by None gone =
          let same : moment e (suc count) ≡ moment e count = moment_past e count gone in
          as_was e count (ap (λ (v : Run AnyNode). v.acts) (sym same)) (λ name. ap (λ (v : Run AnyNode). node_named v name) same) s

  state_at : (count : ℕ) → State e count
  state_at zero = first_state e
  state_at (suc count) = then_state count (state_at count)

  -- at the end the machine has answered what was answered
  pub all_given : (end : World) × (GivesAll e.script.lines nothing_written (answers_in e.world.acts) end × AllByRecursion IsNoReturn e.world.acts)
  all_given = by (state_at (length e.events))
    where
      last : acts_at (length e.events) ≡ e.world.acts
      last = ap (λ (v : Run AnyNode). v.acts) (last_moment e run)

      given : (start table : World) → Stood e.script.lines (acts_at (length e.events)) start table
          → (end : World) × (GivesAll e.script.lines nothing_written (answers_in e.world.acts) end × AllByRecursion IsNoReturn e.world.acts)
      given start table stood = (
        start,
        (
          subst (λ acts. GivesAll e.script.lines nothing_written (answers_in acts) start) last stood.gives,
          subst (AllByRecursion IsNoReturn) last stood.returns,
        ),
      )

      by : State e (length e.events) → (end : World) × (GivesAll e.script.lines nothing_written (answers_in e.world.acts) end × AllByRecursion IsNoReturn e.world.acts)
      by (inl s) = given s.table s.table s.stood
      by (inr s) = given s.start s.table s.stood
