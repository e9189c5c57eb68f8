-- One event of a client, of a run whose items are calls: nothing is done for items, or its open call goes on, or the call of the item that begins.
use Rattle.std.proofs.Common.{true≢false, ◌≡◌, ◌≤◌, ◌⊎◌, ℕ, true, List, [], ◌∷◌, inl, inr, length, slice_get, Option, Some, None, refl, sym, ap, subst, ◌∙◌, arith}
use Rattle.client_call.specs.Calls.{call_of}
use Rattle.client_call.specs.declared.call.Call.{Call}
use Rattle.client_call.specs.declared.call.Going.{Going}
use Rattle.client_call.specs.declared.call.Going.TheVariants.{On}
use Rattle.client_node.specs.declared.client.Client.{Client}
use Rattle.client_node.specs.declared.phase.Phase.{Phase}
use Rattle.client_node.specs.declared.phase.Phase.TheVariants.{Down, Opening, Serving as Serves}
use Rattle.client_node.specs.Phases.{client_step, lasting_of}
use Rattle.client_running.specs.Opens.{call_at}
use Rattle.client_serving.specs.declared.serving.Serving.{Serving}
use Rattle.core_world.specs.declared.any_node.AnyNode.{AnyNode}
use Rattle.core_world.specs.declared.any_node.AnyNode.TheVariants as any
use Rattle.headline.specs.Calls.{Acts, EventStretch, IsBegun, IsCrash, IsRefusal, ItemStays, Opens, answered_so, call_in, held_in, is_of_items, of_items, open_in}
use Rattle.headline.specs.Calls.Acts.{AtOnce, Begins, Falls, GoesOn, Loses, Passes, Rests, Returns, Stops}
use Rattle.headline.specs.ItemActs.{ClientsActForItems, IsOfCall}
use Rattle.headline.specs.Items.{IsOwnItem, ItemsAnsweredOnce, asked_at}
use Rattle.headline.specs.Moments.{acts_in, moment, node_named}
use Rattle.headline.specs.OneMachine.{AreCalls, is_call}
use Rattle.headline.specs.Standings.{client_stands, standing}
use Rattle.headline.specs.Standings.Standing.{Opens as IsOpening, Serves as Stood}
use Rattle.log_tie.proofs.Listings.{in_back}
use Rattle.one_machine.specs.Trees.{AreFit}
use Rattle.run_answers.proofs.linear_law.Courses.{going_of}
use Rattle.run_answers.proofs.once_law.Runs.{Known, node_known}
use Rattle.token_protocol.specs.Basics.{In}
use Rattle.version_model.specs.declared.act.Act.{Act}
use Rattle.version_model.specs.declared.act.Act.TheVariants as act
use Rattle.version_model.specs.declared.answer.Answer.{Answer}
use Rattle.version_model.specs.declared.answer.Answer.TheVariants as answer
use Rattle.version_model.specs.declared.work.Work.{Work}
use Rattle.version_model.specs.declared.work.Work.TheVariants as work
use Rattle.wire_msg.specs.declared.packet.Do.{Do}
use Rattle.world_base.specs.declared.estate.Estate.{Estate}
use Rattle.world_base.specs.declared.event.Event.{Event}
use Rattle.world_base.specs.Events.{node_of, what_of}
use Rattle.world_base.specs.Items.{items_of}
use Rattle.xfs_base.specs.declared.node.NodeId.{NodeId}
use Rattle.xfs_base.specs.declared.node.NodeId.TheVariants as nodes
use Rattle.xfs_base.specs.Limits.{max_lines}
use Rattle.run_text.proofs.Acts.{among_all}
use Rattle.run_text.proofs.CallItems.{IsAskedFor, asked_for, does_so, items_few}

-- ---- what an event of a client is

module _ (number : ℕ) (p : Phase) (what : Do) (acts : List Act) (q : Phase) where
  -- nothing is done for items, and no call is open behind it; none was before, or no item was open
  pub record IsQuietTurn : Type 0 where
    pub none : acts ≡ []
    pub calls : call_in q ≡ None
    pub were : (call_in p ≡ None) ⊎ (open_in p ≡ None)

  -- the open call goes on
  pub record IsGoingTurn : Type 0 where
    pub call : Call
    pub was : call_in p ≡ Some call
    pub stays : ItemStays (open_in p) q
    pub stretch : EventStretch number (open_in p) (held_in q) (On call) acts (call_in q)

  -- an item begins, while none is open, and its call goes on
  pub record IsBeginningTurn : Type 0 where
    pub item : ℕ
    pub s : Serving
    pub wanted : Option Work
    pub going : Going
    pub serving : p ≡ Serves s
    pub begun : IsBegun p what item wanted
    pub free : open_in p ≡ None
    pub makes : call_at s item wanted ≡ Some going
    pub stays : ItemStays (Some item) q
    pub stretch : EventStretch number (Some item) (held_in q) going acts (call_in q)

  abbrev pub IsTurn : Type 0
  IsTurn = IsQuietTurn ⊎ (IsGoingTurn ⊎ IsBeginningTurn)

module _ (e : Estate AnyNode) (calls : AreCalls e.script.lines) (fit : AreFit e.script.lines) (few : length e.script.lines ≤ max_lines)
    (own : ClientsActForItems e) (once : ItemsAnsweredOnce e) (count : ℕ) (event : Event) (happens : slice_get e.events count ≡ Some event) (c : Client)
    (there : node_named (moment e count) (node_of event) ≡ Some (any.Client c)) (its : acts_in (moment e count) event ≡ (client_step c (what_of event)).acts)
    (stands : standing (any.Client c) ≡ Stood)
    (done : (item : ℕ) (x : Answer) → In (act.Answered (nodes.Client (lasting_of c.phase).number) item x) (acts_in (moment e count) event) → IsOfCall x) where
  abbrev number : ℕ
  number = (lasting_of c.phase).number

  abbrev me : NodeId
  me = nodes.Client number

  abbrev new : List Act
  new = (client_step c (what_of event)).acts

  known : Known e (node_of event) (any.Client c)
  known = node_known e count (node_of event) (any.Client c) there

  works : (lasting_of c.phase).items.works ≡ items_of e.script.lines me
  works = known.works ∙ ap (items_of e.script.lines) (sym known.named)

  answered_here : (item : ℕ) (x : Answer) → In (act.Answered me item x) (of_items new) → In (act.Answered me item x) (acts_in (moment e count) event)
  answered_here item x among = subst (In (act.Answered me item x)) (sym its) (among_all is_of_items new (act.Answered me item x) among)

  -- what is answered is a call
  pub asked : (item : ℕ) (x : Answer) → In (act.Answered me item x) (acts_in (moment e count) event) → IsAskedFor e.script.lines calls fit me item
  asked item x among =
      let o : IsOwnItem e count event me item = once.own count event happens me item x among in
      asked_for e.script.lines calls fit me item o.above o.there

  pub in_range : (item : ℕ) (x : Answer) → In (act.Answered me item x) (acts_in (moment e count) event) → item ≤ max_lines
  in_range item x among =
      let o : IsOwnItem e count event me item = once.own count event happens me item x among in
      let most = items_few e.script.lines me in
      let least = o.there in
      omega (arith, most, least, few)

  -- what begins and is answered in the event
  begun_is : (item : ℕ) (wanted : Option Work) (x : Answer) → IsBegun c.phase (what_of event) item wanted → (among : In (act.Answered me item x) (acts_in (moment e count) event))
      → wanted ≡ Some (asked item x among).its
  begun_is item wanted x begun among =
      sym begun.asks ∙ (ap (λ (ws : List Work). asked_at ws item) works ∙ (asked item x among).there)

  no_crash : (w : Work) → is_call w ≡ true → IsCrash (Some w) → ⊥
  no_crash (work.Crash node) is crash = true≢false (sym is)
  no_crash _ is crash = crash

  falls_not : (item : ℕ) (wanted : Option Work) (x : Answer) → IsBegun c.phase (what_of event) item wanted → In (act.Answered me item x) (acts_in (moment e count) event)
      → IsCrash wanted → ⊥
  falls_not item wanted x begun among crash =
      no_crash (asked item x among).its (asked item x among).call.called (subst IsCrash (begun_is item wanted x begun among) crash)

  refusal_not : (x : Answer) → IsRefusal x → IsOfCall x → ⊥
  refusal_not answer.Busy is of = of
  refusal_not answer.Down is of = of
  refusal_not answer.Up is of = of
  refusal_not _ is of = is

  opening_not : Opens c.phase → ⊥
  opening_not opens = by c.phase refl opens
    where
      apart : IsOpening ≡ Stood → ⊥
      apart same = cc

      by : (p : Phase) → p ≡ c.phase → Opens p → ⊥
      by (Down l) is opens = opens
      by (Opening l o) is opens = apart (ap client_stands is ∙ stands)
      by (Serves s) is opens = opens

  no_going : (g : Going) → None ≡ Some g → ⊥
  no_going g fact = cc

  -- a call is no item that passes
  passes_not : (s : Serving) (item : ℕ) (wanted : Option Work) (x : Answer) → c.phase ≡ Serves s → IsBegun c.phase (what_of event) item wanted
      → In (act.Answered me item x) (acts_in (moment e count) event) → call_at s item wanted ≡ None → ⊥
  passes_not s item wanted x serving begun among none =
      let w = (asked item x among).its in
      let d = does_so item (in_range item x among) w (asked item x among).call.called number (asked item x among).call.actor (asked item x among).call.fit in
      let g = going_of w item number d.0 d.1 in
      let self : s.lasting.number ≡ number = ap (λ (p : Phase). (lasting_of p).number) (sym serving) in
      no_going g.0 (sym none ∙ (ap (call_at s item) (begun_is item wanted x begun among) ∙ (ap (call_of w item) self ∙ g.1)))

  abbrev Turn : List Act → Phase → Type 0
  Turn acts q = IsTurn number c.phase (what_of event) acts q

  lost_not : (o : Option ℕ) (x : Answer) → open_in c.phase ≡ o → (IsOfCall x → ⊥) → (acts : List Act) → acts ≡ of_items new → acts ≡ answered_so me o x
      → (acts ≡ []) × (open_in c.phase ≡ None)
  lost_not None x is bad acts are same = (same, is)
  lost_not (Some item) x is bad acts are same =
      absurd (bad (done item x (answered_here item x (subst (In (act.Answered me item x)) (sym same ∙ are) (inl refl)))))

  turn_by : (q : Phase) (acts : List Act) → acts ≡ of_items new → Acts number c.phase (what_of event) acts q
      → Turn acts q
  turn_by q acts are (Rests before after) = inl (record { none = refl; calls = after; were = inl before })
  turn_by q acts are (Passes {s = s} item wanted serving begun free none same open_same) =
      absurd (passes_not s item wanted answer.Done serving begun
      (answered_here item answer.Done (subst (In (act.Answered me item answer.Done)) are (inl refl))) none)
  turn_by q acts are (AtOnce item wanted x refuses begun same open_same) =
      absurd (refusal_not x refuses (done item x (answered_here item x (subst (In (act.Answered me item x)) are (inl refl)))))
  turn_by q acts are (GoesOn call was stays drains stretch) =
      inr (inl (record { call = call; was = was; stays = stays; stretch = stretch }))
  turn_by q acts are (Begins {s = s} item wanted going serving begun free makes stays drains stretch) =
      inr (inr (record {
        item = item;
        s = s;
        wanted = wanted;
        going = going;
        serving = serving;
        begun = begun;
        free = free;
        makes = makes;
        stays = stays;
        stretch = stretch;
      }))
  turn_by q acts are (Loses name calls waits) =
      (let l =
      lost_not (open_in c.phase) (answer.Lost name) refl (λ of. of) (answered_so me (open_in c.phase) (answer.Lost name)) are refl in
      inl (record { none = l.0; calls = calls; were = inr l.1 }))
  turn_by q acts are (Falls item wanted flight falls serves begun crash fallen) =
      absurd (falls_not item wanted answer.Done begun
      (answered_here item answer.Done (subst (In (act.Answered me item answer.Done)) are
      (inr (in_back (act.Answered me item answer.Done) (answered_so me (open_in c.phase) answer.Cut) (act.Answered me item answer.Done ∷ []) (inl refl))))) crash)
  turn_by q acts are (Stops item wanted opens begun crash fallen) = absurd (opening_not opens)
  turn_by q acts are (Returns chain opens serves calls waits) = absurd (opening_not opens)

  pub turn : Turn (of_items new) (client_step c (what_of event)).node.phase
  turn = turn_by (client_step c (what_of event)).node.phase (of_items new) refl (own.events count event happens c there).acts
