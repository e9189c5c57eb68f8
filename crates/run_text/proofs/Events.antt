-- What one event of a run of calls on blocks acts for items: nothing, or the one thing that a call is told of, and directly behind it the answer.
use Rattle.std.proofs.Common.{true≢false, ◌≡◌, ◌≤◌, ◌⊎◌, ℕ, ◌-◌, nat_lt, Bool, true, false, cond, not, ◌||◌, is_some, List, [], ◌∷◌, get_or, inl, inr, length, slice_get, Option, Some, None, refl, sym, ap, subst, ◌∙◌, arith}
use Rattle.std.specs.List.{AllByRecursion}
use Rattle.std.specs.Prelude.{IfSome}
use Rattle.std.proofs.lemmas.Bool.{and_parts, lt-ltb}
use Rattle.std.proofs.lemmas.Option.{slice_get-get_or}
use Rattle.client_call.specs.declared.call.Call.{Call}
use Rattle.client_call.specs.declared.call.Going.{Going}
use Rattle.client_node.specs.declared.client.Client.{Client}
use Rattle.client_node.specs.declared.phase.Phase.{Phase}
use Rattle.client_node.specs.declared.phase.Phase.TheVariants.{Down, Opening, Serving as Serves}
use Rattle.client_node.specs.Phases.{client_step, lasting_of}
use Rattle.core_world.specs.declared.any_node.AnyNode.{AnyNode}
use Rattle.core_world.specs.declared.any_node.AnyNode.TheVariants as any
use Rattle.file_plan.specs.declared.block_call.BlockAnswer.{BlockAnswer}
use Rattle.file_plan.specs.declared.block_call.BlockAnswer.TheVariants as told
use Rattle.file_plan.specs.declared.block_call.BlockCall.{BlockCall}
use Rattle.file_plan.specs.declared.block_call.BlockCall.TheVariants.{Get, Put, PutAt, Sync}
use Rattle.headline.specs.Answers.{AnswersAreActs, IsDoneBy, IsFounded}
use Rattle.headline.specs.Bounds.{is_quiet}
use Rattle.headline.specs.Calls.{Acts, EventStretch, IsClients, Opens, answered_so, is_of_items, of_items, open_in, told as told_of}
use Rattle.headline.specs.Calls.Acts.{AtOnce, Begins, Falls, GoesOn, Loses, Passes, Rests, Returns, Stops}
use Rattle.headline.specs.Calls.EventStretch.{Awaits, Concludes, Follows}
use Rattle.headline.specs.ItemActs.{ClientsActForItems, IsClientsEvent, IsFor, IsOfBlocks, IsOfCall, IsToldOf}
use Rattle.headline.specs.ItemActs.IsFor.{OfBlock, OfFile}
use Rattle.headline.specs.Items.{IsFileCall, IsOwnItem, ItemsAnsweredOnce, asked_at}
use Rattle.headline.specs.Moments.{acts_in, moment, node_named}
use Rattle.headline.specs.OneMachine.{AreOnBlocks, is_on_blocks}
use Rattle.headline.specs.Restarts.{LosesNone}
use Rattle.headline.specs.Standings.{client_stands, standing}
use Rattle.headline.specs.Standings.Standing.{Opens as IsOpening, Serves as Stands}
use Rattle.log_tie.proofs.Listings.{in_back, in_either, in_front}
use Rattle.quiet_script.proofs.QuietWorks.{each_quiet}
use Rattle.run_answers.proofs.once_law.Runs.{node_known}
use Rattle.run_answers.specs.due_law.Turns.{EachEventKeepsStanding, EachStartServes}
use Rattle.script_text.specs.declared.script.Line.{Line}
use Rattle.token_client.specs.declared.held.Held.{Held}
use Rattle.token_protocol.specs.Basics.{In}
use Rattle.version_model.specs.declared.act.Act.{Act}
use Rattle.version_model.specs.declared.act.Act.TheVariants as act
use Rattle.version_model.specs.declared.answer.Answer.{Answer}
use Rattle.version_model.specs.declared.answer.Answer.TheVariants as answer
use Rattle.version_model.specs.declared.work.Work.{Work}
use Rattle.version_model.specs.declared.work.Work.TheVariants as work
use Rattle.wire_msg.specs.declared.packet.Do.{Do}
use Rattle.world_base.specs.declared.estate.Estate.{Estate}
use Rattle.world_base.specs.declared.event.Event.{Event}
use Rattle.world_base.specs.Events.{node_of, what_of}
use Rattle.world_base.specs.Items.{actor_of, is_for, is_for_actor, items_of, works_of}
use Rattle.xfs_base.proofs.Alls.{all_read}
use Rattle.xfs_base.proofs.Booleans.{by_test}
use Rattle.xfs_base.proofs.NodeOrder.{same_node_is}
use Rattle.xfs_base.specs.declared.block.BlockId.{BlockId}
use Rattle.xfs_base.specs.declared.node.NodeId.{NodeId}
use Rattle.xfs_base.specs.declared.node.NodeId.TheVariants as nodes
use Rattle.run_text.proofs.Acts.{Parts, all_items, among_all, block_first, calls_items, is_of_calls, item_among, of_calls, parts_at}
use Rattle.run_text.proofs.Standing.{each_serves}

-- ---- what items ask for

-- an item of this node asks for a call on blocks
pub record IsQuietOf (node : NodeId) (w : Work) : Type 0 where
  pub quiet : is_quiet w ≡ true
  pub actor : actor_of w ≡ Some node

line_quiet : (node : NodeId) (l : Line) → is_on_blocks l ≡ true → is_for node l.work ≡ true → IsQuietOf node l.work
line_quiet node l on its = by (actor_of l.work) refl
  where
    no_more : (t : Bool) → (t || false) ≡ t
    no_more true = refl
    no_more false = refl

    by : (o : Option NodeId) → actor_of l.work ≡ o → IsQuietOf node l.work
    by None none = absurd (true≢false (sym its ∙ ap (is_for_actor node) none))
    by (Some actor) is = record {
      quiet = sym (no_more (is_quiet l.work)) ∙ (sym (ap (λ (o : Option NodeId). is_quiet l.work || not (is_some o)) is) ∙ on);
      actor = is ∙ ap Some (same_node_is actor node (sym (ap (is_for_actor node) is) ∙ its));
    }

all_quiet : (lines : List Line) (node : NodeId) → AreOnBlocks lines → AllByRecursion (IsQuietOf node) (items_of lines node)
all_quiet [] node on = tt
all_quiet (l ∷ lines) node on =
    let both = and_parts (is_on_blocks l) _ on in
    by_test (λ xs. AllByRecursion (IsQuietOf node) xs) (is_for node l.work) (l.work ∷ items_of lines node) (items_of lines node)
    (λ its. (line_quiet node l both.0 its, all_quiet lines node both.1)) (λ _. all_quiet lines node both.1)

pub all_asked : (P : Work → Type 0) (works : List Work) (item : ℕ) → AllByRecursion P works → IfSome (asked_at works item) P
all_asked P works item all =
    elim (nat_lt 0 item) as (λ t. IfSome (cond t (slice_get works (item - 1)) None) P) [
      | true ↦ all_read P works (item - 1) all
      | false ↦ tt
    ]

-- no server loses its disk
pub loses_none : (lines : List Line) → AreOnBlocks lines → LosesNone (works_of lines)
loses_none [] on server among = among
loses_none (l ∷ lines) on server (inl same) =
    absurd (true≢false (sym (subst (λ w. (is_quiet w || not (is_some (actor_of w))) ≡ true) (sym same) (and_parts (is_on_blocks l) _ on).0)))
loses_none (l ∷ lines) on server (inr among) = loses_none lines (and_parts (is_on_blocks l) _ on).1 server among

-- whose item such a work is
pub owner : (w : Work) → is_quiet w ≡ true → (c : ℕ) × (actor_of w ≡ Some (nodes.Client c))
owner = each_quiet (λ w. (c : ℕ) × (actor_of w ≡ Some (nodes.Client c))) (λ c b value. (c, refl)) (λ c b. (c, refl)) (λ c. (c, refl))

-- ---- an act by which a client falls or is back

abbrev IsTurn : Act → Type 0
IsTurn (act.Fell client flight falls) = Unit {0}
IsTurn (act.Back client chain) = Unit {0}
IsTurn _ = ⊥

no_turns : (acts : List Act) → AllByRecursion (λ a. IsTurn a → ⊥) acts → (a : Act) → IsTurn a → In a acts → ⊥
no_turns [] none a is among = among
no_turns (x ∷ acts) none a is (inl same) = none.0 (subst IsTurn same is)
no_turns (x ∷ acts) none a is (inr among) = no_turns acts none.1 a is among

answers_turn_not : (node : NodeId) (item : Option ℕ) (x : Answer) → AllByRecursion (λ a. IsTurn a → ⊥) (answered_so node item x)
answers_turn_not node None x = tt
answers_turn_not node (Some item) x = (λ is. is, tt)

told_turn_not : (client : ℕ) (step : BlockCall) (x : BlockAnswer) → AllByRecursion (λ a. IsTurn a → ⊥) (told_of client step x)
told_turn_not client (Get block) (told.Got ver value) = (λ is. is, tt)
told_turn_not client (Put block value) (told.Put ver) = (λ is. is, tt)
told_turn_not client (PutAt block named value) (told.Put ver) = (λ is. is, tt)
told_turn_not client Sync told.Synced = (λ is. is, tt)
told_turn_not client (Get block) _ = tt
told_turn_not client (Put block value) _ = tt
told_turn_not client (PutAt block named value) _ = tt
told_turn_not client Sync _ = tt

stretch_turns_not : {client : ℕ} {item : Option ℕ} {now : BlockId → Held} {going : Going} {acts : List Act} {after : Option Call}
    → EventStretch client item now going acts after → (a : Act) → IsTurn a → In a acts → ⊥
stretch_turns_not (Awaits plan step) a is among = among
stretch_turns_not {client} (Follows {call = call} {acts = more} x fits since rest) a is among =
    by (λ later. stretch_turns_not rest a is later) (in_either a (told_of client call.step x) more among)
  where
    by : (In a more → ⊥) → In a (told_of client call.step x) ⊎ In a more → ⊥
    by behind (inl first) = no_turns (told_of client call.step x) (told_turn_not client call.step x) a is first
    by behind (inr later) = behind later
stretch_turns_not {client} {item} (Concludes x) a is among =
    no_turns (answered_so (nodes.Client client) item x) (answers_turn_not (nodes.Client client) item x) a is among

-- then the client answers an item in the event, or it opened its log
abbrev Turns : ℕ → Phase → List Act → Type 0
Turns client p acts = ((item : ℕ) × ((x : Answer) × In (act.Answered (nodes.Client client) item x) acts)) ⊎ Opens p

turns : (client : ℕ) (p : Phase) (what : Do) (q : Phase) {acts : List Act} → Acts client p what acts q → (a : Act) → IsTurn a → In a acts → Turns client p acts
turns client p what q (Rests none after) a is among = absurd among
turns client p what q (Passes number wanted serves begun waits none same item) a is among =
    absurd (no_turns (act.Answered (nodes.Client client) number answer.Done ∷ []) (λ no. no, tt) a is among)
turns client p what q (AtOnce number wanted x refuses begun same item) a is among =
    absurd (no_turns (act.Answered (nodes.Client client) number x ∷ []) (λ no. no, tt) a is among)
turns client p what q (GoesOn call there stays drains stretch) a is among = absurd (stretch_turns_not stretch a is among)
turns client p what q (Begins number wanted going serves begun waits opens stays drains stretch) a is among = absurd (stretch_turns_not stretch a is among)
turns client p what q (Loses name none waits) a is among =
    absurd (no_turns (answered_so (nodes.Client client) (open_in p) (answer.Lost name)) (answers_turn_not (nodes.Client client) (open_in p) (answer.Lost name)) a is among)
turns client p what q (Falls number wanted flight falls serves begun crash fallen) a is among =
    inl (
      number,
      (
        answer.Done,
        inr (in_back (act.Answered (nodes.Client client) number answer.Done) (answered_so (nodes.Client client) (open_in p) answer.Cut)
            (act.Answered (nodes.Client client) number answer.Done ∷ []) (inl refl)),
      ),
    )
turns client p what q (Stops number wanted opens begun crash fallen) a is among = inr opens
turns client p what q (Returns chain opens serves none waits) a is among = inr opens

-- ---- events of a run

module _ (e : Estate AnyNode) (on_blocks : AreOnBlocks e.script.lines) where
  abbrev works : NodeId → List Work
  works node = items_of e.script.lines node

  -- the script asks for this by an item
  pub record IsAsked (node : NodeId) (item : ℕ) : Type 0 where
    pub its : Work
    pub there : asked_at (works node) item ≡ Some its
    pub quiet : IsQuietOf node its

  pub asked_quiet : (node : NodeId) (item : ℕ) (w : Work) → asked_at (works node) item ≡ Some w → IsQuietOf node w
  asked_quiet node item w asked =
      subst (λ o. IfSome o (IsQuietOf node)) asked (all_asked (IsQuietOf node) (works node) item (all_quiet e.script.lines node on_blocks))

  pub asked_of : (node : NodeId) (item : ℕ) → 1 ≤ item → item ≤ length (works node) → IsAsked node item
  asked_of node item least most = record { its = its; there = there; quiet = asked_quiet node item its there }
    where
      its : Work
      its = get_or (works node) (item - 1) work.NetHold

      there : asked_at (works node) item ≡ Some its
      there =
          ap (λ t. cond t (slice_get (works node) (item - 1)) None) (lt-ltb 0 item (omega (arith, least)))
          ∙ slice_get-get_or (works node) (item - 1) work.NetHold (omega (arith, least, most))

  no_file : (w : Option Work) → IfSome w (λ v. is_quiet v ≡ true) → IsFileCall w → ⊥
  no_file (Some (work.File c call)) quiet file = true≢false (sym quiet)
  no_file _ quiet file = file

  no_files : (node : NodeId) (item : ℕ) → IsFileCall (asked_at (works node) item) → ⊥
  no_files node item file = by (asked_at (works node) item) refl file
    where
      by : (o : Option Work) → asked_at (works node) item ≡ o → IsFileCall o → ⊥
      by None asked file = file
      by (Some w) asked file = no_file (Some w) (asked_quiet node item w asked).quiet file

  -- Of acts: they tell of one call on a block or a sync that an item asks for, directly before its answer, and these two are all that are done for items.
  pub record Tells (acts : List Act) : Type 0 where
    pub client : ℕ
    pub item : ℕ
    pub wanted : Work
    pub asked : asked_at (works (nodes.Client client)) item ≡ Some wanted
    pub a : Act
    pub x : Answer
    pub is : IsOfBlocks a
    pub told : IsToldOf (Some wanted) a x
    pub are : of_calls acts ≡ a ∷ act.Answered (nodes.Client client) item x ∷ []

  module _ (own : ClientsActForItems e) (acted : AnswersAreActs e) (once : ItemsAnsweredOnce e) where
    module _ (count : ℕ) (event : Event) (happens : slice_get e.events count ≡ Some event) where
      abbrev xs : List Act
      xs = acts_in (moment e count) event

      clients_do : (a : Act) → IsOfBlocks a → IsClients a
      clients_do (act.Wrote client block value) is = tt
      clients_do (act.Read client block ver value) is = tt
      clients_do (act.Synced client) is = tt
      clients_do _ is = absurd is

      tells_by : (client item : ℕ) (a : Act) (x : Answer) (w : Option Work) → asked_at (works (nodes.Client client)) item ≡ w → IsOfBlocks a → IsToldOf w a x
          → of_calls xs ≡ a ∷ act.Answered (nodes.Client client) item x ∷ [] → Tells xs
      tells_by client item a x None asked is told are = absurd told
      tells_by client item a x (Some w) asked is told are =
          record { client = client; item = item; wanted = w; asked = asked; a = a; x = x; is = is; told = told; are = are }

      -- an act of blocks among them tells
      pub block_tells : (a : Act) → IsOfBlocks a → In a xs → Tells xs
      block_tells a is among = of_event (own.own count event happens a (clients_do a is) among)
        where
          of_event : (c : Client) × IsClientsEvent e count event c → Tells xs
          of_event (c, its) = by_item (own.blocks count event happens c its.there a is (subst (In a) its.acts among))
            where
              named : nodes.Client (lasting_of c.phase).number ≡ node_of event
              named = (node_known e count (node_of event) (any.Client c) its.there).named

              by_item : (item : ℕ) × IsFor (lasting_of c.phase).number item (asked_at (works (node_of event)) item) (of_items (client_step c (what_of event)).acts) a → Tells xs
              by_item (item, OfFile file by) = absurd (no_files (node_of event) item file)
              by_item (item, OfBlock x are told by) =
                  tells_by (lasting_of c.phase).number item a x (asked_at (works (nodes.Client (lasting_of c.phase).number)) item) refl is
                  (subst (λ n. IsToldOf (asked_at (works n) item) a x) (sym named) told)
                  (ap of_calls its.acts ∙ sym (calls_items (client_step c (what_of event)).acts) ∙ ap of_calls are
                  ∙ block_first a is (act.Answered (nodes.Client (lasting_of c.phase).number) item x ∷ []))

      -- what stands before the answer of such an item
      record IsBehind (before : List Act) : Type 0 where
        a : Act
        is : IsOfBlocks a
        among : In a before

      module _ (client : ℕ) (before : List Act) (done : ℕ → Type 0) where
        abbrev Founds : Work → Type 0
        Founds w = (x : Answer) → IsOfCall x → IsFounded client (works (nodes.Client client)) (Some w) before done x → IsBehind before

        founds_put : (c : ℕ) (b : BlockId) (value : Option (List ℕ)) → Founds (work.Bput c b value)
        founds_put c b value (answer.Version ver) of founded = record { a = act.Wrote client b value; is = tt; among = founded }
        founds_put c b value answer.Busy of founded = absurd of
        founds_put c b value answer.Down of founded = absurd of
        founds_put c b value answer.Up of founded = absurd of
        founds_put c b value (answer.Lost name) of founded = absurd of
        founds_put c b value answer.Cut of founded = absurd of
        founds_put c b value _ of founded = absurd founded

        founds_get : (c : ℕ) (b : BlockId) → Founds (work.Bget c b)
        founds_get c b (answer.Got ver value) of founded = record { a = act.Read client b ver value; is = tt; among = founded }
        founds_get c b answer.Busy of founded = absurd of
        founds_get c b answer.Down of founded = absurd of
        founds_get c b answer.Up of founded = absurd of
        founds_get c b (answer.Lost name) of founded = absurd of
        founds_get c b answer.Cut of founded = absurd of
        founds_get c b _ of founded = absurd founded

        founds_sync : (c : ℕ) → Founds (work.Sync c)
        founds_sync c answer.Done of founded = record { a = act.Synced client; is = tt; among = founded }
        founds_sync c answer.Busy of founded = absurd of
        founds_sync c answer.Down of founded = absurd of
        founds_sync c answer.Up of founded = absurd of
        founds_sync c (answer.Lost name) of founded = absurd of
        founds_sync c answer.Cut of founded = absurd of
        founds_sync c _ of founded = absurd founded

        founds : (w : Work) → is_quiet w ≡ true → Founds w
        founds = each_quiet Founds founds_put founds_get founds_sync

      -- an answer among them tells
      answer_of_client : (client item : ℕ) (w : Work) → asked_at (works (nodes.Client client)) item ≡ Some w → is_quiet w ≡ true → (x : Answer) → IsOfCall x
          → In (act.Answered (nodes.Client client) item x) xs → Tells xs
      answer_of_client client item w asked quiet x of among =
          let p : Parts (act.Answered (nodes.Client client) item x) xs = parts_at (act.Answered (nodes.Client client) item x) xs among in
          let founded = acted.clients count event happens client item x p.before p.behind p.are in
          let b : IsBehind p.before = founds client p.before (IsDoneBy (nodes.Client client) p.behind) w quiet x of
          (subst (λ o. IsFounded client (works (nodes.Client client)) o p.before (IsDoneBy (nodes.Client client) p.behind) x) asked founded) in
          block_tells b.a b.is
          (subst (In b.a) (sym p.are) (in_front b.a p.before (act.Answered (nodes.Client client) item x ∷ p.behind) b.among))

      pub answer_tells : (node : NodeId) (item : ℕ) (x : Answer) → IsOfCall x → In (act.Answered node item x) xs → Tells xs
      answer_tells node item x of among =
          let its : IsOwnItem e count event node item = once.own count event happens node item x among in
          let asked : IsAsked node item = asked_of node item its.above its.there in
          let whose = owner asked.its asked.quiet.quiet in
          let same : node ≡ nodes.Client whose.0 = same_node node (nodes.Client whose.0) (sym asked.quiet.actor ∙ whose.1) in
          answer_of_client whose.0 item asked.its (ap (λ n. asked_at (works n) item) (sym same) ∙ asked.there) asked.quiet.quiet x of
          (subst (λ n. In (act.Answered n item x) xs) same among)
        where
          same_node : (a b : NodeId) → Some a ≡ Some b → a ≡ b
          same_node a b fact = cc

      -- ---- no client falls or comes back

      module _ (serves : (name : NodeId) (x : AnyNode) → node_named (moment e count) name ≡ Some x → standing x ≡ Stands)
          (done : (node : NodeId) (item : ℕ) (x : Answer) → In (act.Answered node item x) xs → IsOfCall x) where
        no_opening : (c : Client) → standing (any.Client c) ≡ Stands → Opens c.phase → ⊥
        no_opening c stands_so opens = by c.phase refl opens
          where
            apart : IsOpening ≡ Stands → ⊥
            apart same = cc

            by : (p : Phase) → p ≡ c.phase → Opens p → ⊥
            by (Down l) is opens = opens
            by (Opening l o) is opens = apart (ap client_stands is ∙ stands_so)
            by (Serves s) is opens = opens

        -- no turn is among what tells
        not_told : (a : Act) → IsTurn a → Tells xs → In a (of_calls xs) → ⊥
        not_told a is t among = by (subst (In a) t.are among)
          where
            both : (y : Act) → IsTurn y → IsOfBlocks y → ⊥
            both (act.Fell client flight falls) turn block = block
            both (act.Back client chain) turn block = block
            both _ turn block = turn

            by : In a (t.a ∷ act.Answered (nodes.Client t.client) t.item t.x ∷ []) → ⊥
            by (inl same) = both a is (subst IsOfBlocks (sym same) t.is)
            by (inr (inl same)) = subst IsTurn same is
            by (inr (inr none)) = none

        clients_turn : (a : Act) → IsTurn a → IsClients a
        clients_turn (act.Fell client flight falls) is = tt
        clients_turn (act.Back client chain) is = tt
        clients_turn _ is = absurd is

        no_turn : (a : Act) → IsTurn a → In a (of_calls xs) → ⊥
        no_turn a is among = of_event (own.own count event happens a (clients_turn a is) (item_among xs a among))
          where
            of_event : (c : Client) × IsClientsEvent e count event c → ⊥
            of_event (c, its) =
                by (turns (lasting_of c.phase).number c.phase (what_of event) (client_step c (what_of event)).node.phase (own.events count event happens c its.there).acts a is
                (item_among (of_items (client_step c (what_of event)).acts) a
                (subst (In a) (ap of_calls its.acts ∙ sym (calls_items (client_step c (what_of event)).acts)) among)))
              where
                by : Turns (lasting_of c.phase).number c.phase (of_items (client_step c (what_of event)).acts) → ⊥
                by (inl (item, (x, answered))) =
                    let here : In (act.Answered (nodes.Client (lasting_of c.phase).number) item x) xs =
                    subst (In (act.Answered (nodes.Client (lasting_of c.phase).number) item x)) (sym its.acts)
                    (among_all is_of_items (client_step c (what_of event)).acts (act.Answered (nodes.Client (lasting_of c.phase).number) item x) answered) in
                    not_told a is (answer_tells (nodes.Client (lasting_of c.phase).number) item x (done (nodes.Client (lasting_of c.phase).number) item x here) here) among
                by (inr opens) = no_opening c (serves (node_of event) (any.Client c) its.there) opens

        -- nothing, or one call and its answer
        pub tells_or_none : (of_calls xs ≡ []) ⊎ Tells xs
        tells_or_none = by (of_calls xs) refl
          where
            first : (y : Act) → is_of_calls y ≡ true → In y (of_calls xs) → Tells xs
            first (act.Wrote client block value) its among = block_tells (act.Wrote client block value) tt (item_among xs (act.Wrote client block value) among)
            first (act.Read client block ver value) its among =
                block_tells (act.Read client block ver value) tt (item_among xs (act.Read client block ver value) among)
            first (act.Synced client) its among = block_tells (act.Synced client) tt (item_among xs (act.Synced client) among)
            first (act.Answered node item x) its among =
                let here = item_among xs (act.Answered node item x) among in
                answer_tells node item x (done node item x here) here
            first (act.Fell client flight falls) its among = absurd (no_turn (act.Fell client flight falls) tt among)
            first (act.Back client chain) its among = absurd (no_turn (act.Back client chain) tt among)
            first (act.Filed seg) its among = absurd (true≢false (sym its))
            first (act.Dropped seg) its among = absurd (true≢false (sym its))
            first (act.Lost node seg) its among = absurd (true≢false (sym its))

            by : (ys : List Act) → of_calls xs ≡ ys → (of_calls xs ≡ []) ⊎ Tells xs
            by [] is = inl is
            by (y ∷ ys) is =
                inr (first y (subst (λ zs. AllByRecursion (λ a. is_of_calls a ≡ true) zs) is (all_items xs)).0 (subst (In y) (sym is) (inl refl)))

  -- ---- every node serves, at each moment

  module _ (starts : EachStartServes) (events : EachEventKeepsStanding) where
    pub all_serve : (count : ℕ) (name : NodeId) (x : AnyNode) → node_named (moment e count) name ≡ Some x → standing x ≡ Stands
    all_serve = each_serves e starts events (λ node item named asked. true≢false (sym (asked_quiet node item (work.Crash named) asked).quiet))
