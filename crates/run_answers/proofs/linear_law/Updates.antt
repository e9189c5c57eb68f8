-- In every run what a call writes over a version that it named is written over just that, up to the first doubtful restart.
use Rattle.std.proofs.Common.{◌≡◌, ◌⊎◌, ◌+◌, ℕ, suc, true, Bool, cond, List, [], ◌∷◌, ◌++◌, append-nil, append_assoc, length, slice_get, Option, Some, None, is_some, inl, inr, refl, sym, ap, subst, ◌∙◌, arith}
use Rattle.std.specs.List.{AllByRecursion}
use Rattle.client_call.specs.Calls.{call_of}
use Rattle.client_call.specs.declared.call.Call.{Call}
use Rattle.client_call.specs.declared.call.Going.{Going}
use Rattle.client_call.specs.declared.call.Going.TheVariants.{On}
use Rattle.client_node.specs.declared.client.Client.{Client}
use Rattle.client_node.specs.declared.phase.Phase.{Phase}
use Rattle.client_node.specs.declared.phase.Phase.TheVariants.{Down, Opening, Serving as Serves}
use Rattle.client_node.specs.Phases.{client_step, lasting_of}
use Rattle.client_running.specs.Opens.{call_at}
use Rattle.client_serving.specs.declared.serving.Serving.{Serving}
use Rattle.core_world.specs.declared.any_node.AnyNode.{AnyNode}
use Rattle.core_world.specs.declared.any_node.AnyNode.TheVariants as any
use Rattle.file_plan.specs.declared.block_call.BlockAnswer.{BlockAnswer}
use Rattle.file_plan.specs.declared.block_call.BlockAnswer.TheVariants.{Put as Written}
use Rattle.file_plan.specs.declared.block_call.BlockCall.{BlockCall}
use Rattle.file_plan.specs.declared.block_call.BlockCall.TheVariants.{Get, Put, PutAt, Sync}
use Rattle.token_client.specs.State.{held_of}
use Rattle.token_protocol.specs.Basics.{In}
use Rattle.version_model.proofs.Onward.{history_through}
use Rattle.version_model.specs.declared.act.Act.{Act}
use Rattle.version_model.specs.declared.act.Act.TheVariants as act
use Rattle.version_model.specs.Effects.{history_after}
use Rattle.version_model.specs.History.{History, nothing_yet}
use Rattle.version_model.specs.declared.work.Work.{Work}
use Rattle.world_base.specs.declared.estate.Estate.{Estate}
use Rattle.world_base.specs.declared.event.Event.{Event}
use Rattle.world_base.specs.Events.{node_of, what_of}
use Rattle.world_base.specs.Items.{items_of}
use Rattle.xfs_base.proofs.BlockOrder.{same_block_itself}
use Rattle.xfs_base.proofs.Booleans.{contrary}
use Rattle.xfs_base.specs.Blocks.{same_block}
use Rattle.xfs_base.specs.declared.block.BlockId.{BlockId}
use Rattle.xfs_base.specs.declared.node.NodeId.TheVariants as nodes
use Rattle.xfs_base.specs.declared.segment.SegName.{SegName}
use Rattle.run_answers.proofs.act_law.Telling.{in_behind}
use Rattle.run_answers.proofs.linear_law.Courses.{Made, made_of}
use Rattle.run_answers.proofs.linear_law.Histories.{IsNoReturn, acts_count}
use Rattle.run_answers.proofs.linear_law.Reaching.{Reached, Stands, blocks_told, reach, stands, told_then}
use Rattle.run_answers.proofs.linear_law.Stretches.{IsAnswer, in_items, items_split, stretch_kind}
use Rattle.run_answers.proofs.linear_law.Turns.{ClientTurn, begins_in, clients_turn}
use Rattle.run_answers.proofs.once_law.Runs.{Known, node_known}
use Rattle.run_answers.proofs.own_law.Runs.{runs_act}
use Rattle.run_answers.proofs.own_law.Since.{each_has_run}
use Rattle.run_answers.proofs.own_law.Single.{NoneOfBlocks, answers_none, no_such}
use Rattle.run_answers.proofs.own_law.Whole.{blocks_then, forget, of_items_same}
use Rattle.headline.specs.Calls.{Acts, EventStretch, IsAnswerTo, IsHeldAfter, answered_so, call_in, held_in, of_items, open_in, told, writes_of}
use Rattle.headline.specs.Calls.Acts.{Rests, Passes, AtOnce, GoesOn, Begins, Loses, Falls, Stops, Returns}
use Rattle.headline.specs.Courses.{Doing}
use Rattle.headline.specs.ItemActs.{HasRun, IsFor, IsOfBlocks, blocks_by}
use Rattle.headline.specs.ItemActs.IsFor.{OfFile, OfBlock}
use Rattle.headline.specs.Items.{asked_at}
use Rattle.headline.specs.Linear.{BeginsIn, DoesCall}
use Rattle.headline.specs.Moments.{acts_in, moment, node_named}
use Rattle.headline.specs.Owners.{tokens_at, tokens_in, tokens_of}
use Rattle.headline.specs.Restarts.{NoDoubtfulRestart}
use Rattle.headline.specs.Updates.{AreTold, IsWriteOver, NoUpdateIsLost, WritesNext, versions_behind}
use Rattle.headline.specs.Versions.{HoldersAreNewestThroughout, IsNewest, history_at}
use Rattle.version_model.specs.declared.answer.Answer.TheVariants as answer

-- ---- acts

-- writes among acts of items are those among all
writes_of_items : (b : BlockId) (acts : List Act) → writes_of b (of_items acts) ≡ writes_of b acts
writes_of_items b [] = refl
writes_of_items b (act.Filed seg ∷ acts) = writes_of_items b acts
writes_of_items b (act.Dropped seg ∷ acts) = writes_of_items b acts
writes_of_items b (act.Lost node seg ∷ acts) = writes_of_items b acts
writes_of_items b (act.Wrote client block value ∷ acts) = ap (λ (n : ℕ). cond (same_block block b) (suc n) n) (writes_of_items b acts)
writes_of_items b (_ ∷ acts) = writes_of_items b acts

-- a write is of blocks, and of items; and nothing of a stretch is that a client is back
all_from : (P : Act → Type 0) (acts : List Act) → ((a : Act) → In a acts → P a) → AllByRecursion P acts
all_from P [] each = tt
all_from P (a ∷ acts) each = (each a (inl refl), all_from P acts (λ x among. each x (inr among)))

no_return : (a : Act) → ((client : ℕ) (chain : List SegName) → a ≡ act.Back client chain → ⊥) → IsNoReturn a
no_return (act.Back client chain) none = none client chain refl
no_return _ none = tt

-- ---- what a write is over

over_by : (count client : ℕ) (step : BlockCall) (ver : ℕ) (block : BlockId) (value : Option (List ℕ)) → told client step (Written ver) ≡ act.Wrote client block value ∷ []
    → IsAnswerTo step (Written ver) → ver ≡ count + 1 → IsWriteOver count step block value
over_by count client (Put b v) ver block value writes fits next = (cc, cc)
over_by count client (PutAt b named v) ver block value writes fits next = (cc, (cc, (let is : ver ≡ named + 1 = fits in omega arith)))
over_by count client (Get b) ver block value writes fits next = absurd cc
over_by count client Sync ver block value writes fits next = absurd cc

has_value : (o : Option (Option (List ℕ))) → is_some o ≡ true → (value : Option (List ℕ)) × (o ≡ Some value)
has_value None some = contrary some
has_value (Some v) some = (v, refl)

-- ---- one write

module _ (e : Estate AnyNode) (holders : HoldersAreNewestThroughout e) (count : ℕ) (event : Event) (happens : slice_get e.events count ≡ Some event)
    (undoubted : NoDoubtfulRestart e (suc count)) (t : ClientTurn e count event) (block : BlockId) (value : Option (List ℕ)) (before behind : List Act) where
  abbrev c : Client
  c = t.client

  abbrev number : ℕ
  number = (lasting_of c.phase).number

  abbrev new : List Act
  new = (client_step c (what_of event)).acts

  abbrev after : Phase
  after = (client_step c (what_of event)).node.phase

  abbrev wrote : Act
  wrote = act.Wrote number block value

  known : Known e (node_of event) (any.Client c)
  known = node_known e count (node_of event) (any.Client c) t.there

  here : node_named (moment e count) (nodes.Client number) ≡ Some (any.Client c)
  here = ap (node_named (moment e count)) known.named ∙ t.there

  -- where the call stands that writes it
  record Source : Type 0 where
    item : ℕ
    does : Doing
    call : DoesCall e number item does
    place : ℕ
    begins : BeginsIn e number item place
    since : List Act
    all : (moment e count).acts ≡ (moment e place).acts ++ since
    answers : List BlockAnswer
    so_far : AreTold number does [] answers (blocks_by number since)
    reached : Reached does number (held_in after) answers (of_items before) (of_items behind) block value

  module _ (at : acts_in (moment e count) event ≡ before ++ wrote ∷ behind) where
    new_is : new ≡ before ++ wrote ∷ behind
    new_is = sym t.acts ∙ at

    split : of_items new ≡ of_items before ++ wrote ∷ of_items behind
    split = ap of_items new_is ∙ items_split before behind wrote refl

    among : In wrote (of_items new)
    among = subst (In wrote) (sym split) (in_behind wrote (of_items before) (wrote ∷ of_items behind) (inl refl))

    -- ---- the version that it made

    -- nothing of the event is that a client is back
    none_back : (acts : List Act) → ((a : Act) → In a acts → IsOfBlocks a ⊎ IsAnswer a) → (client : ℕ) (chain : List SegName) → In (act.Back client chain) acts → ⊥
    none_back acts kinds client chain found = by (kinds (act.Back client chain) found)
      where
        by : IsOfBlocks (act.Back client chain) ⊎ IsAnswer (act.Back client chain) → ⊥
        by (inl is) = is
        by (inr is) = is

    abbrev made_before : History
    made_before = history_after ((moment e count).acts ++ before) nothing_yet

    acts_now : (moment e (suc count)).acts ≡ ((moment e count).acts ++ before) ++ wrote ∷ behind
    acts_now =
        t.grown ∙ (ap (λ (xs : List Act). (moment e count).acts ++ xs) new_is ∙ sym (append_assoc (moment e count).acts before (wrote ∷ behind)))

    versions_now : ((a : Act) → In a (of_items new) → IsOfBlocks a ⊎ IsAnswer a)
        → length (history_at (moment e (suc count)) block).versions ≡ versions_behind ((moment e count).acts ++ before) block + suc (writes_of block behind)
    versions_now kinds =
        ap (λ (acts : List Act). versions_behind acts block) acts_now
        ∙ (ap (λ (h : History). length (h.of_block block).versions) (history_through ((moment e count).acts ++ before) (wrote ∷ behind) nothing_yet)
        ∙ (acts_count block (wrote ∷ behind) made_before returns
        ∙ ap (λ (test : Bool). versions_behind ((moment e count).acts ++ before) block + cond test (suc (writes_of block behind)) (writes_of block behind))
        (same_block_itself block)))
      where
        returns : AllByRecursion IsNoReturn (wrote ∷ behind)
        returns =
            all_from IsNoReturn (wrote ∷ behind)
            (λ a found. no_return a (λ client chain same.
            none_back (of_items new) kinds client chain
            (in_items (act.Back client chain) refl new
            (subst (In (act.Back client chain)) (sym new_is)
            (in_behind (act.Back client chain) before (wrote ∷ behind) (subst (λ (x : Act). In x (wrote ∷ behind)) same found))))))

    version_is : (q : Phase) → q ≡ after → (ver : ℕ) → IsHeldAfter (held_in q block) ver (writes_of block (of_items behind))
        → ((a : Act) → In a (of_items new) → IsOfBlocks a ⊎ IsAnswer a) → ver ≡ versions_behind ((moment e count).acts ++ before) block + 1
    version_is (Down l) is ver held kinds = contrary held.held
    version_is (Opening l o) is ver held kinds = contrary held.held
    version_is (Serves s) is ver held kinds =
        let v = has_value (held_of s.tokens.blocks block).value held.valued in
        let there : tokens_at (moment e (suc count)) number ≡ Some s.tokens =
        ap (λ n. tokens_of (node_named (moment e (suc count)) n)) known.named ∙ (ap tokens_of t.behind ∙ ap tokens_in (sym is)) in
        let newest : IsNewest (history_at (moment e (suc count)) block) (held_of s.tokens.blocks block).ver v.0 =
        holders (suc count) undoubted block number s.tokens v.0 there held.held v.1 in
        let is_newest : (held_of s.tokens.blocks block).ver ≡ length (history_at (moment e (suc count)) block).versions = newest.newest in
        let made : (held_of s.tokens.blocks block).ver ≡ ver + writes_of block (of_items behind) = held.version in
        let same : writes_of block (of_items behind) ≡ writes_of block behind = writes_of_items block behind in
        let now = versions_now kinds in
        omega arith

    -- ---- where it comes from

    goes_on : (call : Call) → call_in c.phase ≡ Some call → EventStretch number (open_in c.phase) (held_in after) (On call) (of_items new) (call_in after) → Source
    goes_on call fact st = record {
      item = h.0;
      does = made.does;
      call = record { wanted = h.1.1.wanted; asks = h.1.1.asks; call = made.call };
      place = h.1.1.begins.count;
      begins = record { happens = h.1.1.begins.happens; node = h.1.1.begins.node; its = h.1.1.begins.its; next = h.1.1.begins.next };
      since = h.1.1.since;
      all = h.1.1.all ∙ ap (λ (xs : List Act). xs ++ h.1.1.since) h.1.1.begins.before;
      answers = s.answers;
      so_far = subst (AreTold number made.does [] s.answers) (append-nil (blocks_by number h.1.1.since)) s.so_far;
      reached = reach made.does number st s.answers s.at (of_items before) (of_items behind) block value split;
    }
      where
        h : (item : ℕ) × ((open_in c.phase ≡ Some item) × HasRun e number item (moment e count).acts [] (Some call))
        h = (each_has_run e).0 count number c here call fact

        made : Made h.1.1.wanted h.0 number h.1.1.going
        made = made_of h.1.1.wanted h.0 number h.1.1.going h.1.1.makes

        s : Stands made.does number [] (blocks_by number h.1.1.since ++ []) call
        s = stands made.does number h.1.1.run [] made.at

    begins_so : (s : Serving) (item : ℕ) (wanted : Option Work) (going : Going) → c.phase ≡ Serves s → asked_at (lasting_of c.phase).items.works item ≡ wanted
        → call_at s item wanted ≡ Some going → BeginsIn e number item count
        → EventStretch number (Some item) (held_in after) going (of_items new) (call_in after) → Source
    begins_so s item wanted going same asks makes begins st = of wanted asks makes
      where
        self : s.lasting.number ≡ number
        self = ap (λ (p : Phase). (lasting_of p).number) (sym same)

        works : (lasting_of c.phase).items.works ≡ items_of e.script.lines (nodes.Client number)
        works = known.works ∙ ap (items_of e.script.lines) (sym known.named)

        of : (o : Option Work) → asked_at (lasting_of c.phase).items.works item ≡ o → call_at s item o ≡ Some going → Source
        of None asks makes = absurd cc
        of (Some w) asks makes =
            let made : Made w item number going = made_of w item number going (ap (call_of w item) (sym self) ∙ makes) in
            record {
              item = item;
              does = made.does;
              call = record { wanted = w; asks = ap (λ (ws : List Work). asked_at ws item) (sym works) ∙ asks; call = made.call };
              place = count;
              begins = begins;
              since = [];
              all = sym (append-nil (moment e count).acts);
              answers = [];
              so_far = refl;
              reached = reach made.does number st [] made.at (of_items before) (of_items behind) block value split;
            }

    cut_none : (o : Option ℕ) (n : ℕ)
        → NoneOfBlocks (answered_so (nodes.Client number) o answer.Cut ++ act.Answered (nodes.Client number) n answer.Done ∷ [])
    cut_none None n = (λ is. is, tt)
    cut_none (Some item) n = (λ is. is, (λ is. is, tt))

    -- the call that writes it, and of which kinds the acts of the event are
    record Found (acts : List Act) : Type 0 where
      source : Source
      kinds : (a : Act) → In a acts → IsOfBlocks a ⊎ IsAnswer a

    none_so : (acts : List Act) → NoneOfBlocks acts → acts ≡ of_items new → Found acts
    none_so acts none same = absurd (no_such acts none wrote tt (subst (In wrote) (sym same) among))

    found : (acts : List Act) → acts ≡ of_items new → Acts number c.phase (what_of event) acts after → Found acts
    found acts same (Rests x y) = none_so [] tt same
    found acts same (Passes n wanted is b free made calls items) = none_so _ (λ is. is, tt) same
    found acts same (AtOnce n wanted x refuses b calls items) = none_so _ (λ is. is, tt) same
    found acts same (GoesOn call fact stays drains st) = record {
      source = goes_on call fact
          (subst (λ (xs : List Act). EventStretch number (open_in c.phase) (held_in after) (On call) xs (call_in after)) same st);
      kinds = stretch_kind number (forget number st);
    }
    found acts same (Begins {s = s} n wanted going is b free made stays drains st) = record {
      source = begins_so s n wanted going is b.asks made (begins_in e count event happens number known.named c t.there b.begins n b.next)
          (subst (λ (xs : List Act). EventStretch number (Some n) (held_in after) going xs (call_in after)) same st);
      kinds = stretch_kind number (forget number st);
    }
    found acts same (Loses name over none) = none_so _ (answers_none (nodes.Client number) (open_in c.phase) (answer.Lost name)) same
    found acts same (Falls n wanted flight falls s b crash f) = none_so _ (λ is. is, cut_none (open_in c.phase) n) same
    found acts same (Stops n wanted o b crash f) = none_so _ (cut_none (open_in c.phase) n) same
    found acts same (Returns chain o s over none) = none_so _ (λ is. is, answers_none (nodes.Client number) (open_in c.phase) answer.Done) same

    -- ---- what is said of it

    writes_next : Found (of_items new) → WritesNext e number ((moment e count).acts ++ before) block value
    writes_next f = record {
      item = f.source.item;
      does = f.source.does;
      call = f.source.call;
      place = f.source.place;
      begins = f.source.begins;
      since = f.source.since ++ before;
      all = ap (λ (xs : List Act). xs ++ before) f.source.all ∙ append_assoc (moment e f.source.place).acts f.source.since before;
      answers = f.source.answers ++ r.answers;
      told_so = subst (AreTold number f.source.does [] (f.source.answers ++ r.answers)) blocks
          (told_then f.source.does number [] f.source.answers r.answers (blocks_by number f.source.since) (of_items before) f.source.so_far r.so_far);
      step = r.step;
      next = r.next;
      over = over_by (versions_behind ((moment e count).acts ++ before) block) number r.step r.ver block value r.writes r.fits
          (version_is after refl r.ver r.held f.kinds);
    }
      where
        r : Reached f.source.does number (held_in after) f.source.answers (of_items before) (of_items behind) block value
        r = f.source.reached

        blocks : blocks_by number f.source.since ++ of_items before ≡ blocks_by number (f.source.since ++ before)
        blocks =
            ap (λ (xs : List Act). blocks_by number f.source.since ++ xs)
            (sym (blocks_told f.source.does number f.source.answers r.answers (of_items before) r.so_far) ∙ of_items_same number before)
            ∙ sym (blocks_then number f.source.since before)

    write_is_next : WritesNext e number ((moment e count).acts ++ before) block value
    write_is_next = writes_next (found (of_items new) refl ((runs_act e).events count event happens c t.there).acts)

pub no_update_is_lost : (e : Estate AnyNode) → HoldersAreNewestThroughout e → NoUpdateIsLost e
no_update_is_lost e holders count event happens undoubted before behind client block value at =
    subst (λ (n : ℕ). WritesNext e n ((moment e count).acts ++ before) block value) (sym own)
    (write_is_next e holders count event happens undoubted t block value before behind
    (at ∙ ap (λ (n : ℕ). before ++ act.Wrote n block value ∷ behind) own))
  where
    wrote_here : In (act.Wrote client block value) (acts_in (moment e count) event)
    wrote_here = subst (In (act.Wrote client block value)) (sym at) (in_behind (act.Wrote client block value) before (act.Wrote client block value ∷ behind) (inl refl))

    t : ClientTurn e count event
    t = clients_turn e count event happens (act.Wrote client block value) wrote_here tt

    -- it names its client
    own : client ≡ (lasting_of t.client.phase).number
    own =
        let f = (runs_act e).blocks count event happens t.client t.there (act.Wrote client block value) tt
        (subst (In (act.Wrote client block value)) t.acts wrote_here) in
        by_item f.0 _ _ f.1
      where
        by_item : (item : ℕ) (w : Option Work) (acts : List Act) → IsFor (lasting_of t.client.phase).number item w acts (act.Wrote client block value)
            → client ≡ (lasting_of t.client.phase).number
        by_item item w acts (OfFile is by) = by
        by_item item w acts (OfBlock x all told by) = by
