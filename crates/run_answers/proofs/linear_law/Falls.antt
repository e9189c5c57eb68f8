-- In every run a client falls only where a crash of it begins, and is back only where a restart of it is done.
use Rattle.std.proofs.Common.{◌≡◌, ◌⊎◌, ℕ, List, [], ◌∷◌, ◌++◌, true, slice_get, Option, Some, None, inl, inr, refl, sym, ap, subst, ◌∙◌}
use Rattle.client_node.specs.declared.client.Client.{Client}
use Rattle.client_node.specs.declared.phase.Phase.{Phase}
use Rattle.client_node.specs.declared.phase.Phase.TheVariants.{Down, Opening, Serving as Serves}
use Rattle.client_node.specs.Phases.{client_step, lasting_of}
use Rattle.core_world.specs.declared.any_node.AnyNode.{AnyNode}
use Rattle.core_world.specs.declared.any_node.AnyNode.TheVariants as any
use Rattle.token_protocol.specs.Basics.{In}
use Rattle.version_model.specs.declared.act.Act.{Act}
use Rattle.version_model.specs.declared.act.Act.TheVariants as act
use Rattle.version_model.specs.declared.act.Fall.{Fall}
use Rattle.version_model.specs.declared.answer.Answer.{Answer}
use Rattle.version_model.specs.declared.answer.Answer.TheVariants as answer
use Rattle.version_model.specs.declared.work.Work.{Work}
use Rattle.world_base.specs.declared.estate.Estate.{Estate}
use Rattle.world_base.specs.declared.event.Event.{Event}
use Rattle.world_base.specs.Events.{node_of, what_of}
use Rattle.world_base.specs.Items.{items_of}
use Rattle.run_laws.proofs.world_law.Sent.{in_append}
use Rattle.headline.specs.Moments.{acts_in, moment}
use Rattle.xfs_base.specs.declared.node.NodeId.{NodeId}
use Rattle.xfs_base.specs.declared.node.NodeId.TheVariants as nodes
use Rattle.xfs_base.specs.declared.segment.SegName.{SegName}
use Rattle.run_answers.proofs.linear_law.Openings.{HasRestart, restarts_open}
use Rattle.run_answers.proofs.linear_law.Stretches.{IsAnswer, from_items, in_items, stretch_kind}
use Rattle.run_answers.proofs.linear_law.Turns.{ClientTurn, begins_in, clients_turn}
use Rattle.run_answers.proofs.once_law.Runs.{Known, node_known}
use Rattle.run_answers.proofs.own_law.Runs.{runs_act}
use Rattle.run_answers.proofs.own_law.Whole.{forget}
use Rattle.headline.specs.Items.{asked_at}
use Rattle.headline.specs.Linear.{CrashBegins, FallsAreCrashes, RestartEnds, ReturnsAreRestarts, asked}
use Rattle.headline.specs.Calls.{Acts, IsCrash, Opens, answered_so, is_of_items, of_items, open_in}
use Rattle.headline.specs.Calls.Acts.{Rests, Passes, AtOnce, GoesOn, Begins, Loses, Falls, Stops, Returns}
use Rattle.headline.specs.ItemActs.{IsOfBlocks}
use Rattle.headline.specs.Standings.{IsRestart}

-- neither an act of blocks nor an answer
abbrev IsNeither : Act → Type 0
IsNeither a = IsOfBlocks a ⊎ IsAnswer a → ⊥

-- where all these are answers, it isn't among them
not_answered : (node : NodeId) (o : Option ℕ) (x : Answer) (a : Act) → IsNeither a → In a (answered_so node o x) → ⊥
not_answered node None x a none among = among
not_answered node (Some item) x a none (inl same) = none (inr (subst IsAnswer (sym same) tt))
not_answered node (Some item) x a none (inr among) = among

not_cut : (node : NodeId) (o : Option ℕ) (n : ℕ) (a : Act) → IsNeither a → In a (answered_so node o answer.Cut ++ act.Answered node n answer.Done ∷ []) → ⊥
not_cut node o n a none among = by (in_append (answered_so node o answer.Cut) (act.Answered node n answer.Done ∷ []) a among)
  where
    by : In a (answered_so node o answer.Cut) ⊎ In a (act.Answered node n answer.Done ∷ []) → ⊥
    by (inl cut) = not_answered node o answer.Cut a none cut
    by (inr done) = not_answered node (Some n) answer.Done a none done

module _ (e : Estate AnyNode) (count : ℕ) (event : Event) (happens : slice_get e.events count ≡ Some event) (t : ClientTurn e count event) where
  abbrev c : Client
  c = t.client

  abbrev number : ℕ
  number = (lasting_of c.phase).number

  abbrev new : List Act
  new = (client_step c (what_of event)).acts

  known : Known e (node_of event) (any.Client c)
  known = node_known e count (node_of event) (any.Client c) t.there

  acts_so : Acts number c.phase (what_of event) (of_items new) (client_step c (what_of event)).node.phase
  acts_so = ((runs_act e).events count event happens c t.there).acts

  asks_so : (item : ℕ) → asked_at (lasting_of c.phase).items.works item ≡ asked e number item
  asks_so item = ap (λ (ws : List Work). asked_at ws item) (known.works ∙ ap (items_of e.script.lines) (sym known.named))

  -- ---- acts that are neither of blocks nor answers

  -- it falls by a crash that begins
  record IsFall (a : Act) : Type 0 where
    flight : Option (ℕ × ℕ)
    falls : List Fall
    same : a ≡ act.Fell number flight falls
    crash : CrashBegins e number count

  -- its log is open again, and the open item is done
  record IsReturn (a : Act) (acts : List Act) : Type 0 where
    chain : List SegName
    same : a ≡ act.Back number chain
    opens : Opens c.phase
    all : acts ≡ act.Back number chain ∷ answered_so (nodes.Client number) (open_in c.phase) answer.Done

  abbrev Which : Act → List Act → Type 0
  Which a acts = IsFall a ⊎ IsReturn a acts

  which : (a : Act) → IsNeither a → (q : Phase) (acts : List Act) → Acts number c.phase (what_of event) acts q → In a acts → Which a acts
  which a neither q acts (Rests x y) among = absurd among
  which a neither q acts (Passes n wanted same b free made calls items) among =
      absurd (not_answered (nodes.Client number) (Some n) answer.Done a neither among)
  which a neither q acts (AtOnce n wanted x refuses b calls items) among = absurd (not_answered (nodes.Client number) (Some n) x a neither among)
  which a neither q acts (GoesOn call at stays drains st) among = absurd (neither (stretch_kind number (forget number st) a among))
  which a neither q acts (Begins n wanted going same b free made stays drains st) among = absurd (neither (stretch_kind number (forget number st) a among))
  which a neither q acts (Loses name over none) among = absurd (not_answered (nodes.Client number) (open_in c.phase) (answer.Lost name) a neither among)
  which a neither q acts (Falls n wanted flight falls s b crash f) (inl same) = inl (record {
    flight = flight;
    falls = falls;
    same = same;
    crash = record {
      item = n;
      begins = begins_in e count event happens number known.named c t.there b.begins n b.next;
      asks = subst IsCrash (sym b.asks ∙ asks_so n) crash;
    };
  })
  which a neither q acts (Falls n wanted flight falls s b crash f) (inr among) = absurd (not_cut (nodes.Client number) (open_in c.phase) n a neither among)
  which a neither q acts (Stops n wanted o b crash f) among = absurd (not_cut (nodes.Client number) (open_in c.phase) n a neither among)
  which a neither q acts (Returns chain o s over none) (inl same) = inr (record { chain = chain; same = same; opens = o; all = refl })
  which a neither q acts (Returns chain o s over none) (inr among) =
      absurd (not_answered (nodes.Client number) (open_in c.phase) answer.Done a neither among)

  which_so : (a : Act) → IsNeither a → is_of_items a ≡ true → In a (acts_in (moment e count) event) → Which a (of_items new)
  which_so a neither is among =
      which a neither (client_step c (what_of event)).node.phase (of_items new) acts_so (in_items a is new (subst (In a) t.acts among))

  -- ---- the restart that is done

  open_restart : (p : Phase) → Opens p → HasRestart p → (item : ℕ) × (open_in p ≡ Some item)
  open_restart (Down l) opens has = absurd opens
  open_restart (Opening l o) opens has = has
  open_restart (Serves s) opens has = absurd opens

  restart_ends : {a : Act} → IsReturn a (of_items new) → RestartEnds e number count event
  restart_ends r = record {
    item = item;
    asks = subst (λ (n : NodeId). IsRestart (asked_at (items_of e.script.lines n) item)) (sym known.named)
        ((runs_act e).opening count (node_of event) c t.there r.opens item waits);
    done = subst (In (act.Answered (nodes.Client number) item answer.Done)) (sym t.acts) (from_items (act.Answered (nodes.Client number) item answer.Done) new found);
  }
    where
      has : (item : ℕ) × (open_in c.phase ≡ Some item)
      has = open_restart c.phase r.opens (restarts_open e count (node_of event) (any.Client c) t.there)

      item : ℕ
      item = has.0

      waits : open_in c.phase ≡ Some item
      waits = has.1

      its : Act
      its = act.Answered (nodes.Client number) item answer.Done

      found : In its (of_items new)
      found =
          subst (In its) (sym (r.all ∙ ap (λ (o : Option ℕ). act.Back number r.chain ∷ answered_so (nodes.Client number) o answer.Done) waits)) (inr (inl refl))

-- ---- the two kinds of acts

fell_neither : (client : ℕ) (flight : Option (ℕ × ℕ)) (falls : List Fall) → IsNeither (act.Fell client flight falls)
fell_neither client flight falls (inl is) = is
fell_neither client flight falls (inr is) = is

back_neither : (client : ℕ) (chain : List SegName) → IsNeither (act.Back client chain)
back_neither client chain (inl is) = is
back_neither client chain (inr is) = is

pub falls_are : (e : Estate AnyNode) → FallsAreCrashes e
falls_are e count event happens client flight falls among =
    by (which_so e count event happens t (act.Fell client flight falls) (fell_neither client flight falls) refl among)
  where
    t : ClientTurn e count event
    t = clients_turn e count event happens (act.Fell client flight falls) among tt

    by : Which e count event happens t (act.Fell client flight falls) (of_items (client_step t.client (what_of event)).acts) → CrashBegins e client count
    by (inl fall) =
        (let clash = fall.same in let same : (lasting_of t.client.phase).number ≡ client = cc in subst (λ (n : ℕ). CrashBegins e n count) same fall.crash)
    by (inr back) = absurd (let clash = back.same in cc)

pub returns_are : (e : Estate AnyNode) → ReturnsAreRestarts e
returns_are e count event happens client chain among =
    by (which_so e count event happens t (act.Back client chain) (back_neither client chain) refl among)
  where
    t : ClientTurn e count event
    t = clients_turn e count event happens (act.Back client chain) among tt

    by : Which e count event happens t (act.Back client chain) (of_items (client_step t.client (what_of event)).acts) → RestartEnds e client count event
    by (inl fall) = absurd (let clash = fall.same in cc)
    by (inr back) =
        let clash = back.same in
        let same : (lasting_of t.client.phase).number ≡ client = cc in
        subst (λ (n : ℕ). RestartEnds e n count event) same (restart_ends e count event happens t back)
