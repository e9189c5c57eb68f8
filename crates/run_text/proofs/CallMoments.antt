-- Moment by moment, where none is open as an item begins: no call is open, and the machine has answered what was answered; or one is, and the machine has come as far in it.
use Rattle.std.proofs.Common.{◌≡◌, ℕ, suc, Bool, true, false, List, [], ◌∷◌, ◌++◌, append-nil, drop, length, slice_get, slice_set, Option, Some, None, refl, sym, ap, subst, ◌∙◌}
use Rattle.std.proofs.Math.Seq.{drop-append_seam}
use Rattle.std.proofs.lemmas.List.Elements.{filter-append}
use Rattle.std.specs.List.{AllByRecursion}
use Rattle.client_call.specs.declared.call.Call.{Call}
use Rattle.core_world.specs.AnyNode.{any_step}
use Rattle.core_world.specs.declared.any_node.AnyNode.{AnyNode}
use Rattle.core_world.specs.declared.any_node.AnyNode.TheVariants as any
use Rattle.file_plan.specs.Driving.{World, nothing_written}
use Rattle.headline.specs.Calls.{call_in, of_items}
use Rattle.headline.specs.Courses.{Doing, doing_of}
use Rattle.headline.specs.InLine.{answers_in}
use Rattle.headline.specs.Items.{asked_at}
use Rattle.headline.specs.Moments.{acts_in, moment, node_in, node_named}
use Rattle.run_laws.proofs.world_law.Turning.{next_cluster}
use Rattle.run_laws.proofs.world_reads.Taking.{NothingHappens, Took, moment_next, node_then}
use Rattle.script_text.specs.declared.script.Line.{Line}
use Rattle.transcript.specs.Replies.{is_answer}
use Rattle.version_model.proofs.Onward.{history_through}
use Rattle.version_model.specs.declared.act.Act.{Act}
use Rattle.version_model.specs.declared.act.Act.TheVariants as act
use Rattle.version_model.specs.declared.answer.Answer.{Answer}
use Rattle.version_model.specs.declared.work.Work.{Work}
use Rattle.version_model.specs.Effects.{after_act, history_after}
use Rattle.version_model.specs.History.{History, nothing_yet}
use Rattle.version_model.specs.Legal.{AreLegalFrom}
use Rattle.world_base.proofs.Lists.{get_set_other}
use Rattle.world_base.proofs.Places.{node_there}
use Rattle.world_base.specs.Cluster.{place_of}
use Rattle.world_base.specs.declared.estate.Estate.{Estate}
use Rattle.world_base.specs.declared.event.Event.{Event}
use Rattle.world_base.specs.declared.world.World.{World as Run}
use Rattle.world_base.specs.Events.{node_of, what_of}
use Rattle.world_base.specs.Items.{items_of}
use Rattle.world_base.specs.NextWorld.{next_world}
use Rattle.quiet_flow.proofs.Places.{not_same}
use Rattle.xfs_base.proofs.Alls.{all_append}
use Rattle.xfs_base.proofs.NodeOrder.{same_node_is}
use Rattle.xfs_base.specs.declared.node.NodeId.{NodeId}
use Rattle.xfs_base.specs.declared.node.NodeId.TheVariants as nodes
use Rattle.xfs_base.specs.Nodes.{same_node}
use Rattle.run_text.proofs.Acts.{answers_items, calls_items, history_items, of_calls}
use Rattle.run_text.proofs.Driven.{Done, Replied, Waiting, behind}
use Rattle.run_text.proofs.Serving.{IsNoReturn, no_returns}
use Rattle.run_text.proofs.Tables.{Shows}

-- ---- what is answered, by a machine that is driven as long as it takes

-- the machine makes the call that the script asks for by this item, from this table, and replies so
pub record Gives (lines : List Line) (from : World) (node : NodeId) (item : ℕ) (a : Answer) (to : World) : Type 0 where
  pub client : ℕ
  pub own : node ≡ nodes.Client client
  pub wanted : Work
  pub asks : asked_at (items_of lines node) item ≡ Some wanted
  pub does : Doing
  pub call : doing_of wanted item client ≡ Some does
  pub replied : Replied does from a to

abbrev pub GivesAll : List Line → World → List Act → World → Type 0
GivesAll lines from [] to = from ≡ to
GivesAll lines from (act.Answered node item a ∷ answers) to = (mid : World) × Gives lines from node item a mid × GivesAll lines mid answers to
GivesAll lines from (_ ∷ answers) to = ⊥

gives_more : (lines : List Line) (from : World) (answers : List Act) (mid : World) (node : NodeId) (item : ℕ) (a : Answer) (to : World) → Gives lines mid node item a to
    → GivesAll lines from answers mid → GivesAll lines from (answers ++ act.Answered node item a ∷ []) to
gives_more lines from [] mid node item a to gives so = (to, subst (λ (w : World). Gives lines w node item a to) (sym so) gives, refl)
gives_more lines from (act.Answered n i b ∷ answers) mid node item a to gives (next, first, rest) =
    (next, first, gives_more lines next answers mid node item a to gives rest)
gives_more lines from (_ ∷ answers) mid node item a to gives so = absurd so

-- ---- acts of items, and all acts

returns_items : (acts : List Act) → AllByRecursion IsNoReturn (of_items acts) → AllByRecursion IsNoReturn acts
returns_items [] none = tt
returns_items (act.Filed seg ∷ acts) none = (tt, returns_items acts none)
returns_items (act.Lost node seg ∷ acts) none = (tt, returns_items acts none)
returns_items (_ ∷ acts) none = (none.0, returns_items acts none.1)

pub legal_of_items : (acts : List Act) (h : History) → AreLegalFrom h acts → AreLegalFrom h (of_items acts)
legal_of_items [] h legal = tt
legal_of_items (act.Wrote client block value ∷ acts) h legal = (legal.0, legal_of_items acts (after_act (act.Wrote client block value) h) legal.1)
legal_of_items (act.Read client block ver value ∷ acts) h legal = (legal.0, legal_of_items acts (after_act (act.Read client block ver value) h) legal.1)
legal_of_items (act.Synced client ∷ acts) h legal = (legal.0, legal_of_items acts (after_act (act.Synced client) h) legal.1)
legal_of_items (act.Fell client flight falls ∷ acts) h legal = (legal.0, legal_of_items acts (after_act (act.Fell client flight falls) h) legal.1)
legal_of_items (act.Back client chain ∷ acts) h legal = (legal.0, legal_of_items acts (after_act (act.Back client chain) h) legal.1)
legal_of_items (act.Lost node seg ∷ acts) h legal = legal_of_items acts h legal.1
legal_of_items (act.Filed seg ∷ acts) h legal = legal_of_items acts h legal.1
legal_of_items (act.Dropped seg ∷ acts) h legal = (legal.0, legal_of_items acts h legal.1)
legal_of_items (act.Answered node item answer ∷ acts) h legal = (legal.0, legal_of_items acts h legal.1)

module _ (xs : List Act) where
  items_answers : answers_in xs ≡ answers_in (of_items xs)
  items_answers = answers_items xs ∙ (ap answers_in (sym (calls_items xs)) ∙ sym (answers_items (of_items xs)))

  items_history : (h : History) → history_after xs h ≡ history_after (of_items xs) h
  items_history h = history_items xs h ∙ (ap (λ ys. history_after ys h) (sym (calls_items xs)) ∙ sym (history_items (of_items xs) h))

-- ---- what stands behind acts

module _ (lines : List Line) where
  -- the machine has answered what was answered, and was then at the first of these tables; the second shows what was acted
  pub record Stood (acts : List Act) (start table : World) : Type 0 where
    pub gives : GivesAll lines nothing_written (answers_in acts) start
    pub shows : Shows (behind acts) table
    pub returns : AllByRecursion IsNoReturn acts

  module _ (acts xs : List Act) (start table : World) (s : Stood acts start table) where
    answers_then : answers_in (acts ++ xs) ≡ answers_in acts ++ answers_in (of_items xs)
    answers_then = filter-append is_answer acts xs ∙ ap (λ ys. answers_in acts ++ ys) (items_answers xs)

    history_then : behind (acts ++ xs) ≡ history_after (of_items xs) (behind acts)
    history_then = history_through acts xs nothing_yet ∙ items_history xs (behind acts)

    unanswered : (to : World) → answers_in (of_items xs) ≡ [] → Shows (history_after (of_items xs) (behind acts)) to → AllByRecursion IsNoReturn (of_items xs)
        → Stood (acts ++ xs) start to
    unanswered to silent shows returns = record {
      gives = subst (λ ys. GivesAll lines nothing_written ys start)
          (sym (answers_then ∙ (ap (λ ys. answers_in acts ++ ys) silent ∙ append-nil (answers_in acts)))) s.gives;
      shows = subst (λ h. Shows h to) (sym history_then) shows;
      returns = all_append IsNoReturn acts xs s.returns (returns_items xs returns);
    }

    -- nothing is done for items
    pub stood_still : of_calls xs ≡ [] → Stood (acts ++ xs) start table
    stood_still none = record {
      gives = subst (λ ys. GivesAll lines nothing_written ys start)
          (sym (filter-append is_answer acts xs
          ∙ (ap (λ ys. answers_in acts ++ ys) (answers_items xs ∙ ap answers_in none) ∙ append-nil (answers_in acts)))) s.gives;
      shows = subst (λ h. Shows h table)
          (sym (history_through acts xs nothing_yet ∙ (history_items xs (behind acts) ∙ ap (λ ys. history_after ys (behind acts)) none))) s.shows;
      returns = all_append IsNoReturn acts xs s.returns (no_returns xs (subst (AllByRecursion IsNoReturn) (sym none) tt));
    }

    -- a call goes on, and waits
    pub stood_on : (client item : ℕ) (does : Doing) (new : Call) (g : Waiting client item does start (behind acts) (of_items xs) new) → Stood (acts ++ xs) start g.table
    stood_on client item does new g = unanswered g.table g.silent g.shows g.returns

    -- it is done
    pub stood_done : (client item : ℕ) (does : Doing) (g : Done client item does start (behind acts) (of_items xs)) → Gives lines start (nodes.Client client) item g.given g.table
        → Stood (acts ++ xs) g.table g.table
    stood_done client item does g gives = record {
      gives = subst (λ ys. GivesAll lines nothing_written ys g.table) (sym (answers_then ∙ ap (λ ys. answers_in acts ++ ys) g.answers))
          (gives_more lines nothing_written (answers_in acts) start (nodes.Client client) item g.given g.table gives s.gives);
      shows = subst (λ h. Shows h g.table) (sym history_then) g.shows;
      returns = all_append IsNoReturn acts xs s.returns (returns_items xs g.returns);
    }

-- ---- nodes behind an event

-- it is no client with an open call
abbrev pub HasNoCall : AnyNode → Type 0
HasNoCall (any.Client c) = call_in c.phase ≡ None
HasNoCall _ = Unit {0}

module _ (e : Estate AnyNode) (count : ℕ) (event : Event) (happens : slice_get e.events count ≡ Some event) where
  abbrev w : Run AnyNode
  w = moment e count

  then_named : (name : NodeId) → node_named (moment e (suc count)) name ≡ node_in (next_world any_step w event).nodes (place_of w.cluster name)
  then_named name =
      ap (λ (v : Run AnyNode). node_named v name) (moment_next e count event happens)
      ∙ ap (λ k. node_in (next_world any_step w event).nodes (place_of k name)) (next_cluster any_step w event)

  -- nothing happens
  pub same_named : NothingHappens w event → (name : NodeId) → node_named (moment e (suc count)) name ≡ node_named w name
  same_named none name = then_named name ∙ ap (λ ns. node_in ns (place_of w.cluster name)) none.nodes

  module _ (x : AnyNode) (took : Took w event x) where
    pub its_acts : acts_in w event ≡ (any_step x (what_of event)).acts
    its_acts = ap (drop (length w.acts)) took.acts ∙ drop-append_seam w.acts (any_step x (what_of event)).acts

    pub its_there : node_named w (node_of event) ≡ Some x
    its_there = ap (node_in w.nodes) took.placed ∙ took.stands

    pub its_behind : node_named (moment e (suc count)) (node_of event) ≡ Some (any_step x (what_of event)).node
    its_behind = then_named (node_of event) ∙ node_then w.cluster w refl event x took

    -- no other node changes
    pub others_named : (name : NodeId) → (name ≡ node_of event → ⊥) → node_named (moment e (suc count)) name ≡ node_named w name
    others_named name apart =
        then_named name ∙ (ap (λ ns. node_in ns (place_of w.cluster name)) took.nodes ∙ by (place_of w.cluster name) refl)
      where
        after : AnyNode
        after = (any_step x (what_of event)).node

        by : (o : Option ℕ) → place_of w.cluster name ≡ o → node_in (slice_set w.nodes took.place after) o ≡ node_in w.nodes o
        by None fact = refl
        by (Some q) fact =
            get_set_other w.nodes took.place after q
            (λ same. apart (node_there w.cluster name q fact ∙ sym (node_there w.cluster (node_of event) q (took.placed ∙ ap Some (sym same)))))

    -- so it is of each node then
    pub all_named : (P : NodeId → AnyNode → Type 0) → P (node_of event) (any_step x (what_of event)).node
        → ((name : NodeId) (y : AnyNode) → (name ≡ node_of event → ⊥) → node_named w name ≡ Some y → P name y)
        → (name : NodeId) (y : AnyNode) → node_named (moment e (suc count)) name ≡ Some y → P name y
    all_named P its others name y fact = by (same_node name (node_of event)) refl
      where
        one : (a b : AnyNode) → Some a ≡ Some b → a ≡ b
        one a b same = cc

        by : (t : Bool) → same_node name (node_of event) ≡ t → P name y
        by true is =
            let own : name ≡ node_of event = same_node_is name (node_of event) is in
            let new : (any_step x (what_of event)).node ≡ y = one _ y (sym its_behind ∙ (ap (node_named (moment e (suc count))) (sym own) ∙ fact)) in
            subst (λ n. P n y) (sym own) (subst (P (node_of event)) new its)
        by false is =
            let apart : name ≡ node_of event → ⊥ = not_same name (node_of event) is in
            others name y apart (sym (others_named name apart) ∙ fact)
