-- Where the run of the calls is: no call is open, or one is, and the machine has come as far; and so it stays where nothing is done for items.
use Rattle.std.proofs.Common.{◌≡◌, ◌⊎◌, ℕ, zero, suc, List, [], ◌++◌, inl, inr, slice_get, Some, refl, sym, subst, ◌∙◌}
use Rattle.client_call.specs.declared.call.Call.{Call}
use Rattle.client_call.specs.declared.call.Going.TheVariants.{On}
use Rattle.client_node.specs.declared.client.Client.{Client}
use Rattle.core_world.specs.AnyNode.{any_start, any_step}
use Rattle.core_world.specs.declared.any_node.AnyNode.{AnyNode}
use Rattle.core_world.specs.declared.any_node.AnyNode.TheVariants as any
use Rattle.file_plan.specs.declared.block_call.BlockAnswer.{BlockAnswer}
use Rattle.file_plan.specs.Driving.{World, nothing_written}
use Rattle.headline.specs.Calls.{call_in, open_in}
use Rattle.headline.specs.Courses.{Doing}
use Rattle.headline.specs.Linear.{DoesCall}
use Rattle.headline.specs.Moments.{acts_in, moment, node_named}
use Rattle.run_answers.proofs.linear_law.Courses.{At}
use Rattle.run_answers.proofs.standing_law.Moments.{each_moment}
use Rattle.run_laws.proofs.world_reads.Taking.{Took}
use Rattle.version_model.specs.declared.act.Act.{Act}
use Rattle.version_model.specs.declared.work.Work.{Work}
use Rattle.world_base.specs.declared.estate.Estate.{Estate}
use Rattle.world_base.specs.declared.event.Event.{Event}
use Rattle.world_base.specs.Events.{node_of, what_of}
use Rattle.world_base.specs.Items.{items_of}
use Rattle.xfs_base.specs.declared.node.NodeId.{NodeId}
use Rattle.xfs_base.specs.declared.node.NodeId.TheVariants as nodes
use Rattle.run_text.proofs.Acts.{of_calls}
use Rattle.run_text.proofs.CallMoments.{HasNoCall, Stood, all_named, others_named, stood_still}
use Rattle.run_text.proofs.Driven.{Reaches}
use Rattle.run_text.proofs.Moments.{acts_then, first_acts}
use Rattle.run_text.proofs.Tables.{shows_nothing}

-- at the start no call is open
starts_free : (e : Estate AnyNode) (name : NodeId) (works : List Work) → HasNoCall (any_start name e.script.setup works)
starts_free e (nodes.Client number) works = refl
starts_free e (nodes.Manager number) works = tt
starts_free e (nodes.Server number) works = tt
starts_free e nodes.Cleaner works = tt
starts_free e nodes.Registry works = tt

abbrev Free : ℕ → NodeId → AnyNode → Type 0
Free zero name x = HasNoCall x
Free (suc count) name x = Unit {0}

none_first : (e : Estate AnyNode) (name : NodeId) (x : AnyNode) → node_named (moment e 0) name ≡ Some x → HasNoCall x
none_first e =
    each_moment Free e (λ name. starts_free e name (items_of e.script.lines name)) (λ count name x idles so. tt) (λ count event happens x was took so. tt) 0

module _ (e : Estate AnyNode) where
  abbrev pub acts_at : ℕ → List Act
  acts_at count = (moment e count).acts

  -- no call is open
  pub record RestsAt (count : ℕ) : Type 0 where
    pub table : World
    pub stood : Stood e.script.lines (acts_at count) table table
    pub none : (name : NodeId) (x : AnyNode) → node_named (moment e count) name ≡ Some x → HasNoCall x

  -- one is, of this item of this client, and the machine has come as far in it
  pub record WaitsAt (count : ℕ) : Type 0 where
    pub start : World
    pub table : World
    pub client : ℕ
    pub item : ℕ
    pub does : Doing
    pub call : DoesCall e client item does
    pub stood : Stood e.script.lines (acts_at count) start table
    pub c : Client
    pub there : node_named (moment e count) (nodes.Client client) ≡ Some (any.Client c)
    pub opened : open_in c.phase ≡ Some item
    pub now : Call
    pub calling : call_in c.phase ≡ Some now
    pub had : List BlockAnswer
    pub at : At does had (On now)
    pub reached : Reaches does start had table
    pub others : (name : NodeId) (x : AnyNode) → node_named (moment e count) name ≡ Some x → (name ≡ nodes.Client client → ⊥) → HasNoCall x

  abbrev pub State : ℕ → Type 0
  State count = RestsAt count ⊎ WaitsAt count

  pub first_state : State 0
  first_state = inl (record {
    table = nothing_written;
    stood = subst (λ acts. Stood e.script.lines acts nothing_written nothing_written) (sym (first_acts e))
        (record { gives = refl; shows = shows_nothing; returns = tt });
    none = none_first e;
  })

  -- nothing is acted, and no node changes
  module _ (count : ℕ) (same_acts : acts_at count ≡ acts_at (suc count))
      (same_nodes : (name : NodeId) → node_named (moment e (suc count)) name ≡ node_named (moment e count) name) where
    pub as_was : State count → State (suc count)
    as_was (inl s) = inl (record {
      table = s.table;
      stood = subst (λ acts. Stood e.script.lines acts s.table s.table) same_acts s.stood;
      none = λ name x fact. s.none name x (sym (same_nodes name) ∙ fact);
    })
    as_was (inr s) = inr (record {
      start = s.start;
      table = s.table;
      client = s.client;
      item = s.item;
      does = s.does;
      call = s.call;
      stood = subst (λ acts. Stood e.script.lines acts s.start s.table) same_acts s.stood;
      c = s.c;
      there = same_nodes (nodes.Client s.client) ∙ s.there;
      opened = s.opened;
      now = s.now;
      calling = s.calling;
      had = s.had;
      at = s.at;
      reached = s.reached;
      others = λ name x fact apart. s.others name x (sym (same_nodes name) ∙ fact) apart;
    })

  module _ (count : ℕ) (event : Event) (happens : slice_get e.events count ≡ Some event) where
    abbrev xs : List Act
    xs = acts_in (moment e count) event

    then_ : acts_at (suc count) ≡ acts_at count ++ xs
    then_ = acts_then e count event happens

    -- a node takes the event, and nothing is done for items
    module _ (x : AnyNode) (took : Took (moment e count) event x) (none : of_calls xs ≡ []) (free : HasNoCall (any_step x (what_of event)).node) where
      pub rests_still : RestsAt count → RestsAt (suc count)
      rests_still s = record {
        table = s.table;
        stood = subst (λ acts. Stood e.script.lines acts s.table s.table) (sym then_) (stood_still e.script.lines (acts_at count) xs s.table s.table s.stood none);
        none = all_named e count event happens x took (λ name y. HasNoCall y) free (λ name y apart fact. s.none name y fact);
      }

      pub waits_still : (s : WaitsAt count) → (nodes.Client s.client ≡ node_of event → ⊥) → WaitsAt (suc count)
      waits_still s apart = record {
        start = s.start;
        table = s.table;
        client = s.client;
        item = s.item;
        does = s.does;
        call = s.call;
        stood = subst (λ acts. Stood e.script.lines acts s.start s.table) (sym then_) (stood_still e.script.lines (acts_at count) xs s.start s.table s.stood none);
        c = s.c;
        there = others_named e count event happens x took (nodes.Client s.client) apart ∙ s.there;
        opened = s.opened;
        now = s.now;
        calling = s.calling;
        had = s.had;
        at = s.at;
        reached = s.reached;
        others = all_named e count event happens x took (λ name y. (name ≡ nodes.Client s.client → ⊥) → HasNoCall y) (λ other. free)
            (λ name y differs fact other. s.others name y fact other);
      }
