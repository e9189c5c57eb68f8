-- Moment by moment the one machine has answered what was answered so far, and its table shows the histories of blocks.
use Rattle.std.proofs.Common.{◌≡◌, ◌⊎◌, ℕ, zero, suc, List, [], ◌∷◌, ◌++◌, inl, inr, length, slice_get, Option, Some, None, append-nil, refl, sym, ap, subst, ◌∙◌}
use Rattle.std.proofs.lemmas.List.Elements.{filter-append}
use Rattle.std.specs.List.{AllByRecursion}
use Rattle.core_world.specs.AnyNode.{any_start, any_step}
use Rattle.core_world.specs.declared.any_node.AnyNode.{AnyNode}
use Rattle.file_plan.specs.Driving.{World, nothing_written}
use Rattle.headline.specs.Answers.{AnswersAreActs, IsNewestOf, VersionsAreNewest}
use Rattle.headline.specs.InLine.{answers_in}
use Rattle.headline.specs.ItemActs.{ClientsActForItems, IsOfBlocks, IsOfCall}
use Rattle.headline.specs.Items.{ItemsAnsweredOnce, asked_at}
use Rattle.headline.specs.Moments.{acts_in, moment, node_named}
use Rattle.headline.specs.OneMachine.{AreDone, AreOnBlocks, Serves}
use Rattle.headline.specs.Restarts.{NoDoubtfulRestart}
use Rattle.headline.specs.Standings.{standing}
use Rattle.headline.specs.Standings.Standing.{Serves as Stood}
use Rattle.headline.specs.Versions.{IsNewest}
use Rattle.log_tie.proofs.Listings.{in_back}
use Rattle.one_machine.specs.Machine.{call_on}
use Rattle.run_answers.proofs.act_law.Runs.{moment_past}
use Rattle.script_text.specs.declared.script.Line.{Line}
use Rattle.token_protocol.specs.Basics.{In}
use Rattle.transcript.specs.Replies.{is_answer}
use Rattle.version_model.proofs.Onward.{history_through}
use Rattle.version_model.specs.declared.act.Act.{Act}
use Rattle.version_model.specs.declared.act.Act.TheVariants as act
use Rattle.version_model.specs.declared.answer.Answer.{Answer}
use Rattle.version_model.specs.declared.answer.Answer.TheVariants as answer
use Rattle.version_model.specs.declared.work.Work.{Work}
use Rattle.version_model.specs.declared.work.Work.TheVariants as work
use Rattle.version_model.specs.Effects.{after_act, history_after}
use Rattle.version_model.specs.History.{History, nothing_yet}
use Rattle.version_model.specs.Legal.{AreLegal, AreLegalFrom, IsLegalIn}
use Rattle.world_base.specs.declared.estate.Estate.{Estate}
use Rattle.world_base.specs.declared.event.Event.{Event}
use Rattle.world_base.specs.declared.world.World.{World as Run}
use Rattle.world_base.specs.Items.{items_of}
use Rattle.world_base.specs.Runs.{IsRun}
use Rattle.xfs_base.proofs.Alls.{all_append}
use Rattle.xfs_base.specs.declared.node.NodeId.{NodeId}
use Rattle.xfs_base.specs.declared.node.NodeId.TheVariants as nodes
use Rattle.run_text.proofs.Acts.{answers_items, each_done, history_items, item_among, legal_behind, legal_items, of_calls, Parts, parts_at}
use Rattle.run_text.proofs.Events.{Tells, tells_or_none}
use Rattle.run_text.proofs.Moments.{acts_then, first_acts, last_moment, stays}
use Rattle.run_text.proofs.Tables.{IsServed, Shows, WritesNewest, shows_nothing, told_is_served}

-- ---- one answer more

pub serves_more : (lines : List Line) (from : World) (answers : List Act) (mid : World) (node : NodeId) (item : ℕ) (x : Answer) (wanted : Work)
    → asked_at (items_of lines node) item ≡ Some wanted → (call_on mid item wanted).reply ≡ Some x → Serves lines from answers mid
    → Serves lines from (answers ++ act.Answered node item x ∷ []) (call_on mid item wanted).world
serves_more lines from [] mid node item x wanted asked replied so = (
  wanted,
  asked,
  subst (λ (w : World). (call_on w item wanted).reply ≡ Some x) (sym so) replied,
  ap (λ (w : World). (call_on w item wanted).world) so,
)
serves_more lines from (act.Answered n i y ∷ answers) mid node item x wanted asked replied (v, is, gives, rest) =
    (v, is, gives, serves_more lines (call_on from i v).world answers mid node item x wanted asked replied rest)
serves_more lines from (_ ∷ answers) mid node item x wanted asked replied so = absurd so

-- no client comes back
abbrev pub IsNoReturn : Act → Type 0
IsNoReturn (act.Back client chain) = ⊥
IsNoReturn _ = Unit {0}

pub no_returns : (acts : List Act) → AllByRecursion IsNoReturn (of_calls acts) → AllByRecursion IsNoReturn acts
no_returns [] none = tt
no_returns (act.Filed seg ∷ acts) none = (tt, no_returns acts none)
no_returns (act.Dropped seg ∷ acts) none = (tt, no_returns acts none)
no_returns (act.Lost node seg ∷ acts) none = (tt, no_returns acts none)
no_returns (_ ∷ acts) none = (none.0, no_returns acts none.1)

-- an act of blocks answers nothing, and is no return
block_answers_not : (a : Act) (acts : List Act) → IsOfBlocks a → answers_in (a ∷ acts) ≡ answers_in acts
block_answers_not (act.Wrote client block value) acts is = refl
block_answers_not (act.Read client block ver value) acts is = refl
block_answers_not (act.Synced client) acts is = refl
block_answers_not _ acts is = absurd is

block_no_return : (a : Act) → IsOfBlocks a → IsNoReturn a
block_no_return (act.Back client chain) is = is
block_no_return _ is = tt

-- ---- the run

-- behind these acts the machine has answered what is answered, and its table shows what was acted
pub record Stands (lines : List Line) (acts : List Act) : Type 0 where
  pub table : World
  pub serves : Serves lines nothing_written (answers_in acts) table
  pub shows : Shows (history_after acts nothing_yet) table
  pub returns : AllByRecursion IsNoReturn acts

module _ (e : Estate AnyNode) (run : IsRun any_step any_start e.script e.events e.world) (on_blocks : AreOnBlocks e.script.lines) (done : AreDone e.world.acts)
    (own : ClientsActForItems e) (acted : AnswersAreActs e) (once : ItemsAnsweredOnce e)
    (serve : (count : ℕ) (name : NodeId) (x : AnyNode) → node_named (moment e count) name ≡ Some x → standing x ≡ Stood)
    (legal : (count : ℕ) → AreLegal (moment e count).acts) (newest : VersionsAreNewest e) (undoubted : (count : ℕ) → NoDoubtfulRestart e count) where
  abbrev lines : List Line
  lines = e.script.lines

  abbrev history : ℕ → History
  history count = history_after (moment e count).acts nothing_yet

  module _ (count : ℕ) (event : Event) (happens : slice_get e.events count ≡ Some event) (so_far : Stands lines (moment e count).acts) where
    abbrev before : List Act
    before = (moment e count).acts

    abbrev xs : List Act
    xs = acts_in (moment e count) event

    then_ : (moment e (suc count)).acts ≡ before ++ xs
    then_ = acts_then e count event happens

    its_done : (node : NodeId) (item : ℕ) (x : Answer) → In (act.Answered node item x) xs → IsOfCall x
    its_done node item x among =
        each_done e.world.acts done node item x
        (stays e run (suc count) (act.Answered node item x) (subst (In (act.Answered node item x)) (sym then_) (in_back (act.Answered node item x) before xs among)))

    answers_are : answers_in (before ++ xs) ≡ answers_in before ++ answers_in (of_calls xs)
    answers_are = filter-append is_answer before xs ∙ ap (λ ys. answers_in before ++ ys) (answers_items xs)

    history_is : history_after (before ++ xs) nothing_yet ≡ history_after (of_calls xs) (history count)
    history_is = history_through before xs nothing_yet ∙ history_items xs (history count)

    -- nothing is done for items
    stands_still : of_calls xs ≡ [] → Stands lines (before ++ xs)
    stands_still none = record {
      table = so_far.table;
      serves = subst (λ ys. Serves lines nothing_written ys so_far.table)
          (sym (answers_are ∙ ap (λ ys. answers_in before ++ answers_in ys) none ∙ append-nil (answers_in before))) so_far.serves;
      shows = subst (λ h. Shows h so_far.table) (sym (history_is ∙ ap (λ ys. history_after ys (history count)) none)) so_far.shows;
      returns = all_append IsNoReturn before xs so_far.returns (no_returns xs (subst (AllByRecursion IsNoReturn) (sym none) tt));
    }

    -- a call is told of, and answered
    module _ (t : Tells e on_blocks xs) where
      abbrev me : NodeId
      me = nodes.Client t.client

      legal_here : IsLegalIn t.a (history count)
      legal_here =
          (subst (AreLegalFrom (history count)) t.are
          (legal_items xs (history count) (legal_behind before xs nothing_yet (subst AreLegal then_ (legal (suc count)))))).0

      among : In (act.Answered me t.item t.x) xs
      among = item_among xs (act.Answered me t.item t.x) (subst (In (act.Answered me t.item t.x)) (sym t.are) (inr (inl refl)))

      then_history : history_after (moment e (suc count)).acts nothing_yet ≡ after_act t.a (history count)
      then_history =
          ap (λ acts. history_after acts nothing_yet) then_ ∙ history_is ∙ ap (λ ys. history_after ys (history count)) t.are

      newest_so : (w : Work) (x : Answer) → asked_at (items_of lines me) t.item ≡ Some w → t.x ≡ x → WritesNewest w x (after_act t.a (history count))
      newest_so (work.Bput c block value) (answer.Version ver) asked same =
          let p : Parts (act.Answered me t.item t.x) xs = parts_at (act.Answered me t.item t.x) xs among in
          let is : IsNewestOf (asked_at (items_of lines me) t.item) (moment e (suc count)) ver =
          newest count event happens (undoubted (suc count)) t.client t.item ver p.before p.behind
          (p.are ∙ ap (λ x. p.before ++ act.Answered me t.item x ∷ p.behind) same) in
          subst (λ (h : History). IsNewest (h.of_block block) ver value) then_history (subst (λ o. IsNewestOf o (moment e (suc count)) ver) asked is)
      newest_so (work.Bput c block value) _ asked same = tt
      newest_so _ x asked same = tt

      served : IsServed so_far.table t.item t.wanted t.a t.x (history count)
      served = told_is_served so_far.table t.item (history count) so_far.shows t.wanted t.a t.x t.told legal_here (newest_so t.wanted t.x t.asked refl)

      stands_on : Stands lines (before ++ xs)
      stands_on = record {
        table = (call_on so_far.table t.item t.wanted).world;
        serves = subst (λ ys. Serves lines nothing_written ys (call_on so_far.table t.item t.wanted).world)
            (sym (answers_are ∙ ap (λ ys. answers_in before ++ answers_in ys) t.are
            ∙ ap (λ ys. answers_in before ++ ys) (block_answers_not t.a (act.Answered me t.item t.x ∷ []) t.is)))
            (serves_more lines nothing_written (answers_in before) so_far.table me t.item t.x t.wanted t.asked served.replies so_far.serves);
        shows = subst (λ h. Shows h (call_on so_far.table t.item t.wanted).world)
            (sym (history_is ∙ ap (λ ys. history_after ys (history count)) t.are)) served.shows;
        returns = all_append IsNoReturn before xs so_far.returns
            (no_returns xs (subst (AllByRecursion IsNoReturn) (sym t.are) (block_no_return t.a t.is, (tt, tt))));
      }

    stands_then : Stands lines (moment e (suc count)).acts
    stands_then =
        subst (Stands lines) (sym then_) (by (tells_or_none e on_blocks own acted once count event happens (serve count) its_done))
      where
        by : (of_calls xs ≡ []) ⊎ Tells e on_blocks xs → Stands lines (before ++ xs)
        by (inl none) = stands_still none
        by (inr t) = stands_on t

  next_stands : (count : ℕ) → Stands lines (moment e count).acts → Stands lines (moment e (suc count)).acts
  next_stands count so_far = by (slice_get e.events count) refl
    where
      by : (o : Option Event) → slice_get e.events count ≡ o → Stands lines (moment e (suc count)).acts
      by None past = subst (λ (w : Run AnyNode). Stands lines w.acts) (sym (moment_past e count past)) so_far
      by (Some event) happens = stands_then count event happens so_far

  stands_at : (count : ℕ) → Stands lines (moment e count).acts
  stands_at zero = subst (Stands lines) (sym (first_acts e)) (record { table = nothing_written; serves = refl; shows = shows_nothing; returns = tt })
  stands_at (suc count) = next_stands count (stands_at count)

  -- and so at the end
  pub all_stands : Stands lines e.world.acts
  all_stands = subst (λ (w : Run AnyNode). Stands lines w.acts) (last_moment e run) (stands_at (length e.events))
