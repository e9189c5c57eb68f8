-- The text of a run by one thread, with boards or without, is that of the one machine where its items are calls that begin alone.
use Rattle.std.proofs.Common.{true≢false, ◌≡◌, ◌≤◌, Bool, true, false, cond, not, ◌||◌, is_some, filter, List, [], ◌∷◌, length, refl, sym, ap, subst, ◌∙◌, arith}
use Rattle.std.proofs.lemmas.Bool.{and_parts}
use Rattle.board_play.specs.Begun.{far_of}
use Rattle.board_play.specs.Played.{IsBoardPlayed}
use Rattle.board_play.specs.Plays.{estate_of as board_estate_of}
use Rattle.core_world.specs.AnyNode.{any_start, any_step}
use Rattle.core_world.specs.declared.any_node.AnyNode.{AnyNode}
use Rattle.headline.specs.OneMachine.{AreCalls, AreDone, BeginsAlone, is_call, is_call_or_none}
use Rattle.headline.specs.Safe.{IsSafe}
use Rattle.node_base.specs.Setups.{IsSetup}
use Rattle.one_machine.specs.Machine.{IsAsOneMachine}
use Rattle.one_machine.specs.Trees.{AreFit}
use Rattle.play.proofs.EachBegun.{for_each}
use Rattle.play.specs.Plays.{actors_of}
use Rattle.run_text.specs.Runs.{EachRunAloneIsInLine, EachRunOfOneClientIsAlone}
use Rattle.script_print.specs.Printing.{IsScript}
use Rattle.script_text.specs.declared.script.Line.{Line}
use Rattle.top_call.specs.Claim.{IsPlayedWithBoards}
use Rattle.transcript.specs.Replies.{open_items}
use Rattle.version_model.specs.declared.work.Work.{Work}
use Rattle.version_model.specs.declared.work.Work.TheVariants as work
use Rattle.world_base.specs.declared.estate.Estate.{Estate}
use Rattle.world_base.specs.declared.event.Event.{Event}
use Rattle.world_base.specs.Items.{actor_of, is_for, items_of}
use Rattle.world_base.specs.Runs.{IsRun, begun_in}
use Rattle.xfs_base.specs.declared.node.NodeId.{NodeId}
use Rattle.xfs_base.specs.declared.node.NodeId.TheVariants.{Registry}
use Rattle.xfs_base.specs.Limits.{max_lines}
use Rattle.xfs_base.specs.Nodes.{same_node}
use Rattle.xfs_top.proofs.Fitting.{accepted_few, accepted_fits}
use Rattle.xfs_top.proofs.Runs.{has_registry}
use Rattle.xfs_top.specs.OneMachine.{CallsAsOne}

-- ---- no call is one of the registry

registry_not : (w : Work) → (is_call w || not (is_some (actor_of w))) ≡ true → is_for Registry w ≡ false
registry_not (work.Move slot manager) is = absurd (true≢false (sym is))
registry_not (work.Crash node) is = absurd (true≢false (sym is))
registry_not (work.Restart node) is = absurd (true≢false (sym is))
registry_not _ is = refl

none_of_registry : (lines : List Line) → AreCalls lines → length (items_of lines Registry) ≡ 0
none_of_registry [] calls = refl
none_of_registry (l ∷ lines) calls =
    let both = and_parts (is_call_or_none l) _ calls in
    ap (λ t. length (cond t (l.work ∷ items_of lines Registry) (items_of lines Registry))) (registry_not l.work both.0) ∙ none_of_registry lines both.1

abbrev registries : List NodeId → List NodeId
registries nodes = filter (λ begun. same_node begun Registry) nodes

all_far : (nodes : List NodeId) → length (registries nodes) ≡ 0 → far_of nodes ≡ nodes
all_far [] none = refl
all_far (n ∷ nodes) none = by (same_node n Registry) none (λ rest. all_far nodes rest)
  where
    by : (t : Bool) → length (cond t (n ∷ registries nodes) (registries nodes)) ≡ 0 → (length (registries nodes) ≡ 0 → far_of nodes ≡ nodes)
        → cond (not t) (n ∷ far_of nodes) (far_of nodes) ≡ n ∷ nodes
    by true some later = absurd (omega (arith, some))
    by false rest later = ap (λ ns. n ∷ ns) (later rest)

-- so all items begin in the order of the lines
in_order : (lines : List Line) (events : List Event) → AreCalls lines → length (registries (begun_in events)) ≤ length (items_of lines Registry)
    → far_of (begun_in events) ≡ far_of (actors_of lines) → begun_in events ≡ actors_of lines
in_order lines events calls few far =
    let items = none_of_registry lines calls in
    let each = for_each Registry lines in
    sym (all_far (begun_in events) (omega arith)) ∙ (far ∙ all_far (actors_of lines) (omega arith))

module _ (safe : (e : Estate AnyNode) → IsSetup e.script.setup → IsRun any_step any_start e.script e.events e.world → IsSafe e) (in_line : EachRunAloneIsInLine)
    (of_one : EachRunOfOneClientIsAlone) where
  pub by_order : (e : Estate AnyNode) → IsSetup e.script.setup → IsRun any_step any_start e.script e.events e.world → IsScript e.script
      → (AreCalls e.script.lines → begun_in e.events ≡ actors_of e.script.lines) → CallsAsOne e
  by_order e setup run accepted order = record {
    alone = as_one;
    of_one = λ client of calls done closed. as_one calls (of_one e run client of fit calls (order calls) done closed) done closed;
  }
    where
      few : length e.script.lines ≤ max_lines
      few = accepted_few e.script accepted

      fit : AreFit e.script.lines
      fit = accepted_fits e.script setup accepted

      as_one : AreCalls e.script.lines → BeginsAlone e → AreDone e.world.acts → open_items e ≡ 0 → IsAsOneMachine e
      as_one calls alone done closed =
          (safe e setup run).outside.with_files.in_line few fit calls alone (in_line e run few (order calls) alone done closed)

  pub by_boards : (e : Estate AnyNode) → IsPlayedWithBoards any_step any_start e → IsScript e.script → CallsAsOne e
  by_boards e p accepted =
      let played : IsBoardPlayed any_step any_start (board_estate_of any_step any_start e.script) = p.played has_registry in
      subst CallsAsOne (sym p.determined)
      (by_order (board_estate_of any_step any_start e.script).estate played.setup played.one_run accepted
      (λ calls. in_order e.script.lines (board_estate_of any_step any_start e.script).estate.events calls played.begins.registry played.in_order))
