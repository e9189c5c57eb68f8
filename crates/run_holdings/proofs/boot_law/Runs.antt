-- In every run, where the cleaner comes back, no two segments of its new incarnation have been filed: in the small world of its log it comes to serve by one thing
-- that happens, by which that is so.
use Rattle.std.proofs.Common.{◌≡◌, ℕ, suc, Bool, true, false, Option, Some, None, slice_get, refl, sym, ap, subst, ◌∙◌}
use Rattle.cleaner_node.specs.CleanerEvents.{is_serving, lasting_of}
use Rattle.cleaner_node.specs.declared.cleaner.Cleaner.{Cleaner as Sweeper}
use Rattle.cleaner_node.specs.declared.cleaner.Phase.{Phase}
use Rattle.cleaner_node.specs.declared.cleaner.Phase.TheVariants.{Down, Opening, Serving}
use Rattle.core_world.specs.declared.any_node.AnyNode.{AnyNode}
use Rattle.core_world.specs.declared.any_node.AnyNode.TheVariants as any
use Rattle.log_law.specs.Boots.{ARestartFilesOneOfItsBoot}
use Rattle.log_law.specs.Events.{Happens, Runs}
use Rattle.log_law.specs.Events.Runs.{Begun, On}
use Rattle.log_law.specs.Net.{Net}
use Rattle.log_law.specs.Restarts.{is_serving as log_serves}
use Rattle.log_owner.specs.declared.opening.Stage.{Stage}
use Rattle.log_owner.specs.declared.opening.Stage.TheVariants as stage
use Rattle.log_tie.specs.Setting.{Setting}
use Rattle.node_logs.specs.cleaner_log_tie.Owner.{CleanerAgrees, its_number}
use Rattle.node_logs.specs.client_log_tie.ClientEvents.{IsOnce}
use Rattle.node_logs.specs.client_log_tie.Owner.{Scene, SeesStage}
use Rattle.run_laws.proofs.world_reads.TurnRun.{moment_cluster}
use Rattle.headline.specs.Moments.{moment, node_in}
use Rattle.run_laws.specs.world_logs.Lines.{HasLines, Line, RunsHaveLines, setting}
use Rattle.headline.specs.Logs.Role.{OfCleaner}
use Rattle.run_holdings.specs.boot_law.Boots.{EveryRunFilesOne}
use Rattle.headline.specs.Boots.{FilesOneOf, IsTheCleaner}
use Rattle.world_base.specs.Cluster.{place_of}
use Rattle.world_base.specs.declared.cluster.Cluster.{Cluster}
use Rattle.world_base.specs.declared.estate.Estate.{Estate}
use Rattle.world_base.specs.declared.event.Event.{Event}
use Rattle.world_base.specs.Events.{node_of}
use Rattle.xfs_base.proofs.Booleans.{contrary}
use Rattle.xfs_base.proofs.NodeOrder.{same_node_is, same_node_itself}
use Rattle.xfs_base.specs.declared.node.NodeId.{NodeId}
use Rattle.xfs_base.specs.declared.node.NodeId.TheVariants as names
use Rattle.xfs_base.specs.Nodes.{same_node}

-- ---- how the cleaner is seen

module _ (g : Setting) (w : Scene) where
  -- one that doesn't serve doesn't there
  rests : (p : Phase) → CleanerAgrees g w p → is_serving p ≡ false → log_serves w.net.owner ≡ false
  rests (Down l) agrees none = ap log_serves agrees.1
  rests (Opening l o) agrees none = by o.stage agrees.sees
    where
      by : (at : Stage) → SeesStage g its_number w o.known l.questions.last at → log_serves w.net.owner ≡ false
      by (stage.Scanning s) sees = ap log_serves sees.owner
      by (stage.Settling s) sees = ap log_serves sees.owner
  rests (Serving e) agrees none = contrary (sym none)

  -- and one that serves does
  serves : (p : Phase) → CleanerAgrees g w p → is_serving p ≡ true → log_serves w.net.owner ≡ true
  serves (Down l) agrees up = contrary up
  serves (Opening l o) agrees up = contrary up
  serves (Serving e) agrees up = ap log_serves agrees.log.owner

  -- in its incarnation
  inc_is : (p : Phase) → CleanerAgrees g w p → w.net.inc ≡ (lasting_of p).inc
  inc_is (Down l) agrees = agrees.0.inc
  inc_is (Opening l o) agrees = agrees.lasts.inc
  inc_is (Serving e) agrees = agrees.lasts.inc

-- one thing happened by which it came to serve
by_one : (g : Setting) (n o : Net) (runs : Runs g n o) → log_serves n.owner ≡ false → log_serves o.owner ≡ true → IsOnce runs → Happens g n o
by_one g n o Begun none there once = contrary (sym none ∙ there)
by_one g n o (On Begun happens) none there once = happens
by_one g n o (On (On run early) happens) none there once = absurd once

-- ---- a run

module _ (one : ARestartFilesOneOfItsBoot) (base : Setting) (e : Estate AnyNode) (lines : HasLines base e) where
  abbrev g : Setting
  g = setting base e OfCleaner

  line : Line base e OfCleaner
  line = lines OfCleaner tt

  agrees : (count : ℕ) (c : Sweeper) → IsTheCleaner e count c → CleanerAgrees g (line.scene count) c.phase
  agrees count c is =
      ((line.stands count).seen names.Cleaner (any.Cleaner c)
      (subst (λ (k : Cluster). node_in (moment e count).nodes (place_of k names.Cleaner) ≡ Some (any.Cleaner c)) (moment_cluster e count) is)).agrees

  module _ (count : ℕ) (before after : Sweeper) (was : IsTheCleaner e count before) (rested : is_serving before.phase ≡ false)
      (is : IsTheCleaner e (suc count) after) (up : is_serving after.phase ≡ true) where
    abbrev n : Net
    n = (line.scene count).net

    abbrev o : Net
    o = (line.scene (suc count)).net

    none : log_serves n.owner ≡ false
    none = rests g (line.scene count) before.phase (agrees count before was) rested

    there : log_serves o.owner ≡ true
    there = serves g (line.scene (suc count)) after.phase (agrees (suc count) after is) up

    -- in an event of its own
    own_turn : (event : Event) → slice_get e.events count ≡ Some event → names.Cleaner ≡ node_of event
    own_turn event happens = by (same_node names.Cleaner (node_of event)) refl
      where
        by : (t : Bool) → same_node names.Cleaner (node_of event) ≡ t → names.Cleaner ≡ node_of event
        by true same = same_node_is names.Cleaner (node_of event) same
        by false differs =
            let left = line.others count event happens
            (λ it_is. contrary (sym differs ∙ subst (λ (k : NodeId). same_node names.Cleaner k ≡ true) it_is (same_node_itself names.Cleaner))) in
            contrary (sym none ∙ (ap log_serves (sym left.owner) ∙ there))

    happened : Happens g n o
    happened = by (slice_get e.events count) refl
      where
        by : (x : Option Event) → slice_get e.events count ≡ x → Happens g n o
        by None fact = contrary (sym none ∙ (ap (λ (z : Scene). log_serves z.net.owner) (sym (line.ended count fact)) ∙ there))
        by (Some event) fact = by_one g n o (line.goes count) none there ((line.straight count event fact (own_turn event fact)).once none there)

    files_one : FilesOneOf e (suc count) (lasting_of after.phase).inc
    files_one a b first second own its =
        let inc : o.inc ≡ (lasting_of after.phase).inc = inc_is g (line.scene (suc count)) after.phase (agrees (suc count) after is) in
        one g n o (line.stands count).moment happened none there a b ((line.stands (suc count)).filed a first) ((line.stands (suc count)).filed b second)
        (own ∙ sym inc) (its ∙ sym inc)

pub every_run_files_one : ARestartFilesOneOfItsBoot → Setting → RunsHaveLines → EveryRunFilesOne
every_run_files_one one base have e setup run count before after was rested is up =
    files_one one base e (have base e setup run) count before after was rested is up
