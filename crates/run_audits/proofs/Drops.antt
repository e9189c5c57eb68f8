-- What is given up in a run counts from 1: the cleaner alone does that, and a server listed it.
use Rattle.std.proofs.Common.{◌≡◌, ◌==◌, ℕ, true, Some, refl, sym, ap, subst, ◌∙◌}
use Rattle.cleaner_node.specs.declared.cleaner.Cleaner.{Cleaner as Sweeper}
use Rattle.core_world.specs.AnyNode.{any_start, any_step}
use Rattle.core_world.specs.declared.any_node.AnyNode.{AnyNode}
use Rattle.core_world.specs.declared.any_node.AnyNode.TheVariants as any
use Rattle.headline.specs.Moments.{moment, node_named}
use Rattle.log_law.specs.LogLaws.{LogLaws}
use Rattle.log_tie.specs.Setting.{Setting}
use Rattle.log_tie.specs.Shelves.{is_of_log}
use Rattle.node_base.specs.Setups.{IsSetup}
use Rattle.node_logs.proofs.node_log_tie.Lists.{in_filter}
use Rattle.node_logs.specs.node_log_tie.Sight.{BodySeen}
use Rattle.node_tellings.specs.reading_tie.CleanerMeets.{IsSent, ListedIn}
use Rattle.run_laws.proofs.world_law.Sent.{was_sent}
use Rattle.run_laws.proofs.world_reads.TurnRun.{may_at}
use Rattle.run_laws.specs.reading_law.Readings.{RunsReadWhatCame}
use Rattle.run_laws.specs.world_logs.Lines.{HasLines, setting}
use Rattle.run_laws.specs.world_logs.Listing.{RunsListTheirLogs}
use Rattle.run_laws.specs.world_logs.Roles.{asker_by}
use Rattle.token_protocol.specs.Basics.{In}
use Rattle.version_model.specs.declared.act.Act.{Act}
use Rattle.version_model.specs.declared.act.Act.TheVariants as act
use Rattle.world_base.specs.declared.estate.Estate.{Estate}
use Rattle.world_base.specs.declared.event.Event.{Event}
use Rattle.world_base.specs.declared.event.Event.TheVariants.{Begin, Deliver, Tick}
use Rattle.world_base.specs.declared.world.World.{World}
use Rattle.world_base.specs.Events.{node_of, what_of}
use Rattle.world_base.specs.NextWorld.{start_world}
use Rattle.world_base.specs.Runs.{IsRun, MayHappen}
use Rattle.xfs_base.proofs.Booleans.{equal_itself}
use Rattle.xfs_base.specs.declared.fragment.FragMeta.{FragMeta}
use Rattle.xfs_base.specs.declared.node.NodeId.{NodeId}
use Rattle.xfs_base.specs.declared.node.NodeId.TheVariants.{Cleaner}
use Rattle.xfs_base.specs.declared.segment.LogId.{LogId}
use Rattle.xfs_base.specs.declared.segment.SegName.{SegName}
use Rattle.run_audits.proofs.Acted.{Acted, there}
use Rattle.run_audits.proofs.Dropping.{dropped_met}
use Rattle.run_audits.proofs.Flown.{flown_counts}
use Rattle.run_audits.specs.Names.{IsCounted}

module _ (logs : LogLaws) (base : Setting) (e : Estate AnyNode) (setup : IsSetup e.script.setup)
    (run : IsRun any_step any_start e.script e.events e.world) (lines : HasLines base e) (lists : RunsListTheirLogs) where
  -- what a server listed
  listed_counts : (count : ℕ) (to : NodeId) (name : SegName) (group : ℕ) → ListedIn (moment e count).sent to name group → IsCounted name
  listed_counts count to name group x =
      let owner = lists e setup run count x.packet x.said x.among x.bears x.meta x.held in
      let r = owner.role in
      let g : Setting = setting base e r in
      let w = (lines r owner.there).scene count in
      let ours : is_of_log g x.meta.name ≡ true =
      subst (λ (l : LogId). (l.0 == g.log.0) ≡ true) (sym owner.own) (equal_itself g.log.0) in
      let seen = subst (BodySeen g (asker_by r w) w.net x.packet.from x.packet.to) x.bears (((lines r owner.there).stands count).facts x.packet x.among) in
      let flew = logs.listed g w.net ((lines r owner.there).stands count).moment _ seen x.meta
      (in_filter (λ (meta : FragMeta). is_of_log g meta.name) x.meta x.said.held x.held ours) in
      subst IsCounted (sym (x.named ∙ flew.2)) (flown_counts logs base e lines r owner.there count flew.0 flew.1)

  -- a packet that comes was sent, to the node to which the event happens
  sent_so : (w : World AnyNode) (event : Event) → MayHappen w event → IsSent w.sent (node_of event) (what_of event)
  sent_so w (Begin node) may = tt
  sent_so w (Deliver packet) may = (was_sent w.sent packet may, refl)
  sent_so w (Tick node) may = tt

  pub cleaner_counts : RunsReadWhatCame → (name : SegName) (count : ℕ) (t : Acted e (act.Dropped name) count) (c : Sweeper) → t.node ≡ any.Cleaner c
      → IsCounted name
  cleaner_counts came name count t c is =
      let a : Act = act.Dropped name in
      let here : node_named (moment e t.at) (node_of t.event) ≡ Some (any.Cleaner c) = there e a count t ∙ ap Some is in
      let meets = ((came e setup run t.at).nodes (node_of t.event) (any.Cleaner c) here).meets in
      let may = may_at e.events t.at t.event (start_world any_start e.script) e.world run t.happens in
      let met = dropped_met (moment e t.at).sent (node_of t.event) c (what_of t.event) (sent_so (moment e t.at) t.event may) Cleaner meets name
      (subst (λ (x : AnyNode). In a (any_step x (what_of t.event)).acts) is t.does) in
      listed_counts t.at (node_of t.event) name met.0 met.1
