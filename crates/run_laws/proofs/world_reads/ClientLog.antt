-- An event of a client as the small world of its log sees it: how the client is seen there before and after, that its log is sure, and that what it acts to be
-- filed is filed.
use Rattle.std.proofs.Common.{◌≡◌, ◌<◌, ℕ, suc, Some, slice_get, refl, sym, ap, subst, ◌∙◌, arith}
use Rattle.node_logs.specs.client_log_tie.Owner.{Scene}
use Rattle.client_node.specs.declared.client.Client.{Client as ClientNode}
use Rattle.client_node.specs.Phases.{Went_to, client_step, lasting_of, takes}
use Rattle.core_world.specs.AnyNode.{any_step}
use Rattle.core_world.specs.declared.any_node.AnyNode.{AnyNode}
use Rattle.core_world.specs.declared.any_node.AnyNode.TheVariants as any
use Rattle.headline.specs.Filed.{Filed}
use Rattle.log_law.specs.Laws.{Moment}
use Rattle.log_law.specs.Restarts.{IsSureRun}
use Rattle.log_law.specs.Tails.{then_on}
use Rattle.log_protocol.specs.Tables.{In}
use Rattle.log_tie.specs.Setting.{Setting}
use Rattle.run_laws.specs.reopening_law.Reopens.{TellsApart}
use Rattle.segment_format.specs.declared.segment.Segment.{Segment}
use Rattle.run_laws.specs.segment_tie.Segments.{IsOriginal}
use Rattle.version_model.specs.declared.act.Act.TheVariants.{Filed as ActsFiled}
use Rattle.wire_msg.specs.declared.packet.Do.{Do}
use Rattle.world_base.specs.Cluster.{cluster_of, place_of}
use Rattle.world_base.specs.declared.event.Event.{Event}
use Rattle.world_base.specs.declared.world.World.{World}
use Rattle.world_base.specs.Events.{node_of, what_of}
use Rattle.world_base.specs.NextWorld.{next_world}
use Rattle.headline.specs.Moments.{moment, node_in}
use Rattle.run_laws.specs.world_lines.Lines.{IsSure}
use Rattle.run_laws.specs.world_lines.Turns.{AllSo}
use Rattle.run_laws.proofs.world_logs.Line.{grows}
use Rattle.headline.specs.Logs.{owns}
use Rattle.run_laws.specs.world_logs.Lines.{Line, setting}
use Rattle.headline.specs.Logs.Role.{OfClient}
use Rattle.run_laws.specs.world_logs.Standing.{OwnerSeen}
use Rattle.run_laws.proofs.world_reads.Stepping.{sure_before}
use Rattle.run_laws.proofs.world_reads.Taking.{Took, did_then, moment_next, node_then, took_it}
use Rattle.run_laws.specs.world_reads.Joint.{Joint, There}
use Rattle.run_laws.proofs.world_reads.Joint.{IsSureUpto}
use Rattle.xfs_base.specs.declared.node.NodeId.TheVariants.{Client}
use Rattle.xfs_base.proofs.Booleans.{equal_itself}
use Rattle.xfs_base.specs.Limits.{slot_count}
use Rattle.run_laws.proofs.world_reads.Below.{Below}
use Rattle.run_laws.specs.world_reads.LoggedRuns.{LoggedRun}

module _ (logged : LoggedRun) (part : ℕ) (count c : ℕ) (there : There logged part (OfClient c)) where
  open logged use {base, estate as e, lines, texts}

  abbrev pub line : Line base e (OfClient c)
  line = lines (OfClient c) there

  abbrev pub g : Setting
  g = setting base e (OfClient c)

  -- the small world of its log before an event, and after it
  abbrev pub before : Scene
  before = line.scene count

  abbrev pub after : Scene
  after = line.scene (suc count)

  -- An event of client c, between a moment that stands to all small worlds and one up to which all restarts were sure. The contents of the segments that logs
  -- write are told apart.
  pub record ClientEvent (event : Event) (node : ClientNode) : Type 0 where
    pub few : part < slot_count
    pub apart : TellsApart base
    pub happens : slice_get e.events count ≡ Some event
    pub cluster : (moment e count).cluster ≡ cluster_of e.script.setup
    pub own : node_of event ≡ Client c
    pub took : Took (moment e count) event (any.Client node)
    pub joint : Joint logged part count
    pub sure : IsSureUpto logged part (suc count)

  module _ (laws : Below) (event : Event) (node : ClientNode) (x : ClientEvent event node) where
    abbrev pub at : Moment g before.net
    at = (line.stands count).moment

    abbrev pub then : Moment g after.net
    then = (line.stands (suc count)).moment

    abbrev pub what : Do
    what = what_of event

    abbrev pub went : Went_to
    went = takes node what

    -- what is filed before it
    abbrev pub filed : Filed
    filed = x.joint.idx.net.filed

    -- ---- how it is seen

    pub here : node_in (moment e count).nodes (place_of (cluster_of e.script.setup) (Client c)) ≡ Some (any.Client node)
    here = subst (λ name. node_in (moment e count).nodes (place_of (cluster_of e.script.setup) name) ≡ Some (any.Client node)) x.own
        (took_it (cluster_of e.script.setup) (moment e count) x.cluster event (any.Client node) x.took)

    here_then : node_in (moment e (suc count)).nodes (place_of (cluster_of e.script.setup) (Client c)) ≡ Some (any.Client (client_step node what).node)
    here_then =
        let k = cluster_of e.script.setup in
        let later : AnyNode = any.Client (client_step node what).node in
        subst (λ (w : World AnyNode). node_in w.nodes (place_of k (Client c)) ≡ Some later) (sym (moment_next e count event x.happens))
        (subst (λ name. node_in (next_world any_step (moment e count) event).nodes (place_of k name) ≡ Some later) x.own
        (node_then k (moment e count) x.cluster event (any.Client node) x.took))

    pub sees : OwnerSeen g before c node.phase
    sees = (line.stands count).seen (Client c) (any.Client node) here refl

    pub sees_then : OwnerSeen g after c went.state
    sees_then = (line.stands (suc count)).seen (Client c) (any.Client (client_step node what).node) here_then refl

    -- ---- its log is sure

    pub sure_run : IsSureRun then.run
    sure_run = x.sure (OfClient c) there refl

    pub goes_sure : IsSureRun (then_on at.run (line.goes count))
    goes_sure = subst (λ (m : Moment g after.net). IsSureRun m.run) (line.joined count) sure_run

    -- all that was in flight in it tells of blocks at first hand
    pub original : (s : Segment) → In s after.net.flown → IsOriginal s
    original s fact = (laws.writing.clients_flew_originals base e c line (suc count)).flew s fact

    pub flown_then : (s : Segment) → In s before.net.flown → In s after.net.flown
    flown_then s fact = (grows base e (OfClient c) line count (suc count) (omega arith)).flown s fact

    pub is_sure : IsSure texts.text c g before.net
    is_sure = record {
      own = refl;
      trusted = refl;
      moment = at;
      sure = sure_before at.run (line.goes count) goes_sure;
      are_texts = λ s fact. texts.flown (OfClient c) there count s fact;
    }

    pub is_sure_then : IsSure texts.text c g after.net
    is_sure_then = record {
      own = refl;
      trusted = refl;
      moment = then;
      sure = sure_run;
      are_texts = λ s fact. texts.flown (OfClient c) there (suc count) s fact;
    }

    -- ---- what it acts to be filed is filed

    pub acts_filed : AllSo (λ name. In name after.net.filed) went.outs
    acts_filed = laws.lines.acts_are_done after.net (Client (lasting_of node.phase).number) went.outs
        (λ name among. (line.stands (suc count)).filed name
        (did_then e c count event (any.Client node) x.happens (ap (owns c) x.own ∙ equal_itself c) x.took (ActsFiled name) among))
