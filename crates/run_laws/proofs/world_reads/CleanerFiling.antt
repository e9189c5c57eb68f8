-- What the cleaner acts to be filed in an event is owed to it, beside one run.
use Rattle.std.proofs.Common.{◌≡◌, ◌<◌, ℕ, suc, true, List, [], ◌∷◌, inr, ◌++◌, Option, None, Some, refl, sym, ap, subst, ◌∙◌, arith}
use Rattle.std.specs.Prelude.{IfSome}
use Rattle.std.specs.List.{AllByRecursion}
use Rattle.cleaner_serving.specs.declared.emptying.Emptying.{Emptying}
use Rattle.node_logs.specs.cleaner_log_tie.Owner as cleaner_log
use Rattle.cleaner_node.specs.CleanerEvents.{takes}
use Rattle.cleaner_node.specs.declared.cleaner.Cleaner.{Cleaner as CleanerNode}
use Rattle.cleaner_node.specs.declared.cleaner.Phase as cleaning
use Rattle.cleaner_node.specs.declared.cleaner.Phase.TheVariants.{Opening, Serving}
use Rattle.cleaner_job.specs.declared.lasting.Lasting.{Lasting}
use Rattle.client_log.specs.Transition.{has_next}
use Rattle.node_logs.specs.client_log_tie.ClientEvents.{ServesStraight}
use Rattle.node_logs.specs.client_log_tie.Owner.{Scene}
use Rattle.headline.specs.Filed.{Filed}
use Rattle.log_flight.specs.Flights.{FlightState}
use Rattle.log_law.specs.Events.Runs.{On}
use Rattle.log_law.specs.Held.{OwnerFlew}
use Rattle.log_law.specs.Net.Owner.{Serving as LogServes}
use Rattle.log_law.specs.Restarts.{EndsRestart, IsSureRun, is_serving, is_writing, last_flight}
use Rattle.log_owner.specs.declared.opening.Opening as openings
use Rattle.log_protocol.specs.Tables.{In}
use Rattle.log_tie.specs.Setting.{Setting}
use Rattle.node_base.specs.declared.effects.Effect.{Effect}
use Rattle.node_slots.proofs.owner_index_tie.Acting.{all_then}
use Rattle.node_slots.specs.owner_index_tie.Acting.{IsFlight}
use Rattle.node_slots.specs.owner_index_tie.CleanerEvents.{EffectOwed, EventGets, NewFor}
use Rattle.node_slots.specs.owner_index_tie.CleanerMoves.{ItemMoves}
use Rattle.node_slots.specs.owner_index_tie.Filing.{FilesOwed}
use Rattle.run_laws.specs.reopening_law.Openings.{EndsByOne}
use Rattle.run_laws.specs.reopening_law.Reopens.{TellsApart}
use Rattle.run_laws.specs.segment_tie.Segments.{IsCopies}
use Rattle.version_model.specs.declared.act.Act.TheVariants.{Filed as ActsFiled}
use Rattle.wire_msg.specs.declared.packet.Do.{Do}
use Rattle.run_laws.specs.world_lines.Filing.{FlightSays}
use Rattle.run_laws.specs.world_lines.Lines.{SaysBlocks}
use Rattle.run_laws.specs.world_lines.Owners.{HasFlown}
use Rattle.run_laws.specs.world_lines.Turns.{AllSo}
use Rattle.headline.specs.Logs.Role.{OfCleaner}
use Rattle.run_laws.proofs.reopening_law.Flights.{served_last}
use Rattle.run_laws.proofs.world_reads.CleanerFiles.{adopted_moves, all_new}
use Rattle.run_laws.proofs.world_reads.CleanerMoment.{Steps, agrees, its_line, its_moment, its_scene, its_setting, owns, sure_at, upto_before}
use Rattle.run_laws.proofs.world_reads.CleanerReopening.{calm, came, one}
use Rattle.run_laws.proofs.world_reads.CleanerSaying.{adopted_says, filed_says, says_once}
use Rattle.run_laws.specs.world_reads.Joint.{Joint}
use Rattle.run_laws.proofs.world_reads.Joint.{IsSureUpto}
use Rattle.xfs_base.specs.declared.node.NodeId.TheVariants.{Cleaner}
use Rattle.xfs_base.specs.declared.segment.SegName.{SegName}
use Rattle.run_laws.proofs.world_reads.Below.{Below}
use Rattle.run_laws.specs.world_reads.LoggedRuns.{LoggedRun}

in_right : {X : Type 0} (xs ys : List X) (x : X) → In x ys → In x (xs ++ ys)
in_right [] ys x fact = fact
in_right (y ∷ xs) ys x fact = inr (in_right xs ys x fact)

module _ (below : Below) (logged : LoggedRun) (part count : ℕ) (joint : Joint logged part count) (node : CleanerNode) (what : Do)
    (steps : Steps logged part count node what) (sure : IsSureUpto logged part (suc count)) where
  open logged use {texts}

  abbrev g : Setting
  g = its_setting logged part

  abbrev w : Scene
  w = its_scene logged part count

  abbrev x : Scene
  x = its_scene logged part (suc count)

  abbrev outs : List Effect
  outs = (takes node.peers node.phase what).outs

  -- it is filed after the event
  acts_filed : AllSo (λ name. In name x.net.filed) outs
  acts_filed = below.lines.acts_are_done x.net Cleaner outs
      (λ name fact. ((its_line logged part).stands (suc count)).filed name
      (subst (In (ActsFiled name)) (sym steps.did) (in_right _ _ (ActsFiled name) fact)))

  short : AllSo (HasFlown w.net) outs → AllSo (λ name. has_next name.seq ≡ true) outs
  short = below.lines.cleaner_files_short g w node what (owns logged part count node steps.before).agrees
      (owns logged part count node steps.before).room

  -- what was filed of its log says of blocks
  filed_before : (name : SegName) → In name w.net.filed → SaysBlocks (texts.text name)
  filed_before =
      filed_says texts.text 9 w.net joint.idx.net.filed (joint.lined OfCleaner tt refl)
      (below.lines.lines_give texts.text 9 g w.net joint.idx.net.filed
      (sure_at logged part count (upto_before logged part count sure)) (joint.lined OfCleaner tt refl))
      joint.index_stands.texts_of (λ q some limit. joint.tells 9 q some limit)

  -- and so does what it had in flight when it served last
  flew_says : (f : FlightState) → last_flight (its_moment logged part count).run ≡ Some f → SaysBlocks f.segment
  flew_says f fact =
      says_once f.segment (subst (λ o. IfSome o (λ (y : FlightState). IsCopies y.segment)) fact (joint.kind OfCleaner tt refl)).tells

  -- where it flew, and its text says of blocks, and is new
  owed : AllSo (λ name. has_next name.seq ≡ true) outs → AllSo (λ name. SaysBlocks (texts.text name)) outs
      → ((f : Filed) (name : SegName) → In name x.net.filed → joint.idx.net.filed.head 9 < name.seq
      → NewFor part texts.text joint.idx.net node.phase f (texts.text name))
      → FilesOwed (NewFor part texts.text joint.idx.net node.phase) texts.text 9 joint.idx.net.filed outs
  owed room says new =
      below.filing.cleaners_files_are_owed part texts.text joint.idx.net node.phase g x.net joint.idx.net.filed outs (sure_at logged part
      (suc count) sure)
      (record { filed = acts_filed; short = room }) says
      (all_new (NewFor part texts.text joint.idx.net node.phase) texts.text 9 (joint.idx.net.filed.head 9) (λ name. In name x.net.filed) new joint.idx.net.filed
      outs (omega arith) acts_filed)

  -- what one that serves has in flight is the text of its name
  module _ (v : Emptying) (serves : node.phase ≡ Serving v) where
    its_owner : w.net.owner ≡ LogServes v.log
    its_owner = (subst (cleaner_log.CleanerAgrees g w) serves (owns logged part count node steps.before).agrees).log.owner

    flight_says : FlightSays v.log
    flight_says = by v.log.flight (served_last g _ w.net (its_moment logged part count).run v.log its_owner)
      where
        by : (o : Option FlightState) → last_flight (its_moment logged part count).run ≡ o → IfSome o (λ f. SaysBlocks f.segment)
        by None fact = tt
        by (Some f) fact = flew_says f fact

    flight_text : (f : FlightState) → v.log.flight ≡ Some f → texts.text f.segment.name ≡ f.segment
    flight_text f fact =
        texts.flown OfCleaner tt count f.segment
        (subst (λ o. IfSome o (λ (y : FlightState). In y.segment w.net.flown)) fact
        (subst (OwnerFlew w.net.flown) its_owner (below.logs.held g w.net (its_moment logged part count))))

    named_says : (name : SegName) → IsFlight v.log name → SaysBlocks (texts.text name)
    named_says name f =
        subst SaysBlocks (sym (flight_text f.0 f.1) ∙ ap texts.text f.2)
        (subst (λ o. IfSome o (λ (y : FlightState). SaysBlocks y.segment)) f.1 flight_says)

    -- one that serves files its flight
    pub serving_files : part < 8 → EventGets part joint.idx.net node.phase what → AllByRecursion (EffectOwed part joint.idx.net) outs
        → FilesOwed (NewFor part texts.text joint.idx.net node.phase) texts.text 9 joint.idx.net.filed outs
    serving_files of_eight gets asks =
        let flights = below.filing.cleaner_files_its_flights part texts.text g w joint.idx.net node what v of_eight
        (sure_at logged part count (upto_before logged part count sure))
        (owns logged part count node steps.before).room flight_says (owns logged part count node steps.before).agrees serves
        (agrees logged part count joint node steps.before) gets asks in
        owed flights.short (all_then (IsFlight v.log) (λ name. SaysBlocks (texts.text name)) named_says outs flights.flights)
        (λ f name filed beyond. subst (λ (p : cleaning.Phase). NewFor part texts.text joint.idx.net p f (texts.text name)) (sym serves) tt)

  -- where nothing more is filed it flew
  flew_before : x.net.filed ≡ w.net.filed → AllSo (HasFlown w.net) outs
  flew_before same =
      all_then (λ name. In name x.net.filed) (HasFlown w.net)
      (λ name filed. below.filing.what_is_filed_flew g w.net x.net (its_moment logged part count) same name filed) outs acts_filed

  pub still_files : x.net.filed ≡ w.net.filed → FilesOwed (NewFor part texts.text joint.idx.net node.phase) texts.text 9 joint.idx.net.filed outs
  still_files same =
      owed (short (flew_before same))
      (all_then (λ name. In name x.net.filed) (λ name. SaysBlocks (texts.text name)) (λ name filed. filed_before name (subst (In name) same filed)) outs
      acts_filed)
      (λ f name filed beyond.
      let limit = ((joint.lined OfCleaner tt refl).all name (subst (In name) same filed)).1 in absurd (omega arith))

  -- where a restart ends, what is filed was read back, and moved once
  module _ (straight : ServesStraight ((its_line logged part).goes count)) (apart : TellsApart g) (l : Lasting) (o : openings.Opening)
      (v : Emptying) (opens : node.phase ≡ Opening l o) (serves : (takes node.peers node.phase what).state ≡ Serving v)
      (moved : (f : FlightState) → last_flight (its_moment logged part count).run ≡ Some f
      → AllByRecursion (ItemMoves part joint.idx.net.sent) f.segment.items) where
    abbrev ends : EndsByOne g w x ((its_line logged part).goes count) o
        (came below logged part count joint node what steps straight apart sure l o v opens serves).opened
    ends = one below logged part count joint node what steps straight apart sure l o v opens serves

    calm_so : IsSureRun (On (its_moment logged part count).run ends.happens)
    calm_so = calm below logged part count joint node what steps straight apart sure l o v opens serves

    restarts : EndsRestart w.net x.net
    restarts = (ap is_writing ends.writes, ap is_serving ends.serves)

    pub restart_files : FilesOwed (NewFor part texts.text joint.idx.net node.phase) texts.text 9 joint.idx.net.filed outs
    restart_files =
        owed
        (short
        (all_then (λ name. In name x.net.filed) (HasFlown w.net)
        (λ name filed. below.filing.openings_file_what_flew g w.net x.net
        (its_moment logged part count) ends.settling.chain ends.settling.log ends.writes ends.happens
        name filed) outs acts_filed))
        (all_then (λ name. In name x.net.filed) (λ name. SaysBlocks (texts.text name))
        (adopted_says below.logs.only texts.text g w.net x.net refl apart (its_moment logged part count) ends.happens
        calm_so restarts
        (texts.flown OfCleaner tt (suc count)) flew_says filed_before) outs acts_filed)
        (λ f name filed beyond. subst (λ (p : cleaning.Phase). NewFor part texts.text joint.idx.net p f (texts.text name)) (sym opens)
        (adopted_moves below.logs.only texts.text part joint.idx.net.sent g w.net x.net refl apart
        (its_moment logged part count) ends.happens calm_so
        restarts (texts.flown OfCleaner tt (suc count)) joint.idx.net.filed (joint.lined OfCleaner tt refl) moved name filed beyond))
