-- What the small world of the index is owed of an event of the cleaner it gets: what it files, asks, reads back, gets and writes is so, beside one run.
use Rattle.std.proofs.Common.{◌≡◌, ◌≤◌, ◌<◌, ◌-◌, ℕ, suc, nat_le, Bool, true, false, List, Some, refl, sym, ap, subst, ◌∙◌, arith}
use Rattle.std.specs.List.{AllByRecursion}
use Rattle.std.proofs.lemmas.Bool.{leb-true}
use Rattle.cleaner_serving.specs.declared.emptying.Emptying.{Emptying}
use Rattle.node_logs.specs.cleaner_log_tie.Owner as cleaner_log
use Rattle.cleaner_node.specs.CleanerEvents.{Went_to, happens, lasting_of, phase_has_room, takes}
use Rattle.cleaner_node.specs.declared.cleaner.Cleaner.{Cleaner as CleanerNode}
use Rattle.cleaner_node.specs.declared.cleaner.Phase as cleaning
use Rattle.cleaner_node.specs.declared.cleaner.Phase.TheVariants.{Down, Opening, Serving}
use Rattle.cleaner_job.specs.declared.lasting.Lasting.{Lasting}
use Rattle.cleaner_job.specs.Lasting.{lasting_has_room}
use Rattle.node_logs.specs.client_log_tie.ClientEvents.{ServesStraight}
use Rattle.node_logs.specs.client_log_tie.Owner.{Scene, SeesStage}
use Rattle.core_world.specs.declared.any_node.AnyNode.TheVariants as any
use Rattle.index_tie.proofs.Tables.{second_of}
use Rattle.log_flight.specs.Flights.{FlightState}
use Rattle.log_law.specs.Restarts.{is_serving, is_writing}
use Rattle.log_owner.specs.declared.opening.Opening as openings
use Rattle.log_owner.specs.declared.opening.Stage as stages
use Rattle.log_owner.specs.declared.opening.Stage.TheVariants as stage
use Rattle.log_tie.specs.Setting.{Setting}
use Rattle.node_base.specs.declared.effects.Effect.{Effect}
use Rattle.node_base.specs.Room.{has_room}
use Rattle.node_slots.specs.node_tie.CleanerEvents.{CleanerGoes}
use Rattle.node_slots.specs.node_tie.CleanerEvents as token
use Rattle.node_slots.specs.owner_index_tie.CleanerEvents.{EffectOwed, EventGets, NewFor, ReopensOn}
use Rattle.node_slots.specs.owner_index_tie.CleanerMoves.{ItemMoves}
use Rattle.node_slots.specs.owner_index_tie.Filing.{FilesOwed}
use Rattle.run_laws.specs.reading_law.Readings.{ReadingsCame}
use Rattle.run_laws.specs.reopening_law.Reopens.{TellsApart}
use Rattle.token_protocol.specs.Basics.{In}
use Rattle.wire_msg.specs.declared.packet.Do.{Do}
use Rattle.wire_msg.specs.declared.packet.Do.TheVariants.{Begin, Deliver, Tick}
use Rattle.wire_msg.specs.declared.packet.Packet.{Packet}
use Rattle.run_laws.proofs.world_index.Gets as gets
use Rattle.run_laws.proofs.world_index.Senders.{IsSentBy, kinds_of_tokens}
use Rattle.run_laws.specs.world_index.Owes.{CleanerDoOwed, CleanerTold, IndexOwes}
use Rattle.run_laws.specs.world_index.Standing.{SentBy}
use Rattle.run_laws.proofs.world_law.Gets as token_gets
use Rattle.run_laws.specs.world_law.Standing as tokens
use Rattle.headline.specs.Moments.{moment, node_named}
use Rattle.run_laws.specs.world_logs.Lines.{cluster}
use Rattle.headline.specs.Logs.Role.{OfCleaner}
use Rattle.run_laws.proofs.world_reads.AfterOwners.{never_files}
use Rattle.run_laws.proofs.world_reads.CleanerAsking.{asks}
use Rattle.run_laws.proofs.world_reads.CleanerFiling.{restart_files, serving_files, still_files}
use Rattle.run_laws.proofs.world_reads.CleanerGets.{AreReached, PollsAreLow, cleaner_gets}
use Rattle.run_laws.proofs.world_reads.CleanerMoment as sight
use Rattle.run_laws.proofs.world_reads.CleanerMoment.{IsHere, Steps, agrees, in_tokens, its_line, its_moment, its_scene, its_setting, owns, upto_before}
use Rattle.run_laws.proofs.world_reads.CleanerReading.{ListsOurs}
use Rattle.run_laws.proofs.world_reads.CleanerReopening.{reopens_on}
use Rattle.run_laws.proofs.world_reads.CleanerWriting.{writes_texts}
use Rattle.run_laws.proofs.world_reads.Stepping.{comes}
use Rattle.run_laws.specs.world_reads.Joint.{Joint, flew_at}
use Rattle.run_laws.proofs.world_reads.Joint.{IsSureUpto}
use Rattle.xfs_base.proofs.Booleans.{and_first, and_second, contrary}
use Rattle.xfs_base.specs.declared.node.NodeId.TheVariants.{Cleaner}
use Rattle.xfs_base.specs.Limits.{counter_room, u32_end}
use Rattle.xfs_base.specs.Steps.{still}
use Rattle.run_laws.proofs.world_reads.Below.{Below}
use Rattle.run_laws.specs.world_reads.LoggedRuns.{LoggedRun}

-- ---- counters

below_end : (n end room : ℕ) → nat_le n (end - room) ≡ true → 0 < room → 0 < end → n < end
below_end n end room h some more = (let limit = leb-true n (end - room) h in omega arith)

lasting_below : (l : Lasting) → lasting_has_room l ≡ true → l.questions.last < u32_end
lasting_below l h = below_end l.questions.last u32_end counter_room (and_second (has_room l.inc) (has_room l.questions.last) h) (omega arith) (omega arith)

-- no question has the last number, where no counter is near its end
pub room_below : (p : cleaning.Phase) → phase_has_room p ≡ true → (lasting_of p).questions.last < u32_end
room_below (Down l) h = lasting_below l h
room_below (Opening l o) h = lasting_below l (and_first (lasting_has_room l) _ h)
room_below (Serving v) h = lasting_below v.lasting (and_first (lasting_has_room v.lasting) _ h)

-- ---- the event

module _ (law : Below) (logged : LoggedRun) (part count : ℕ) (joint : Joint logged part count) (node : CleanerNode) (what : Do) where
  open logged use {base, estate as e, texts}

  -- What stands beside the event: the cleaner takes it; what comes to it was sent to it; and what the laws of one run say of its log, of horizons, of Polls, of
  -- readers and of lists.
  pub record Beside : Type 0 where
    pub of_eight : part < 8
    pub steps : Steps logged part count node what
    pub straight : ServesStraight ((its_line logged part).goes count)
    pub apart : TellsApart (its_setting logged part)
    pub sure : IsSureUpto logged part (suc count)
    pub brought : (q : Packet) → what ≡ Deliver q → In q (moment e count).sent × (q.to ≡ Cleaner)
    pub named : node_named (moment e count) Cleaner ≡ Some (any.Cleaner node)
    pub came : ReadingsCame e.world (moment e count)
    pub ours : ListsOurs logged part count
    pub reached : AreReached law logged part count joint node steps.before
    pub low : PollsAreLow law logged part count joint node steps.before
    -- what it had in flight when it served last is moved; and the index knows of no later promise than tokens
    pub moved : (f : FlightState) → flew_at logged part OfCleaner tt count ≡ Some f
        → AllByRecursion (ItemMoves part joint.idx.net.sent) f.segment.items
    pub promised : joint.idx.net.promised ≤ joint.tok.net.promised

  module _ (beside : Beside) where
    abbrev sent : List Packet
    sent = (moment e count).sent

    abbrev g : Setting
    g = its_setting logged part

    abbrev w : Scene
    w = its_scene logged part count

    abbrev x : Scene
    x = its_scene logged part (suc count)

    abbrev p : cleaning.Phase
    p = node.phase

    abbrev outs : List Effect
    outs = (takes node.peers p what).outs

    abbrev q : cleaning.Phase
    q = (takes node.peers p what).state

    before : IsHere logged part count node
    before = beside.steps.before

    sees : cleaner_log.CleanerAgrees g w p
    sees = (owns logged part count node before).agrees

    sees_then : cleaner_log.CleanerAgrees g x q
    sees_then = (owns logged part (suc count) _ beside.steps.after).agrees

    -- ---- its log

    owner_serves : (n : Scene) (r : cleaning.Phase) → cleaner_log.CleanerAgrees g n r → (v : Emptying) → r ≡ Serving v → is_serving n.net.owner ≡ true
    owner_serves n r sees v fact = ap is_serving (subst (cleaner_log.CleanerAgrees g n) fact sees).log.owner

    stage_away : (n : Scene) (o : openings.Opening) (last : ℕ) (s : stages.Stage) → SeesStage g cleaner_log.its_number n o.known last s
        → is_serving n.net.owner ≡ false
    stage_away n o last (stage.Scanning s) sees = ap is_serving sees.owner
    stage_away n o last (stage.Settling s) sees = ap is_serving sees.owner

    -- where it serves no more nothing is filed
    away_then : (r : cleaning.Phase) → q ≡ r → is_serving x.net.owner ≡ false → x.net.filed ≡ w.net.filed
    away_then r fact away =
        never_files law.logs.unfiled g w.net x.net (its_moment logged part count) ((its_line logged part).goes count)
        (beside.straight.never away)

    still_down : (l : Lasting) → q ≡ Down l → x.net.filed ≡ w.net.filed
    still_down l fact = away_then (Down l) fact (ap is_serving (subst (cleaner_log.CleanerAgrees g x) fact sees_then).1)

    still_opening : (l : Lasting) (o : openings.Opening) → q ≡ Opening l o → x.net.filed ≡ w.net.filed
    still_opening l o fact =
        away_then (Opening l o) fact (stage_away x o l.questions.last o.stage (subst (cleaner_log.CleanerAgrees g x) fact sees_then).sees)

    -- one that is down doesn't come to serve
    not_up : (l : Lasting) → p ≡ Down l → (v : Emptying) → q ≡ Serving v → ⊥
    not_up l fact v serves =
        let down = (subst (cleaner_log.CleanerAgrees g w) fact sees).1 in
        let c = comes g refl w.net x.net ((its_line logged part).goes count) beside.straight (ap is_serving down)
        (owner_serves x q sees_then v serves) in
        contrary (sym (ap is_writing down) ∙ c.writes)

    -- ---- what it asks and gets

    asked : AllByRecursion (EffectOwed part joint.idx.net) outs
    asked = asks law logged part count joint node before beside.of_eight beside.ours beside.reached beside.came beside.named what
        beside.brought

    gets_so : CleanerDoOwed part texts.text joint.idx.net p what
    gets_so = cleaner_gets law logged part count joint node before
        (upto_before logged part count beside.sure) beside.low beside.ours
        beside.reached beside.came beside.named what beside.brought

    known : (k : Packet) → what ≡ Deliver k → SentBy part joint.idx.net joint.idx.asked k.from k.body × IsSentBy k.from k.body
    known k fact =
        let b = beside.brought k fact in
        (joint.index_stands.facts k b.0, kinds_of_tokens (cluster base e) part joint.tok k (joint.tokens_stand.facts k b.0))

    event_gets : (lasting_of p).questions.last < u32_end → EventGets part joint.idx.net p what
    event_gets room =
        gets.cleaner_gets part texts.text joint.idx.asked joint.idx.net p what (agrees logged part count joint node before).phase
        (sight.asks logged part count joint node before) room known gets_so

    -- ---- what it files

    -- where a counter is near its end nothing happens
    nothing : (t : Bool) → phase_has_room p ≡ t → (t ≡ true → FilesOwed (NewFor part texts.text joint.idx.net p) texts.text 9 joint.idx.net.filed outs)
        → FilesOwed (NewFor part texts.text joint.idx.net p) texts.text 9 joint.idx.net.filed outs
    nothing true fact owed = owed refl
    nothing false fact owed =
        subst (λ (t : Went_to). FilesOwed (NewFor part texts.text joint.idx.net p) texts.text 9 joint.idx.net.filed t.outs)
        (sym (second_of (phase_has_room p) (happens node.peers p what) (still p) fact)) tt

    serving_so : (v : Emptying) → p ≡ Serving v → FilesOwed (NewFor part texts.text joint.idx.net p) texts.text 9 joint.idx.net.filed outs
    serving_so v fact =
        nothing (phase_has_room p) refl
        (λ room. serving_files law logged part count joint node what beside.steps beside.sure v fact beside.of_eight
        (event_gets (room_below p room)) asked)

    still_so : x.net.filed ≡ w.net.filed → FilesOwed (NewFor part texts.text joint.idx.net p) texts.text 9 joint.idx.net.filed outs
    still_so same = still_files law logged part count joint node what beside.steps beside.sure same

    restart_so : (l : Lasting) (o : openings.Opening) (v : Emptying) → p ≡ Opening l o → q ≡ Serving v
        → FilesOwed (NewFor part texts.text joint.idx.net p) texts.text 9 joint.idx.net.filed outs
    restart_so l o v opens serves =
        restart_files law logged part count joint node what beside.steps beside.sure beside.straight beside.apart l o v opens
        serves beside.moved

    files_so : (r : cleaning.Phase) → p ≡ r → (s : cleaning.Phase) → q ≡ s
        → FilesOwed (NewFor part texts.text joint.idx.net p) texts.text 9 joint.idx.net.filed outs
    files_so (Serving v) fact s then_is = serving_so v fact
    files_so (Down l) fact (Down m) then_is = still_so (still_down m then_is)
    files_so (Down l) fact (Opening m o) then_is = still_so (still_opening m o then_is)
    files_so (Down l) fact (Serving v) then_is = absurd (not_up l fact v then_is)
    files_so (Opening l o) fact (Down m) then_is = still_so (still_down m then_is)
    files_so (Opening l o) fact (Opening m z) then_is = still_so (still_opening m z then_is)
    files_so (Opening l o) fact (Serving v) then_is = restart_so l o v fact then_is

    -- ---- what it reads back

    -- what tokens make of the event, whatever logs tell them
    token_goes : CleanerGoes part joint.tok.net.promised (tokens.epoch_now (cluster base e) part joint.tok) p q outs
    token_goes =
        let st = joint.tokens_stand in
        let goes = law.tokens.nodes.cleaner false (tokens.members (cluster base e) part) part joint.tok.net.promised (tokens.epoch_now (cluster base e) part
        joint.tok)
        joint.tok.net beside.of_eight st.cleaner.0 tt false joint.tok.cleaner what st.cleaner.1 (owed what refl) tt tt in
        subst (λ (c : CleanerNode). CleanerGoes part joint.tok.net.promised (tokens.epoch_now (cluster base e) part joint.tok) c.phase
        (takes c.peers c.phase what).state (takes c.peers c.phase what).outs)
        (in_tokens logged part count joint node before) goes.0
      where
        owed : (d : Do) → what ≡ d
            → token.CleanerOwed part joint.tok.net.promised (tokens.epoch_now (cluster base e) part joint.tok) joint.tok.cleaner.phase d
        owed Begin fact = tt
        owed Tick fact = tt
        owed (Deliver k) fact =
            (let b = beside.brought k fact in token_gets.cleaner_gets (cluster base e) part joint.tok k (joint.tokens_stand.facts k b.0) b.1)

    at_both : (r s : cleaning.Phase) → p ≡ r → q ≡ s → ReopensOn part texts.text joint.idx.net r s → ReopensOn part texts.text joint.idx.net p q
    at_both r s fact then_is h =
        subst (λ (y : cleaning.Phase). ReopensOn part texts.text joint.idx.net y q) (sym fact)
        (subst (ReopensOn part texts.text joint.idx.net r) (sym then_is) h)

    reopens_so : (r : cleaning.Phase) → p ≡ r → (s : cleaning.Phase) → q ≡ s → ReopensOn part texts.text joint.idx.net p q
    reopens_so (Opening l o) fact (Serving v) then_is =
        reopens_on law logged part count joint node what beside.steps beside.straight beside.apart beside.sure
        l o v fact then_is (tokens.epoch_now (cluster base e) part joint.tok) token_goes
        beside.promised
    reopens_so (Opening l o) fact (Down m) then_is = at_both (Opening l o) (Down m) fact then_is tt
    reopens_so (Opening l o) fact (Opening m z) then_is = at_both (Opening l o) (Opening m z) fact then_is tt
    reopens_so (Down l) fact s then_is = subst (λ (r : cleaning.Phase). ReopensOn part texts.text joint.idx.net r q) (sym fact) tt
    reopens_so (Serving v) fact s then_is = subst (λ (r : cleaning.Phase). ReopensOn part texts.text joint.idx.net r q) (sym fact) tt

    -- ---- all of it

    pub cleaner_told : CleanerTold part texts.text joint.idx.net p what (takes node.peers p what)
    cleaner_told = record {
      files = files_so p refl q refl;
      asks = asked;
      reopens = reopens_so p refl q refl;
      gets = gets_so;
      writes = writes_texts law.writing.cleaner_writes_texts logged part count node what beside.steps joint.idx.net;
    }

    -- what its event is owed
    pub cleaner_owed : IndexOwes part texts.text joint.idx.asked joint.idx.net Cleaner (any.Cleaner node) what
    cleaner_owed = cleaner_told
