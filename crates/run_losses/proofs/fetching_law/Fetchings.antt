-- What a client says is lost while it reads a block for its open call was torn, in every run.
use Rattle.std.proofs.Common.{◌≡◌, ◌⊎◌, ⊎_elim, ℕ, suc, ◌≤◌, ◌==◌, ◌&&◌, true, List, [], ◌∷◌, ◌++◌, Option, Some, None, drop, length, slice_get, refl, sym, ap, subst, ◌∙◌, inl, inr, arith}
use Rattle.std.proofs.lemmas.Bool.{eqb-true}
use Rattle.xfs_base.proofs.Booleans.{and_first, and_second, contrary}
use Rattle.xfs_base.specs.Blocks.{slot_of}
use Rattle.xfs_base.specs.declared.block.BlockId.{BlockId}
use Rattle.xfs_base.specs.Modes.{same_mode}
use Rattle.xfs_base.specs.Stamps.{is_later}
use Rattle.client_node.specs.declared.client.Client.{Client}
use Rattle.client_node.specs.declared.phase.Phase.{Phase}
use Rattle.client_node.specs.declared.phase.Phase.TheVariants.{Down, Opening, Serving as Serves}
use Rattle.client_node.specs.Phases.{lasting_of, takes}
use Rattle.client_call.specs.Reads.{reading_in}
use Rattle.client_serving.specs.declared.serving.Serving.{Serving}
use Rattle.core_world.specs.AnyNode.{any_start, any_step}
use Rattle.core_world.specs.declared.any_node.AnyNode.{AnyNode}
use Rattle.core_world.specs.declared.any_node.AnyNode.TheVariants as any
use Rattle.log_tie.specs.Setting.{Setting}
use Rattle.run_losses.specs.missing_law.Missed.{AnswersTellOfMisses}
use Rattle.run_losses.proofs.missing_law.Moments.{sent_on}
use Rattle.node_base.specs.declared.effects.Effect.{Effect}
use Rattle.node_base.specs.declared.effects.Effect.TheVariants.{Send, Answer, Lose, Does}
use Rattle.node_base.specs.Effects.{acts_of}
use Rattle.segment_reading.specs.declared.target.BlockAt.{BlockAt}
use Rattle.segment_reading.specs.declared.target.Target.{Target}
use Rattle.segment_reading.specs.Reading.{ReadingState}
use Rattle.token_client.specs.declared.held.Wanted.{Wanted}
use Rattle.token_client.specs.Held.{is_answer, is_wanted}
use Rattle.token_client.specs.State.{TokensState, epoch_of, held_of}
use Rattle.token_client.specs.Transition.{accepts, is_promised}
use Rattle.token_protocol.specs.Basics.{In}
use Rattle.run_losses.proofs.torn_law.Counts.{Still, TurnAt, became, may_happen, moment_next}
use Rattle.run_losses.proofs.torn_law.Turns.{brought}
use Rattle.version_model.specs.declared.act.Act.TheVariants as act
use Rattle.wire_msg.specs.declared.packet.Do.{Do}
use Rattle.wire_msg.specs.declared.packet.Do.TheVariants.{Deliver}
use Rattle.wire_msg.specs.declared.packet.Packet.{Packet}
use Rattle.wire_msg.specs.declared.tokens.Grant.{Grant}
use Rattle.world_base.specs.declared.estate.Estate.{Estate}
use Rattle.world_base.specs.declared.event.Event.{Event}
use Rattle.world_base.specs.declared.world.World.{World}
use Rattle.world_base.specs.Events.{node_of, what_of}
use Rattle.world_base.specs.Runs.{IsRun}
use Rattle.run_laws.proofs.world_law.Nodes.{here}
use Rattle.run_laws.proofs.world_law.Laws.{NodeLaws}
use Rattle.headline.specs.Moments.{acts_in, moment}
use Rattle.run_laws.proofs.world_logs.Groups.{GroupsStay}
use Rattle.run_laws.specs.world_logs.Lines.{HasLines, RunsHaveLines}
use Rattle.headline.specs.Segments.{NotDeleted}
use Rattle.headline.specs.Logs.{IsThere}
use Rattle.headline.specs.Logs.Role.{OfClient}
use Rattle.xfs_base.specs.declared.node.NodeId.{NodeId}
use Rattle.xfs_base.specs.declared.node.NodeId.TheVariants as nodes
use Rattle.xfs_base.specs.declared.segment.SegName.{SegName}
use Rattle.run_losses.specs.fetching_law.Fetchings.{CallsReadBlocks, FetchesLossesEarned, WasTornInFetch}
use Rattle.headline.specs.Reads.{BringsGone, serving_at, serving_in, what_is_read}
use Rattle.run_losses.proofs.fetching_law.Counts.{AnswersTell, Good, GrantsAsked, Here, all_good, client_there, serving_is, was}
use Rattle.run_losses.proofs.fetching_law.Maps.{ServesWell, StandsWell}
use Rattle.run_losses.proofs.fetching_law.Phases.{After, event_serves}
use Rattle.run_losses.proofs.fetching_law.Following.{NotLost}
use Rattle.run_losses.proofs.fetching_law.Asked.{grants_are_asked}
use Rattle.run_losses.proofs.fetching_law.Wants.{Above, Later}
use Rattle.run_losses.proofs.fetching_law.Truths.{Doubt, IsNamed, Reads, Renewed}
use Rattle.run_losses.proofs.fetching_law.Turning.{AllSay, Doubts}

-- ---- what is done in an event

done_after : {X : Type 0} (xs ys : List X) → drop (length xs) (xs ++ ys) ≡ ys
done_after [] ys = refl
done_after (x ∷ xs) ys = done_after xs ys

none_after : {X : Type 0} (xs : List X) → drop (length xs) xs ≡ []
none_after [] = refl
none_after (x ∷ xs) = none_after xs

module _ (s : Serving) (what : Do) (o : Option ReadingState) (own its : NodeId) (name : SegName) where
  same_loss : (seg : SegName) → act.Lost own name ≡ act.Lost its seg → seg ≡ name
  same_loss seg e = cc

  -- what is acted to be lost is said to be so
  said_lost : (outs : List Effect) → AllSay s what o outs → In (act.Lost own name) (acts_of its outs) → BringsGone s what name ⊎ Doubts s what name
  said_lost [] all fact = absurd fact
  said_lost (Send to said ∷ outs) all fact = said_lost outs all.1 fact
  said_lost (Answer item a ∷ outs) all (inl e) = absurd cc
  said_lost (Answer item a ∷ outs) all (inr fact) = said_lost outs all.1 fact
  said_lost (Lose seg ∷ outs) all (inl e) = subst (λ z. BringsGone s what z ⊎ Doubts s what z) (same_loss seg e) all.0
  said_lost (Lose seg ∷ outs) all (inr fact) = said_lost outs all.1 fact
  said_lost (Does a ∷ outs) all (inl e) = absurd (subst NotLost (sym e) all.0)
  said_lost (Does a ∷ outs) all (inr fact) = said_lost outs all.1 fact

-- a Grant that is taken doesn't answer a want before these
not_both : (b : BlockId) (life highest epoch : ℕ) (s : TokensState) → Later b life highest epoch s → (g : Grant)
    → accepts s g.block g.stamp g.inc g.req g.mode ≡ true → (g.inc ≡ life → epoch ≤ g.stamp.epoch → g.req ≤ highest) → b ≡ g.block → ⊥
not_both b life highest epoch s l g taken before here =
    let promised : is_promised s g.block g.stamp ≡ true = and_first (is_promised s g.block g.stamp) (g.inc == s.inc) (and_first
    (is_promised s g.block g.stamp && (g.inc == s.inc)) (is_answer (held_of s.blocks g.block) g.stamp g.req g.mode) taken) in
    let same_life : (g.inc == s.inc) ≡ true = and_second (is_promised s g.block g.stamp) (g.inc == s.inc) (and_first
    (is_promised s g.block g.stamp && (g.inc == s.inc)) (is_answer (held_of s.blocks g.block) g.stamp g.req g.mode) taken) in
    let wanted : is_wanted (held_of s.blocks g.block).want g.req g.mode ≡ true =
    and_first (is_wanted (held_of s.blocks g.block).want g.req g.mode) (is_later g.stamp (held_of s.blocks g.block).stamp)
    (and_second (is_promised s g.block g.stamp && (g.inc == s.inc)) (is_answer (held_of s.blocks g.block) g.stamp g.req g.mode) taken) in
    later_wants (held_of s.blocks g.block).want (l.want g.block (sym here)) wanted
    (before (eqb-true g.inc s.inc same_life ∙ l.life)
    (let at = eqb-true (epoch_of s.epochs (slot_of g.block.ino.0)) g.stamp.epoch promised in
    let low = subst (λ (x : BlockId). epoch ≤ epoch_of s.epochs (slot_of x.ino.0)) here l.promised in omega arith))
  where
    later_wants : (o : Option Wanted) → Above b life highest epoch o → is_wanted o g.req g.mode ≡ true → g.req ≤ highest → ⊥
    later_wants None above none low = contrary none
    later_wants (Some w) above same low =
        let number = eqb-true w.req g.req (and_first (w.req == g.req) (same_mode w.mode g.mode) same) in
        let less = above in
        absurd (omega arith)

module _ (base : Setting) (e : Estate AnyNode) (run : IsRun any_step any_start e.script e.events e.world) (lines : HasLines base e) (c : ℕ)
    (is_there : IsThere e.script.setup.clients e.script.setup.managers (OfClient c)) (answers : AnswersTell e c) (asked : GrantsAsked e c)
    (stay : GroupsStay) where
  abbrev reader : NodeId
  reader = nodes.Client c

  -- what is read is read for a block
  pub reads_block : (count : ℕ) (r : ReadingState) → what_is_read (serving_at e c count) ≡ Some r → (at : BlockAt) × (r.target.block ≡ Some at)
  reads_block count r fact =
      let good : Good base e run lines c is_there answers asked count = all_good base e run lines c is_there answers asked stay count in
      let h : Reads e c count r = good.reads r fact in
      (h.block, h.looks)

  -- ---- the client says that a segment is lost

  module _ (count : ℕ) (event : Event) (fact : slice_get e.events count ≡ Some event) (own : reader ≡ node_of event) (s : Serving)
      (serves : serving_at e c count ≡ Some s) (name : SegName) where
    abbrev Earned : Type 0
    Earned = BringsGone s (what_of event) name ⊎ WasTornInFetch e c s count (what_of event) name

    good : Good base e run lines c is_there answers asked count
    good = all_good base e run lines c is_there answers asked stay count

    acts_now : acts_in (moment e count) event ≡ drop (length (moment e count).acts) (moment e (suc count)).acts
    acts_now = ap (λ (v : World AnyNode). drop (length (moment e count).acts) v.acts) (sym (moment_next e count event fact))

    -- the packet that the event brings was sent to the client
    gets_it : (p : Packet) → what_of event ≡ Deliver p → p.to ≡ reader
    gets_it p delivers = (brought (moment e count) event (may_happen e run count event fact) p delivers).1 ∙ sym own

    doubts_torn : Doubts s (what_of event) name → WasTornInFetch e c s count (what_of event) name
    doubts_torn d =
        let read : what_is_read (serving_at e c count) ≡ Some d.was = ap what_is_read serves ∙ d.reads in
        let h : Reads e c count d.was = good.reads d.was read in
        let x : Doubt e c h.since count d.was.target = h.doubt d.doubted in
        let g : Grant = d.confirms.grant in
        let y : Renewed e c x.when count g.block =
        x.renewed (record { item = d.confirms.place.item; block = g.block }) (ap (λ (t : Target). t.block) d.confirms.reads) in
        let l : Later g.block y.life y.highest y.epoch s.tokens = y.later s serves in
        record {
          reading = d.was;
          is_read = read;
          named = d.named;
          confirms = d.confirms;
          accepted = d.accepted;
          item = h.item;
          first = x.torn.first;
          second = x.torn.second;
          in_order = x.torn.follows;
          before = (let a = x.torn.ends in let b = x.until in omega arith);
          reads = λ k since limit. h.reads k (let a = x.torn.begins in omega arith) limit;
          torn = λ kept. x.torn.torn (subst (NotDeleted (moment e x.torn.second)) d.named kept);
          asked_after = λ among.
              not_both g.block y.life y.highest y.epoch s.tokens l g d.accepted
              (λ life heard. y.before d.confirms.packet g (sent_on e x.torn.second x.when x.torn.ends d.confirms.packet among)
              (gets_it d.confirms.packet d.confirms.delivers) d.confirms.bears refl life heard) refl;
        }

    still_lost : Still (moment e count) (moment e (suc count)).nodes (moment e (suc count)).sent (moment e (suc count)).acts
        → In (act.Lost reader name) (acts_in (moment e count) event) → Earned
    still_lost still among =
        let none : acts_in (moment e count) event ≡ [] =
        acts_now ∙ (ap (drop (length (moment e count).acts)) still.acts_are ∙ none_after (moment e count).acts) in
        absurd (subst (In (act.Lost reader name)) none among)

    said_so : (p : Phase) (outs : List Effect) (its : NodeId) → After s (what_of event) p outs → In (act.Lost reader name) (acts_of its outs)
        → BringsGone s (what_of event) name ⊎ Doubts s (what_of event) name
    said_so (Down l) outs its a among = said_lost s (what_of event) None reader its name outs a among
    said_so (Opening l o) outs its a among = absurd a
    said_so (Serves u) outs its a among = said_lost s (what_of event) (reading_in u.call) reader its name outs a.says among

    phase_of : (node : Client) → serving_in node.phase ≡ Some s → node.phase ≡ Serves s
    phase_of node at = by node.phase at
      where
        same_serving : (u : Serving) → Some u ≡ Some s → u ≡ s
        same_serving u e = cc

        by : (p : Phase) → serving_in p ≡ Some s → p ≡ Serves s
        by (Down l) clash = absurd (let x : None ≡ Some s = clash in cc)
        by (Opening l o) clash = absurd (let x : None ≡ Some s = clash in cc)
        by (Serves u) same = ap Serves (same_serving u same)

    turn_lost : TurnAt (moment e count) event (moment e (suc count)).nodes (moment e (suc count)).sent (moment e (suc count)).acts
        → In (act.Lost reader name) (acts_in (moment e count) event) → Earned
    turn_lost t among =
        let stood : Here base e run lines c is_there answers asked count ≡ Some t.node =
        was base e run lines c is_there answers asked count good event fact t own in
        let n = client_there base e run lines c is_there answers asked count t.node stood in
        let node : Client = n.0 in
        let here_is : Here base e run lines c is_there answers asked count ≡ Some (any.Client node) = stood ∙ ap Some n.1 in
        let serving : node.phase ≡ Serves s =
        phase_of node (sym (serving_is base e run lines c is_there answers asked count (Some (any.Client node)) here_is) ∙ serves) in
        let w : ServesWell (IsNamed e c) s = subst (StandsWell (IsNamed e c)) serving (good.well node here_is) in
        let acts : acts_in (moment e count) event ≡ acts_of (nodes.Client (lasting_of node.phase).number) (takes node (what_of event)).outs =
        acts_now ∙ (ap (drop (length (moment e count).acts)) t.acts_are
        ∙ (done_after (moment e count).acts (any_step t.node (what_of event)).acts ∙ ap (λ x. (any_step x (what_of event)).acts) n.1)) in
        ⊎_elim inl (λ d. inr (doubts_torn d))
        (said_so (takes node (what_of event)).state (takes node (what_of event)).outs (nodes.Client (lasting_of node.phase).number)
        (event_serves node s serving w.waits (what_of event)) (subst (In (act.Lost reader name)) acts among))

    pub lost_earned : In (act.Lost reader name) (acts_in (moment e count) event)
        → BringsGone s (what_of event) name ⊎ WasTornInFetch e c s count (what_of event) name
    lost_earned among = ⊎_elim (λ still. still_lost still among) (λ t. turn_lost t among) (became e count event fact)

-- ---- of every run

pub record Below : Type 0 where
  pub setting : Setting
  pub lines : RunsHaveLines
  pub answers : AnswersTellOfMisses
  pub groups : GroupsStay
  pub nodes : NodeLaws

pub fetches_lose : Below → FetchesLossesEarned
fetches_lose below e ok run c some limit count event fact own s serves name among =
    lost_earned below.setting e run (below.lines below.setting e ok run) c (some, limit)
    (λ drawn rises count v p m sent from to tells. below.answers e ok run (nodes.Client c) drawn rises count v p m sent from to tells)
    (λ count t there b p m. grants_are_asked below.nodes e ok run count b c t there p m) below.groups count event fact own s serves name among

pub calls_read_blocks : Below → CallsReadBlocks
calls_read_blocks below e ok run c some limit count r fact =
    reads_block below.setting e run (below.lines below.setting e ok run) c (some, limit)
    (λ drawn rises count v p m sent from to tells. below.answers e ok run (nodes.Client c) drawn rises count v p m sent from to tells)
    (λ count t there b p m. grants_are_asked below.nodes e ok run count b c t there p m) below.groups count r fact
