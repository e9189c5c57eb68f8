-- Where items begin in turn no item is answered that its node is busy, and that it is down only behind a fall.
use Rattle.std.proofs.Common.{◌≡◌, ◌⊎◌, ◌≤◌, ℕ, ◌+◌, suc, Bool, true, false, List, [], ◌∷◌, drop, length, Option, Some, None, inl, inr, refl, sym, ap, subst, ◌∙◌, arith}
use Rattle.std.specs.Prelude.{slice_get}
use Rattle.std.proofs.Math.Seq.{drop-append_seam}
use Rattle.core_world.specs.AnyNode.{any_step}
use Rattle.core_world.specs.declared.any_node.AnyNode.{AnyNode}
use Rattle.node_base.specs.Beginning.{next_item}
use Rattle.run_laws.proofs.world_reads.Taking.{NothingHappens, Took, takes_or_not}
use Rattle.headline.specs.Moments.{moment, node_in, node_named}
use Rattle.serving_moves.proofs.item_moves.Keeping.{next_is}
use Rattle.headline.specs.Items.{Falls, IsOpen, items_in, name_in}
use Rattle.token_protocol.specs.Basics.{In}
use Rattle.version_model.specs.declared.act.Act.{Act}
use Rattle.version_model.specs.declared.act.Act.TheVariants as act
use Rattle.version_model.specs.declared.answer.Answer.{Answer}
use Rattle.version_model.specs.declared.answer.Answer.TheVariants as answer
use Rattle.version_model.specs.declared.work.Work.{Work}
use Rattle.version_model.specs.declared.work.Work.TheVariants as work
use Rattle.wire_msg.specs.declared.packet.Do.{Do}
use Rattle.wire_msg.specs.declared.packet.Do.TheVariants.{Begin}
use Rattle.wire_msg.specs.NodeStep.{NodeStep}
use Rattle.world_base.specs.declared.estate.Estate.{Estate}
use Rattle.world_base.specs.declared.event.Event.{Event}
use Rattle.world_base.specs.declared.world.World.{World}
use Rattle.world_base.specs.Events.{node_of, what_of}
use Rattle.world_base.specs.Items.{actor_of}
use Rattle.xfs_base.specs.declared.node.NodeId.{NodeId}
use Rattle.xfs_base.specs.declared.node.NodeId.TheVariants as nodes
use Rattle.run_answers.proofs.due_law.Runs.{fits_at}
use Rattle.run_answers.proofs.due_law.Waiting.{waits_so}
use Rattle.run_answers.proofs.once_law.Runs.{Known, answered_was, answers_itself, node_known}
use Rattle.run_answers.proofs.standing_law.Runs.{each_fits, stands_at}
use Rattle.run_answers.proofs.turn_law.Beginning.{near_its_end}
use Rattle.run_answers.proofs.turn_law.Fallen.{Its, its_is, opens_apart, serves_apart, serves_open}
use Rattle.headline.specs.Dues.{WaitsSo, has_counters}
use Rattle.run_answers.specs.once_law.Ledgers.{IsBegun}
use Rattle.headline.specs.Standings.{FitsAt, IsRefused, IsRestart, Standing, standing}
use Rattle.headline.specs.Standings.Standing.{Fallen, Opens, Serves}
use Rattle.run_answers.specs.turn_law.InTurn.{EachRunInTurn}
use Rattle.headline.specs.Turns.{AnswersThen, BeginsInTurn, FellBefore, asks}
use Rattle.run_answers.proofs.turn_law.Stood.{call_stands, its_serves, none_waits, server_serves, stood_at}

module _ (e : Estate AnyNode) (turn : BeginsInTurn e) where
  -- ---- answers

  module _ (count : ℕ) (event : Event) (happens : slice_get e.events count ≡ Some event) (node : NodeId) (item : ℕ) (a : Answer)
      (among : AnswersThen e count event node item a) where
    -- the node of the event answers it
    record Answering : Type 0 where
      x : AnyNode
      was : node_named (moment e count) (node_of event) ≡ Some x
      acted : In (act.Answered node item a) (any_step x (what_of event)).acts
      me : node ≡ node_of event

    nothing_after : (xs : List Act) → drop (length xs) xs ≡ []
    nothing_after [] = refl
    nothing_after (x ∷ xs) = nothing_after xs

    abbrev w : World AnyNode
    w = moment e count

    -- in its turn
    in_turn : (x : AnyNode) → Took w event x → Answering
    in_turn x took = record {
      x = x;
      was = was;
      acted = acted;
      me = answers_itself x (what_of event) known.waits node item a acted ∙ known.named;
    }
      where
        was : node_named w (node_of event) ≡ Some x
        was = ap (node_in w.nodes) took.placed ∙ took.stands

        known : Known e (node_of event) x
        known = node_known e count (node_of event) x was

        acted : In (act.Answered node item a) (any_step x (what_of event)).acts
        acted = subst (In (act.Answered node item a)) (ap (drop (length w.acts)) took.acts ∙ drop-append_seam w.acts (any_step x (what_of event)).acts) among

    answering : Answering
    answering = by (takes_or_not w event)
      where
        by : NothingHappens w event ⊎ ((x : AnyNode) × Took w event x) → Answering
        by (inl none) = absurd (subst (In (act.Answered node item a)) (ap (drop (length w.acts)) none.acts ∙ nothing_after w.acts) among)
        by (inr turned) = in_turn turned.0 turned.1

    -- which has room, and begins the item that it answers where that is its next
    record Beginning (x : AnyNode) : Type 0 where
      was : node_named (moment e count) (node_of event) ≡ Some x
      me : node ≡ node_of event
      room : has_counters x ≡ true
      begin : what_of event ≡ Begin

    same_node : (x z : AnyNode) → Some x ≡ Some z → x ≡ z
    same_node x z is = cc

    beginning : (before : AnyNode) → node_named (moment e count) node ≡ Some before → next_item (items_in before) ≡ Some item → Beginning before
    beginning before is next = record { was = was; me = g.me; room = room (has_counters before) refl; begin = begin (answered_was before what known.waits node item a acted) }
      where
        g : Answering
        g = answering

        what : Do
        what = what_of event

        was : node_named (moment e count) (node_of event) ≡ Some before
        was = ap (node_named (moment e count)) (sym g.me) ∙ is

        known : Known e (node_of event) before
        known = node_known e count (node_of event) before was

        acted : In (act.Answered node item a) (any_step before what).acts
        acted = subst (λ z. In (act.Answered node item a) (any_step z what).acts) (same_node g.x before (sym g.was ∙ was)) g.acted

        room : (t : Bool) → has_counters before ≡ t → has_counters before ≡ true
        room true is_ = is_
        room false near =
            absurd (subst (λ (st : NodeStep AnyNode). In (act.Answered node item a) st.acts) (near_its_end before what near) acted)

        begin : IsOpen (items_in before) item ⊎ IsBegun (items_in before) what (items_in (any_step before what).node) item → what ≡ Begin
        begin (inl waits) =
            let low : item ≤ (items_in before).begun = known.waits item waits in
            let one : item ≡ (items_in before).begun + 1 = next_is (items_in before) item next in
            absurd (omega (arith, low, one))
        begin (inr begun) = begun.0

    -- no item waits then
    nothing_waits : (before : AnyNode) → node_named (moment e count) node ≡ Some before → next_item (items_in before) ≡ Some item
        → (Falls (asks e node item) → ⊥) → (other : ℕ) → IsOpen (items_in before) other → ⊥
    nothing_waits before is next apart other waits =
        let b : Beginning before = beginning before is next in
        none_waits e turn count event happens before b.was b.room b.begin item next (λ falls. apart (subst (λ n. Falls (asks e n item)) (sym b.me) falls)) other waits

  never_busy : (count : ℕ) (event : Event) → slice_get e.events count ≡ Some event → (node : NodeId) (item : ℕ) → AnswersThen e count event node item answer.Busy → ⊥
  never_busy count event happens node item among =
      let f : FitsAt e count node item answer.Busy = each_fits e count event happens node item answer.Busy among in
      nothing_waits count event happens node item answer.Busy among f.before f.was f.fits.0 (call_stands (asks e node item) f.fits.1.0.0) f.fits.1.1.0 f.fits.1.1.1.0

  -- one that is down, to what begins
  module _ (count : ℕ) (event : Event) (happens : slice_get e.events count ≡ Some event) (node : NodeId) (item : ℕ)
      (among : AnswersThen e count event node item answer.Down) where
    f : FitsAt e count node item answer.Down
    f = each_fits e count event happens node item answer.Down among

    abbrev down : AnyNode
    down = f.before

    -- it has not opened its log
    not_opening : standing down ≡ Opens → ⊥
    not_opening is = by (asks e node item) refl f.fits.1.0
      where
        o : (i : ℕ) × (IsOpen (items_in down) i × IsRestart (asks e node i))
        o = subst (λ (st : Standing). WaitsSo st (items_in down) (λ i. asks e node i)) is
            (waits_so e node down (fits_at e count node down f.was) (stands_at e count node down f.was))

        none : (Falls (asks e node item) → ⊥) → ⊥
        none apart = nothing_waits count event happens node item answer.Down among down f.was f.fits.0 apart o.0 o.1.0

        its : Its e count node down f.was item
        its = its_is e count node down f.was item f.fits.0

        same_work : (v w : Work) → Some v ≡ Some w → v ≡ w
        same_work v w same = cc

        by : (w : Option Work) → asks e node item ≡ w → IsRefused down f.after item w → ⊥
        by None there refused = none (λ falls. subst Falls there falls)
        by (Some (work.Crash named)) there refused = opens_apart (standing down) is refused
        by (Some (work.Restart named)) there refused = refused
        by (Some (work.Lose v)) there refused =
            let own : actor_of (work.Lose v) ≡ Some (name_in down) = ap actor_of (same_work (work.Lose v) its.its (sym there ∙ its.there)) ∙ its.own in
            serves_open (standing down) (its_serves down (nodes.Server v) (name_in down) own (server_serves down v) refl) is
        by (Some other) there refused = none (λ falls. subst Falls there falls)

    not_serving : standing down ≡ Serves → ⊥
    not_serving is = by (asks e node item) f.fits.1.0
      where
        by : (w : Option Work) → IsRefused down f.after item w → ⊥
        by None refused = refused is
        by (Some (work.Crash named)) refused = serves_apart (standing down) is refused
        by (Some (work.Restart named)) refused = refused
        by (Some other) refused = refused is

    down_behind : FellBefore e count node item
    down_behind = by (standing down) refl
      where
        one : item ≡ (items_in down).begun + 1
        one = next_is (items_in down) item f.fits.0

        next_one : suc (items_in down).begun ≡ item
        next_one = omega (arith, one)

        by : (st : Standing) → standing down ≡ st → FellBefore e count node item
        by Fallen is = subst (FellBefore e count node) next_one ((stood_at e turn count node down f.was).fallen is)
        by Opens is = absurd (not_opening is)
        by Serves is = absurd (not_serving is)

pub answers_in_turn : EachRunInTurn
answers_in_turn e turn = record {
  never_busy = never_busy e turn;
  down_behind = λ count event happens node item among. down_behind e turn count event happens node item among;
}
