-- A run with boards stands for one run.
use Rattle.std.proofs.Common.{◌≡◌, ◌≤◌, List, [], ◌∷◌, refl, sym, ◌∙◌, subst, arith}
use Rattle.xfs_base.specs.declared.node.NodeId.{NodeId}
use Rattle.xfs_base.specs.declared.setup.Setup.{Setup}
use Rattle.xfs_base.specs.Steps.{steps}
use Rattle.script_text.specs.declared.script.Script.{Script}
use Rattle.version_model.specs.declared.work.Work.{Work}
use Rattle.wire_msg.specs.declared.packet.Do.{Do}
use Rattle.wire_msg.specs.NodeStep.{NodeStep}
use Rattle.world_base.specs.NextWorld.{start_world}
use Rattle.world_base.specs.Runs.{Leads}
use Rattle.board_world.specs.declared.board_event.BoardEvent.{BoardEvent}
use Rattle.board_world.specs.declared.board_event.BoardEvent.TheVariants.{Far, Offer, Mail, Beat, Stop, Start}
use Rattle.board_world.specs.BoardRuns.{BoardsLead, IsBoardRun, MayCome, MayMail, Together, next_together}
use Rattle.board_world.specs.NextBoards.{boards_start, boards_take}
use Rattle.board_law.specs.OneRun.{HasRegistry, IsOneRun}
use Rattle.board_law.proofs.Begins.{Begins, event_begins, nothing, then_begins}
use Rattle.board_law.proofs.Events.{event_tied, have_one_list}
use Rattle.board_law.proofs.Going.{Going, event_goes}
use Rattle.board_law.proofs.Places.{nowhere}
use Rattle.board_law.proofs.Projecting.{leads_both}
use Rattle.board_law.proofs.Starting.{starts_in_world}
use Rattle.board_law.proofs.Tied.{AreTied, first_tied}

-- a packet of a board that may come was sent
came : {N : Type 0} (t : Together N) (event : BoardEvent) → MayCome t event → MayMail t.boards event
came t (Far event) may = tt
came t (Offer number what item) may = tt
came t (Mail packet) may = may
came t (Beat number) may = tt
came t (Stop number) may = tt
came t (Start number) may = tt

module _ {N : Type 0} (step : N → Do → NodeStep N) (first : NodeId → Setup → List Work → N) (has : HasRegistry step first) (script : Script) where
  -- where events lead from one moment
  record Led (t : Together N) (events : List BoardEvent) (end : Together N) : Type 0 where
    boards : end.boards ≡ (steps boards_take t.boards events).state
    leads : Leads step t.world (steps boards_take t.boards events).outs end.world
    tied : AreTied script end.boards
    going : Going step first has script end.boards end.world
    items : end.boards.items ≡ t.boards.items
    begins : Begins t.boards.items t.boards.begun (steps boards_take t.boards events).outs end.boards.begun

  led : (t : Together N) (events : List BoardEvent) (end : Together N) → BoardsLead step t events end → AreTied script t.boards → Going step first has script t.boards t.world
      → t.boards.begun ≤ t.boards.items → Led t events end
  led t [] end lead tied going within =
      subst (λ e. Led t [] e) lead (record { boards = refl; leads = refl; tied = tied; going = going; items = refl; begins = nothing t.boards.items t.boards.begun within })
  led t (event ∷ events) end lead tied going within =
      let next = next_together step t event in
      let on = event_goes step first has script t.boards t.world going event lead.0 in
      let b = event_begins t within event lead.0 in
      let more = (steps boards_take next.boards events).outs in
      let still_within : next.boards.begun ≤ next.boards.items = subst (λ n. next.boards.begun ≤ n) (sym b.items) b.begins.within in
      let rest = led next events end lead.1 (event_tied script t.boards event (came t event lead.0) tied) on.going still_within in
      record {
        boards = rest.boards;
        leads = leads_both step t.world next.world end.world (boards_take t.boards event).outs (steps boards_take next.boards events).outs on.leads rest.leads;
        tied = rest.tied;
        going = rest.going;
        items = rest.items ∙ b.items;
        begins =
            then_begins t.boards.items t.boards.begun next.boards.begun end.boards.begun (boards_take t.boards event).outs more b.begins
            (subst (λ n. Begins n next.boards.begun more end.boards.begun) b.items rest.begins);
      }

  first_going : Going step first has script (boards_start script) (start_world first script)
  first_going = record {
    nodes = (record { list = tt; waiting = tt }, (record { list = tt; waiting = tt }, (record { list = tt; waiting = tt }, tt)));
    mail = tt;
    stands = starts_in_world step first has script;
    begun = refl;
    sent = λ packet at. nowhere packet at;
  }

  pub is_one_run : (events : List BoardEvent) (end : Together N) → IsBoardRun step first script events end → IsOneRun step first has.of script events end
  is_one_run events end lead =
      let l = led (record { boards = boards_start script; world = start_world first script }) events end lead (first_tied script) first_going (omega arith) in
      let one = have_one_list script end.boards l.tied in
      record {
        boards = l.boards;
        one_list = one;
        one_run = l.leads;
        registry = l.going.stands.node;
        begun = grind (arith, l.begins.count);
        counted = l.going.begun;
        within = l.begins.within;
        handed = λ packet at. l.going.sent packet (one.handed packet at);
      }
