use Rattle.std.proofs.Common.{◌≡◌, ◌+◌, List, ◌∷◌, ◌++◌, drop, map, sym, ap, ◌∙◌, append_assoc}
use Rattle.std.proofs.lemmas.List.{drop_more}
use Rattle.board_world.specs.NextBoards.{BoardsState, boards_take}
use Rattle.world_base.specs.declared.event.Event.{Event}
use Rattle.run_chart.specs.declared.boards.Ups.{Ups}
use Rattle.run_chart.specs.Boards.{ups_from, ups_in}
use Rattle.run_chart.proofs.boards.ups_of.Goals as goal

pub loop-event-preserved : goal.loop-event-preserved
loop-event-preserved c =
    let i = c.loop-event.event-index in
    let all = c.loop-event.all in
    let old = c.loop-event.boards in
    let new = c.take.new.self in
    let event = c.event-item.result in
    let rest = drop (i + 1) c.args.events.now in
    let outs : c.as_slice.result.now ≡ (boards_take old event).outs = c.as_slice.ensures ∙ c.in_ok-outs.ensures.events in
    let next : drop i c.args.events.now ≡ event ∷ rest = drop_more c.args.events.now i event c.loop-event-test.true ∙ ap (λ e. e ∷ rest) (sym c.event-item.is) in
    ap (λ ups. ups ++ ups_from new rest) c.in_ok-add_ups.ensures
    ∙ append_assoc all (map (λ _. c.ups_in.result) c.as_slice.result.now) (ups_from new rest)
    ∙ ap (λ (ups : Ups). all ++ (map (λ _. ups) c.as_slice.result.now ++ ups_from new rest)) c.ups_in.ensures
    ∙ ap (λ (events : List Event). all ++ (map (λ _. ups_in new) events ++ ups_from new rest)) outs
    ∙ ap (λ (boards : BoardsState). all ++ (map (λ _. ups_in boards) (boards_take old event).outs ++ ups_from boards rest)) c.in_ok-outs.ensures.state
    ∙ ap (λ events. all ++ ups_from old events) (sym next)
    ∙ c.loop-event.invariant
