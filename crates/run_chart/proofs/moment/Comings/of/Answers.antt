use Rattle.std.proofs.Common.{◌||◌, ap, sym, take, ◌∙◌}
use Rattle.std.specs.List.{list_any}
use Rattle.std.proofs.lemmas.List.{take_all}
use Rattle.std.proofs.lemmas.List.Folds.{list_any_more}
use Rattle.run_chart.specs.Marks.{comes, is_coming}
use Rattle.run_chart.proofs.moment.Comings.of.Goals as goal

pub loop-event-preserved : goal.loop-event-preserved
loop-event-preserved c packet =
    let i = c.loop-event.event-index in
    let events = c.args.events.now in
    c.in_ok-note_event.ensures packet
    ∙ ap (λ b. b || is_coming packet c.event-item.result) (c.loop-event.invariant packet)
    ∙ ap (λ event. list_any (is_coming packet) (take i events) || is_coming packet event) c.event-item.is
    ∙ sym (list_any_more (is_coming packet) events i c.event-item.result c.loop-event-test.true)

pub returns : goal.returns
unfolding comes
returns c packet =
    c.loop-event.invariant packet ∙ ap (λ events. list_any (is_coming packet) events) (take_all c.loop-event.event-index c.args.events.now c.loop-event-test.false)
