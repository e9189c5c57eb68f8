use Rattle.run_chart.proofs.Arrows.{arrows_once}
use Rattle.run_chart.proofs.law.each_packet_that_comes_is_drawn_once.Goals as goal

pub returns : goal.returns
returns c = arrows_once
