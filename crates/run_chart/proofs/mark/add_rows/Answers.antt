use Rattle.std.proofs.Common.{◌≡◌, ◌++◌, ap, subst, ◌∙◌}
use Rattle.std.specs.Prelude.{OnOk}
use Rattle.std.specs.List.{flat_map}
use Rattle.run_chart.specs.Marks.{comes, drawn_by}
use Rattle.run_chart.proofs.mark.add_rows.Goals as goal

pub returns : goal.returns
returns c =
    subst (λ one. OnOk c.add_drawn.result (c.add_drawn.new.marks ≡ c.args.marks.now ++ flat_map one c.args.rows.now))
    (λ i. drawn_by (λ packet. c.in_ok-first.ensures packet i)
    (λ packet. (c.in_ok-coming.ensures packet ∙ ap (λ events. comes events packet) c.as_slice.ensures) i) c.args.estate.now) c.add_drawn.ensures
