use Rattle.std.proofs.Common.{Some, ap, map, refl, string_bytes, subst, ◌≡◌, ◌∙◌}
use Rattle.std.specs.Prelude.{IfSome}
use Rattle.core_world.specs.AnyNode.{any_start, any_step}
use Rattle.shelved_nodes.specs.AnyShelf.{any_shelf}
use Rattle.top_call.specs.Claim as claim
use Rattle.top_call.specs.Claim.{Ends, IsRunBy, Writing, reading, writing}
use Rattle.top_call.specs.Commands.{command_of, is_live}
use Rattle.top_call.specs.Disks.{DisksOf}
use Rattle.xfs_top.specs.Headline.{HeadlineOf}
use Rattle.picture_call.specs.Asking.{command_by}
use Rattle.picture_call.proofs.Showing.{are_told, has_setup, is_alone, is_command, is_determined, refused, shown}
use Rattle.picture_call.specs.Shown.{Drawn}
use Rattle.picture_call.proofs.call.show.Goals as goal

pub solo-outcome-requires : goal.solo-outcome-requires
solo-outcome-requires g c = ap is_live (ap command_of c.requires ∙ is_command c.args.asked) ∙ is_alone c.args.asked

pub draw-requires : goal.draw-requires
draw-requires g c =
    let command = command_of (map string_bytes c.args.words.now) in
    let asked = ap command_of c.requires ∙ is_command c.args.asked in
    let held = subst (λ o. IfSome o (HeadlineOf command)) c.in-Some.is c.solo-outcome.ensures.headline in
    has_setup c.args.asked c.in-Some.estate (subst (λ of. HeadlineOf of c.in-Some.estate) asked held)

pub returns-in-Some : goal.returns-in-Some
returns-in-Some g c =
    let r = reading g.S.Source.left g.S.Source.faults c.args.source.now c.solo-outcome.new.source in
    let s = writing g.K.Sink.written g.K.Sink.faults c.args.sink.now c.draw.new.sink in
    let o = c.solo-outcome.result in
    let e = c.in-Some.estate in
    let told : Writing = record {
      before = Some c.new-aside.result.text;
      after = Some c.solo-outcome.new.sink.text;
      faults = c.new-aside.result.faults;
      faults_after = c.solo-outcome.new.sink.faults;
    } in
    let by = ap command_of c.requires ∙ is_command c.args.asked in
    let run = subst (λ of. IfSome o.estate (IsRunBy any_step any_start of)) by c.solo-outcome.ensures.claim.run in
    let kept = subst (λ of. DisksOf any_step any_start any_shelf of o.estate o.disks) by c.solo-outcome.ensures.disks in
    let boards = subst (λ of. o.boards ≡ claim.boards_of any_step any_start of o.estate) by c.solo-outcome.ensures.claim.boards in
    shown c.args.asked r told o s c.draw.result e c.in-Some.is
    (is_determined c.args.asked e o.disks (subst (λ x. IfSome x (IsRunBy any_step any_start (Some (command_by c.args.asked)))) c.in-Some.is run)
    (subst (λ x. DisksOf any_step any_start any_shelf (Some (command_by c.args.asked)) x o.disks) c.in-Some.is kept))
    (are_told c.args.asked e o.boards (subst (λ x. o.boards ≡ claim.boards_of any_step any_start (Some (command_by c.args.asked)) x) c.in-Some.is boards))
    (subst (λ command. Ends any_step any_start command r told o) by c.solo-outcome.ensures.claim.ends)
    (subst (λ events. Drawn c.args.asked e events s c.draw.result) c.told_of-events.ensures c.draw.ensures)

pub returns : goal.returns
returns g c =
    let r = reading g.S.Source.left g.S.Source.faults c.args.source.now c.solo-outcome.new.source in
    let s = writing g.K.Sink.written g.K.Sink.faults c.args.sink.now c.refuse.new.sink in
    let o = c.solo-outcome.result in
    let told : Writing = record {
      before = Some c.new-aside.result.text;
      after = Some c.solo-outcome.new.sink.text;
      faults = c.new-aside.result.faults;
      faults_after = c.solo-outcome.new.sink.faults;
    } in
    refused c.args.asked r told o s c.refuse.result c.solo-outcome.new.sink.text c.in-None.is (ap (λ aside. Some aside.text) c.new-aside.ensures) refl
    c.refuse.ensures
    (subst (λ command. Ends any_step any_start command r told o) (ap command_of c.requires ∙ is_command c.args.asked) c.solo-outcome.ensures.claim.ends)
