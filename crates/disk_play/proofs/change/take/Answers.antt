use Rattle.std.proofs.Common.{◌≡◌, Option, subst, sym}
use Rattle.std.proofs.lemmas.Result.{on_ok_weaker}
use Rattle.std.specs.Prelude.{OnOk}
use Rattle.disk_shelf.specs.declared.ask.Ask.{Ask}
use Rattle.disk_play.specs.Disks.{changed, on_disk}
use Rattle.disk_play.specs.Standing.{Took}
use Rattle.disk_play.proofs.Making.{both_ok, took_call, took_none}
use Rattle.disk_play.proofs.change.take.Goals as goal

pub returns-in-None : goal.returns-in-None
returns-in-None c =
    let stop = c.args.stop in
    let what = c.args.what.now in
    let before = c.args.shelf.now in
    let after = c.keep_welcome.new.shelf in
    subst (λ (o : Option Ask). OnOk c.keep_welcome.result (Took stop what o before after)) (sym c.in-None.is)
    (on_ok_weaker c.keep_welcome.result (λ both. took_none stop what before after both.0 both.1)
    (both_ok _ _ c.keep_welcome.result c.keep_welcome.ensures.runs c.keep_welcome.ensures.disk))

pub returns-in-Some : goal.returns-in-Some
returns-in-Some c =
    let stop = c.args.stop in
    let what = c.args.what.now in
    let before = c.args.shelf.now in
    let after = c.make.new.shelf in
    let call = c.in-Some.call in
    let ended = subst (λ p. OnOk c.make.result (on_disk after ≡ changed p call (on_disk before))) c.passes_for-passes.ensures c.make.ensures.disk in
    subst (λ (o : Option Ask). OnOk c.make.result (Took stop what o before after)) (sym c.in-Some.is)
    (on_ok_weaker c.make.result (λ both. took_call stop what call before after both.0 both.1) (both_ok _ _ c.make.result c.make.ensures.runs ended))
