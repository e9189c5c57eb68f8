use Rattle.std.proofs.Common.{◌∙◌, ap, length, arith}
use Rattle.std.specs.Prelude.{List as Seq}
use Rattle.world_base.specs.declared.due.Due.{Due}
use Rattle.mounts.proofs.Made.{no_pairs, pairs_more}
use Rattle.mounts.proofs.starting.pairs_of.Goals as goal

pub loop-place-init : goal.loop-place-init
loop-place-init c = no_pairs c.args.script.now c.new-mounts.result.items c.new-ports.result.items c.new-mounts.ensures.items c.new-ports.ensures.items

pub loop-place-preserved : goal.loop-place-preserved
loop-place-preserved c =
    let made = c.in_ok-mount.ensures in
    pairs_more c.args.script.now c.loop-place.place c.loop-place.mounts.items c.push.new.self.items c.loop-place.ports.items c.push-in-loop-place.new.self.items c.in_ok-mount.mount c.in_ok-mount.port
    c.loop-place.invariant c.in_ok-push.ensures.items c.in_ok-push-2.ensures.items
    (record { joined = made.joined; mount = made.mount; port = made.port; slots = made.slots.0 ∙ c.in_ok-calls.ensures ∙ ap (λ (ds : Seq Due). length ds) c.in_ok-dues.ensures })

pub items_at-requires : goal.items_at-requires
items_at-requires c = let t = c.loop-place-test.true in let fits = c.requires in omega arith
