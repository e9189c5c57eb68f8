use Rattle.std.proofs.Common.{◌≡◌, ◌∙◌, ℕ, ap, sym, subst, length, length-append, ◌∷◌, [], arith}
use Rattle.std.specs.Prelude.{List as Seq}
use Rattle.std.specs.Vec.Iter.{into_iter_items}
use Rattle.script_text.specs.declared.script.Script.{Script}
use Rattle.live_links.specs.Facts.{dues_at}
use Rattle.world_base.specs.declared.due.Due.{Due}
use Rattle.mounts.specs.Ports.{IsMountAt}
use Rattle.mounts.proofs.Made.{IsLeft, all_left, left_first, left_less, mount_at}
use Rattle.mounts.proofs.starting.applications_of.Goals as goal

pub loop-mount-init : goal.loop-mount-init
loop-mount-init g c =
    let all : into_iter_items c.into_iter-mount-iterator.result ≡ c.args.mounts.items = c.into_iter-mount-iterator.ensures.into_iter_gives.0 in
    let none = ap length c.new-applications.ensures.items in
    record {
      count = let same = ap length all in omega arith;
      left = subst (λ (n : ℕ). IsLeft c.args.mounts.items n (into_iter_items c.into_iter-mount-iterator.result)) (sym none) (all_left c.args.mounts.items (into_iter_items c.into_iter-mount-iterator.result) all);
    }

pub loop-mount-preserved : goal.loop-mount-preserved
loop-mount-preserved g c =
    let i = c.loop-mount.invariant in
    let step = c.in-Some.ensures.steps.0 in
    let more = ap length c.in_ok-push.ensures.items ∙ length-append c.loop-mount.applications.items (c.start.result ∷ []) in
    record {
      count = let less = ap length step in let was = i.count in omega arith;
      left = left_less c.args.mounts.items _ (into_iter_items c.next.new.self) (length c.loop-mount.applications.items) (length c.push.new.self.items) c.in-Some.mount i.left step more;
    }

pub start-requires-clause-fresh : goal.start-requires-clause-fresh
start-requires-clause-fresh g c =
    let i = c.loop-mount.invariant in
    let known = c.loop-mount.applications.ok.0 in
    let place : c.len-place.result ≡ length c.loop-mount.applications.items = let e = c.len-place.ensures in omega arith in
    let there = left_first c.args.mounts.items _ (into_iter_items c.next.new.self) (length c.loop-mount.applications.items) c.in-Some.mount i.left c.in-Some.ensures.steps.0 in
    (mount_at g.R.RunName.script (length c.args.mounts.items) c.args.mounts.items g.R.MountName.ports (length c.loop-mount.applications.items) c.in-Some.mount c.requires.pairs there).2.mount

pub start-requires-clause-named : goal.start-requires-clause-named
start-requires-clause-named g c =
    let i = c.loop-mount.invariant in
    let known = c.loop-mount.applications.ok.0 in
    let place : c.len-place.result ≡ length c.loop-mount.applications.items = let e = c.len-place.ensures in omega arith in
    let there = left_first c.args.mounts.items _ (into_iter_items c.next.new.self) (length c.loop-mount.applications.items) c.in-Some.mount i.left c.in-Some.ensures.steps.0 in
    let m = mount_at g.R.RunName.script (length c.args.mounts.items) c.args.mounts.items g.R.MountName.ports (length c.loop-mount.applications.items) c.in-Some.mount c.requires.pairs there in
    subst (λ (p : ℕ). IsMountAt g.R.MountName.ports p c.in-Some.mount) (sym place) (m.0, m.1, m.2.joined)

pub start-requires-clause-dues : goal.start-requires-clause-dues
start-requires-clause-dues g c = c.in_ok-node.ensures ∙ ap (λ (s : Script). dues_at s c.len-place.result) c.requires.script

pub start-requires-clause-slots : goal.start-requires-clause-slots
start-requires-clause-slots g c =
    let i = c.loop-mount.invariant in
    let known = c.loop-mount.applications.ok.0 in
    let place : c.len-place.result ≡ length c.loop-mount.applications.items = let e = c.len-place.ensures in omega arith in
    let there = left_first c.args.mounts.items _ (into_iter_items c.next.new.self) (length c.loop-mount.applications.items) c.in-Some.mount i.left c.in-Some.ensures.steps.0 in
    let m = mount_at g.R.RunName.script (length c.args.mounts.items) c.args.mounts.items g.R.MountName.ports (length c.loop-mount.applications.items) c.in-Some.mount c.requires.pairs there in
    m.2.slots ∙ ap (λ (p : ℕ). length (dues_at g.R.RunName.script p)) (sym place)
    ∙ ap (λ (s : Script). length (dues_at s c.len-place.result)) (sym c.requires.script) ∙ ap (λ (ds : Seq Due). length ds) (sym c.in_ok-node.ensures)

pub items_at-requires : goal.items_at-requires
items_at-requires g c =
    let known = c.loop-mount.applications.ok.0 in
    let e = c.len-place.ensures in
    let less = ap length c.in-Some.ensures.steps.0 in
    let count = c.loop-mount.invariant.count in
    let fits = c.requires.fits in
    omega arith
