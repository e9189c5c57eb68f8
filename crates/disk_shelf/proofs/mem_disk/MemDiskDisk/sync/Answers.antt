use Rattle.std.proofs.Common.{◌≡◌, List, [], ◌∷◌, ◌++◌, take, sym, ap, subst, ◌∙◌, arith}
use Rattle.std.proofs.lemmas.Result.{on_ok_weaker}
use Rattle.disk_shelf.specs.Deeds.{Deed, Images, after_deed, images}
use Rattle.disk_shelf.specs.Deeds.Deed.{Sync}
use Rattle.disk_shelf.specs.MemDisk.{Drive, MemState, acted, passed, is_due, told, total}
use Rattle.disk_shelf.proofs.Alike.{synced_alike}
use Rattle.disk_shelf.proofs.Deeds.{deeds_more}
use Rattle.disk_shelf.proofs.Drives.{acted_deeds, none_by, only_by, runs_on, same_by, went}
use Rattle.disk_shelf.proofs.Told.{told_sync, total_sync}
use Rattle.disk_shelf.proofs.mem_disk.MemDiskDisk.sync.Goals as goal

pub invariant_of-self : goal.invariant_of-self
invariant_of-self c =
    let old = c.self.inside in
    let kept = c.self.invariant in
    let stops = c.is_due-stops.result in
    let more : told old.written.items c.push_reserved.new.self.items ≡ told old.written.items old.deeds.items ++ Sync stops ∷ [] =
    told_sync old.written.items old.deeds.items c.push_reserved.new.self.items stops kept.all c.push_reserved.ensures.items in
    record {
      all = ap total c.push_reserved.ensures.items ∙ total_sync old.deeds.items stops ∙ kept.all;
      same = c.refresh.ensures.images ∙ ap (λ (i : Images). after_deed i (Sync stops)) kept.same
          ∙ sym (ap images more ∙ deeds_more (record { read = []; kept = [] }) (told old.written.items old.deeds.items) (Sync stops));
      within = omega (arith, c.len-self-inside.ensures);
      begins = ap (take c.len-self-inside.result) (subst (λ (i : Images). i.kept ≡ i.read) (sym c.refresh.ensures.images)
          (synced_alike (record { read = old.bytes.items; kept = old.kept.items }) stops));
      shorter = c.refresh.ensures.shorter;
      room = (omega (arith, kept.room.0, c.refresh.ensures.longer, c.refresh.ensures.capacity.0), omega (arith, kept.room.1, c.refresh.ensures.longer, c.refresh.ensures.capacity.1));
    }

pub returns-clause-exact : goal.returns-clause-exact
returns-clause-exact c =
    let old = c.self.inside in
    let stops = c.is_due-stops.result in
    let before : Drive = record { deeds = told old.written.items old.deeds.items; passes = old.passes; stopped = old.stopped; faults = old.faults } in (
      ap (λ (m : MemState). m.drive) c.pass.ensures.drive
          ∙ ap (λ (ds : List Deed). passed stops (record before { deeds = ds }))
          (told_sync old.written.items old.deeds.items c.push_reserved.new.self.items stops c.self.invariant.all c.push_reserved.ensures.items)
          ∙ runs_on before (λ b. Sync b) stops (c.is_due-stops.ensures ∙ sym (ap (λ (m : MemState). is_due m.drive.passes) c.self.view_is)) c.if-self.false
          ∙ ap (λ (m : MemState). acted m.drive (λ b. Sync b)) c.self.view_is,
      c.pass.ensures.answered c.if-self.false,
    )

pub returns-clause-durable : goal.returns-clause-durable
returns-clause-durable c =
    let drive = c.args.self.now.drive in
    let stops = c.is_due-stops.result in
    let runs = sym (ap (λ (m : MemState). m.drive.stopped) c.self.view_is) ∙ c.if-self.false in
    let more = ap (λ (d : Drive). d.deeds) (returns-clause-exact c).0 ∙ acted_deeds drive (λ b. Sync b) stops c.is_due-stops.ensures runs in
    on_ok_weaker c.pass.result (λ passes. only_by drive.deeds c.pass.new.self.drive.deeds stops more passes) c.pass.ensures.ok

pub returns-clause-seen : goal.returns-clause-seen
returns-clause-seen c =
    let drive = c.args.self.now.drive in
    let stops = c.is_due-stops.result in
    let runs = sym (ap (λ (m : MemState). m.drive.stopped) c.self.view_is) ∙ c.if-self.false in
    let more = ap (λ (d : Drive). d.deeds) (returns-clause-exact c).0 ∙ acted_deeds drive (λ b. Sync b) stops c.is_due-stops.ensures runs in
    on_ok_weaker c.pass.result (λ passes. same_by drive.deeds c.pass.new.self.drive.deeds stops more passes) c.pass.ensures.ok

pub returns-clause-crash : goal.returns-clause-crash
returns-clause-crash c =
    let drive = c.args.self.now.drive in
    let stops = c.is_due-stops.result in
    let runs = sym (ap (λ (m : MemState). m.drive.stopped) c.self.view_is) ∙ c.if-self.false in
    let more = ap (λ (d : Drive). d.deeds) (returns-clause-exact c).0 ∙ acted_deeds drive (λ b. Sync b) stops c.is_due-stops.ensures runs in
    none_by drive.deeds c.pass.new.self.drive.deeds stops more

pub returns-clause-time : goal.returns-clause-time
returns-clause-time c =
    let drive = c.args.self.now.drive in
    let stops = c.is_due-stops.result in
    let runs = sym (ap (λ (m : MemState). m.drive.stopped) c.self.view_is) ∙ c.if-self.false in
    let more = ap (λ (d : Drive). d.deeds) (returns-clause-exact c).0 ∙ acted_deeds drive (λ b. Sync b) stops c.is_due-stops.ensures runs in
    went drive.deeds c.pass.new.self.drive.deeds (Sync stops) more
