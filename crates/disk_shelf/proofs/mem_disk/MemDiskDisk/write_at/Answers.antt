use Rattle.std.proofs.Common.{◌≡◌, ◌≤◌, List, [], ◌∷◌, ◌++◌, length, take, sym, ap, subst, ◌∙◌, arith, length-append}
use Rattle.std.proofs.lemmas.Result.{on_ok_weaker}
use Rattle.disk_shelf.specs.Deeds.{Deed, Images, after_deed, images}
use Rattle.disk_shelf.specs.Deeds.Deed.{Write}
use Rattle.disk_shelf.specs.MemDisk.{Drive, MemState, acted, passed, is_due, told, total}
use Rattle.disk_shelf.proofs.Alike.{shorter_alike, still_alike, still_within}
use Rattle.disk_shelf.proofs.Deeds.{deeds_more}
use Rattle.disk_shelf.proofs.Drives.{acted_deeds, fits, runs_on, torn_by, went, written_by}
use Rattle.disk_shelf.proofs.Told.{told_write, total_write}
use Rattle.disk_shelf.proofs.mem_disk.MemDiskDisk.write_at.Goals as goal

pub invariant_of-self : goal.invariant_of-self
invariant_of-self c =
    let old = c.self.inside in
    let kept = c.self.invariant in
    let at = c.args.at in
    let piece = c.args.piece.now in
    let stops = c.is_due-stops.result in
    let deed : Deed = Write at piece stops in
    let more : told c.append.new.bytes.items c.push_reserved.new.self.items ≡ told old.written.items old.deeds.items ++ deed ∷ [] =
    told_write old.written.items piece c.append.new.bytes.items old.deeds.items c.push_reserved.new.self.items at stops kept.all c.append.ensures.items
    c.push_reserved.ensures.items in
    let before : Images = record { read = old.bytes.items; kept = old.kept.items } in
    let n = c.min-self-inside.result in
    let before_write : n ≤ at = omega (arith, c.min-self-inside.ensures) in
    let fewer : n ≤ old.alike = omega (arith, c.min-self-inside.ensures) in
    let in_kept : n ≤ length old.kept.items = omega (arith, fewer, kept.within) in
    let in_read : n ≤ length old.bytes.items = omega (arith, in_kept, kept.shorter) in
    let alike = shorter_alike n old.alike old.kept.items old.bytes.items fewer kept.begins in
    let room = fits _ _ _ _ _ (subst (λ (m : MemState). length piece ≤ m.bytes_left) (sym c.self.view_is) c.requires.bytes) kept.room.0 kept.room.1 in
    record {
      all = omega (
        arith,
        ap total c.push_reserved.ensures.items,
        total_write old.deeds.items at (length piece) stops,
        kept.all,
        ap length c.append.ensures.items,
        length-append old.written.items piece,
      );
      same = c.write_both.ensures.images ∙ ap (λ (i : Images). after_deed i deed) kept.same
          ∙ sym (ap images more ∙ deeds_more (record { read = []; kept = [] }) (told old.written.items old.deeds.items) deed);
      within = subst (λ (i : Images). n ≤ length i.kept) (sym c.write_both.ensures.images) (still_within before n at piece stops before_write in_kept in_read);
      begins = subst (λ (i : Images). take n i.kept ≡ take n i.read) (sym c.write_both.ensures.images)
          (still_alike before n at piece stops before_write in_kept in_read alike);
      shorter = c.write_both.ensures.shorter;
      room = (omega (arith, room.0, c.write_both.ensures.longer, c.write_both.ensures.capacity.0), omega (arith, room.1, c.write_both.ensures.longer, c.write_both.ensures.capacity.1));
    }

pub returns-clause-exact : goal.returns-clause-exact
returns-clause-exact c =
    let old = c.self.inside in
    let at = c.args.at in
    let piece = c.args.piece.now in
    let stops = c.is_due-stops.result in
    let before : Drive = record { deeds = told old.written.items old.deeds.items; passes = old.passes; stopped = old.stopped; faults = old.faults } in
    let more = told_write old.written.items piece c.append.new.bytes.items old.deeds.items c.push_reserved.new.self.items at stops c.self.invariant.all
    c.append.ensures.items c.push_reserved.ensures.items in (
      ap (λ (m : MemState). m.drive) c.pass.ensures.drive
          ∙ ap (λ (ds : List Deed). passed stops (record before { deeds = ds })) more
          ∙ runs_on before (λ b. Write at piece b) stops (c.is_due-stops.ensures ∙ sym (ap (λ (m : MemState). is_due m.drive.passes) c.self.view_is)) c.if-self.false
          ∙ ap (λ (m : MemState). acted m.drive (λ b. Write at piece b)) c.self.view_is,
      c.pass.ensures.answered c.if-self.false,
    )

pub returns-clause-written : goal.returns-clause-written
returns-clause-written c =
    let drive = c.args.self.now.drive in
    let stops = c.is_due-stops.result in
    let runs = sym (ap (λ (m : MemState). m.drive.stopped) c.self.view_is) ∙ c.if-self.false in
    let more = ap (λ (d : Drive). d.deeds) (returns-clause-exact c).0 ∙ acted_deeds drive (λ b. Write c.args.at c.args.piece.now b) stops c.is_due-stops.ensures runs in
    on_ok_weaker c.pass.result (λ passes. written_by drive.deeds c.pass.new.self.drive.deeds c.args.at c.args.piece.now stops more c.requires.inside passes) c.pass.ensures.ok

pub returns-clause-crash : goal.returns-clause-crash
returns-clause-crash c =
    let drive = c.args.self.now.drive in
    let stops = c.is_due-stops.result in
    let runs = sym (ap (λ (m : MemState). m.drive.stopped) c.self.view_is) ∙ c.if-self.false in
    let more = ap (λ (d : Drive). d.deeds) (returns-clause-exact c).0 ∙ acted_deeds drive (λ b. Write c.args.at c.args.piece.now b) stops c.is_due-stops.ensures runs in
    torn_by drive.deeds c.pass.new.self.drive.deeds c.args.at c.args.piece.now stops more

pub returns-clause-time : goal.returns-clause-time
returns-clause-time c =
    let drive = c.args.self.now.drive in
    let stops = c.is_due-stops.result in
    let runs = sym (ap (λ (m : MemState). m.drive.stopped) c.self.view_is) ∙ c.if-self.false in
    let more = ap (λ (d : Drive). d.deeds) (returns-clause-exact c).0 ∙ acted_deeds drive (λ b. Write c.args.at c.args.piece.now b) stops c.is_due-stops.ensures runs in
    went drive.deeds c.pass.new.self.drive.deeds (Write c.args.at c.args.piece.now stops) more
