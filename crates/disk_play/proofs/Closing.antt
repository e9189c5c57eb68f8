-- The disks of the shelves of a play.
use Rattle.std.proofs.Common.{◌≡◌, ℕ, zero, suc, ◌+◌, List, [], ◌∷◌, ◌++◌, Option, Some, IsFalse, length, slice_get, append-nil, append_assoc, refl, sym, ap, subst, ◌∙◌}
use Rattle.std.specs.Prelude.{is_some, option_map}
use Rattle.std.proofs.lemmas.Option.{same_Some, slice_get-map}
use Rattle.disk_shelf.specs.Kept.{Kept}
use Rattle.disk_shelf.specs.MemDisk.{MemState, disk_bytes}
use Rattle.disk_shelf.specs.Records.{StandsFor}
use Rattle.fragment_store.specs.ShelfState.{ShelfState}
use Rattle.world_base.specs.declared.estate.Estate.{Estate}
use Rattle.xfs_base.proofs.Booleans.{contrary}
use Rattle.xfs_base.specs.declared.node.NodeId.TheVariants.{Server}
use Rattle.disk_play.specs.Courses.{shelf_at}
use Rattle.disk_play.specs.Disks.{OnDisk, drives, drives_told, on_disk, on_disks}
use Rattle.disk_play.specs.Standing.{AreTheirs, DisksStand, Follow, Follows}

-- one disk more
pub theirs_more : (all rest : List (Kept MemState)) (shelf : Kept MemState) (disks : List MemState) (disk : MemState)
    → disk ≡ shelf.disk → (IsFalse shelf.closed → StandsFor shelf.state (disk_bytes disk))
    → ((ds : List MemState) → AreTheirs (shelf ∷ rest) ds → AreTheirs all (disks ++ ds))
    → (ds : List MemState) → AreTheirs rest ds → AreTheirs all ((disks ++ disk ∷ []) ++ ds)
theirs_more all rest shelf disks disk same stands so_far ds theirs =
    subst (AreTheirs all) (sym (append_assoc disks (disk ∷ []) ds)) (so_far (disk ∷ ds) ((same, stands), theirs))

pub theirs_all : (all : List (Kept MemState)) (disks : List MemState) → ((ds : List MemState) → AreTheirs [] ds → AreTheirs all (disks ++ ds))
    → AreTheirs all disks
theirs_all all disks so_far = subst (AreTheirs all) (append-nil disks) (so_far [] tt)

as_many : (shelves : List (Kept MemState)) (disks : List MemState) → AreTheirs shelves disks → length disks ≡ length shelves
as_many [] [] theirs = refl
as_many [] (d ∷ ds) theirs = absurd theirs
as_many (s ∷ ss) [] theirs = absurd theirs
as_many (s ∷ ss) (d ∷ ds) theirs = ap suc (as_many ss ds theirs.1)

did_all : (shelves : List (Kept MemState)) (disks : List MemState) → AreTheirs shelves disks → drives disks ≡ drives_told (on_disks shelves)
did_all [] [] theirs = refl
did_all [] (d ∷ ds) theirs = absurd theirs
did_all (s ∷ ss) [] theirs = absurd theirs
did_all (s ∷ ss) (d ∷ ds) theirs = λ i. (theirs.0.0 i).drive ∷ did_all ss ds theirs.1 i

-- the shelf of a disk
pub record IsOf (shelves : List (Kept MemState)) (place : ℕ) (disk : MemState) : Type 0 where
  pub shelf : Kept MemState
  pub there : slice_get shelves place ≡ Some shelf
  pub stands : IsFalse shelf.closed → StandsFor shelf.state (disk_bytes disk)

theirs_at : (shelves : List (Kept MemState)) (disks : List MemState) → AreTheirs shelves disks → (place : ℕ) (disk : MemState)
    → slice_get disks place ≡ Some disk → IsOf shelves place disk
theirs_at [] [] theirs place disk fact = contrary (ap is_some fact)
theirs_at [] (d ∷ ds) theirs place disk fact = absurd theirs
theirs_at (s ∷ ss) [] theirs place disk fact = absurd theirs
theirs_at (s ∷ ss) (d ∷ ds) theirs zero disk fact =
    record {
      shelf = s;
      there = refl;
      stands = λ opened. subst (λ (m : MemState). StandsFor s.state (disk_bytes m)) (same_Some d disk fact) (theirs.0.1 opened);
    }
theirs_at (s ∷ ss) (d ∷ ds) theirs (suc place) disk fact =
    let found = theirs_at ss ds theirs.1 place disk fact in record { shelf = found.shelf; there = found.there; stands = found.stands }

-- they did what was told of them, and stand for the shelves of the servers
pub disks_stand : {N : Type 0} (shelf_of : N → Option ShelfState) (e : Estate N) (told : List OnDisk) (shelves : List (Kept MemState)) (disks : List MemState)
    → e.world.cluster.servers ≡ e.script.setup.servers → Follow shelf_of e.world shelves → on_disks shelves ≡ told → AreTheirs shelves disks
    → DisksStand shelf_of e told disks
disks_stand shelf_of e told shelves disks servers follow are theirs = record {
  count = as_many shelves disks theirs ∙ follow.count ∙ servers;
  did = did_all shelves disks theirs ∙ ap drives_told are;
  each = λ place disk fact.
      let found = theirs_at shelves disks theirs place disk fact in
      let follows : Follows found.shelf (shelf_at shelf_of e.world (Server (place + 1))) = follow.each place found.shelf found.there in
      record {
        kept = on_disk found.shelf;
        told_of = ap (λ l. slice_get l place) (sym are) ∙ slice_get-map on_disk shelves place ∙ ap (option_map on_disk) found.there;
        stands = found.stands follows.runs.is_open;
        shelf = follows.same;
      };
}
