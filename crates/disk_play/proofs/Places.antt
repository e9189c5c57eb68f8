-- Lists in which one place is another, and places of servers.
use Rattle.std.proofs.Common.{◌≡◌, ℕ, zero, suc, ◌<◌, List, [], ◌∷◌, None, Some, length, slice_get, slice_set, sym, ap, ◌∙◌, arith}
use Rattle.std.specs.Prelude.{is_some}
use Rattle.xfs_base.proofs.Booleans.{contrary}
use Rattle.std.proofs.lemmas.Option.{same_Some}
use Rattle.disk_shelf.specs.Kept.{Kept}
use Rattle.disk_shelf.specs.MemDisk.{MemState}
use Rattle.disk_play.specs.Disks.{OnDisk, change_at, on_disk, on_disks}
pub use Rattle.world_base.proofs.Lists.{get_set_other, get_set_same}
use Rattle.std.proofs.Math.ListN.{length-set}

pub length_set : {X : Type 0} (xs : List X) (p : ℕ) (x : X) → length (slice_set xs p x) ≡ length xs
length_set xs p x = length-set xs p x

-- a place below the length has something
pub none_within : {X : Type 0} (xs : List X) (p : ℕ) → p < length xs → slice_get xs p ≡ None → ⊥
none_within [] p less none = omega (arith, less)
none_within (x ∷ xs) zero less none = contrary (sym (ap is_some none))
none_within (x ∷ xs) (suc p) less none = none_within xs p (omega (arith, less)) none

-- what is kept on the disks, where that of one place is made another
pub set_changes : (change : OnDisk → OnDisk) (shelves : List (Kept MemState)) (p : ℕ) (before after : Kept MemState)
    → slice_get shelves p ≡ Some before → on_disk after ≡ change (on_disk before)
    → on_disks (slice_set shelves p after) ≡ change_at change p (on_disks shelves)
set_changes change [] p before after was is = contrary (ap is_some was)
set_changes change (s ∷ shelves) zero before after was is =
    ap (λ (k : OnDisk). k ∷ on_disks shelves) (is ∙ ap (λ (x : Kept MemState). change (on_disk x)) (sym (same_Some s before was)))
set_changes change (s ∷ shelves) (suc p) before after was is = ap (λ (l : List OnDisk). on_disk s ∷ l) (set_changes change shelves p before after was is)
