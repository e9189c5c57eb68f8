-- From the deed by which a disk in memory goes on to what the contract of a disk says.
use Rattle.std.proofs.Common.{◌≡◌, ℕ, ◌+◌, ◌-◌, ◌≤◌, min, Bool, true, false, cond, List, [], ◌∷◌, ◌++◌, length, refl, sym, ap, subst, ◌∙◌, arith}
use Rattle.disk_shelf.specs.Disk.{Writes, Torn, Follows, NoOther, Only}
use Rattle.disk_shelf.specs.Deeds.{Deed, Images, after_deed, images, IsImage, Goes}
use Rattle.disk_shelf.specs.Deeds.Deed.{Write, Sync}
use Rattle.disk_shelf.specs.MemDisk.{Drive, is_due, failed, passed, acted}
use Rattle.disk_shelf.proofs.Deeds.{deeds_more, one_more}
use Rattle.disk_shelf.proofs.Overwriting.{over_writes, write_follows, sync_follows, synced_only}

-- a pass does no deed
passed_deeds : (stops : Bool) (d : Drive) → (passed stops d).deeds ≡ d.deeds
passed_deeds true d = refl
passed_deeds false d = refl

-- a disk that runs does its deed, and stops within it where its stop is due
pub runs_on : (d : Drive) (deed : Bool → Deed) (stops : Bool) → stops ≡ is_due d.passes → d.stopped ≡ false
    → passed stops (record d { deeds = d.deeds ++ deed stops ∷ [] }) ≡ acted d deed
runs_on d deed stops due runs =
    ap (λ (b : Bool). passed b (record d { deeds = d.deeds ++ deed b ∷ [] })) due
    ∙ ap (λ (b : Bool). cond b (failed d) (passed (is_due d.passes) (record d { deeds = d.deeds ++ deed (is_due d.passes) ∷ [] }))) (sym runs)

pub acted_deeds : (d : Drive) (deed : Bool → Deed) (stops : Bool) → stops ≡ is_due d.passes → d.stopped ≡ false
    → (acted d deed).deeds ≡ d.deeds ++ deed stops ∷ []
acted_deeds d deed stops due runs =
    ap (λ (e : Drive). e.deeds) (sym (runs_on d deed stops due runs)) ∙ passed_deeds stops (record d { deeds = d.deeds ++ deed stops ∷ [] })

-- the room that was made suffices for a write
pub fits : (n a b k l : ℕ) → n ≤ min a (min b k - l) → l ≤ b → l ≤ k → (l + n ≤ b) × (l + n ≤ k)
fits n a b k l room read kept = (omega (arith, room, read, kept), omega (arith, room, read, kept))

module _ (old new : List Deed) (d : Deed) (more : new ≡ old ++ d ∷ []) where
  pub went : Goes old new
  went = subst (Goes old) (sym more) (one_more old d)

  images_more : images new ≡ after_deed (images old) d
  images_more = ap images more ∙ deeds_more (record { read = []; kept = [] }) old d

module _ (old new : List Deed) (at : ℕ) (piece : List ℕ) (stops : Bool) (more : new ≡ old ++ Write at piece stops ∷ []) where
  pub torn_by : Follows (Torn at (length piece)) (IsImage (images old)) (IsImage (images new))
  torn_by =
      subst (λ (i : Images). Follows (Torn at (length piece)) (IsImage (images old)) (IsImage i)) (sym (images_more old new (Write at piece stops) more))
      (write_follows (images old) at piece stops)

  pub written_by : at ≤ length (images old).read → stops ≡ false → Writes (images old).read at piece (images new).read
  written_by inside runs =
      ap (λ (i : Images). i.read) (images_more old new (Write at piece stops) more)
      ∙ ap (λ (b : Bool). (after_deed (images old) (Write at piece b)).read) runs ∙ over_writes (images old).read at piece inside

module _ (old new : List Deed) (stops : Bool) (more : new ≡ old ++ Sync stops ∷ []) where
  pub none_by : NoOther (IsImage (images old)) (IsImage (images new))
  none_by =
      subst (λ (i : Images). NoOther (IsImage (images old)) (IsImage i)) (sym (images_more old new (Sync stops) more)) (sync_follows (images old) stops)

  synced : stops ≡ false → images new ≡ after_deed (images old) (Sync false)
  synced runs = images_more old new (Sync stops) more ∙ ap (λ (b : Bool). after_deed (images old) (Sync b)) runs

  pub only_by : stops ≡ false → Only (images old).read (IsImage (images new))
  only_by runs c image = synced_only (images old) c (subst (λ (i : Images). IsImage i c) (synced runs) image)

  pub same_by : stops ≡ false → (images new).read ≡ (images old).read
  same_by runs = ap (λ (i : Images). i.read) (synced runs)
