-- What a write does to bytes in memory, and to the first half of it that a stop leaves, is what a disk's write may do.
use Rattle.std.proofs.Common.{◌≡◌, ◌⊎◌, inl, inr, ℕ, ◌+◌, ◌-◌, ◌/◌, ◌<◌, ◌≤◌, Bool, true, false, List, ◌++◌, length, take, drop, replicate, refl, sym, ap, subst, ◌∙◌, arith, append-nil, length-append, length-take}
use Rattle.std.proofs.lemmas.Bool.{cases_lt}
use Rattle.std.proofs.lemmas.List.{take_all, drop_all, length-replicate}
use Rattle.disk_shelf.specs.Disk.{Writes, Torn, Follows, NoOther}
use Rattle.disk_shelf.specs.Deeds.{Images, after_deed, first_half, IsImage, padded, written_over}
use Rattle.disk_shelf.specs.Deeds.Deed.{Write, Sync}
use Rattle.disk_shelf.proofs.Crash.{written_torn, beyond_torn, torn_wider}

not_padded : (at : ℕ) (old : List ℕ) → at ≤ length old → padded at old ≡ old
not_padded at old le = ap (λ (n : ℕ). old ++ replicate n 0) none ∙ append-nil old
  where
    none : at - length old ≡ 0
    none = omega (arith, le)

-- within the bytes it is a write as any
pub over_writes : (old : List ℕ) (at : ℕ) (piece : List ℕ) → at ≤ length old → Writes old at piece (written_over old at piece)
over_writes old at piece le = ap (λ (l : List ℕ). take at l ++ piece ++ drop (at + length piece) l) (not_padded at old le)

beyond : (old : List ℕ) (at : ℕ) (piece : List ℕ) → length old ≤ at → written_over old at piece ≡ old ++ replicate (at - length old) 0 ++ piece
beyond old at piece le =
    ap (λ (l : List ℕ). l ++ piece ++ drop (at + length piece) (padded at old)) (take_all at (padded at old) (omega (arith, long)))
    ∙ ap (λ (l : List ℕ). padded at old ++ piece ++ l) (drop_all (at + length piece) (padded at old) (omega (arith, long)))
    ∙ append-nil (padded at old ++ piece)
  where
    long : length (padded at old) ≡ at
    long = omega (arith, le, length-append old (replicate (at - length old) 0), length-replicate {A = ℕ} (at - length old) 0)

over_torn : (old : List ℕ) (at : ℕ) (piece : List ℕ) → Torn at (length piece) old (written_over old at piece)
over_torn old at piece = by (cases_lt (length old) at)
  where
    by : (length old < at) ⊎ (at ≤ length old) → Torn at (length piece) old (written_over old at piece)
    by (inl past) =
        beyond_torn old at (replicate (at - length old) 0) piece (written_over old at piece) (omega (arith, past)) (length-replicate {A = ℕ} (at - length old) 0)
        (beyond old at piece (omega (arith, past)))
    by (inr within) = written_torn old at piece (written_over old at piece) within (over_writes old at piece within)

pub half_torn : (old : List ℕ) (at : ℕ) (piece : List ℕ) → Torn at (length piece) old (written_over old at (first_half piece))
half_torn old at piece =
    torn_wider at (length (first_half piece)) (length piece) old (written_over old at (first_half piece))
    (omega (arith, length-take (length piece - length piece / 2) piece)) (over_torn old at (first_half piece))

-- a crash after a write may leave what a disk's write may leave
pub write_follows : (i : Images) (at : ℕ) (piece : List ℕ) (stops : Bool)
    → Follows (Torn at (length piece)) (IsImage i) (IsImage (after_deed i (Write at piece stops)))
write_follows i at piece false c (inl read) = (i.read, inl refl, subst (Torn at (length piece) i.read) (sym read) (over_torn i.read at piece))
write_follows i at piece false c (inr kept) = (i.kept, inr refl, subst (Torn at (length piece) i.kept) (sym kept) (half_torn i.kept at piece))
write_follows i at piece true c (inl read) = (i.kept, inr refl, subst (Torn at (length piece) i.kept) (sym read) (half_torn i.kept at piece))
write_follows i at piece true c (inr kept) = (i.kept, inr refl, subst (Torn at (length piece) i.kept) (sym kept) (half_torn i.kept at piece))

-- and after a sync nothing but what it might have left before
pub sync_follows : (i : Images) (stops : Bool) → NoOther (IsImage i) (IsImage (after_deed i (Sync stops)))
sync_follows i false c (inl read) = inl read
sync_follows i false c (inr kept) = inl kept
sync_follows i true c (inl read) = inr read
sync_follows i true c (inr kept) = inr kept

-- after a sync that does not stop a crash leaves what is read
pub synced_only : (i : Images) (c : List ℕ) → IsImage (after_deed i (Sync false)) c → c ≡ i.read
synced_only i c (inl read) = read
synced_only i c (inr kept) = kept
