-- What the calls of a disk in memory make of it, one after the other, is what is written of its drive.
use Rattle.std.proofs.Common.{◌≡◌, ◌≢◌, inl, inr, ℕ, suc, ◌⊎◌, ◌+◌, ◌<◌, ◌≤◌, nat_lt, not, Bool, true, false, cond, List, [], ◌∷◌, ◌++◌, length, take, drop, refl, sym, ap, subst, ◌∙◌, arith, length-append, append_assoc}
use Rattle.std.specs.Int.{w32, from_be_bytes}
use Rattle.std.specs.List.{AllByRecursion}
use Rattle.std.proofs.lemmas.Bool.{ne_eqb}
use Rattle.std.proofs.lemmas.Bool.Decides.{nat_tests}
use Rattle.std.proofs.lemmas.List.{take_at}
use Rattle.std.proofs.lemmas.Nat.{from_be_bytes-to_be_bytes_4}
use Rattle.disk_shelf.specs.declared.record.Record.{Record}
use Rattle.disk_shelf.specs.Deeds.Deed.{Write, Sync}
use Rattle.disk_shelf.specs.Drives.{drive_bytes, gate_after, opened, put_on, then_on}
use Rattle.disk_shelf.specs.Gates.{HasClosed}
use Rattle.disk_shelf.specs.MemDisk.{Drive, MemState, acted, disk_bytes, failed}
use Rattle.disk_shelf.specs.Records.{Fits, blocks, body, four, text}
use Rattle.disk_shelf.specs.Steps.{AppendedBy, PutBy}
use Rattle.disk_shelf.specs.Stops.{DisksOpenSo}
use Rattle.disk_shelf.proofs.Pieces.{length_body}
use Rattle.xfs_base.proofs.Booleans.{contrary, not_true}

-- ---- where the closed gate is

past : (front rest : List ℕ) → gate_after (length front) (front ++ rest) ≡ length front + gate_after 0 rest
unfolding gate_after
past [] rest = omega arith
past (b ∷ front) rest = ap suc (past front rest) ∙ omega arith

-- it is behind the records
pub gate_behind : (rs : List Record) (g : ℕ) (rest : List ℕ) → AllByRecursion Fits rs → g ≢ 1 → gate_after 0 (blocks rs ++ g ∷ rest) ≡ length (blocks rs)
unfolding gate_after
gate_behind [] g rest fits shut = ap (λ (b : Bool). cond b (suc (gate_after (5 + from_be_bytes w32 (take 4 (drop 1 rest))) rest)) 0) (ne_eqb g 1 shut)
gate_behind (r ∷ rs) g rest fits shut =
    let more : List ℕ = blocks rs ++ g ∷ rest in
    let said : from_be_bytes w32 (take 4 (drop 1 (text r ++ more))) ≡ length (body r) =
    ap (from_be_bytes w32) (take_at (four (length (body r))) (body r ++ more) 4 refl) ∙ from_be_bytes-to_be_bytes_4 (length (body r)) (length_body r fits.0) in
    let size : 5 + from_be_bytes w32 (take 4 (drop 1 (text r ++ more))) ≡ length (text r) = ap (λ n. 5 + n) said ∙ omega (arith, length-append (four (length (body r))) (body r)) in
    ap (λ (l : List ℕ). suc (gate_after (5 + from_be_bytes w32 (take 4 (drop 1 l))) l)) (append_assoc (text r) (blocks rs) (g ∷ rest))
    ∙ ap (λ n. suc (gate_after n (text r ++ more))) size ∙ ap suc (past (text r) more)
    ∙ ap (λ n. suc (length (text r) + n)) (gate_behind rs g rest fits.1 shut) ∙ ap suc (sym (length-append (text r) (blocks rs)))

pub gate_is : (rs : List Record) (at : ℕ) (image : List ℕ) → AllByRecursion Fits rs → HasClosed at (blocks rs) image → gate_after 0 image ≡ at
gate_is rs at image fits closed = ap (gate_after 0) closed.whole ∙ gate_behind rs closed.gate closed.rest fits closed.shut ∙ closed.place

-- ---- one call after the other

then_stops : (next : Drive → Drive) (d : Drive) → false ≡ not d.stopped → then_on next d ≡ d
then_stops next d is = ap (λ (b : Bool). cond b d (next d)) (not_false d.stopped is)
  where
    not_false : (b : Bool) → false ≡ not b → b ≡ true
    not_false true e = refl
    not_false false e = contrary e

then_goes : (next : Drive → Drive) (d : Drive) → true ≡ not d.stopped → then_on next d ≡ next d
then_goes next d is = ap (λ (b : Bool). cond b d (next d)) (not_true d.stopped (sym is))

-- what a call makes of it, answered or not
abbrev pub DidBy : (Drive → Drive) → MemState → Bool → MemState → Type 0
DidBy deed m ok n = (n.drive ≡ deed m.drive) × (ok ≡ not n.drive.stopped)

abbrev pub Wrote : MemState → ℕ → List ℕ → Bool → MemState → Type 0
Wrote m at piece ok n = (n.drive ≡ acted m.drive (Write at piece)) × (ok ≡ not n.drive.stopped)

abbrev pub Synced : MemState → Bool → MemState → Type 0
Synced m ok n = (n.drive ≡ acted m.drive Sync) × (ok ≡ not n.drive.stopped)

cut_so : (deed next : Drive → Drive) (m : MemState) (ok : Bool) (n : MemState) → DidBy deed m false n → ok ≡ false → DidBy (λ d. then_on next (deed d)) m ok n
cut_so deed next m ok n did is = (sym (then_stops next n.drive did.1) ∙ ap (then_on next) did.0, is ∙ did.1)

goes_so : (deed next : Drive → Drive) (m : MemState) (ok : Bool) (mid n : MemState) → DidBy deed m true mid → DidBy next mid ok n
    → DidBy (λ d. then_on next (deed d)) m ok n
goes_so deed next m ok mid n did then_did = (then_did.0 ∙ sym (then_goes next mid.drive did.1) ∙ ap (then_on next) did.0, then_did.1)

pub put_so : (at : ℕ) (piece : List ℕ) (m : MemState) (ok : Bool) (n : MemState) → PutBy Wrote Synced m at piece ok n → DidBy (put_on at piece) m ok n
put_so at piece m ok n (inl (wrote, is)) = cut_so (λ d. acted d (Write at piece)) (λ d. acted d Sync) m ok n wrote is
put_so at piece m ok n (inr (mid, wrote, synced)) = goes_so (λ d. acted d (Write at piece)) (λ d. acted d Sync) m ok mid n wrote synced

pub appended_so : (gate : ℕ) (behind : List ℕ) (m : MemState) (ok : Bool) (n : MemState) → AppendedBy Wrote Synced m gate behind ok n
    → DidBy (λ d. then_on (put_on gate (1 ∷ [])) (put_on (gate + 1) behind d)) m ok n
appended_so gate behind m ok n (inl (put, is)) = cut_so (put_on (gate + 1) behind) (put_on gate (1 ∷ [])) m ok n (put_so (gate + 1) behind m false n put) is
appended_so gate behind m ok n (inr (mid, put, over)) =
    goes_so (put_on (gate + 1) behind) (put_on gate (1 ∷ [])) m ok mid n (put_so (gate + 1) behind m true mid put) (put_so gate (1 ∷ []) mid ok n over)

-- ---- opening

pub disks_open_so : DisksOpenSo
disks_open_so old new o = read ∙ by o.settles.gate
  where
    settled : MemState
    settled = o.settled

    synced : MemState
    synced = o.settles.synced

    e : Drive
    e = acted old.drive Sync

    read : new.drive ≡ settled.drive
    read = o.read.0 ∙ ap (λ (b : Bool). cond b (failed settled.drive) settled.drive) (not_true settled.drive.stopped (sym o.read.1))

    sync : synced.drive ≡ e
    sync = o.settles.sync.0 ∙ ap (λ (d : Drive). acted d Sync) o.settles.room

    longer : (n : ℕ) → 1 < n → nat_lt 1 n ≡ true
    longer n less = grind (arith, nat_tests)

    shorter : (n : ℕ) → n ≤ 1 → nat_lt 1 n ≡ false
    shorter n most = grind (arith, nat_tests)

    long_as : length (disk_bytes synced) ≡ length (drive_bytes e)
    long_as = ap (λ (d : Drive). length (drive_bytes d)) sync

    by : (1 < length (disk_bytes synced)) × (settled ≡ synced) ⊎ (length (disk_bytes synced) ≤ 1) × PutBy Wrote Synced synced 0 (0 ∷ []) true settled
        → settled.drive ≡ opened old.drive
    by (inl (long, same)) =
        ap (λ (m : MemState). m.drive) same ∙ sync
        ∙ sym (ap (λ (b : Bool). cond b e (put_on 0 (0 ∷ []) e)) (longer (length (drive_bytes e)) (subst (λ n. 1 < n) long_as long)))
    by (inr (short, put)) =
        (put_so 0 (0 ∷ []) synced true settled put).0 ∙ ap (put_on 0 (0 ∷ [])) sync
        ∙ sym (ap (λ (b : Bool). cond b e (put_on 0 (0 ∷ []) e)) (shorter (length (drive_bytes e)) (subst (λ n. n ≤ 1) long_as short)))
