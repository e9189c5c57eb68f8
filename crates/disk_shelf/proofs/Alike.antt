-- How far what is read and what is kept begin alike, once a piece was written over both, and once what was written since is copied.
use Rattle.std.proofs.Common.{◌≡◌, ℕ, ◌+◌, ◌-◌, ◌≤◌, Bool, true, false, List, ◌++◌, length, take, drop, replicate, refl, sym, ap, ◌∙◌, arith, length-append, length-take}
use Rattle.std.proofs.lemmas.List.{take-append-drop, take-append-le, take-take}
use Rattle.disk_shelf.specs.Deeds.{Images, after_deed, first_half, padded, written_over}
use Rattle.disk_shelf.specs.Deeds.Deed.{Write, Sync}

module _ (n at : ℕ) (old piece : List ℕ) (before : n ≤ at) (within : n ≤ length old) where
  front_long : n ≤ length (take at (padded at old))
  front_long = omega (arith, before, within, length-take at (padded at old), length-append old (replicate (at - length old) 0))

  piece_long : n ≤ length (take at (padded at old) ++ piece)
  piece_long = omega (arith, front_long, length-append (take at (padded at old)) piece)

  -- the bytes before a write stay
  pub front_stays : take n (written_over old at piece) ≡ take n old
  front_stays =
      take-append-le n (take at (padded at old) ++ piece) (drop (at + length piece) (padded at old)) piece_long
      ∙ take-append-le n (take at (padded at old)) piece front_long
      ∙ take-take n at (padded at old) before ∙ take-append-le n old (replicate (at - length old) 0) within

  pub front_within : n ≤ length (written_over old at piece)
  front_within = omega (arith, piece_long, length-append (take at (padded at old) ++ piece) (drop (at + length piece) (padded at old)))

-- what is read and what is kept after a write begin as far alike as before it, where that was before its place
module _ (i : Images) (n at : ℕ) (piece : List ℕ) (stops : Bool) (before : n ≤ at) (kept : n ≤ length i.kept) (read : n ≤ length i.read) where
  pub still_within : n ≤ length (after_deed i (Write at piece stops)).kept
  still_within = front_within n at i.kept (first_half piece) before kept

  pub still_alike : take n i.kept ≡ take n i.read → take n (after_deed i (Write at piece stops)).kept ≡ take n (after_deed i (Write at piece stops)).read
  still_alike alike =
      elim stops as (λ b. take n (after_deed i (Write at piece b)).kept ≡ take n (after_deed i (Write at piece b)).read) [
        | true ↦ refl
        | false ↦ front_stays n at i.kept (first_half piece) before kept ∙ alike ∙ sym (front_stays n at i.read piece before read)
      ]

-- and behind a sync they are one
pub synced_alike : (i : Images) (stops : Bool) → (after_deed i (Sync stops)).kept ≡ (after_deed i (Sync stops)).read
synced_alike i true = refl
synced_alike i false = refl

-- fewer bytes are alike too
pub shorter_alike : (m n : ℕ) (kept read : List ℕ) → m ≤ n → take n kept ≡ take n read → take m kept ≡ take m read
shorter_alike m n kept read fewer alike = sym (take-take m n kept fewer) ∙ ap (take m) alike ∙ take-take m n read fewer

-- what begins alike, and has the rest of the other behind that, is the other
pub followed : (n : ℕ) (bytes other : List ℕ) → take n bytes ≡ take n other → take n bytes ++ drop n other ≡ other
followed n bytes other alike = ap (λ (l : List ℕ). l ++ drop n other) alike ∙ take-append-drop n other
