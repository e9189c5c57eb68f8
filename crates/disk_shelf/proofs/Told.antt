-- One deed more, in the form in which a disk in memory keeps its deeds.
use Rattle.std.proofs.Common.{◌≡◌, ℕ, ◌+◌, ◌≤◌, Bool, List, [], ◌∷◌, ◌++◌, length, take, drop, refl, sym, ap, ◌∙◌, arith, append-nil, length-drop}
use Rattle.std.proofs.lemmas.List.{take_all, take-append-le, drop-append-le, nil_from_length}
use Rattle.disk_shelf.specs.declared.logged.Logged.{Logged}
use Rattle.disk_shelf.specs.declared.logged.Logged.TheVariants as logged
use Rattle.disk_shelf.specs.Deeds.{Deed}
use Rattle.disk_shelf.specs.Deeds.Deed.{Write, Sync}
use Rattle.disk_shelf.specs.MemDisk.{told, total}

told_more : (bytes piece : List ℕ) (ds : List Logged) (d : Logged) → total ds ≡ length bytes
    → told (bytes ++ piece) (ds ++ d ∷ []) ≡ told bytes ds ++ told piece (d ∷ [])
told_more bytes piece [] d all = ap (λ (l : List ℕ). told (l ++ piece) (d ∷ [])) (nil_from_length bytes (sym all))
told_more bytes piece (logged.Write at len stops ∷ ds) d all =
    ap (λ (l : List ℕ). Write at l stops ∷ told (drop len (bytes ++ piece)) (ds ++ d ∷ [])) (take-append-le len bytes piece within)
    ∙ ap (λ (l : List Deed). Write at (take len bytes) stops ∷ l)
    (ap (λ (l : List ℕ). told l (ds ++ d ∷ [])) (drop-append-le len bytes piece within)
    ∙ told_more (drop len bytes) piece ds d (omega (arith, all, length-drop len bytes)))
  where
    within : len ≤ length bytes
    within = omega (arith, all)
told_more bytes piece (logged.Sync stops ∷ ds) d all = ap (λ (l : List Deed). Sync stops ∷ l) (told_more bytes piece ds d all)

pub told_write : (bytes piece later : List ℕ) (ds es : List Logged) (at : ℕ) (stops : Bool) → total ds ≡ length bytes → later ≡ bytes ++ piece
    → es ≡ ds ++ logged.Write at (length piece) stops ∷ [] → told later es ≡ told bytes ds ++ Write at piece stops ∷ []
told_write bytes piece later ds es at stops all longer more =
    ap (λ (l : List ℕ). told l es) longer ∙ ap (told (bytes ++ piece)) more
    ∙ told_more bytes piece ds (logged.Write at (length piece) stops) all
    ∙ ap (λ (l : List ℕ). told bytes ds ++ Write at l stops ∷ []) (take_all (length piece) piece (omega arith))

pub told_sync : (bytes : List ℕ) (ds es : List Logged) (stops : Bool) → total ds ≡ length bytes → es ≡ ds ++ logged.Sync stops ∷ []
    → told bytes es ≡ told bytes ds ++ Sync stops ∷ []
told_sync bytes ds es stops all more =
    ap (told bytes) more ∙ ap (λ (l : List ℕ). told l (ds ++ logged.Sync stops ∷ [])) (sym (append-nil bytes)) ∙ told_more bytes [] ds (logged.Sync stops) all

pub total_write : (ds : List Logged) (at len : ℕ) (stops : Bool) → total (ds ++ logged.Write at len stops ∷ []) ≡ total ds + len
total_write [] at len stops = omega arith
total_write (logged.Write at' len' stops' ∷ ds) at len stops = omega (arith, total_write ds at len stops)
total_write (logged.Sync stops' ∷ ds) at len stops = total_write ds at len stops

pub total_sync : (ds : List Logged) (stops : Bool) → total (ds ++ logged.Sync stops ∷ []) ≡ total ds
total_sync [] stops = refl
total_sync (logged.Write at' len' stops' ∷ ds) stops = ap (λ (n : ℕ). len' + n) (total_sync ds stops)
total_sync (logged.Sync stops' ∷ ds) stops = total_sync ds stops
