-- Each segment that is wanted may be cut as its group says, wherever it stands.
use Rattle.std.proofs.Common.{◌≡◌, List, ◌∷◌, Some, subst}
use Rattle.std.specs.Prelude.{All}
use Rattle.std.proofs.lemmas.List.Elements.{All-head, All-tail}
use Rattle.stripe_code.specs.Round.{RoundSoFar}
use Rattle.group_rebuild.specs.declared.reads.Present.{Present}
use Rattle.group_rebuild.specs.declared.wanted.Wanted.{Wanted}
use Rattle.group_rebuild.specs.Reads.{AreReads}
use Rattle.group_rebuild.specs.Wanted.{IsWanted}

-- one is read
pub one_is_read : (left : List Wanted) (w : Wanted) (round : RoundSoFar) → All IsWanted left → IsWanted w
    → AreReads left (Some (record { wanted = w; round = round }))
one_is_read left w round all whole = record { all = all; now = now }
  where
    present : Present
    present = record { wanted = w; round = round }

    now : (p : Present) → Some (record { wanted = w; round = round }) ≡ Some p → IsWanted p.wanted
    now p e = let same : w ≡ p.wanted = cc in subst IsWanted same whole

-- the first of the queue is read
pub next_is_read : (items rest : List Wanted) (w : Wanted) (round : RoundSoFar) → items ≡ w ∷ rest → All IsWanted items
    → AreReads rest (Some (record { wanted = w; round = round }))
next_is_read items rest w round fact all =
    let whole : All IsWanted (w ∷ rest) = subst (All IsWanted) fact all in
    one_is_read rest w round (All-tail IsWanted w rest whole) (All-head IsWanted w rest whole)
