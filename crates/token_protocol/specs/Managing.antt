-- What the reigning manager does: offers, recalls, noted answers, applied logs. As in the 1996 paper (on cache consistency) it takes the block from
-- all whom a new owner excludes before it offers it.
use Rattle.std.specs.Prelude.{◌≡◌, ℕ, suc, ◌+◌, ◌≤◌, ◌∷◌, min, max}
use Rattle.token_protocol.specs.Basics.{put, In}
use Rattle.token_protocol.specs.Entry.{Entry}
use Rattle.token_protocol.specs.Packets.{Want, Gave}
use Rattle.token_protocol.specs.World.{World}

-- The manager offers a sent want's mode once nobody else is believed to hold what excludes it and nothing is awaited of the asker.
-- Shown by the manager's transitions for a Want with nothing to recall and for the end of a job.
pub record MayOffer (w : World) (p : Want) : Type 0 where
  pub sent : In p w.wants
  pub settled : w.awaited p.client ≡ 0
  pub fits : (d : ℕ) → (d ≡ p.client → ⊥) → w.belief d + p.mode ≤ 2

-- It believes the asker to hold that mode from now on, in a turn of its own.
abbrev pub offers : World → Want → World
offers w p =
    record w {
      belief = put w.belief p.client (max (w.belief p.client) p.mode);
      turn = suc w.turn;
      offers = record { client = p.client; stamp = suc w.turn; incarnation = p.incarnation; request = p.request; mode = p.mode; entry = w.index } ∷ w.offers;
    }

-- The manager recalls the block from a client, which may keep nothing or a copy.
-- Shown by the manager's transition for a Want that needs it, once for each holder in the way.
pub record MayRecall (keep : ℕ) : Type 0 where
  pub less : keep ≤ 1

abbrev pub recalls : World → ℕ → ℕ → World
recalls w c keep =
    record w {
      awaited = put w.awaited c (suc w.turn);
      keep = put w.keep c keep;
      turn = suc w.turn;
      recalls = record { client = c; stamp = suc w.turn; keep = keep } ∷ w.recalls;
    }

-- The manager notes a sent Gave that answers the awaited Recall. Shown by the manager's transition for a Gave.
pub record MayNote (w : World) (x : Gave) : Type 0 where
  pub sent : In x w.gaves
  pub answers : w.awaited x.client ≡ x.stamp

-- It believes no more than the Recall let the client keep, and owes the named end to the index before the next offer.
abbrev pub notes : World → Gave → World
notes w x =
    record w {
      belief = put w.belief x.client (min (w.belief x.client) (w.keep x.client));
      awaited = put w.awaited x.client 0;
      owed = put w.owed x.client (max (w.owed x.client) x.end);
    }

-- The manager takes the segments of a log up to `upto` into its index. Shown by the manager's transition for Deltas.
pub record MayApply (w : World) (c : ℕ) (upto : ℕ) : Type 0 where
  pub forward : w.applied c ≤ upto

-- Of equal versions the rule on hops says which place stays; here either may.
abbrev pub applies : World → ℕ → ℕ → Entry → World
applies w c upto e = record w { applied = put w.applied c upto; index = e }

-- A turn passes in which the manager speaks of another block.
abbrev pub turns : World → World
turns w = record w { turn = suc w.turn }
