-- What a log makes of its inputs, as the books have it: it stands, it is sealed, or its segment is filed.
use Rattle.std.proofs.Common.{◌≡◌, ℕ, zero, suc, ◌+◌, Bool, true, false, [], take, Option, Some, None, is_some, sym, ap, subst, ◌∙◌, arith}
use Rattle.std.specs.Prelude.{IfSome}
use Rattle.client_log.specs.LogState.{LogState}
use Rattle.client_log.specs.Transition as log
use Rattle.log_flight.specs.Flights.{FlightState}
use Rattle.log_flight.specs.Items.{items_of}
use Rattle.xfs_base.specs.Limits.{segment_blocks}
use Rattle.token_law.specs.Books.{Books, sealed, filed, reopened, with_empty}
use Rattle.token_protocol.specs.Basics.{put}
use Rattle.token_tie.proofs.Frames.{put_here}
use Rattle.node_slots.specs.node_tie.LogRows.{LogSeen, rows_told}

-- the segment in flight, as the books have it
abbrev pub IsFlown : Books → ℕ → LogState → FlightState → Type 0
IsFlown k l s f = (f.segment.name.seq ≡ suc s.end.seq) × (k.rows l (suc (k.end l)) ≡ rows_told f.segment.items)

pub flown_in : (k : Books) (l : ℕ) (s : LogState) (f : FlightState) → s.flight ≡ Some f → LogSeen k l s → IsFlown k l s f
flown_in k l s f fact seen = subst (λ (o : Option FlightState). IfSome o (IsFlown k l s)) fact seen.flight

-- another log that ends so, with this in flight, or nothing
pub flies_seen : (k : Books) (l : ℕ) (s t : LogState) (f : FlightState) → k.flying l ≡ true → k.end l ≡ s.end.seq → t.end.seq ≡ s.end.seq → t.flight ≡ Some f
    → IsFlown k l s f → LogSeen k l t
flies_seen k l s t f flying end same fact flown = record {
  end = end ∙ sym same;
  flying = flying ∙ sym (ap is_some fact);
  flight = subst (λ (o : Option FlightState). IfSome o (IsFlown k l t)) (sym fact) (flown.0 ∙ ap suc (sym same), flown.1);
}

-- a log that is sealed has the next segment in flight
pub seal_seen : (k : Books) (l : ℕ) (s : LogState) → LogSeen k l s
    → LogSeen (sealed k l (rows_told (items_of 0 (take segment_blocks s.dirty)))) l (log.log_seal s).state
unfolding log.log_seal log.log_launch
seal_seen k l s seen = record {
  end = seen.end;
  flying = put_here k.flying l true;
  flight = (
    next_number s.end.seq,
    ap (λ (rows : ℕ → _). rows (suc (k.end l))) (put_here k.rows l _)
        ∙ put_here (k.rows l) (suc (k.end l)) (rows_told (items_of 0 (take segment_blocks s.dirty))),
  );
}
  where
    next_number : (n : ℕ) → n + 1 ≡ suc n
    next_number n = omega arith

-- one whose segment is settled has nothing in flight behind it
pub file_seen : (k : Books) (l : ℕ) (s : LogState) (f : FlightState) → k.end l ≡ s.end.seq → IsFlown k l s f → LogSeen (filed k l) l (log.landed s f)
file_seen k l s f end flown = record {
  end = put_here k.end l (suc (k.end l)) ∙ ap suc end ∙ sym flown.0;
  flying = put_here k.flying l false;
  flight = tt;
}

-- what is in flight is striped again, with the same items
pub restripe_seen : (k : Books) (l : ℕ) (s : LogState) (f : FlightState) → k.flying l ≡ true → k.end l ≡ s.end.seq → IsFlown k l s f
    → LogSeen k l (log.restriped s f).state
unfolding log.restriped log.log_launch
restripe_seen k l s f flying end flown = record { end = end; flying = flying; flight = flown }

-- ---- the end of an opening

-- nothing is in flight behind segments that say nothing
empty_rests : (count : ℕ) (k : Books) (l : ℕ) → k.flying l ≡ false → (with_empty count k l).flying l ≡ false
empty_rests zero k l rests = rests
empty_rests (suc count) k l rests = empty_rests count (filed (sealed k l []) l) l (put_here (put k.flying l true) l false)

pub reopened_rests : (k : Books) (l : ℕ) (adopted : Bool) → (reopened k l adopted).flying l ≡ false
reopened_rests k l true = put_here k.flying l false
reopened_rests k l false = put_here k.flying l false

-- a log that was opened again is seen, where its end is that of the books
pub opened_seen : (count : ℕ) (k : Books) (l : ℕ) (s : LogState) → k.flying l ≡ false → s.end.seq ≡ (with_empty count k l).end l → s.flight ≡ None
    → LogSeen (with_empty count k l) l s
opened_seen count k l s rests end none = record {
  end = sym end;
  flying = empty_rests count k l rests ∙ sym (ap is_some none);
  flight = subst (λ (o : Option FlightState). IfSome o (IsFlown (with_empty count k l) l s)) (sym none) tt;
}
