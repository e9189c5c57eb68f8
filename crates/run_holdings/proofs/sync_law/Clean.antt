-- Where nothing waits to be written to a client's log, and nothing is in flight, none of its blocks is dirty.
use Rattle.std.proofs.Common.{◌≡◌, ◌⊎◌, ℕ, Bool, true, false, ◌==◌, List, [], ◌∷◌, Option, Some, None, is_none, is_some, length, map, inl, inr, refl, sym, ap, ◌∙◌, arith}
use Rattle.std.proofs.lemmas.Bool.{eqb-true}
use Rattle.client_running.specs.Blocks.{is_settled}
use Rattle.client_serving.specs.declared.serving.Serving.{Serving}
use Rattle.client_serving.specs.Flights.{held_at}
use Rattle.log_flight.specs.declared.dirty.Change.{Change}
use Rattle.log_flight.specs.Flights.{FlightState}
use Rattle.node_slots.specs.client_law.Unsettled.{WritesWhatIsDirty, flown_of, version_at, versions_flown, waiting_of}
use Rattle.token_client.specs.Held.{is_dirty}
use Rattle.xfs_base.proofs.Booleans.{and_first, and_second}
use Rattle.xfs_base.specs.declared.block.BlockId.{BlockId}

none_flies : (o : Option FlightState) → is_none o ≡ true → o ≡ None
none_flies None is = refl
none_flies (Some f) is = absurd cc

none_waits : {X : Type 0} (xs : List X) → (length xs == 0) ≡ true → xs ≡ []
none_waits [] is = refl
none_waits (x ∷ xs) is = (let none : length (x ∷ xs) ≡ 0 = eqb-true (length (x ∷ xs)) 0 is in absurd (omega arith))

no_version : (v : ℕ) → None ≡ Some v → ⊥
no_version v fact = cc

pub none_dirty : (s : Serving) → WritesWhatIsDirty s → is_settled s ≡ true → (b : BlockId) → is_dirty (held_at s b) ≡ false
none_dirty s writes settled b = by (is_dirty (held_at s b)) refl
  where
    nothing_flies : flown_of s b ≡ None
    nothing_flies =
        ap (λ (o : Option FlightState). version_at (versions_flown o) b) (none_flies s.log.flight (and_first (is_none s.log.flight) (length s.log.dirty == 0) settled))

    waits_not : is_some (waiting_of s b) ≡ false
    waits_not =
        ap (λ (d : List (BlockId × Change)). is_some (version_at (map (λ c. (c.0, c.1.entry.ver)) d) b))
        (none_waits s.log.dirty (and_second (is_none s.log.flight) (length s.log.dirty == 0) settled))

    by : (t : Bool) → is_dirty (held_at s b) ≡ t → t ≡ false
    by false fact = refl
    by true fact = absurd (way (writes.all b fact))
      where
        way : (is_some (waiting_of s b) ≡ true) ⊎ (flown_of s b ≡ Some (held_at s b).ver) → ⊥
        way (inl waits) = (let clash : false ≡ true = sym waits_not ∙ waits in cc)
        way (inr flies) = no_version (held_at s b).ver (sym nothing_flies ∙ flies)
