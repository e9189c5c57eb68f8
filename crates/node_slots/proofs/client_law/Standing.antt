-- The facts of a client together hold at the start, and each event keeps them.
use Rattle.std.proofs.Common.{◌≡◌, ℕ, Option, Some, None, inl, replicate, refl, sym, ◌∙◌}
use Rattle.xfs_base.specs.Limits.{slot_count}
use Rattle.client_node.specs.declared.phase.Phase.TheVariants.{Down, Opening, Serving as Serves}
use Rattle.client_node.specs.declared.phase.Phase.{Phase}
use Rattle.client_node.specs.Phases.{takes}
use Rattle.client_serving.specs.declared.serving.Serving.{Serving}
use Rattle.client_serving.specs.Lasting.{lasting_start}
use Rattle.client_node.specs.Serving.{serves_first}
use Rattle.group_map.specs.Groups.{group_map_start}
use Rattle.group_map.specs.WellFormed.{IsGroupMap}
use Rattle.log_flight.specs.Flights.{FlightState}
use Rattle.node_slots.specs.client_law.Grouped.{HasSuchMaps}
use Rattle.node_slots.specs.node_tie.AskingEvents.{PhaseAsks}
use Rattle.node_slots.proofs.node_tie.AsksEvents.{first_asks, phase_asks}
use Rattle.node_slots.specs.client_law.Standing.{EventsKeepWell, FliesNext, ServesWell, StandsWell, StartsWell}
use Rattle.node_slots.proofs.client_law.Caching.{C}
use Rattle.node_slots.proofs.client_law.CachingSteps as caching
use Rattle.node_slots.proofs.client_law.Giving as giving
use Rattle.node_slots.proofs.client_law.Giving.{AnyLog, AnyOpening, G, any_reopens}
use Rattle.node_slots.proofs.client_law.Groups as stripes
use Rattle.node_slots.proofs.client_law.Groups.{S, StripesSo}
use Rattle.node_slots.proofs.client_law.Happening.{AnyBlock, AnyMap, PhaseHolds, arrives_any, brings_any, takes-so}
use Rattle.node_slots.proofs.client_law.Keeping.{At}
use Rattle.node_slots.proofs.client_law.UnsettledAlways as unsettled
use Rattle.node_slots.proofs.client_law.UnsettledAlways.{IsEmpty, OpensEmptyLogs, WaitsNot}
use Rattle.node_slots.proofs.client_law.UnsettledSteps.{B, NextTo, P}

-- ---- each fact of what a client stands in

flies_next : (o : Option FlightState) (end : ℕ) → NextTo o end → FliesNext o end
flies_next None end h = tt
flies_next (Some f) end h = h

next_to : (o : Option FlightState) (end : ℕ) → FliesNext o end → NextTo o end
next_to None end h = tt
next_to (Some f) end h = h

writes-of : (s : Serving) → ServesWell s → At B s
writes-of s p = record {
  versions = record {
    waits_once = p.writes.waits_once;
    flies_once = p.writes.flies_once;
    newest = p.writes.newest;
    unsettled = p.writes.unsettled;
    unflown = p.writes.unflown;
    all = p.writes.all;
    above = p.writes.flown_above;
    upto = p.writes.flown_upto;
  };
  next = next_to s.log.flight s.log.end.seq p.next;
}

caches-of : (s : Serving) → ServesWell s → At (C caching.none) s
caches-of s p = record {
  once = p.caches.once;
  cached = λ b inside. sym (p.caches.exact b) ∙ inside;
  caches = λ b clean. inl (p.caches.exact b ∙ clean);
}

module _ (opens : OpensEmptyLogs) where
  abbrev GivesSo : Phase → Type 0
  GivesSo = PhaseHolds AnyBlock AnyMap (G giving.none) (λ n. G giving.none)
      (λ b. G giving.none) giving.keeps-giving AnyOpening AnyLog any_reopens giving.starts-giving

  abbrev Caches : Phase → Type 0
  Caches =
      PhaseHolds AnyBlock AnyMap (C caching.none) (λ n. C caching.none) (λ block. C (λ b. b ≡ block)) caching.keeps-caching AnyOpening AnyLog any_reopens
      caching.starts-caching

  abbrev Writes : Phase → Type 0
  Writes =
      PhaseHolds AnyBlock AnyMap B P (λ block. P 0) unsettled.keeps-unsettled WaitsNot IsEmpty (unsettled.reopens-empty opens AnyMap) unsettled.starts-empty

  abbrev Stripes : Phase → Type 0
  Stripes =
      PhaseHolds AnyBlock IsGroupMap (S IsGroupMap) (λ n. S IsGroupMap) (λ block. S IsGroupMap) (stripes.keeps-stripes IsGroupMap) (HasSuchMaps IsGroupMap)
      (StripesSo IsGroupMap) (stripes.reopens-stripes IsGroupMap) (λ inc epochs l capacity h. h)

  asks_in : (phase : Phase) → StandsWell phase → PhaseAsks phase
  asks_in (Down l) p = tt
  asks_in (Opening l o) p = tt
  asks_in (Serves s) p = p.asks

  gives_in : (phase : Phase) → StandsWell phase → GivesSo phase
  gives_in (Down l) p = tt
  gives_in (Opening l o) p = tt
  gives_in (Serves s) p = λ b some. inl (p.gives b some)

  caches_in : (phase : Phase) → StandsWell phase → Caches phase
  caches_in (Down l) p = tt
  caches_in (Opening l o) p = tt
  caches_in (Serves s) p = caches-of s p

  writes_in : (phase : Phase) → StandsWell phase → Writes phase
  writes_in (Down l) p = tt
  writes_in (Opening l o) p = p.waits
  writes_in (Serves s) p = writes-of s p

  stripes_in : (phase : Phase) → StandsWell phase → Stripes phase
  stripes_in (Down l) p = tt
  stripes_in (Opening l o) p = p.maps
  stripes_in (Serves s) p = p.stripes

  -- ---- and all together

  together : (phase : Phase) → PhaseAsks phase → GivesSo phase → Caches phase → Writes phase → Stripes phase → StandsWell phase
  together (Down l) asks gives caches writes by = tt
  together (Opening l o) asks gives caches writes by = record { waits = writes; maps = by }
  together (Serves s) asks gives caches writes by = record {
    asks = asks;
    gives = giving.only_dirty s gives;
    caches = caching.what_is_clean s caches;
    writes = unsettled.writes_what_is_dirty s writes;
    next = flies_next s.log.flight s.log.end.seq writes.next;
    stripes = by;
  }

  pub starts_well : StartsWell
  starts_well number setup works first =
      let s : Serving = serves_first (lasting_start number works) setup.managers setup.cache (group_map_start setup.servers setup.groups) in
      record {
        asks = first_asks number setup works;
        gives = giving.only_dirty s (giving.starts-giving 1 (replicate slot_count 1) s.log setup.cache tt);
        caches = caching.what_is_clean s (caching.starts-caching 1 (replicate slot_count 1) s.log setup.cache tt);
        writes = unsettled.writes_what_is_dirty s (unsettled.starts-empty 1 (replicate slot_count 1) s.log setup.cache (refl, refl));
        next = tt;
        stripes = first;
      }

  pub events_keep_well : EventsKeepWell
  events_keep_well client what brings p =
      let asks : PhaseAsks client.phase = asks_in client.phase p in
      together (takes client what).state (phase_asks client what asks)
      (takes-so AnyBlock AnyMap (G giving.none) (λ n. G giving.none) (λ b. G giving.none) giving.keeps-giving AnyOpening AnyLog any_reopens giving.starts-giving
      client what (arrives_any client.phase what) (brings_any what) asks (gives_in client.phase p))
      (takes-so AnyBlock AnyMap (C caching.none) (λ n. C caching.none) (λ block. C (λ b. b ≡ block)) caching.keeps-caching AnyOpening AnyLog any_reopens
      caching.starts-caching client what (arrives_any client.phase what) (brings_any what) asks (caches_in client.phase p))
      (takes-so AnyBlock AnyMap B P (λ block. P 0) unsettled.keeps-unsettled WaitsNot IsEmpty
      (unsettled.reopens-empty opens AnyMap) unsettled.starts-empty client what
      (arrives_any client.phase what) (brings_any what) asks (writes_in client.phase p))
      (takes-so AnyBlock IsGroupMap (S IsGroupMap) (λ n. S IsGroupMap) (λ block. S IsGroupMap) (stripes.keeps-stripes IsGroupMap) (HasSuchMaps IsGroupMap)
      (StripesSo IsGroupMap) (stripes.reopens-stripes IsGroupMap) (λ inc epochs l capacity h. h) client what (arrives_any client.phase what) brings asks
      (stripes_in client.phase p))
