-- From part to part of an event a client caches what is clean: after a packet, after time and after the begin of a call, and after each call on
-- blocks that the open call makes then.
use Rattle.std.proofs.Common.{◌≡◌, ◌⊎◌, inl, inr, ℕ, ◌<◌, true, false, Some, sym, subst, ◌∙◌}
use Rattle.client_node.specs.declared.phase.Phase.{Phase}
use Rattle.client_node.specs.declared.phase.Phase.TheVariants.{Down, Opening, Serving as Serves}
use Rattle.client_node.specs.Starting.{client_start}
use Rattle.client_call.specs.declared.call.Going.{Going}
use Rattle.client_serving.specs.declared.lasting.Lasting.{Lasting}
use Rattle.client_serving.specs.declared.serving.Serving.{Serving}
use Rattle.client_serving.specs.Packets.{serving_take, on_tick}
use Rattle.client_running.specs.Running.{running_go_on, run_upto}
use Rattle.coop_cache.specs.Transition.{is_clean}
use Rattle.wire_msg.specs.declared.packet.Do.TheVariants.{Deliver}
use Rattle.wire_msg.specs.declared.packet.Packet.{Packet}
use Rattle.xfs_base.specs.declared.block.BlockId.{BlockId}
use Rattle.xfs_base.specs.declared.token.Mode.TheVariants.{Own}
use Rattle.xfs_base.proofs.Booleans.{contrary}
use Rattle.node_slots.specs.node_tie.Asks.{AsksForCall, needed}
use Rattle.node_slots.proofs.node_tie.AsksPackets.{serving_take-asks, on_tick-asks}
use Rattle.node_slots.specs.client_law.Caching.{CachesAllButGranted, CachesThroughAnEvent, CachesThroughAnyEvent, CachesWhatIsClean}
use Rattle.node_slots.specs.client_law.Events.{WhereItServes, after_events}
use Rattle.node_slots.proofs.client_law.Arriving.{IsFresh, KeptOrFresh}
use Rattle.node_slots.proofs.client_law.Asking.{asks_always}
use Rattle.node_slots.proofs.client_law.Caching.{C}
use Rattle.node_slots.proofs.client_law.CachingSteps.{all_written, caches_just_what_is_clean, is_exact, keeps-caching, none, only_clean, what_is_clean}
use Rattle.node_slots.proofs.client_law.Calls.{running_go_on-same, run_upto-both, run_upto-fresh}
use Rattle.node_slots.proofs.client_law.Sounding.{running_go_on-sound}
use Rattle.node_slots.proofs.client_law.Happening.{AnyBlock, AnyMap, arrives_any, brings_any}
use Rattle.node_slots.proofs.client_law.Keeping.{At, Sound}
use Rattle.node_slots.proofs.client_law.Packets.{serving_take-keeps, on_tick-keeps}

-- the cache is exact, or but for the block that the open call may write from now on
abbrev ExactOrFresh : Serving → Type 0
ExactOrFresh = KeptOrFresh AnyBlock AnyMap (C none) (λ n. C none) (λ block. C (λ b. b ≡ block)) keeps-caching

lacks_none : (s : Serving) (block : BlockId) → is_clean s.cache block ≡ false → (is_clean s.cache block ≡ true) ⊎ none block
    → needed s.call ≡ Some (block, Own)
lacks_none s block lacked (inl inside) = contrary (sym lacked ∙ inside)
lacks_none s block lacked (inr x) = absurd x

lacks_fresh : (s : Serving) (f : IsFresh (λ block. C (λ b. b ≡ block)) s) (block : BlockId) → is_clean s.cache block ≡ false
    → (is_clean s.cache block ≡ true) ⊎ (block ≡ f.block)
    → needed s.call ≡ Some (block, Own)
lacks_fresh s f block lacked (inl inside) = contrary (sym lacked ∙ inside)
lacks_fresh s f block lacked (inr same) = subst (λ b. needed s.call ≡ Some (b, Own)) (sym same) f.needs

all_but_granted : (s : Serving) → ExactOrFresh s → CachesAllButGranted s
all_but_granted s (inl p) = record { only = only_clean none s p; lacks = λ block clean lacked. lacks_none s block lacked (p.caches block clean) }
all_but_granted s (inr f) = record {
  only = only_clean (λ b. b ≡ f.block) s f.fact;
  lacks = λ block clean lacked. lacks_fresh s f block lacked (f.fact.caches block clean);
}

-- so many calls on blocks
runs_exact : (calls : ℕ) (s : Serving) → Sound s → At (C none) s → CachesWhatIsClean (run_upto calls s).state
runs_exact calls s sound p =
    what_is_clean (run_upto calls s).state
    (run_upto-both AnyBlock AnyMap (C none) (λ n. C none) (λ block. C (λ b. b ≡ block)) keeps-caching calls s (record { sound = sound; fact = p })).fact

runs_on : (calls : ℕ) (s : Serving) → 0 < calls → Sound s → ExactOrFresh s → CachesWhatIsClean (run_upto calls s).state
runs_on calls s some sound (inl p) = runs_exact calls s sound p
runs_on calls s some sound (inr f) =
    what_is_clean (run_upto calls s).state
    (run_upto-fresh AnyBlock AnyMap (C none) (λ n. C none) (λ block. C (λ b. b ≡ block)) keeps-caching calls s some sound f).fact

module _ (s : Serving) (asks : AsksForCall s) (p : At (C none) s) where
  taken : (packet : Packet) → ExactOrFresh (serving_take s packet).state
  taken packet =
      serving_take-keeps AnyBlock AnyMap (C none) (λ n. C none) (λ block. C (λ b. b ≡ block)) keeps-caching s asks p packet
      (arrives_any (Serves s) (Deliver packet)) (brings_any (Deliver packet))

  begun : (lasting : Lasting) (going : Going) (calls : ℕ) → CachesWhatIsClean (run_upto calls (running_go_on (record s { lasting = lasting }) going).state).state
  begun lasting going calls =
      let t : Serving = record s { lasting = lasting } in
      runs_exact calls (running_go_on t going).state
      (running_go_on-sound t going asks.sound)
      (running_go_on-same AnyBlock AnyMap (C none) (λ n. C none) (λ block. C (λ b. b ≡ block)) keeps-caching t going p)

  through : CachesThroughAnEvent s
  through = record {
    packet = λ packet. all_but_granted (serving_take s packet).state (taken packet);
    packet_runs = λ packet calls some. runs_on calls (serving_take s packet).state some (serving_take-asks s asks packet).sound (taken packet);
    tick_runs = λ calls. runs_exact calls (on_tick s).state (on_tick-asks s asks).sound
        (on_tick-keeps AnyBlock AnyMap (C none) (λ n. C none) (λ block. C (λ b. b ≡ block)) keeps-caching s asks p);
    call_runs = begun;
    log_says = λ outs. what_is_clean _ (all_written s outs p);
  }

where_through : (phase : Phase) → WhereItServes AsksForCall phase → WhereItServes CachesWhatIsClean phase → WhereItServes CachesThroughAnEvent phase
where_through (Down l) asks clean = tt
where_through (Opening l o) asks clean = tt
where_through (Serves s) asks clean = through s asks (is_exact s clean)

pub caches_through_any_event : CachesThroughAnyEvent
caches_through_any_event number setup works events =
    where_through (after_events (client_start number setup works) events).phase (asks_always number setup works events)
    (caches_just_what_is_clean number setup works events)
