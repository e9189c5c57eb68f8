-- After any events at most one block asks, for the open call: each event keeps that what is asked for is what the call needs.
use Rattle.std.proofs.Common.{◌≡◌, ◌⊎◌, inl, inr, Bool, true, false, List, [], ◌∷◌, Option, Some, None, is_some, refl, sym, ap, ◌∙◌}
use Rattle.client_node.specs.declared.client.Client.{Client}
use Rattle.client_node.specs.declared.phase.Phase.TheVariants.{Down, Opening, Serving as Serves}
use Rattle.client_node.specs.declared.phase.Phase.{Phase}
use Rattle.client_node.specs.Phases.{client_step}
use Rattle.client_node.specs.Starting.{client_start}
use Rattle.client_call.specs.declared.call.Call.{Call}
use Rattle.client_serving.specs.declared.serving.Serving.{Serving}
use Rattle.client_serving.specs.Flights.{held_at}
use Rattle.file_plan.specs.declared.block_call.BlockCall.{BlockCall}
use Rattle.file_plan.specs.declared.block_call.BlockCall.TheVariants.{Get, Put, PutAt, Sync}
use Rattle.token_client.specs.declared.held.Fetch.{Fetch}
use Rattle.token_client.specs.declared.held.Wanted.{Wanted}
use Rattle.token_client.specs.Held.{is_asking}
use Rattle.wire_msg.specs.declared.packet.Do.{Do}
use Rattle.xfs_base.specs.declared.block.BlockId.{BlockId}
use Rattle.xfs_base.specs.declared.token.Mode.{Mode}
use Rattle.xfs_base.specs.declared.token.Mode.TheVariants.{Nothing, Copy, Own}
use Rattle.xfs_base.proofs.Booleans.{contrary}
use Rattle.node_slots.specs.node_tie.AskingEvents.{PhaseAsks}
use Rattle.node_slots.specs.node_tie.Asks.{AsksForCall, needed, needed_by}
use Rattle.node_slots.proofs.node_tie.AsksEvents.{first_asks, phase_asks}
use Rattle.node_slots.specs.client_law.Asking.{AsksForOneBlock, AsksForOneBlockAlways, IsOpenAt, Reads, Writes}
use Rattle.node_slots.specs.client_law.Events.{HoldsAfterAnyEvents, WhereItServes, after_events}
use Rattle.node_slots.proofs.client_law.Happening.{after_weaker}
use Rattle.node_slots.proofs.client_law.Orders.{or_cases}

pub after-asks : (client : Client) (events : List Do) → PhaseAsks client.phase → PhaseAsks (after_events client events).phase
after-asks client [] asks = asks
after-asks client (what ∷ rest) asks = after-asks (client_step client what).node rest (phase_asks client what asks)

where_asks : (phase : Phase) → PhaseAsks phase → WhereItServes AsksForCall phase
where_asks (Down l) p = tt
where_asks (Opening l o) p = tt
where_asks (Serves s) p = p

pub asks_always : HoldsAfterAnyEvents AsksForCall
asks_always number setup works events =
    where_asks (after_events (client_start number setup works) events).phase
    (after-asks (client_start number setup works) events (first_asks number setup works))

-- ---- what a call on blocks needs

abbrev block_in : BlockId → Option (BlockId × Mode) → BlockId
block_in other None = other
block_in other (Some e) = e.0

abbrev writes_in : Option (BlockId × Mode) → Bool
writes_in None = false
writes_in (Some (b, Nothing)) = false
writes_in (Some (b, Copy)) = false
writes_in (Some (b, Own)) = true

abbrev reads_in : Option (BlockId × Mode) → Bool
reads_in None = false
reads_in (Some (b, Nothing)) = false
reads_in (Some (b, Copy)) = true
reads_in (Some (b, Own)) = false

writing_step : (block : BlockId) (step : BlockCall) → needed_by step ≡ Some (block, Own) → Writes step block
writing_step block (Get read) fact = contrary (ap writes_in fact)
writing_step block (Put written value) fact = ap (block_in block) fact
writing_step block (PutAt written ver value) fact = ap (block_in block) fact
writing_step block Sync fact = contrary (ap writes_in fact)

reading_step : (block : BlockId) (step : BlockCall) → needed_by step ≡ Some (block, Copy) → Reads step block
reading_step block (Get read) fact = ap (block_in block) fact
reading_step block _ fact = contrary (ap reads_in fact)

writing : (block : BlockId) (call : Option Call) → needed call ≡ Some (block, Own) → IsOpenAt (λ step. Writes step block) call
writing block None fact = contrary (ap is_some fact)
writing block (Some call) fact = writing_step block call.step fact

reading : (block : BlockId) (call : Option Call) → needed call ≡ Some (block, Copy) → IsOpenAt (λ step. Reads step block) call
reading block None fact = contrary (ap is_some fact)
reading block (Some call) fact = reading_step block call.step fact

-- ---- at most one block

module _ (s : Serving) (p : AsksForCall s) where
  -- the block of what is needed
  abbrev asked : BlockId → BlockId
  asked block = block_in block (needed s.call)

  by_want : (block : BlockId) (w : Option Wanted) → (held_at s block).want ≡ w → is_some w ≡ true → (other : BlockId) → asked other ≡ block
  by_want block None fact some other = contrary some
  by_want block (Some w) fact some other = ap (block_in other) (p.wanted block w fact)

  by_fetch : (block : BlockId) (f : Option Fetch) → (held_at s block).fetch ≡ f → is_some f ≡ true → (other : BlockId) → asked other ≡ block
  by_fetch block None fact some other = contrary some
  by_fetch block (Some f) fact some other = ap (block_in other) (p.fetched block f fact)

  by_either : (block other : BlockId) → (is_some (held_at s block).want ≡ true) ⊎ (is_some (held_at s block).fetch ≡ true) → asked other ≡ block
  by_either block other (inl some) = by_want block (held_at s block).want refl some other
  by_either block other (inr some) = by_fetch block (held_at s block).fetch refl some other

  is_asked : (block other : BlockId) → is_asking (held_at s block) ≡ true → asked other ≡ block
  is_asked block other asks = by_either block other (or_cases (is_some (held_at s block).want) (is_some (held_at s block).fetch) asks)

  pub asks_one : AsksForOneBlock s
  asks_one = record {
    one = λ block other asks also. sym (is_asked block block asks) ∙ is_asked other block also;
    own = λ block w fact own. writing block s.call (p.wanted block w fact ∙ ap (λ m. Some (block, m)) own);
    copy = λ block w fact copy. reading block s.call (p.wanted block w fact ∙ ap (λ m. Some (block, m)) copy);
    fetch = λ block f fact. reading block s.call (p.fetched block f fact);
  }

pub asks_for_one_block : AsksForOneBlockAlways
asks_for_one_block = after_weaker AsksForCall AsksForOneBlock asks_one asks_always
