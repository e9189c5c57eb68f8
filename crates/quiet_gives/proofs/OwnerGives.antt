-- A client wants a block that another holds, which has not settled it: the owner once its segment is settled, and that it can give the block up.
use Rattle.std.proofs.Common.{◌≡◌, ℕ, ◌+◌, ◌<◌, not, Bool, List, slice_index, None, refl, ap, ◌∙◌, arith}
use Rattle.client_node.specs.Serving.{cached_upto}
use Rattle.log_flight.specs.Flights.{FlightState, none_noted}
use Rattle.node_base.specs.declared.effects.Effect.{Effect}
use Rattle.token_client.specs.declared.held.Held.{Held}
use Rattle.token_client.specs.State.{held_of}
use Rattle.version_model.specs.declared.work.Work.{Work}
use Rattle.xfs_base.specs.Blocks.{slot_of}
use Rattle.xfs_base.specs.declared.block.BlockId.{BlockId}
use Rattle.xfs_base.specs.declared.entry.Entry.{Entry}
use Rattle.xfs_base.specs.declared.node.NodeId.{NodeId}
use Rattle.xfs_base.specs.declared.segment.SegName.{SegName}
use Rattle.xfs_base.specs.declared.setup.Setup.{Setup}
use Rattle.xfs_base.specs.declared.token.Mode.{Mode}
use Rattle.xfs_base.specs.declared.token.Stamp.{Stamp}
use Rattle.xfs_base.specs.Modes.{is_own}
use Rattle.xfs_base.specs.Stamps.{is_later}
use Rattle.quiet_law.proofs.Settled.{field_stays, none_dirty}
use Rattle.quiet_law.proofs.Waiting.{other_held}
use Rattle.quiet_nodes.specs.Scene.{ClientPart, Scene}
use Rattle.quiet_nodes.proofs.Tests.{lt_test}
use Rattle.quiet_gives.proofs.GivingUp.{CanGive}
use Rattle.quiet_gives.proofs.OwnerFacts as own
use Rattle.quiet_gives.proofs.OwnerFacts.{IsOwners}
use Rattle.quiet_gives.proofs.Recalling as recalling
use Rattle.quiet_gives.proofs.SettlingGives.{fed_then, its_told, then_part}

module _ (setup : Setup) (works : NodeId → List Work) (k : ℕ) (s : Scene) (c o : ℕ) (b : BlockId) (mode : Mode) (g : IsOwners setup works k s c o b mode) where
  abbrev i : ℕ
  i = slot_of b.ino.0

  abbrev p : ClientPart
  p = s.client o

  abbrev keep : Bool
  keep = not (is_own mode)

  abbrev f : FlightState
  f = own.f setup works k s c o b mode g

  abbrev name : SegName
  name = f.segment.name

  abbrev seq : ℕ
  seq = p.end.seq + 1

  abbrev its_rows : List (BlockId × Entry)
  its_rows = own.rows setup works k s c o b mode g

  abbrev flies : List Bool → ClientPart
  flies = own.flies setup works k s c o b mode g

  abbrev st : Stamp
  st = own.st setup works k s c o b mode

  within : i < 8
  within = own.within setup works k s c o b mode g

  -- all is settled, and the block given up
  abbrev pub qs : ClientPart
  qs = then_part setup works o 0 0 1 name (flies none_noted) f b st keep

  -- all is settled, and the feed has it
  abbrev pub fed_part : ClientPart
  fed_part = fed_then setup works o 0 0 1 name (flies none_noted) f b st keep

  -- what is done then
  abbrev pub told : List Effect
  told = its_told setup works o 0 0 1 name (flies none_noted) f b st keep

  stamp_is : (held_of fed_part.blocks b).stamp ≡ (held_of p.blocks b).stamp
  stamp_is =
      field_stays (λ (x : Held). x.stamp) (λ x ver. refl) (λ x. refl) (cached_upto setup.cache) (own.given setup works k s c o b mode g) p.cached its_rows b
      ∙ own.as_before setup works k s c o b mode g (λ (x : Held). x.stamp) refl b

  fetch_is : (held_of fed_part.blocks b).fetch ≡ (held_of p.blocks b).fetch
  fetch_is =
      field_stays (λ (x : Held). x.fetch) (λ x ver. refl) (λ x. refl) (cached_upto setup.cache) (own.given setup works k s c o b mode g) p.cached its_rows b
      ∙ own.as_before setup works k s c o b mode g (λ (x : Held). x.fetch) refl b

  pub can_give : CanGive setup works o fed_part b st keep
  can_give = record {
    idle = refl;
    promised = own.is_promised_so setup works k s c o b mode g fed_part;
    later = ap (is_later st) stamp_is ∙ own.later_so setup works k s c o b mode g;
    no_fetch = fetch_is ∙ (own.quiet setup works k s c o b mode g).fetch;
    clean = none_dirty (cached_upto setup.cache) (own.given setup works k s c o b mode g) p.cached its_rows (own.newest setup works k s c o b mode g) (own.named setup works k s c o b mode g) b;
    within = within;
    news = lt_test (slice_index p.acked i) seq (let is = own.acked setup works k s c o b mode g i within in omega arith);
  }

  pub only : (x : BlockId) → (x ≡ b → ⊥) → (held_of (own.given setup works k s c o b mode g) x).giving ≡ None
  only x differs = ap (λ (y : Held). y.giving) (other_held b (recalling.giving_held setup works o p b st keep) p.blocks x differs) ∙ ((own.idle setup works k s c o b mode g).blocks x).giving
