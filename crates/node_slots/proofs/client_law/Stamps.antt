-- The stamp of a block never falls while a client serves: its tokens change it for a later one alone.
use Rattle.std.proofs.Common.{◌≡◌, false, refl, ap, subst, ◌∙◌}
use Rattle.client_node.specs.declared.client.Client.{Client}
use Rattle.client_node.specs.declared.phase.Phase.TheVariants.{Serving as Serves}
use Rattle.client_node.specs.Starting.{client_start}
use Rattle.client_serving.specs.Flights.{held_at}
use Rattle.token_client.specs.declared.held.Held.{Held}
use Rattle.token_client.specs.Held.{let_go, version_settled, held_write}
use Rattle.token_client.specs.State.{TokensState, held_of, with_held}
use Rattle.token_client.proofs.Tables.{put_each}
use Rattle.wire_msg.specs.declared.packet.Do.{Do}
use Rattle.xfs_base.specs.declared.block.BlockId.{BlockId}
use Rattle.xfs_base.specs.declared.token.Stamp.{Stamp}
use Rattle.xfs_base.specs.Stamps.{is_later}
use Rattle.xfs_base.proofs.Orders.{not_later_itself, not_later_through}
use Rattle.node_slots.specs.node_tie.AskingEvents.{PhaseAsks}
use Rattle.node_slots.proofs.node_tie.AsksEvents.{first_asks}
use Rattle.node_slots.specs.client_law.Events.{WhereItServes, after_events}
use Rattle.node_slots.specs.client_law.Stamps.{NoStampFalls, StampsNeverFallAlways}
use Rattle.node_slots.proofs.client_law.Asking.{after-asks}
use Rattle.node_slots.proofs.client_law.Happening.{AnyBlock, AnyMap, arrives_any, brings_any, serves-so}
use Rattle.node_slots.proofs.client_law.Keeping.{At, Fact, Keeps, TakesKeep}
use Rattle.node_slots.proofs.client_law.Puts.{PutsKeep, changes-tokens, cleaned-tokens, gone-tokens, logs-tokens}

module _ (block : BlockId) (old : Stamp) where
  -- the stamp of the block is no earlier than this one
  abbrev Kept : TokensState → Type 0
  Kept t = is_later old (held_of t.blocks block).stamp ≡ false

  abbrev K : Fact
  K t l c = Kept t

  kept_put : (t : TokensState) → Kept t → (b : BlockId) (g : Held) → is_later (held_of t.blocks b).stamp g.stamp ≡ false → Kept (with_held t b g)
  kept_put t p b g rises =
      not_later_through old (held_of t.blocks block).stamp (held_of (with_held t b g).blocks block).stamp p
      (put_each (λ q f. is_later (held_of t.blocks q).stamp f.stamp ≡ false) b g t.blocks rises (λ q. not_later_itself (held_of t.blocks q).stamp) block)

  -- a block is put with its stamp
  kept_same : (t : TokensState) → Kept t → (b : BlockId) (g : Held) → g.stamp ≡ (held_of t.blocks b).stamp → Kept (with_held t b g)
  kept_same t p b g same = kept_put t p b g (ap (is_later (held_of t.blocks b).stamp) same ∙ not_later_itself (held_of t.blocks b).stamp)

  takes-kept : TakesKeep K
  takes-kept = record {
    quiet = λ t u l c q p. not_later_through old (held_of t.blocks block).stamp (held_of u.blocks block).stamp p ((q block).stamp);
    puts_off = λ t l c b g dirty fact p. kept_put t p b g fact.stamp;
    lets = λ t l c b g clean fact p. kept_put t p b g fact.stamp;
    lowers = λ t l c b g clean fact p. kept_put t p b g fact.stamp;
    leaves = λ t l c b nothing p. p;
    seals = λ t l c p. p;
  }

  puts-kept : PutsKeep Kept
  puts-kept = record {
    takes = takes-kept;
    lets_go = λ t b p. kept_same t p b (let_go (held_of t.blocks b)) refl;
    settles = λ t b ver p. kept_same t p b (version_settled (held_of t.blocks b) ver) refl;
    writes = λ t b value p. kept_same t p b (held_write (held_of t.blocks b) value) refl;
  }

  keeps-kept : Keeps AnyBlock AnyMap K (λ n. K) (λ b. K)
  keeps-kept = record {
    begins = λ t l c p room. p;
    less = λ t l c p. p;
    ends = λ t l c p. p;
    takes = λ n. takes-kept;
    touches = λ t l c b p. p;
    copies = λ s b g may sound fact p. cleaned-tokens Kept puts-kept (record s { tokens = with_held s.tokens b g }) b (kept_put s.tokens p b g fact.stamp);
    owns = λ t l c b g may sound fact p. kept_put t p b g fact.stamp;
    logs = λ s i outer sound p. logs-tokens Kept puts-kept s i p;
    puts = λ s b value sound may p. changes-tokens Kept puts-kept s b value p;
    puts_owned = λ s b value sound may p. changes-tokens Kept puts-kept s b value p;
    lets_owned = λ s b sound p. gone-tokens Kept puts-kept s b p;
  }

no_stamp_falls : (client : Client) (what : Do) → PhaseAsks client.phase → NoStampFalls client what
no_stamp_falls client what asks s t block fact becomes =
    let old : Stamp = (held_at s block).stamp in
    subst (WhereItServes (At (K block old))) becomes
    (serves-so AnyBlock AnyMap (K block old) (λ n. K block old) (λ b. K block old) (keeps-kept block old) client s what fact (arrives_any (Serves s) what)
    (brings_any what) (subst PhaseAsks fact asks) (not_later_itself old))

pub stamps_never_fall : StampsNeverFallAlways
stamps_never_fall number setup works events what =
    no_stamp_falls (after_events (client_start number setup works) events) what
    (after-asks (client_start number setup works) events (first_asks number setup works))
