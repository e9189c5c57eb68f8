-- A put of a block that another client owns and has not settled: Want, Recall, the owner's segment, its Deltas once more and its Gave, and then the Grant, as if nobody
-- else had held the block. From one drained state to the next.
use Rattle.std.proofs.Common.{◌≡◌, ℕ, suc, ◌+◌, ◌-◌, ◌*◌, ◌<◌, ◌≤◌, true, false, cond, not, nat_lt, List, [], ◌∷◌, length, Option, Some, refl, sym, ap, subst, ◌∙◌, arith}
use Rattle.std.proofs.lemmas.Bool.{false≢true}
use Rattle.std.specs.Prelude.{Bool, slice_get}
use Rattle.xfs_base.specs.declared.node.NodeId.TheVariants.{Client}
use Rattle.core_world.specs.declared.any_node.AnyNode.{AnyNode}
use Rattle.log_flight.specs.Flights.{group_for}
use Rattle.node_base.specs.Setups.{IsSetup}
use Rattle.quiet_flow.specs.Flow.{Stage}
use Rattle.slot_beliefs.proofs.Shares.{belief, less}
use Rattle.slot_beliefs.specs.Beliefs.{holder, others, share_of}
use Rattle.token_client.specs.Held.{is_dirty}
use Rattle.token_client.specs.State.{held_of}
use Rattle.token_manager.specs.SlotState.{SlotState}
use Rattle.version_model.specs.declared.work.Work.{Work}
use Rattle.version_model.specs.declared.work.Work.TheVariants as work
use Rattle.xfs_base.specs.Blocks.{slot_of}
use Rattle.xfs_base.specs.declared.block.BlockId.{BlockId}
use Rattle.xfs_base.specs.declared.node.NodeId.{NodeId}
use Rattle.xfs_base.specs.declared.setup.Setup.{Setup}
use Rattle.xfs_base.specs.declared.token.Mode.{Mode}
use Rattle.xfs_base.specs.declared.token.Mode.TheVariants.{Copy, Nothing, Own}
use Rattle.xfs_base.specs.Modes.{is_nothing, is_own}
use Rattle.quiet_law.specs.Drained.{Drained, IsCalm, mode_number, most_steps}
use Rattle.quiet_law.specs.Lines.{Ends, IsNext, Stands, holders, sealing, tail}
use Rattle.quiet_law.proofs.Alone.{puts_alone}
use Rattle.quiet_law.proofs.AsIf.{ends_as_if}
use Rattle.quiet_law.proofs.Changing.{each_of}
use Rattle.quiet_law.proofs.Keeping.{put_each}
use Rattle.quiet_law.proofs.Writes.{ends_more}
use Rattle.quiet_nodes.specs.Scene.{ClientPart, Scene, its_groups}
use Rattle.quiet_nodes.proofs.Rooms.{slot_within}
use Rattle.quiet_nodes.proofs.Tests.{other_test, same_test}
use Rattle.quiet_script.specs.Quiet.{is_in_range}
use Rattle.quiet_gives.proofs.BeliefsGiven.{none_left, owner_is}
use Rattle.quiet_gives.proofs.OwnerDrained.{drained_then}
use Rattle.quiet_gives.proofs.OwnerFacts.{IsOwners}
use Rattle.quiet_law.proofs.Listed.{listed_alone}
use Rattle.quiet_gives.proofs.OwnerAsIf as as_if
use Rattle.quiet_gives.proofs.OwnerWay as way
use Rattle.quiet_law.proofs.PutAsking as asking

owns_two : (n : Mode) (share : ℕ) → is_own n ≡ true → mode_number n ≤ share → 2 ≤ share
owns_two Nothing share is h = absurd (false≢true is)
owns_two Copy share is h = absurd (false≢true is)
owns_two Own share is h = h

has_none : (n : Mode) (share : ℕ) → share ≡ 0 → mode_number n ≤ share → is_own n ≡ false
has_none Nothing share is h = refl
has_none Copy share is h = refl
has_none Own share is h = absurd (omega (arith, is, h))

-- ---- who holds the block

module _ (setup : Setup) (works : NodeId → List Work) (k : ℕ) (s : Scene) (c o : ℕ) (b : BlockId) (d : Drained setup works k s) (asker : (1 ≤ c) × (c ≤ setup.clients))
    (owner : (1 ≤ o) × (o ≤ setup.clients)) (differ : o ≡ c → ⊥) (dirty : is_dirty (held_of (s.client o).blocks b) ≡ true) where
  abbrev at_slot : ℕ
  at_slot = slot_of b.ino.0

  within : at_slot < 8
  within = slot_within b.ino.0

  calm : IsCalm setup k (s.slot at_slot)
  calm = d.slots at_slot within

  its_share : 2 ≤ share_of (s.slot at_slot).beliefs b o
  its_share =
      owns_two (held_of (s.client o).blocks b).mode (share_of (s.slot at_slot).beliefs b o) (((d.clients o owner.0 owner.1).blocks b).owned dirty)
      ((d.square o at_slot owner.0 owner.1 within).covered b refl)

  pub owns : belief (s.slot at_slot).beliefs (holder b o) ≡ Some true
  owns = owner_is (belief (s.slot at_slot).beliefs (holder b o)) its_share

  pub none_else : (x : ℕ) → (x ≡ o → ⊥) → share_of (s.slot at_slot).beliefs b x ≡ 0
  none_else x other = (let both = calm.alone b o x (λ same. other (sym same)) in let two = its_share in omega arith)

  -- nobody but the owner has to give way
  pub listed : (owners : Bool) → others (s.slot at_slot).beliefs b c owners ≡ o ∷ []
  listed owners = listed_alone b c o owners differ true refl (s.slot at_slot).beliefs calm.ordered owns none_else

  -- so the block is its owner's, in whichever mode it is wanted
  pub is_owners : IsSetup setup → suc k < most_steps → (mode : Mode) → is_nothing mode ≡ false → IsOwners setup works k s c o b mode
  is_owners ok few mode wants = record {
    drained = d;
    ok = ok;
    few = few;
    asker = asker;
    owner = owner;
    differ = differ;
    dirty = dirty;
    wants = wants;
    listed = listed (not (is_own mode));
  }

  -- and who asks doesn't own it
  pub asks : is_own (held_of (s.client c).blocks b).mode ≡ false
  asks =
      has_none (held_of (s.client c).blocks b).mode (share_of (s.slot at_slot).beliefs b c) (none_else c (λ same. differ (sym same)))
      ((d.square c at_slot asker.0 asker.1 within).covered b refl)

-- ---- the line

module _ (setup : Setup) (works : NodeId → List Work) (k : ℕ) (s : Scene) (t : Stage AnyNode) (c o : ℕ) (d : Drained setup works k s) (stands : Stands setup works s t)
    (ok : IsSetup setup) (few : suc k < most_steps) (b : BlockId) (value : Option (List ℕ)) (next : IsNext setup works s c (work.Bput c b value))
    (range : is_in_range setup (work.Bput c b value) ≡ true) (owner : (1 ≤ o) × (o ≤ setup.clients)) (differ : o ≡ c → ⊥)
    (dirty : is_dirty (held_of (s.client o).blocks b) ≡ true) where
  abbrev i : ℕ
  i = slot_of b.ino.0

  abbrev item : ℕ
  item = (s.client c).begun + 1

  less_steps : k < most_steps
  less_steps = omega (arith, few)

  asks_now : is_own (held_of (s.client c).blocks b).mode ≡ false
  asks_now = asks setup works k s c o b d next.client owner differ dirty

  abbrev asked : ClientPart
  asked = asking.asked setup works k s c d less_steps b value next asks_now

  its : IsOwners setup works k s c o b Own
  its = is_owners setup works k s c o b d next.client owner differ dirty ok few Own refl

  abbrev m : Scene
  m = as_if.m setup works k s c o b Own its asked

  abbrev q : ClientPart
  q = way.q setup works k s c o b Own its asked

  abbrev zg : SlotState
  zg = way.zg setup works k s c o b Own its asked

  same : m.client c ≡ s.client c
  same = ap (λ t. cond t q (s.client c)) (other_test c o (λ is. differ (sym is)))

  nobody_else : others zg.beliefs b c false ≡ []
  nobody_else =
      none_left b c o differ (s.slot i).beliefs true (owns setup works k s c o b d next.client owner differ dirty)
      (listed setup works k s c o b d next.client owner differ dirty false)

  nobody : holders setup works m c b ≡ []
  nobody = ap (λ (y : SlotState). others y.beliefs b c false) (ap (λ t. cond t zg (as_if.slot_then setup works k s c o b Own its asked i)) (same_test i)) ∙ nobody_else

  next_then : IsNext setup works m c (work.Bput c b value)
  next_then = record {
    client = next.client;
    few = next.few;
    next = ap (λ (x : ClientPart). slice_get (works (Client c)) x.begun) same ∙ next.next;
  }

  as_alone : (t' : Stage AnyNode) → Stands setup works m t' → Ends setup works (suc k) (2 + tail setup works m c) m t' c item
  as_alone t' stands' =
      subst (λ (x : ClientPart). Ends setup works (suc k) (2 + tail setup works m c) m t' c (x.begun + 1)) same
      (puts_alone setup works (suc k) m t' c (drained_then setup works k s c o b Own its asked) stands' ok few b value next_then range
      (ap (λ (x : ClientPart). is_own (held_of x.blocks b).mode) same ∙ asks_now) nobody)

  begun_same : (e : ℕ) → (m.client e).begun ≡ (s.client e).begun
  begun_same = put_each (λ e (x : ClientPart). x.begun ≡ (s.client e).begun) s.client o q refl (λ e. refl)

  fewer_then : (x : ℕ) → x < 8 → (y : BlockId) (e : ℕ) → 1 ≤ share_of (m.slot x).beliefs y e → 1 ≤ share_of (s.slot x).beliefs y e
  fewer_then x within =
      each_of (as_if.slot_then setup works k s c o b Own its asked) m.slot i zg (λ n differs. ap (λ t. cond t zg (as_if.slot_then setup works k s c o b Own its asked n)) (other_test n i differs))
      (ap (λ t. cond t zg (as_if.slot_then setup works k s c o b Own its asked i)) (same_test i))
      (λ n (z : SlotState). (y : BlockId) (e : ℕ) → 1 ≤ share_of z.beliefs y e → 1 ≤ share_of (s.slot n).beliefs y e)
      (λ y e has. (let fell = less (s.slot i).beliefs (holder b o) (holder y e) false (d.slots i (slot_within b.ino.0)).ordered in
      chain (share_of zg.beliefs y e) (share_of (s.slot i).beliefs y e) has fell))
      (λ n differs y e has. has) x
    where
      chain : (a n : ℕ) → 1 ≤ a → a ≤ n → 1 ≤ n
      chain a n h g = omega arith

  abbrev tail_of : ClientPart → ℕ
  tail_of x = cond (nat_lt (length x.dirty) 23) 0 (2 * length (group_for (its_groups setup works) c (x.end.seq + 1)).members + 16)

  tail_same : tail setup works m c ≡ tail setup works s c
  tail_same = ap tail_of same

  counts : (n a t u : ℕ) → n ≡ 2 * a + 21 → t ≡ u → n + ((2 + t) - 1) ≤ 2 * a + 22 + u
  counts n a t u h g = omega arith

  pub puts_from_dirty : Ends setup works (suc k) (2 * sealing setup works s o + 22 + tail setup works s c) s t c item
  puts_from_dirty =
      ends_more setup works (suc k) (way.count setup works k s c o b Own its asked + ((2 + tail setup works m c) - 1)) (2 * sealing setup works s o + 22 + tail setup works s c) s t c item
      (counts (way.count setup works k s c o b Own its asked) (sealing setup works s o) (tail setup works m c) (tail setup works s c) (way.count_is setup works k s c o b Own its asked) tail_same)
      (ends_as_if setup works (suc k) s m (way.s9 setup works k s c o b Own its asked) (as_if.last setup works k s c o b Own its asked) t c item (way.count setup works k s c o b Own its asked) asked (way.want_packet setup works k s c o b Own its asked) (way.rest setup works k s c o b Own its asked) (way.filed setup works k s c o b Own its asked ∷ []) stands
      next.client.0 next.client.1 same (asking.asks_so setup works k s c d less_steps b value next asks_now) (way.really setup works k s c o b Own its asked) (as_if.as_if setup works k s c o b Own its asked nobody_else) (as_if.alike setup works k s c o b Own its asked) refl
      begun_same fewer_then (2 + tail setup works m c) as_alone)
