-- A get of a block that another client owns and has not settled: Want, Recall, the owner's segment, its Deltas once more and its Gave; and then as if the owner had had a
-- copy at most. From one drained state to the next.
use Rattle.std.proofs.Common.{◌≡◌, ◌⊎◌, inl, inr, ℕ, suc, ◌+◌, ◌-◌, ◌*◌, ◌<◌, ◌≤◌, Bool, true, false, cond, List, [], ◌∷◌, Option, Some, None, refl, sym, ap, subst, ◌∙◌, arith}
use Rattle.std.specs.Prelude.{slice_get}
use Rattle.client_node.specs.Serving.{cached_upto}
use Rattle.core_world.specs.declared.any_node.AnyNode.{AnyNode}
use Rattle.node_base.specs.Setups.{IsSetup}
use Rattle.quiet_flow.specs.Flow.{Stage}
use Rattle.slot_beliefs.proofs.Shares.{belief, less}
use Rattle.slot_beliefs.specs.Beliefs.{holder, others, share, share_of}
use Rattle.slot_beliefs.specs.declared.job.Holder.{Holder}
use Rattle.token_client.proofs.Tables.{InOrder, in_order-put}
use Rattle.token_client.specs.Held.{is_dirty}
use Rattle.token_client.specs.State.{held_of}
use Rattle.token_manager.specs.SlotState.{SlotState}
use Rattle.version_model.specs.declared.work.Work.{Work}
use Rattle.version_model.specs.declared.work.Work.TheVariants as work
use Rattle.xfs_base.specs.Blocks.{slot_of}
use Rattle.xfs_base.specs.declared.block.BlockId.{BlockId}
use Rattle.xfs_base.specs.declared.node.NodeId.{NodeId}
use Rattle.xfs_base.specs.declared.node.NodeId.TheVariants.{Client}
use Rattle.xfs_base.specs.declared.setup.Setup.{Setup}
use Rattle.xfs_base.specs.declared.token.Mode.{Mode}
use Rattle.xfs_base.specs.declared.token.Mode.TheVariants.{Copy, Nothing, Own}
use Rattle.xfs_base.specs.Modes.{is_nothing}
use Rattle.quiet_gets.proofs.GetAsking as asking
use Rattle.quiet_run.proofs.Few.{ends_later_more, fetching_few}
use Rattle.quiet_run.proofs.OrderKept.{settled_ordered}
use Rattle.quiet_gets.proofs.FromCopies.{from_copies}
use Rattle.quiet_gets.specs.Laws.{told_nodes}
use Rattle.quiet_gets.specs.Passing.{AreInOrder}
use Rattle.quiet_law.specs.Drained.{Drained, IsCalm, mode_number, most_steps}
use Rattle.quiet_law.specs.Lines.{Ends, EndsAfterRound, IsNext, Stands, fetching, sealing}
use Rattle.quiet_law.proofs.AsIf.{either_as_if}
use Rattle.quiet_law.proofs.Changing.{each_of}
use Rattle.quiet_law.proofs.Keeping.{put_each}
use Rattle.quiet_law.proofs.Ordered.{IsInOrder}
use Rattle.quiet_law.proofs.Writes.{ends_more}
use Rattle.quiet_nodes.specs.Scene.{ClientPart, Scene}
use Rattle.quiet_nodes.proofs.Rooms.{slot_within}
use Rattle.quiet_nodes.proofs.Tests.{other_test, same_test}
use Rattle.quiet_gives.proofs.BeliefsGiven.{given_copy, given_else, none_left}
use Rattle.quiet_gives.proofs.GivingUp.{gone}
use Rattle.quiet_gives.proofs.OwnerAsIf as as_if
use Rattle.quiet_gives.proofs.OwnerDrained.{drained_then}
use Rattle.quiet_gives.proofs.OwnerFacts as own
use Rattle.quiet_gives.proofs.OwnerFacts.{IsOwners}
use Rattle.quiet_law.proofs.Listed.{listed_alone}
use Rattle.quiet_gives.proofs.OwnerWay as way
use Rattle.quiet_gives.proofs.PutsFromDirty as owned
use Rattle.quiet_gives.proofs.Recalling as recalling
use Rattle.token_manager.proofs.Guarded.{sorted-give_way}

copy_is : (x : Option Bool) → share x ≡ 1 → x ≡ Some false
copy_is None h = absurd (omega (arith, h))
copy_is (Some true) h = absurd (omega (arith, h))
copy_is (Some false) h = refl

holds_none : (n : Mode) (shares : ℕ) → shares ≡ 0 → mode_number n ≤ shares → is_nothing n ≡ true
holds_none Nothing shares is h = refl
holds_none Copy shares is h = absurd (omega (arith, is, h))
holds_none Own shares is h = absurd (omega (arith, is, h))

module _ (setup : Setup) (works : NodeId → List Work) (k : ℕ) (s : Scene) (t : Stage AnyNode) (c o : ℕ) (d : Drained setup works k s) (stands : Stands setup works s t)
    (ok : IsSetup setup) (few : suc k < most_steps) (b : BlockId) (next : IsNext setup works s c (work.Bget c b)) (owner : (1 ≤ o) × (o ≤ setup.clients))
    (differ : o ≡ c → ⊥) (dirty : is_dirty (held_of (s.client o).blocks b) ≡ true) (ordered : AreInOrder setup works s) where
  abbrev i : ℕ
  i = slot_of b.ino.0

  abbrev item : ℕ
  item = (s.client c).begun + 1

  within : i < 8
  within = slot_within b.ino.0

  calm : IsCalm setup k (s.slot i)
  calm = d.slots i within

  less_steps : k < most_steps
  less_steps = omega (arith, few)

  -- who asks has nothing of it
  nothing : is_nothing (held_of (s.client c).blocks b).mode ≡ true
  nothing =
      holds_none (held_of (s.client c).blocks b).mode (share_of (s.slot i).beliefs b c)
      (owned.none_else setup works k s c o b d next.client owner differ dirty c (λ same. differ (sym same)))
      ((d.square c i next.client.0 next.client.1 within).covered b refl)

  abbrev asked : ClientPart
  asked = asking.asked setup works k s c d less_steps b next nothing

  its : IsOwners setup works k s c o b Copy
  its = owned.is_owners setup works k s c o b d next.client owner differ dirty ok few Copy refl

  abbrev m : Scene
  m = as_if.m setup works k s c o b Copy its asked

  abbrev q : ClientPart
  q = way.q setup works k s c o b Copy its asked

  abbrev zg : SlotState
  zg = way.zg setup works k s c o b Copy its asked

  same : m.client c ≡ s.client c
  same = ap (λ t. cond t q (s.client c)) (other_test c o (λ is. differ (sym is)))

  slot_is : m.slot i ≡ zg
  slot_is = ap (λ t. cond t zg (as_if.slot_then setup works k s c o b Copy its asked i)) (same_test i)

  owns : belief (s.slot i).beliefs (holder b o) ≡ Some true
  owns = owned.owns setup works k s c o b d next.client owner differ dirty

  -- ---- who holds it then

  no_owner : others zg.beliefs b c true ≡ []
  no_owner = none_left b c o differ (s.slot i).beliefs false owns (owned.listed setup works k s c o b d next.client owner differ dirty true)

  zg_ordered : IsInOrder zg.beliefs
  zg_ordered = sorted-give_way (s.slot i).beliefs (holder b o) true calm.ordered

  copies : belief zg.beliefs (holder b o) ≡ Some false
  copies = copy_is (belief zg.beliefs (holder b o)) (given_copy (s.slot i).beliefs (holder b o) calm.ordered owns)

  none_else_then : (x : ℕ) → (x ≡ o → ⊥) → share_of zg.beliefs b x ≡ 0
  none_else_then x other =
      given_else (s.slot i).beliefs (holder b o) calm.ordered true (holder b x) (λ is. other (ap (λ (h : Holder). h.client) is))
      ∙ owned.none_else setup works k s c o b d next.client owner differ dirty x other

  one_holder : others zg.beliefs b c false ≡ o ∷ []
  one_holder = listed_alone b c o false differ false refl zg.beliefs zg_ordered copies none_else_then

  -- ---- the scene is in order

  q_ordered : InOrder q.blocks
  q_ordered =
      in_order-put b (gone setup works o (way.fed_part setup works k s c o b Copy its asked) b (own.st setup works k s c o b Copy) (way.keep setup works k s c o b Copy its asked)) (way.fed_part setup works k s c o b Copy its asked).blocks
      (settled_ordered (cached_upto setup.cache) (record { blocks = own.given setup works k s c o b Copy its; cached = (s.client o).cached }) (own.rows setup works k s c o b Copy its)
      (in_order-put b (recalling.giving_held setup works o (s.client o) b (own.st setup works k s c o b Copy) (way.keep setup works k s c o b Copy its asked)) (s.client o).blocks (ordered o owner.0 owner.1)))

  m_ordered : AreInOrder setup works m
  m_ordered e = put_each (λ e (x : ClientPart). 1 ≤ e → e ≤ setup.clients → InOrder x.blocks) s.client o q (λ _ _. q_ordered) ordered e

  -- ---- and the get goes on as if it had been so

  next_then : IsNext setup works m c (work.Bget c b)
  next_then = record {
    client = next.client;
    few = next.few;
    next = ap (λ (x : ClientPart). slice_get (works (Client c)) x.begun) same ∙ next.next;
  }

  abbrev Either : ℕ → ℕ → ℕ → ℕ → Scene → Stage AnyNode → Type 0
  Either n before more number u t' =
      Ends setup works (suc k) n u t' c number ⊎ EndsAfterRound setup works (suc k) before more u t' c number

  abbrev more : ℕ
  more = 2 + told_nodes setup + fetching setup works m b

  as_copies : (t' : Stage AnyNode) → Stands setup works m t' → Either 3 2 more item m t'
  as_copies t' stands' =
      subst (λ (x : ClientPart). Either 3 2 more (x.begun + 1) m t') same
      (from_copies setup works ok (suc k) m t' c b o [] few (drained_then setup works k s c o b Copy its asked) stands' m_ordered next_then
      (ap (λ (x : ClientPart). is_nothing (held_of x.blocks b).mode) same ∙ nothing)
      (ap (λ (y : SlotState). others y.beliefs b c false) slot_is ∙ one_holder)
      (ap (λ (y : SlotState). others y.beliefs b c true) slot_is ∙ no_owner))

  begun_same : (e : ℕ) → (m.client e).begun ≡ (s.client e).begun
  begun_same = put_each (λ e (x : ClientPart). x.begun ≡ (s.client e).begun) s.client o q refl (λ e. refl)

  fewer_then : (x : ℕ) → x < 8 → (y : BlockId) (e : ℕ) → 1 ≤ share_of (m.slot x).beliefs y e → 1 ≤ share_of (s.slot x).beliefs y e
  fewer_then x less_eight =
      each_of (as_if.slot_then setup works k s c o b Copy its asked) m.slot i zg (λ n differs. ap (λ t. cond t zg (as_if.slot_then setup works k s c o b Copy its asked n)) (other_test n i differs)) slot_is
      (λ n (z : SlotState). (y : BlockId) (e : ℕ) → 1 ≤ share_of z.beliefs y e → 1 ≤ share_of (s.slot n).beliefs y e)
      (λ y e has. chain (share_of zg.beliefs y e) (share_of (s.slot i).beliefs y e) has (less (s.slot i).beliefs (holder b o) (holder y e) true calm.ordered))
      (λ n differs y e has. has) x
    where
      chain : (a n : ℕ) → 1 ≤ a → a ≤ n → 1 ≤ n
      chain a n h g = omega arith

  either : Either (way.count setup works k s c o b Copy its asked + (3 - 1)) (way.count setup works k s c o b Copy its asked + (2 - 1)) more item s t
  either =
      either_as_if setup works (suc k) s m (way.s9 setup works k s c o b Copy its asked) (as_if.last setup works k s c o b Copy its asked) t c item (way.count setup works k s c o b Copy its asked) asked (way.want_packet setup works k s c o b Copy its asked) (way.rest setup works k s c o b Copy its asked) (way.filed setup works k s c o b Copy its asked ∷ []) stands
      next.client.0 next.client.1 same (asking.asks_so setup works k s c d less_steps b next nothing) (way.really setup works k s c o b Copy its asked) (as_if.as_if setup works k s c o b Copy its asked no_owner) (as_if.alike setup works k s c o b Copy its asked) refl
      begun_same fewer_then 3 2 more as_copies

  -- ---- counts

  more_is : more ≤ 2 + told_nodes setup + 16
  more_is = (let fetched = fetching_few setup works ok m b in bounded (told_nodes setup) (fetching setup works m b) fetched)
    where
      bounded : (n x : ℕ) → x ≤ 16 → 2 + n + x ≤ 2 + n + 16
      bounded n x h = omega arith

  count_some : way.count setup works k s c o b Copy its asked + (3 - 1) ≤ 2 * sealing setup works s o + 23
  count_some = (let is = way.count_is setup works k s c o b Copy its asked in by (way.count setup works k s c o b Copy its asked) (sealing setup works s o) is)
    where
      by : (a x : ℕ) → a ≡ 2 * x + 21 → a + (3 - 1) ≤ 2 * x + 23
      by a x h = omega arith

  count_before : way.count setup works k s c o b Copy its asked + (2 - 1) ≤ 2 * sealing setup works s o + 22
  count_before = (let is = way.count_is setup works k s c o b Copy its asked in by (way.count setup works k s c o b Copy its asked) (sealing setup works s o) is)
    where
      by : (a x : ℕ) → a ≡ 2 * x + 21 → a + (2 - 1) ≤ 2 * x + 22
      by a x h = omega arith

  pub gets_from_dirty : Either (2 * sealing setup works s o + 23) (2 * sealing setup works s o + 22) (2 + told_nodes setup + 16) item s t
  gets_from_dirty = by_case either
    where
      by_case : Either (way.count setup works k s c o b Copy its asked + (3 - 1)) (way.count setup works k s c o b Copy its asked + (2 - 1)) more item s t
          → Either (2 * sealing setup works s o + 23) (2 * sealing setup works s o + 22) (2 + told_nodes setup + 16) item s t
      by_case (inl e) = inl (ends_more setup works (suc k) (way.count setup works k s c o b Copy its asked + (3 - 1)) (2 * sealing setup works s o + 23) s t c item count_some e)
      by_case (inr e) = inr (ends_later_more setup works (suc k) (way.count setup works k s c o b Copy its asked + (2 - 1)) more
          (2 * sealing setup works s o + 22) (2 + told_nodes setup + 16) s t c item count_before more_is e)
