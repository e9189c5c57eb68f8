-- What the manager that reigns in the small world of tokens believes of a client: a copy, where the client reads the block, or would still accept a copy that was
-- offered to it.
use Rattle.std.proofs.Common.{◌≡◌, ℕ, ◌≤◌, Bool, true, List, Option, None, Some, is_some, refl, sym, ap, subst, ◌∙◌, arith}
use Rattle.slot_beliefs.specs.Beliefs.{share_of}
use Rattle.token_client.specs.declared.held.Fetch.{Fetch}
use Rattle.token_client.specs.State.{epoch_of, held_of}
use Rattle.token_client.specs.Transition.{accepts}
use Rattle.token_law.proofs.ClientViews.{shown_up}
use Rattle.token_law.proofs.Laws.{seen}
use Rattle.token_law.proofs.Views.{View, setting, some_one}
use Rattle.token_law.specs.Laws.{ActiveEpochsPromised, IsClient, Moment, Reigns}
use Rattle.token_law.specs.Net.{Net}
use Rattle.token_law.specs.Net.Packet.{ForwardSent, SupplySent}
use Rattle.token_manager.specs.SlotState.{SlotState}
use Rattle.token_protocol.proofs.Invariant.{Owned, owned}
use Rattle.token_protocol.proofs.Laws.{acceptable_believed, beliefs_cover, epoch_promised}
use Rattle.token_protocol.specs.Basics.{In}
use Rattle.token_protocol.specs.Entry as abstract
use Rattle.token_protocol.specs.World.{World}
use Rattle.token_tie.proofs.Leaves.{taking}
use Rattle.token_tie.specs.Seen.{FetchShown, SentOffer, Shows, entry_seen, local_of}
use Rattle.xfs_base.proofs.Booleans.{contrary}
use Rattle.xfs_base.specs.declared.block.BlockId.{BlockId}
use Rattle.xfs_base.specs.declared.entry.Entry.{Entry}
use Rattle.xfs_base.specs.declared.token.Mode.TheVariants.{Copy}
use Rattle.xfs_base.specs.declared.token.Stamp.{Stamp}

-- a manager at the very epoch that a client has promised reigns: each epoch that ever had a manager every client has promised
pub reigns_where_promised : ActiveEpochsPromised → (logs : Bool) (members part : ℕ) (n : Net) (b : BlockId) → Moment logs members part n b → (e : ℕ) (s : SlotState)
    → n.slots e ≡ Some s → (c : ℕ) → IsClient members c → e ≡ epoch_of (n.tokens c).epochs part → Reigns n e s
reigns_where_promised law logs members part n b m e s active c fact same =
    record { active = active; latest = λ k z there. (let high = law logs members part n b m k z there c fact in omega arith) }

-- something is read where a fetch is kept
fetches : (o : Option Fetch) (fetching : ℕ) (entry : abstract.Entry) → is_some o ≡ true → FetchShown o fetching entry → fetching ≡ 1
fetches None fetching entry some shown = contrary some
fetches (Some f) fetching entry some shown = shown.0

module _ (logs : Bool) (members part : ℕ) (n : Net) (b : BlockId) (m : Moment logs members part n b) (e : ℕ) (s : SlotState) (r : Reigns n e s) (c : ℕ)
    (fact : IsClient members c) (up : n.up c ≡ true) where
  abbrev v : View logs members part b n
  v = seen logs members part n b m c fact

  abbrev w : World
  w = v.world

  whole : Owned w
  whole = owned logs members w v.steps

  shown : Shows (setting b c (n.tokens c).inc) w.epoch (local_of (n.tokens c) b) (w.client c)
  shown = shown_up logs members part b n v c fact.some fact.within up

  -- the slot that reigns is the one that is seen
  reigning : s ≡ v.slot
  reigning =
      let above = r.latest w.epoch v.slot v.reigns in
      let below = (v.past e s r.active).0 in
      let same : e ≡ w.epoch = omega arith in
      some_one s v.slot (sym r.active ∙ ap n.slots same ∙ v.reigns)

  -- so what is believed there, it believes
  believed : 1 ≤ w.belief c → 1 ≤ share_of s.beliefs b c
  believed some =
      let least = v.manages.belief c in
      subst (λ (x : SlotState). 1 ≤ share_of x.beliefs b c) (sym reigning) (omega arith)

  pub fetches_believed : is_some (held_of (n.tokens c).blocks b).fetch ≡ true → 1 ≤ share_of s.beliefs b c
  fetches_believed reads =
      believed ((beliefs_cover w whole).fetched c (fetches (held_of (n.tokens c).blocks b).fetch (w.client c).fetching (w.client c).fetch reads shown.fetch))

  -- it has promised the epoch that reigns
  promised : w.epoch ≤ (w.client c).promised
  promised = epoch_promised w whole c (let all = v.many in let within = fact.within in omega arith)

  -- a copy that was offered, and that it would still accept
  offered_believed : (stamp : Stamp) (inc req : ℕ) (entry : Entry) → SentOffer c w stamp inc req Copy (entry_seen entry)
      → accepts (n.tokens c) b stamp inc req Copy ≡ true → 1 ≤ share_of s.beliefs b c
  offered_believed stamp inc req entry sent accepted =
      let may = taking logs (setting b c (n.tokens c).inc) 0 w (local_of (n.tokens c) b) stamp inc req Copy (entry_seen entry) shown promised sent accepted in
      believed (acceptable_believed w whole _ may.1.sent may.1.live)

  pub supplies_believed : (stamp : Stamp) (inc req ver : ℕ) (value : Option (List ℕ)) → In (SupplySent c b stamp inc req ver value) n.sent
      → accepts (n.tokens c) b stamp inc req Copy ≡ true → 1 ≤ share_of s.beliefs b c
  supplies_believed stamp inc req ver value sent accepted =
      let offer = v.sent (SupplySent c b stamp inc req ver value) sent refl in offered_believed stamp inc req offer.0 offer.2 accepted

  pub forwards_believed : (passer : ℕ) (stamp : Stamp) (inc req ver : ℕ) → In (ForwardSent passer c b stamp inc req ver) n.sent
      → accepts (n.tokens c) b stamp inc req Copy ≡ true → 1 ≤ share_of s.beliefs b c
  forwards_believed passer stamp inc req ver sent accepted =
      let offer = v.sent (ForwardSent passer c b stamp inc req ver) sent refl in offered_believed stamp inc req offer.0 offer.2 accepted
