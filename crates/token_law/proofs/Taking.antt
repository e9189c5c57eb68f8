-- What a client acts and what it gets keeps the world seen.
use Rattle.std.specs.Prelude.{if◌then◌else◌}
use Rattle.std.proofs.Common.{◌≡◌, ℕ, Bool, true, false, nat_lt, List, [], ◌∷◌, ◌++◌, Option, Some, refl, sym, ap, subst, ◌∙◌, append-nil, arith}
use Rattle.xfs_base.specs.declared.block.BlockId.{BlockId}
use Rattle.xfs_base.specs.declared.entry.Entry.{Entry}
use Rattle.xfs_base.specs.declared.token.Mode.TheVariants.{Nothing, Copy, Own}
use Rattle.xfs_base.specs.declared.token.Stamp.{Stamp}
use Rattle.xfs_base.specs.Blocks.{same_block}
use Rattle.xfs_base.proofs.BlockOrder.{same_block_itself}
use Rattle.xfs_base.specs.Limits.{u64_end}
use Rattle.version_model.specs.declared.act.Act.TheVariants as act
use Rattle.act_tie.specs.BlockActs.{acts_of}
use Rattle.act_tie.specs.Number.{number}
use Rattle.act_tie.proofs.Onward.{acts_on}
use Rattle.token_client.specs.declared.input.In as inputs
use Rattle.token_client.specs.declared.input.In.TheVariants as input
use Rattle.token_client.specs.Held.{may_write}
use Rattle.token_client.specs.Laws.{IsSound}
use Rattle.token_client.specs.State.{held_of, is_in_slot}
use Rattle.token_client.specs.Transition as client
use Rattle.token_client.proofs.AllInputs.{transition-follows}
use Rattle.token_manager.specs.SlotState.{SlotState}
use Rattle.token_protocol.specs.Acts as block
use Rattle.token_protocol.specs.Acts.Act.{Wrote as WroteBlock}
use Rattle.token_protocol.specs.Basics.{In}
use Rattle.token_protocol.specs.Entry as abstract_entry
use Rattle.token_protocol.specs.Premises.{Premise, IsSupplied, PlaceRead}
use Rattle.token_protocol.specs.World.{World}
use Rattle.token_protocol.proofs.Invariant.{owned}
use Rattle.token_protocol.proofs.Laws.{epoch_promised}
use Rattle.token_protocol.proofs.Refining.{put_each}
use Rattle.token_tie.specs.Inputs as laws
use Rattle.token_tie.specs.Seen.{SentOffer, FetchShown, offer_seen, located, entry_seen}
use Rattle.token_tie.specs.Taken.{Acted, Took}
use Rattle.token_tie.proofs.ClientLaws.{takes_inputs, owns_and_writes, owns_and_declines}
use Rattle.token_tie.proofs.Elsewhere as elsewhere
use Rattle.token_tie.proofs.Takes.{at_block}
use Rattle.token_law.specs.Books.{said}
use Rattle.token_law.specs.Net.{Net, after_client, acted, acts_by, IsOwnAct, IsOfOther, IsServing}
use Rattle.token_law.specs.Net.Packet.{GrantSent, SupplySent}
use Rattle.token_law.specs.Owed.{ReadsThere}
use Rattle.token_law.proofs.Premises.{owed, owed_on, owed_both}
use Rattle.token_law.proofs.Logged.{Kept}
use Rattle.token_law.proofs.Views.{setting, View, Supplies, end_owed, client_view, quiet_view}
use Rattle.token_law.proofs.ClientViews.{shown_up}
use Rattle.token_law.proofs.Acting.{apart_blocks}
use Rattle.token_law.proofs.Standing.{Ran}

pub record Good (logs : Bool) (members part : ℕ) (n : Net) : Type 0 where
  pub sound : (c : ℕ) → IsSound (n.tokens c)
  pub ran : (e : ℕ) (s : SlotState) → n.slots e ≡ Some s → Ran s
  pub views : (b : BlockId) → is_in_slot part b ≡ true → View logs members part b n

module _ (logs : Bool) (members part : ℕ) (n : Net) (i : Good logs members part n) where
  pub ready : (b : BlockId) (v : View logs members part b n) (c end : ℕ) → IsServing logs members n c end
      → laws.Ready logs (setting b c (n.tokens c).inc) end v.world (n.tokens c)
  ready b v c end serves = record {
    shows = shown_up logs members part b n v c serves.some serves.within serves.up;
    sound = i.sound c;
    promised = epoch_promised v.world (owned logs members v.world v.steps) c (let m = v.many in let less = serves.within in omega arith);
    settled = end_owed logs members part b n v c end serves.end_is;
  }

  pub client_good : (c end : ℕ) (d : client.Done) → IsServing logs members n c end → IsSound d.state
      → ((b : BlockId) → is_in_slot part b ≡ true → (v : View logs members part b n) → Took logs (setting b c (n.tokens c).inc) end v.world d)
      → Good logs members part (after_client n c end d)
  client_good c end d serves sound took = record {
    sound = put_each (λ k x. IsSound x) n.tokens c d.state sound (λ k other. i.sound k);
    ran = i.ran;
    views = λ b inside. let v = i.views b inside in quiet_view logs members part b n v c end d serves.some serves.up (took b inside v);
  }

  pub transition_sound : (c : ℕ) (x : inputs.In) → IsSound (client.transition (n.tokens c) x).state
  transition_sound c x = (transition-follows (λ b. Unit {0}) (n.tokens c) (i.sound c) x (λ b h. tt)).sound

  -- ---- what a client acts

  own_brings : (b : BlockId) (c : ℕ) (w : World) (x : inputs.In) → IsOwnAct x → laws.Brings logs (setting b c (n.tokens c).inc) w (n.tokens c) x
  own_brings b c w (input.Need block mode) own = tt
  own_brings b c w (input.Granted block stamp inc req mode entry) own = absurd own
  own_brings b c w (input.Supplied block stamp inc req ver value) own = absurd own
  own_brings b c w (input.Forwarded block stamp ver) own = absurd own
  own_brings b c w (input.Recalled block stamp keep) own = absurd own
  own_brings b c w (input.Wrote block value) own = tt
  own_brings b c w (input.Settled block ver) own = absurd own
  own_brings b c w (input.Fetched block value) own = absurd own
  own_brings b c w (input.Evict block) own = tt
  own_brings b c w (input.Reask block) own = tt
  own_brings b c w (input.Quit block) own = tt
  own_brings b c w (input.Promise slot_ epoch) own = tt
  own_brings b c w input.Tick own = tt

  -- the writes of the block that a client's write is
  abbrev pub writes_of : BlockId → ℕ → BlockId → Option (List ℕ) → List block.Act
  writes_of b c k value = if same_block k b then WroteBlock c (number value) ∷ [] else []

  adds_write : (b : BlockId) (c : ℕ) (k : BlockId) (value : Option (List ℕ))
      → acts_of b n.acts ++ writes_of b c k value ≡ acts_of b (n.acts ++ act.Wrote c k value ∷ [])
  adds_write b c k value = sym (acts_on b n.acts (act.Wrote c k value))

  adds_none : (b : BlockId) → acts_of b n.acts ++ [] ≡ acts_of b (n.acts ++ [])
  adds_none b = append-nil (acts_of b n.acts) ∙ sym (ap (acts_of b) (append-nil n.acts))

  adds : (b : BlockId) (c : ℕ) (x : inputs.In)
      → acts_of b n.acts ++ laws.acts_seen (setting b c (n.tokens c).inc) (n.tokens c) x ≡ acts_of b (n.acts ++ acts_by c (n.tokens c) x)
  adds b c (input.Wrote k value) = go (may_write (held_of (n.tokens c).blocks k))
    where
      go : (t : Bool) → acts_of b n.acts ++ (if t then writes_of b c k value else []) ≡ acts_of b (n.acts ++ (if t then act.Wrote c k value ∷ [] else []))
      go true = adds_write b c k value
      go false = adds_none b
  adds b c (input.Need block mode) = adds_none b
  adds b c (input.Granted block stamp inc req mode entry) = adds_none b
  adds b c (input.Supplied block stamp inc req ver value) = adds_none b
  adds b c (input.Forwarded block stamp ver) = adds_none b
  adds b c (input.Recalled block stamp keep) = adds_none b
  adds b c (input.Settled block ver) = adds_none b
  adds b c (input.Fetched block value) = adds_none b
  adds b c (input.Evict block) = adds_none b
  adds b c (input.Reask block) = adds_none b
  adds b c (input.Quit block) = adds_none b
  adds b c (input.Promise slot_ epoch) = adds_none b
  adds b c input.Tick = adds_none b

  -- a client acts of its own accord
  pub acts_view : (b : BlockId) (v : View logs members part b n) (c end : ℕ) (x : inputs.In) → IsServing logs members n c end → IsOwnAct x
      → View logs members part b (acted (after_client n c end (client.transition (n.tokens c) x)) (acts_by c (n.tokens c) x))
  acts_view b v c end x serves own =
      let g = setting b c (n.tokens c).inc in
      let more = n.acts ++ acts_by c (n.tokens c) x in
      client_view logs members part b n v c end (laws.acts_seen g (n.tokens c) x) (client.transition (n.tokens c) x) more serves.some serves.up
      (takes_inputs logs g end v.world (n.tokens c) x (ready b v c end serves) (own_brings b c v.world x own))
      (owed logs (acts_of b n.acts ++ laws.acts_seen g (n.tokens c) x ≡ acts_of b more) (λ _. adds b c x))

  -- a grant to own of another block changes nothing here, and neither does its write
  owned_there : (b : BlockId) (v : View logs members part b n) (c end : ℕ) (block : BlockId) (stamp : Stamp) (inc req : ℕ) (entry : Entry)
      (value : Option (List ℕ)) → IsServing logs members n c end → (block ≡ b → ⊥)
      → Took logs (setting b c (n.tokens c).inc) end v.world (laws.granted_and_wrote (n.tokens c) stamp inc req block entry value)
  owned_there b v c end block stamp inc req entry value serves other =
      let g = setting b c (n.tokens c).inc in
      let s = n.tokens c in
      let d = client.on_granted s block stamp inc req Own entry in
      elsewhere.apart_took g logs end v.world s (laws.granted_and_wrote s stamp inc req block entry value)
      (elsewhere.apart_through g s d (client.on_wrote d.state block value) (elsewhere.on_granted-apart g block other s stamp inc req Own entry)
      (elsewhere.on_wrote-apart g block other d.state value))
      (shown_up logs members part b n v c serves.some serves.within serves.up)

  owns_acted : (b : BlockId) (v : View logs members part b n) (c end : ℕ) (block : BlockId) (stamp : Stamp) (inc req : ℕ) (entry : Entry)
      (value : Option (List ℕ)) → IsServing logs members n c end
      → (block ≡ b → SentOffer c v.world stamp inc req Own (entry_seen entry)) → client.accepts (n.tokens c) block stamp inc req Own ≡ true
      → nat_lt entry.ver u64_end ≡ true
      → Acted logs (setting b c (n.tokens c).inc) end v.world (writes_of b c block value) (laws.granted_and_wrote (n.tokens c) stamp inc req block entry value)
  owns_acted b v c end block stamp inc req entry value serves sent accepts room =
      let g = setting b c (n.tokens c).inc in
      at_block g
      (λ k. (k ≡ b → SentOffer c v.world stamp inc req Own (entry_seen entry)) → client.accepts (n.tokens c) k stamp inc req Own ≡ true
      → Acted logs g end v.world (writes_of b c k value) (laws.granted_and_wrote (n.tokens c) stamp inc req k entry value))
      (λ sent accepts. subst
      (λ t. Acted logs g end v.world (if t then WroteBlock c (number value) ∷ [] else []) (laws.granted_and_wrote (n.tokens c) stamp inc req b entry value))
      (sym (same_block_itself b))
      (owns_and_writes logs g end v.world (n.tokens c) stamp inc req entry value (ready b v c end serves) (sent refl) accepts room))
      (λ k other _ _. subst
      (λ t. Acted logs g end v.world (if t then WroteBlock c (number value) ∷ [] else []) (laws.granted_and_wrote (n.tokens c) stamp inc req k entry value))
      (sym (apart_blocks b k other))
      (owned_there b v c end k stamp inc req entry value serves other)) block sent accepts

  pub owns_view : (b : BlockId) (v : View logs members part b n) (c end : ℕ) (block : BlockId) (stamp : Stamp) (inc req : ℕ) (entry : Entry)
      (value : Option (List ℕ)) → IsServing logs members n c end
      → In (GrantSent c block stamp inc req Own entry) n.sent → client.accepts (n.tokens c) block stamp inc req Own ≡ true
      → nat_lt entry.ver u64_end ≡ true
      → View logs members part b
      (acted (after_client n c end (laws.granted_and_wrote (n.tokens c) stamp inc req block entry value)) (act.Wrote c block value ∷ []))
  owns_view b v c end block stamp inc req entry value serves fact accepts room =
      let more = n.acts ++ act.Wrote c block value ∷ [] in
      client_view logs members part b n v c end (writes_of b c block value)
      (laws.granted_and_wrote (n.tokens c) stamp inc req block entry value) more serves.some serves.up
      (owns_acted b v c end block stamp inc req entry value serves (v.sent _ fact) accepts room)
      (owed logs (acts_of b n.acts ++ writes_of b c block value ≡ acts_of b more) (λ _. adds_write b c block value))

  -- a grant that is let go
  declined_there : (b : BlockId) (v : View logs members part b n) (c end : ℕ) (block : BlockId) (stamp : Stamp) (inc req : ℕ) (entry : Entry)
      → IsServing logs members n c end → (block ≡ b → ⊥)
      → Took logs (setting b c (n.tokens c).inc) end v.world (laws.granted_and_evicted (n.tokens c) stamp inc req block entry)
  declined_there b v c end block stamp inc req entry serves other =
      let g = setting b c (n.tokens c).inc in
      let s = n.tokens c in
      let d = client.on_granted s block stamp inc req Own entry in
      elsewhere.apart_took g logs end v.world s (laws.granted_and_evicted s stamp inc req block entry)
      (elsewhere.apart_through g s d (client.on_evict d.state block) (elsewhere.on_granted-apart g block other s stamp inc req Own entry)
      (elsewhere.on_evict-apart g block other d.state))
      (shown_up logs members part b n v c serves.some serves.within serves.up)

  pub declines_took : (b : BlockId) (v : View logs members part b n) (c end : ℕ) (block : BlockId) (stamp : Stamp) (inc req : ℕ) (entry : Entry)
      → IsServing logs members n c end → (block ≡ b → SentOffer c v.world stamp inc req Own (entry_seen entry))
      → client.accepts (n.tokens c) block stamp inc req Own ≡ true
      → Took logs (setting b c (n.tokens c).inc) end v.world (laws.granted_and_evicted (n.tokens c) stamp inc req block entry)
  declines_took b v c end block stamp inc req entry serves sent accepts =
      at_block (setting b c (n.tokens c).inc)
      (λ k. (k ≡ b → SentOffer c v.world stamp inc req Own (entry_seen entry)) → client.accepts (n.tokens c) k stamp inc req Own ≡ true
      → Took logs (setting b c (n.tokens c).inc) end v.world (laws.granted_and_evicted (n.tokens c) stamp inc req k entry))
      (λ sent accepts. owns_and_declines logs (setting b c (n.tokens c).inc) end v.world (n.tokens c) stamp inc req entry (ready b v c end serves)
      (sent refl) accepts)
      (λ k other _ _. declined_there b v c end k stamp inc req entry serves other) block sent accepts

  -- ---- what a client gets

  -- what is supplied is the history's value, where logs keep their word
  pub supply_brings : (b : BlockId) (v : View logs members part b n) (c : ℕ) (block : BlockId) (stamp : Stamp) (inc req ver : ℕ) (value : Option (List ℕ))
      → In (SupplySent c block stamp inc req ver value) n.sent
      → laws.Brings logs (setting b c (n.tokens c).inc) v.world (n.tokens c) (input.Supplied block stamp inc req ver value)
  supply_brings b v c block stamp inc req ver value fact = λ same.
      let h = v.sent _ fact same in
      record {
        hop = h.0.hop;
        place = h.0.place;
        offer = subst (λ k. SentOffer c v.world stamp inc req Copy (located k h.0.hop h.0.place)) h.1 h.2;
        content = λ reigns. owed_on logs (Supplies stamp.epoch ver value v.world)
            (IsSupplied v.world (offer_seen c stamp inc req Copy (located ver h.0.hop h.0.place)) (number value))
            (λ s. record { content = (s reigns).content }) h.3;
      }

  -- what is read of a place is what was filed there
  pub fetch_brings : (b : BlockId) (v : View logs members part b n) (c end : ℕ) (block : BlockId) (value : Option (List ℕ)) → IsServing logs members n c end
      → Premise logs (ReadsThere n.books (n.tokens c) block value)
      → laws.Brings logs (setting b c (n.tokens c).inc) v.world (n.tokens c) (input.Fetched block value)
  fetch_brings b v c end block value serves there = λ same f fact.
      owed_both logs (Kept b n.books v.world) (ReadsThere n.books (n.tokens c) block value) (PlaceRead v.world c (number value))
      (λ kept reads.
      let w = v.world in
      let x = w.client c in
      let l = f.place.seg.name.log.0 in
      let q = f.place.seg.name.seq in
      let shown = (shown_up logs members part b n v c serves.some serves.within serves.up).fetch in
      let open_ : FetchShown (Some f) x.fetching x.fetch =
      subst (λ o. FetchShown o x.fetching x.fetch) (ap (λ (k : BlockId). (held_of (n.tokens c).blocks k).fetch) (sym same) ∙ fact) shown in
      record {
        content = ap number (reads f fact ∙ ap (λ (k : BlockId). (said n.books l q k).value) same)
            ∙ sym (ap (λ (r : abstract_entry.Row). r.value) (kept.says l q))
            ∙ sym (ap (λ (e : abstract_entry.Entry). (w.rows e.log e.segment).value) open_.1.1);
      })
      v.kept there

  -- an input about a block of another slot is about none of this slot
  of_other : (b block : BlockId) → is_in_slot part b ≡ true → is_in_slot part block ≡ false → block ≡ b → ⊥
  of_other b block inside outside same = let clash : false ≡ true = sym outside ∙ (ap (is_in_slot part) same ∙ inside) in absurd (cc)

  other_brings : (b : BlockId) (c : ℕ) (w : World) (x : inputs.In) → is_in_slot part b ≡ true → IsOfOther part x
      → laws.Brings logs (setting b c (n.tokens c).inc) w (n.tokens c) x
  other_brings b c w (input.Need block mode) inside other = absurd other
  other_brings b c w (input.Granted block stamp inc req Nothing entry) inside other = of_other b block inside other
  other_brings b c w (input.Granted block stamp inc req Copy entry) inside other = λ same. absurd (of_other b block inside other same)
  other_brings b c w (input.Granted block stamp inc req Own entry) inside other = of_other b block inside other
  other_brings b c w (input.Supplied block stamp inc req ver value) inside other = λ same. absurd (of_other b block inside other same)
  other_brings b c w (input.Forwarded block stamp ver) inside other = absurd other
  other_brings b c w (input.Recalled block stamp keep) inside other = λ same. absurd (of_other b block inside other same)
  other_brings b c w (input.Wrote block value) inside other = absurd other
  other_brings b c w (input.Settled block ver) inside other = absurd other
  other_brings b c w (input.Fetched block value) inside other = absurd other
  other_brings b c w (input.Evict block) inside other = absurd other
  other_brings b c w (input.Reask block) inside other = absurd other
  other_brings b c w (input.Quit block) inside other = absurd other
  other_brings b c w (input.Promise slot_ epoch) inside other = absurd other
  other_brings b c w input.Tick inside other = absurd other

  other_none : (b : BlockId) (c : ℕ) (x : inputs.In) → IsOfOther part x → laws.acts_seen (setting b c (n.tokens c).inc) (n.tokens c) x ≡ []
  other_none b c (input.Need block mode) other = absurd other
  other_none b c (input.Granted block stamp inc req mode entry) other = refl
  other_none b c (input.Supplied block stamp inc req ver value) other = refl
  other_none b c (input.Forwarded block stamp ver) other = absurd other
  other_none b c (input.Recalled block stamp keep) other = refl
  other_none b c (input.Wrote block value) other = absurd other
  other_none b c (input.Settled block ver) other = absurd other
  other_none b c (input.Fetched block value) other = absurd other
  other_none b c (input.Evict block) other = absurd other
  other_none b c (input.Reask block) other = absurd other
  other_none b c (input.Quit block) other = absurd other
  other_none b c (input.Promise slot_ epoch) other = absurd other
  other_none b c input.Tick other = absurd other

  pub other_took : (b : BlockId) → is_in_slot part b ≡ true → (v : View logs members part b n) (c end : ℕ) (x : inputs.In) → IsServing logs members n c end
      → IsOfOther part x
      → Took logs (setting b c (n.tokens c).inc) end v.world (client.transition (n.tokens c) x)
  other_took b inside v c end x serves other =
      let g = setting b c (n.tokens c).inc in
      subst (λ acts. Acted logs g end v.world acts (client.transition (n.tokens c) x)) (other_none b c x other)
      (takes_inputs logs g end v.world (n.tokens c) x (ready b v c end serves) (other_brings b c v.world x inside other))
