-- A step of the latest manager, and one of a deposed manager, as the world is seen.
use Rattle.std.proofs.Common.{◌≡◌, ℕ, ◌+◌, ◌≤◌, ◌<◌, Bool, List, [], ◌∷◌, ◌++◌, ⊎_elim, Some, None, refl, sym, ap, subst, ◌∙◌, append-nil, arith}
use Rattle.xfs_base.specs.declared.block.BlockId.{BlockId}
use Rattle.xfs_base.specs.declared.token.Stamp.{Stamp}
use Rattle.token_manager.specs.declared.output.Out as tellings
use Rattle.token_manager.specs.declared.output.Out.TheVariants as telling
use Rattle.token_manager.specs.SlotState.{SlotState}
use Rattle.token_manager.specs.Transition as slot
use Rattle.token_manager.proofs.Guarded.{Sound}
use Rattle.token_protocol.specs.Basics.{put, In}
use Rattle.token_protocol.specs.World.{World, start}
use Rattle.token_tie.specs.Managed as managed
use Rattle.token_tie.specs.Managed.{AllTold}
use Rattle.token_law.specs.Net.{Packet, Net, slot_packets, after_slot}
use Rattle.token_manager.specs.Laws.{CountsTurns}
use Rattle.token_protocol.proofs.Refining.{put_each}
use Rattle.token_tie.proofs.Frames.{put_here, put_there}
use Rattle.token_protocol.specs.Told.{told}
use Rattle.token_protocol.proofs.Told.{steps_through, told_through}
use Rattle.act_tie.specs.BlockActs.{acts_of}
use Rattle.token_law.proofs.Premises.{owed_on}
use Rattle.token_law.proofs.Logged.{Kept}
use Rattle.token_law.proofs.Views.{either_in, ClientShown, some_one, Carried, IsNobody, View, lasts_by, carried_on}
use Rattle.token_law.proofs.ClientViews.{same_world}

module _ (logs : Bool) (members part : ℕ) (b : BlockId) (n : Net) (v : View logs members part b n) where
  abbrev pub w : World
  w = v.world

  pub told_carried : (u : World) (outs : List tellings.Out) → AllTold b u outs → (p : Packet) → In p (slot_packets outs) → Carried logs part b u p
  told_carried u [] told_ p fact = absurd fact
  told_carried u (telling.Grant client_ block stamp inc req mode entry ∷ os) told_ p fact =
      ⊎_elim (λ e. subst (Carried logs part b u) (sym e) told_.0) (λ r. told_carried u os told_.1 p r) fact
  told_carried u (telling.Forward passer block stamp client_ inc req ver ∷ os) told_ p fact =
      ⊎_elim (λ e. subst (Carried logs part b u) (sym e) told_.0) (λ r. told_carried u os told_.1 p r) fact
  told_carried u (telling.Recall client_ block stamp keep ∷ os) told_ p fact =
      ⊎_elim (λ e. subst (Carried logs part b u) (sym e) told_.0) (λ r. told_carried u os told_.1 p r) fact
  told_carried u (telling.Applied log upto_ ∷ os) told_ p fact = told_carried u os told_.1 p fact
  told_carried u (telling.Live entry ∷ os) told_ p fact = told_carried u os told_.1 p fact
  told_carried u (telling.Dead ∷ os) told_ p fact = told_carried u os told_.1 p fact

  -- the reigning manager's
  pub slot_view : (d : slot.Done) → d.state.epoch ≡ v.slot.epoch → Sound d.state → managed.Runs logs b w d → View logs members part b (after_slot n w.epoch d)
  slot_view d stays sound t =
      let same = t.frame.others in
      let epoch : t.world.epoch ≡ w.epoch = ap (λ (u : World). u.epoch) same in
      record {
        world = t.world;
        steps = steps_through (start members) w t.world v.steps t.steps;
        many = ap (λ (u : World). u.members) same ∙ v.many;
        some = v.some;
        nobody = subst (λ (u : World). IsNobody (u.client 0) u.epoch) (sym same) v.nobody;
        positive = let p = v.positive in omega arith;
        clients = λ k pos less. subst (λ (u : World). ClientShown (n.up k) b k (n.tokens k) u.epoch (u.client k)) (sym same) (v.clients k pos less);
        fell = λ k pos less down dirty. ap (λ (u : World). u.fallen k) same ∙ v.fell k pos less down dirty;
        slot = d.state;
        sound = sound;
        reigns = ap (put n.slots w.epoch (Some d.state)) epoch ∙ put_here n.slots w.epoch (Some d.state);
        manages = t.shows;
        past = put_each (λ e o. (s : SlotState) → o ≡ Some s → (e ≤ t.world.epoch) × (s.epoch ≡ e)) n.slots w.epoch (Some d.state)
            (λ s fact. (omega arith, ap (λ (x : SlotState). x.epoch) (sym (some_one d.state s fact)) ∙ stays ∙ v.manages.epoch))
            (λ e other s fact. (let p = (v.past e s fact).0 in omega arith, (v.past e s fact).1));
        sent = λ p fact. ⊎_elim (λ new. told_carried t.world d.outs t.told p new)
            (λ old. carried_on logs part b w t.world p (record {
              epoch = epoch;
              wants = λ x h. subst (In x) (sym (ap (λ (u : World). u.wants) same)) h;
              gaves = λ x h. subst (In x) (sym (ap (λ (u : World). u.gaves) same)) h;
              offers = t.frame.offers;
              recalls = t.frame.recalls;
              reports = λ x h. subst (In x) (sym (ap (λ (u : World). u.reports) same)) h;
              lasts = lasts_by logs members w t.world v.steps t.steps;
            }) (v.sent p old))
            (either_in p (slot_packets d.outs) n.sent fact);
        kept = owed_on logs (Kept b n.books w) (Kept b n.books t.world) (subst (λ (u : World). Kept b n.books u) (sym same)) v.kept;
        acts = owed_on logs (told (start members) w v.steps ≡ acts_of b n.acts)
            (told (start members) t.world (steps_through (start members) w t.world v.steps t.steps) ≡ acts_of b n.acts)
            (λ old. told_through logs (start members) w t.world v.steps t.steps ∙ (λ i. old i ++ t.quiet i) ∙ append-nil (acts_of b n.acts)) v.acts;
      }

  -- what a deposed manager says is heard by nobody
  pub stale_carried : (epoch turn last : ℕ) (outs : List tellings.Out) → epoch < w.epoch → CountsTurns epoch turn outs last → (p : Packet)
      → In p (slot_packets outs) → Carried logs part b w p
  stale_carried epoch turn last [] old turns p fact = absurd fact
  stale_carried epoch turn last (telling.Grant client_ block stamp inc req mode entry ∷ os) old turns p fact =
      ⊎_elim (λ e. subst (Carried logs part b w) (sym e)
      (λ _. let at_epoch = ap (λ (x : Stamp). x.epoch) turns.0 in let at_turn = ap (λ (x : Stamp). x.turn) turns.0 in
      record { low = omega arith; some = omega arith; offered = λ reigns. absurd (omega arith) }))
      (λ r. stale_carried epoch (turn + 1) last os old turns.1 p r) fact
  stale_carried epoch turn last (telling.Forward passer block stamp client_ inc req ver ∷ os) old turns p fact =
      ⊎_elim (λ e. subst (Carried logs part b w) (sym e)
      (λ _. let at_epoch = ap (λ (x : Stamp). x.epoch) turns.0 in let at_turn = ap (λ (x : Stamp). x.turn) turns.0 in
      (record { ver = ver; hop = 0; place = None }, refl, record { low = omega arith; some = omega arith; offered = λ reigns. absurd (omega arith) })))
      (λ r. stale_carried epoch (turn + 1) last os old turns.1 p r) fact
  stale_carried epoch turn last (telling.Recall client_ block stamp keep ∷ os) old turns p fact =
      ⊎_elim (λ e. subst (Carried logs part b w) (sym e)
      (λ _. let at_epoch = ap (λ (x : Stamp). x.epoch) turns.0 in let at_turn = ap (λ (x : Stamp). x.turn) turns.0 in
      record { low = omega arith; some = omega arith; recalled = λ reigns. absurd (omega arith) }))
      (λ r. stale_carried epoch (turn + 1) last os old turns.1 p r) fact
  stale_carried epoch turn last (telling.Applied log upto_ ∷ os) old turns p fact = stale_carried epoch turn last os old turns p fact
  stale_carried epoch turn last (telling.Live entry ∷ os) old turns p fact = stale_carried epoch turn last os old turns p fact
  stale_carried epoch turn last (telling.Dead ∷ os) old turns p fact = stale_carried epoch turn last os old turns p fact

  -- a manager's that doesn't reign
  pub stale_view : (e : ℕ) (x : SlotState) (outs : List Packet) → e < w.epoch → x.epoch ≡ e → ((p : Packet) → In p outs → Carried logs part b w p)
      → View logs members part b (record n { slots = put n.slots e (Some x); sent = outs ++ n.sent })
  stale_view e x outs old is_of new =
      same_world logs members part b n v (put n.slots e (Some x)) (outs ++ n.sent)
      (put_there n.slots e (Some x) w.epoch (λ same. absurd (omega arith)) ∙ v.reigns)
      (put_each (λ k o. (s : SlotState) → o ≡ Some s → (k ≤ w.epoch) × (s.epoch ≡ k)) n.slots e (Some x)
      (λ s fact. (omega arith, ap (λ (z : SlotState). z.epoch) (sym (some_one x s fact)) ∙ is_of)) (λ k other s fact. v.past k s fact))
      (λ p fact. ⊎_elim (new p) (λ h. v.sent p h) (either_in p outs n.sent fact))
