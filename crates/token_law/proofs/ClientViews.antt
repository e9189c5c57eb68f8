-- Clients that fall and return, and clients that serve a Forward: the world is seen as before.
use Rattle.std.specs.Prelude.{if◌then◌else◌}
use Rattle.std.proofs.Common.{◌≡◌, ℕ, suc, ◌≤◌, ◌<◌, max, Bool, true, false, nat_lt, List, [], ◌∷◌, ◌++◌, ⊎_elim, Option, Some, None, refl, sym, ap, subst, ◌∙◌, arith}
use Rattle.std.proofs.lemmas.Bool.{ltb-false, ltb-true, eqb-true}
use Rattle.xfs_base.specs.declared.block.BlockId.{BlockId}
use Rattle.xfs_base.specs.declared.entry.Entry.{Entry}
use Rattle.xfs_base.specs.declared.segment.SegName.{SegName}
use Rattle.xfs_base.specs.declared.token.Mode.TheVariants.{Copy}
use Rattle.xfs_base.specs.declared.token.Stamp.{Stamp}
use Rattle.xfs_base.specs.Blocks.{slot_of}
use Rattle.xfs_base.proofs.Booleans.{contrary}
use Rattle.version_model.specs.declared.act.Act.{Act}
use Rattle.version_model.specs.declared.act.Act.TheVariants as act
use Rattle.version_model.specs.declared.act.Fall.{Fall}
use Rattle.version_model.specs.Effects.{history_after}
use Rattle.version_model.specs.History.{nothing_yet}
use Rattle.act_tie.specs.BlockActs.{fall_of, acts_of_fall, block_acts, acts_of}
use Rattle.act_tie.proofs.Onward.{acts_on}
use Rattle.slot_beliefs.specs.Recalls as slot
use Rattle.token_client.specs.declared.held.Held.{Held}
use Rattle.token_client.specs.Held.{is_dirty}
use Rattle.token_client.specs.State.{held_of, is_in_slot, epoch_of}
use Rattle.token_client.specs.State.{tokens_start as fresh_tokens}
use Rattle.token_client.specs.Transition as client
use Rattle.token_manager.specs.SlotState.{SlotState}
use Rattle.token_protocol.specs.Acts.Act.{Fell as FellBlock, Back as BackBlock}
use Rattle.token_protocol.specs.Basics.{put, In}
use Rattle.token_protocol.specs.Crashing.{MayRestart, down, back, crashes_dirty, crashes_clean, restarts_adopting, restarts_discarding}
use Rattle.token_protocol.specs.Entry.{Row}
use Rattle.token_protocol.specs.Premises.{Premise, TailAdopted}
use Rattle.token_protocol.specs.Step.{Step, Steps}
use Rattle.token_protocol.specs.Step.Step.{CrashesDirty, CrashesClean, RestartsAdopting, RestartsDiscarding}
use Rattle.token_protocol.specs.Step.Steps.{Done, More}
use Rattle.token_protocol.specs.Told.{tells, told}
use Rattle.token_protocol.specs.World.{World, start, flying_row}
use Rattle.token_protocol.proofs.Invariant.{always}
use Rattle.token_protocol.proofs.Laws.{holders_newest, offers_joined}
use Rattle.token_protocol.proofs.Refining.{put_each, put_each_two}
use Rattle.token_tie.specs.Managed.{JobShown, Manages}
use Rattle.token_tie.specs.Seen.{Shows, SentOffer, local_of, entry_seen}
use Rattle.token_tie.proofs.Frames.{put_here, put_there}
use Rattle.token_tie.proofs.TakingOver.{supplies_newest}
use Rattle.token_law.specs.Books.{Books, said, filed, discarded, reopened}
use Rattle.token_law.specs.Owed.{FallsSo, fall_from, adopts}
use Rattle.token_law.specs.Net.{Packet, Net, acted}
use Rattle.token_law.specs.Net.Packet.{ForwardSent, SupplySent}
use Rattle.token_law.proofs.Premises.{owed, owed_on, owed_both}
use Rattle.token_law.proofs.Logged.{flag, Kept, filed_seen, discarded_seen}
use Rattle.token_law.proofs.Views.{setting, IsDown, ClientShown, FellDirty, put_each_three, Supplies, Carried, IsNobody, View, Lasts, Grows, lasts_by, carried_on}

module _ (logs : Bool) (members part : ℕ) (b : BlockId) (n : Net) (v : View logs members part b n) where
  abbrev pub w : World
  w = v.world

  pub shown_up : (c : ℕ) → 0 < c → c < members → n.up c ≡ true → Shows (setting b c (n.tokens c).inc) w.epoch (local_of (n.tokens c) b) (w.client c)
  shown_up c pos less up = subst (λ u. ClientShown u b c (n.tokens c) w.epoch (w.client c)) up (v.clients c pos less)

  -- a step that tells of the block what an act is
  abbrev pub Tells : (u : World) → Step logs w u → Act → Type 0
  Tells u step a = tells w u step ≡ block_acts b (history_after n.acts nothing_yet) a

  pub acts_more : (u : World) (step : Step logs w u) (a : Act) → Premise logs (Tells u step a)
      → Premise logs (told (start members) u (More v.steps step) ≡ acts_of b (n.acts ++ a ∷ []))
  acts_more u step a h =
      owed_both logs (told (start members) w v.steps ≡ acts_of b n.acts) (Tells u step a)
      (told (start members) u (More v.steps step) ≡ acts_of b (n.acts ++ a ∷ []))
      (λ old new. (λ i. old i ++ new i) ∙ sym (acts_on b n.acts a)) v.acts h

  pub same_manager : (u : World) → u.epoch ≡ w.epoch → u.turn ≡ w.turn → ((d : ℕ) → u.belief d ≡ w.belief d) → ((d : ℕ) → u.applied d ≡ w.applied d)
      → u.index ≡ w.index → JobShown (slot.job_at v.slot.jobs b) v.slot.epoch u.awaited u.keep u.owed u.applied u.wants u.recalls → Manages b v.slot u
  same_manager u epoch turn belief applied index job = record {
    epoch = v.manages.epoch ∙ sym epoch;
    turn = v.manages.turn ∙ sym turn;
    belief = λ d. let x = v.manages.belief d in let y = belief d in omega arith;
    applied = λ d some. applied d ∙ v.manages.applied d some;
    index = index ∙ v.manages.index;
    job = job;
  }

  -- the world stays as it is: more was sent, or a slot's state changed that doesn't reign
  pub same_world : (slots : ℕ → Option SlotState) (sent : List Packet) → slots w.epoch ≡ Some v.slot
      → ((e : ℕ) (s : SlotState) → slots e ≡ Some s → (e ≤ w.epoch) × (s.epoch ≡ e)) → ((p : Packet) → In p sent → Carried logs part b w p)
      → View logs members part b (record n { slots = slots; sent = sent })
  same_world slots sent_ reigns past sent = record {
    world = w;
    steps = v.steps;
    many = v.many;
    some = v.some;
    nobody = v.nobody;
    positive = v.positive;
    clients = v.clients;
    fell = v.fell;
    slot = v.slot;
    sound = v.sound;
    reigns = reigns;
    manages = v.manages;
    past = past;
    sent = sent;
    kept = v.kept;
    acts = v.acts;
  }

  -- logs and the pinned version change, and nothing else of the world
  pub rebooked_world : (pinned : ℕ) (end flight : ℕ → ℕ) (rows : ℕ → ℕ → Row) (k : Books) (more : List Act)
      (steps : Steps logs (start members) (record w { pinned = pinned; end = end; flight = flight; rows = rows }))
      → Premise logs (Kept b k (record w { pinned = pinned; end = end; flight = flight; rows = rows }))
      → Premise logs (told (start members) (record w { pinned = pinned; end = end; flight = flight; rows = rows }) steps ≡ acts_of b more)
      → View logs members part b (record n { books = k; acts = more })
  rebooked_world pinned end flight rows k more steps kept told_ =
      let u : World = record w { pinned = pinned; end = end; flight = flight; rows = rows } in
      record {
        world = u;
        steps = steps;
        many = v.many;
        some = v.some;
        nobody = v.nobody;
        positive = v.positive;
        clients = v.clients;
        fell = v.fell;
        slot = v.slot;
        sound = v.sound;
        reigns = v.reigns;
        manages = same_manager u refl refl (λ d. refl) (λ d. refl) refl v.manages.job;
        past = v.past;
        sent = λ p fact. carried_on logs part b w u p
            (record {
              epoch = refl;
              wants = λ x h. h;
              gaves = λ x h. h;
              offers = λ x h. h;
              recalls = λ x h. h;
              reports = λ x h. h;
              lasts = owed logs (Lasts w u) (λ _. record { join = omega arith; value = λ m _. refl });
            })
            (v.sent p fact);
        kept = kept;
        acts = told_;
      }

  pub all_same : (u : World) → u.epoch ≡ w.epoch → u.wants ≡ w.wants → u.gaves ≡ w.gaves → u.offers ≡ w.offers → u.recalls ≡ w.recalls → u.reports ≡ w.reports
      → Steps logs w u → Grows logs w u
  all_same u epoch wants gaves offers recalls reports steps = record {
    epoch = epoch;
    wants = λ x h. subst (In x) (sym wants) h;
    gaves = λ x h. subst (In x) (sym gaves) h;
    offers = λ x h. subst (In x) (sym offers) h;
    recalls = λ x h. subst (In x) (sym recalls) h;
    reports = λ x h. subst (In x) (sym reports) h;
    lasts = lasts_by logs members w u v.steps steps;
  }

  -- ---- a client falls

  fall : (c : ℕ) (u : World) (a : Act) → 0 < c → c < members → n.up c ≡ true → (step : Step logs w u) → u.client ≡ put w.client c (down (w.client c))
      → u.epoch ≡ w.epoch → u.members ≡ w.members → Manages b v.slot u → Grows logs w u
      → Premise logs (Kept b n.books u) → ((k : ℕ) → (k ≡ c → ⊥) → u.fallen k ≡ w.fallen k) → (is_dirty (held_of (n.tokens c).blocks b) ≡ true → u.fallen c ≡ 1)
      → Premise logs (Tells u step a)
      → View logs members part b (acted (record n { up = put n.up c false }) (a ∷ []))
  fall c u a pos less up step clients epoch many manages grows kept others falls told_ = record {
    world = u;
    steps = More v.steps step;
    many = many ∙ v.many;
    some = v.some;
    nobody = subst (λ e. IsNobody (u.client 0) e) (sym epoch)
        (subst (λ x. IsNobody x w.epoch) (sym (ap (λ f. f 0) clients ∙ put_there w.client c (down (w.client c)) 0 (λ same. absurd (omega arith)))) v.nobody);
    positive = let p = v.positive in omega arith;
    clients = λ k. subst (λ f. 0 < k → k < members → ClientShown (put n.up c false k) b k (n.tokens k) u.epoch (f k)) (sym clients)
        (put_each_two (λ k t x. 0 < k → k < members → ClientShown t b k (n.tokens k) u.epoch x) n.up w.client c false (down (w.client c))
        (λ _ _. let shown = shown_up c pos less up in
        record {
          serving = refl;
          incarnation = shown.incarnation;
          promised = shown.stamps.promised;
          mode = refl;
          stamp = refl;
          want = refl;
          version = refl;
          settled = refl;
          fetching = refl;
        })
        (λ k other pos less. subst (λ e. ClientShown (n.up k) b k (n.tokens k) e (w.client k)) (sym epoch) (v.clients k pos less)) k);
    fell = put_each (λ k t. 0 < k → k < members → FellDirty t (held_of (n.tokens k).blocks b) (u.fallen k)) n.up c false (λ _ _ _ dirty. falls dirty)
        (λ k other pos less down dirty. others k other ∙ v.fell k pos less down dirty);
    slot = v.slot;
    sound = v.sound;
    reigns = ap n.slots epoch ∙ v.reigns;
    manages = manages;
    past = λ e s fact. (let p = (v.past e s fact).0 in omega arith, (v.past e s fact).1);
    sent = λ p fact. carried_on logs part b w u p grows (v.sent p fact);
    kept = kept;
    acts = acts_more u step a told_;
  }

  -- what is in flight of the block
  in_flight : (c : ℕ) → Kept b n.books w → (flying_row w c).version ≡ (said n.books c (suc (n.books.end c)) b).version
  in_flight c kept = ap (λ e. (w.rows c (suc e)).version) (kept.ends c) ∙ ap (λ (r : Row). r.version) (kept.says c (suc (n.books.end c)))

  abbrev pub held : ℕ → Held
  held c = held_of (n.tokens c).blocks b

  -- the fall of a dirty block is told, and that of a clean one isn't
  tells_dirty : (c : ℕ) (falls : List Fall) → Shows (setting b c (n.tokens c).inc) w.epoch (local_of (n.tokens c) b) (w.client c) → is_dirty (held c) ≡ true
      → Kept b n.books w
      → fall_of b falls ≡ fall_from b (held c) (said n.books c (suc (n.books.end c)) b)
      → FellBlock c (w.client c).settled (max (w.client c).settled (flying_row w c).version) ∷ [] ≡ acts_of_fall c (fall_of b falls)
  tells_dirty c falls shown dirty kept fact =
      let row = said n.books c (suc (n.books.end c)) b in
      let f : Fall = record { block = b; low = (held c).settled; high = max (held c).settled row.version } in
      let settles = shown.settled in
      let flies = in_flight c kept in
      (λ i. FellBlock c (settles i) (max (settles i) (flies i)) ∷ []) ∙ sym (ap (acts_of_fall c) (fact ∙ ap (λ t. if t then Some f else None) dirty))

  tells_clean : (c : ℕ) (falls : List Fall) → is_dirty (held c) ≡ false → fall_of b falls ≡ fall_from b (held c) (said n.books c (suc (n.books.end c)) b)
      → [] ≡ acts_of_fall c (fall_of b falls)
  tells_clean c falls clean fact =
      let row = said n.books c (suc (n.books.end c)) b in
      let f : Fall = record { block = b; low = (held c).settled; high = max (held c).settled row.version } in
      sym (ap (acts_of_fall c) (fact ∙ ap (λ t. if t then Some f else None) clean))

  pub crash_view : (c : ℕ) (flight : Option (ℕ × ℕ)) (falls : List Fall) → 0 < c → c < members → n.up c ≡ true
      → Premise logs (FallsSo n.books c (n.tokens c) flight falls)
      → View logs members part b (acted (record n { up = put n.up c false }) (act.Fell c flight falls ∷ []))
  crash_view c flight falls pos less up so =
      elim (nat_lt (w.client c).settled (w.client c).version) as
      (λ t. nat_lt (w.client c).settled (w.client c).version ≡ t → View logs members part b (acted (record n { up = put n.up c false }) (a ∷ []))) [
        | true ↦ λ fact.
            let u = crashes_dirty w c in
            let step : Step logs w u = CrashesDirty c (record { dirty = ltb-true _ _ fact }) in
            fall c u a pos less up step refl refl refl (same_manager u refl refl (λ d. refl) (λ d. refl) refl v.manages.job)
            (all_same u refl refl refl refl refl refl (More Done step)) v.kept
            (λ k other. put_there w.fallen c 1 k other) (λ _. put_here w.fallen c 1)
            (owed_both logs (Kept b n.books w) (FallsSo n.books c (n.tokens c) flight falls) (Tells u step a)
            (λ kept f. tells_dirty c falls shown (sym (shown_dirty shown) ∙ fact) kept (f.each b)) v.kept so)
        | false ↦ λ fact.
            let u = crashes_clean w c in
            let step : Step logs w u = CrashesClean c (record { clean = ltb-false _ _ fact }) in
            fall c u a pos less up step refl refl refl (same_manager u refl refl (λ d. refl) (λ d. refl) refl v.manages.job)
            (all_same u refl refl refl refl refl refl (More Done step)) v.kept
            (λ k other. refl) (λ dirty. contrary (sym fact ∙ (shown_dirty shown ∙ dirty)))
            (owed_on logs (FallsSo n.books c (n.tokens c) flight falls) (Tells u step a)
            (λ f. tells_clean c falls (sym (shown_dirty shown) ∙ fact) (f.each b)) so)
      ] refl
    where
      a : Act
      a = act.Fell c flight falls

      shown : Shows (setting b c (n.tokens c).inc) w.epoch (local_of (n.tokens c) b) (w.client c)
      shown = shown_up c pos less up

      shown_dirty : Shows (setting b c (n.tokens c).inc) w.epoch (local_of (n.tokens c) b) (w.client c)
          → nat_lt (w.client c).settled (w.client c).version ≡ is_dirty (held c)
      shown_dirty shown = ap (λ k. nat_lt k (w.client c).version) shown.settled ∙ ap (λ k. nat_lt (held c).settled k) shown.version

  -- ---- a client returns

  back_from : (c inc : ℕ) (epochs : List ℕ) (u : World) (k : Books) (more : List Act) → 0 < c → c < members → n.up c ≡ false
      → (steps : Steps logs (start members) u)
      → u.client ≡ put w.client c (back (w.client c) inc (epoch_of epochs (slot_of b.ino.0))) → u.fallen ≡ put w.fallen c 0 → u.epoch ≡ w.epoch
      → u.members ≡ w.members → Manages b v.slot u → Grows logs w u
      → Premise logs (Kept b k u) → Premise logs (told (start members) u steps ≡ acts_of b more)
      → View logs members part b (record n { tokens = put n.tokens c (fresh_tokens inc epochs); up = put n.up c true; books = k; acts = more })
  back_from c inc epochs u k more pos less up steps clients fallen epoch many manages grows kept told_ =
      let gone : IsDown b (n.tokens c) (w.client c) = subst (λ t. ClientShown t b c (n.tokens c) w.epoch (w.client c)) up (v.clients c pos less) in
      let x = back (w.client c) inc (epoch_of epochs (slot_of b.ino.0)) in
      record {
        world = u;
        steps = steps;
        many = many ∙ v.many;
        some = v.some;
        nobody = subst (λ e. IsNobody (u.client 0) e) (sym epoch)
            (subst (λ y. IsNobody y w.epoch) (sym (ap (λ f. f 0) clients ∙ put_there w.client c x 0 (λ same. absurd (omega arith)))) v.nobody);
        positive = let p = v.positive in omega arith;
        clients = λ d. subst (λ e. 0 < d → d < members → ClientShown (put n.up c true d) b d (put n.tokens c (fresh_tokens inc epochs) d) e (u.client d))
            (sym epoch)
            (subst (λ f. 0 < d → d < members → ClientShown (put n.up c true d) b d (put n.tokens c (fresh_tokens inc epochs) d) w.epoch (f d)) (sym clients)
            (put_each_three (λ k t s y. 0 < k → k < members → ClientShown t b k s w.epoch y) n.up n.tokens w.client c true (fresh_tokens inc epochs) x
            (λ _ _. record {
              client = pos;
              serving = refl;
              boot = refl;
              incarnation = refl;
              stamps = record { promised = refl; past = omega arith; now = λ fact. absurd (let p = v.positive in omega arith); old = λ fact. gone.stamp };
              mode = gone.mode;
              counted = omega arith;
              want = gone.want;
              version = gone.version;
              settled = gone.settled;
              value = tt;
              fetch = gone.fetching;
            })
            (λ k other pos less. v.clients k pos less) d));
        fell = λ d. subst (λ f. 0 < d → d < members → FellDirty (put n.up c true d) (held_of (put n.tokens c (fresh_tokens inc epochs) d).blocks b) (f d))
            (sym fallen)
            (put_each_three (λ k t s f. 0 < k → k < members → FellDirty t (held_of s.blocks b) f) n.up n.tokens w.fallen c true (fresh_tokens inc epochs) 0
            (λ _ _ down _. contrary (sym down)) (λ k other. v.fell k) d);
        slot = v.slot;
        sound = v.sound;
        reigns = ap n.slots epoch ∙ v.reigns;
        past = λ e s fact. (let p = (v.past e s fact).0 in omega arith, (v.past e s fact).1);
        manages = manages;
        sent = λ p fact. carried_on logs part b w u p grows (v.sent p fact);
        kept = kept;
        acts = told_;
      }

  pub return_view : (c inc : ℕ) (epochs : List ℕ) (chain : List SegName) → 0 < c → c < members → n.up c ≡ false → (n.tokens c).inc < inc
      → epoch_of (n.tokens c).epochs part ≤ epoch_of epochs part → is_in_slot part b ≡ true
      → Premise logs (adopts n.acts c chain ≡ true → n.books.flying c ≡ true)
      → View logs members part b
      (acted (record n { tokens = put n.tokens c (fresh_tokens inc epochs); up = put n.up c true; books = reopened n.books c (adopts n.acts c chain) })
      (act.Back c chain ∷ []))
  return_view c inc epochs chain pos less up later rises inside flies =
      elim (adopts n.acts c chain) as (λ t. adopts n.acts c chain ≡ t
      → View logs members part b
      (acted (record n { tokens = put n.tokens c (fresh_tokens inc epochs); up = put n.up c true; books = reopened n.books c t }) (act.Back c chain ∷ []))) [
        | true ↦ λ fact.
            let u = restarts_adopting w c inc promised in
            let step : Step logs w u = RestartsAdopting c inc promised may (adopting fact) in
            back_from c inc epochs u (filed n.books c) (n.acts ++ act.Back c chain ∷ []) pos less up (More v.steps step) refl refl refl refl
            (same_manager u refl refl (λ d. refl) (λ d. refl) refl v.manages.job)
            (all_same u refl refl refl refl refl refl (More Done step))
            (owed_on logs (Kept b n.books w) (Kept b (filed n.books c) u) (λ kept. filed_seen b n.books w.end w.flight w.rows kept c) v.kept)
            (acts_more u step (act.Back c chain) (owed logs (Tells u step (act.Back c chain)) (λ _. ap (λ t. BackBlock c t ∷ []) (sym fact))))
        | false ↦ λ fact.
            let u = restarts_discarding w c inc promised in
            let step : Step logs w u = RestartsDiscarding c inc promised may in
            back_from c inc epochs u (discarded n.books c) (n.acts ++ act.Back c chain ∷ []) pos less up (More v.steps step) refl refl refl refl
            (same_manager u refl refl (λ d. refl) (λ d. refl) refl v.manages.job)
            (all_same u refl refl refl refl refl refl (More Done step))
            (owed_on logs (Kept b n.books w) (Kept b (discarded n.books c) u) (λ kept. discarded_seen b n.books w.end w.flight w.rows kept c) v.kept)
            (acts_more u step (act.Back c chain) (owed logs (Tells u step (act.Back c chain)) (λ _. ap (λ t. BackBlock c t ∷ []) (sym fact))))
      ] refl
    where
      promised : ℕ
      promised = epoch_of epochs (slot_of b.ino.0)

      gone : IsDown b (n.tokens c) (w.client c)
      gone = subst (λ u. ClientShown u b c (n.tokens c) w.epoch (w.client c)) up (v.clients c pos less)

      may : MayRestart w c inc promised
      may =
          let same : slot_of b.ino.0 ≡ part = eqb-true (slot_of b.ino.0) part inside in
          let was = gone.promised ∙ ap (epoch_of (n.tokens c).epochs) same in
          let will : promised ≡ epoch_of epochs part = ap (epoch_of epochs) same in
          let boot = gone.incarnation in
          record { member = let m = v.many in omega arith; down = gone.serving; later = omega arith; promise = omega arith }

      adopting : adopts n.acts c chain ≡ true → Premise logs (TailAdopted w c)
      adopting fact =
          owed_both logs (Kept b n.books w) (adopts n.acts c chain ≡ true → n.books.flying c ≡ true) (TailAdopted w c)
          (λ kept h. record { in_flight = kept.flights c ∙ ap flag (h fact) }) v.kept flies

  -- ---- a client that serves a Forward

  -- what it supplies is the value of the newest version, which is filed
  supplies_so : (c other : ℕ) (stamp : Stamp) (inc req ver : ℕ) (value : Option (List ℕ)) (entry : Entry) → 0 < c → c < members → n.up c ≡ true
      → client.serves (n.tokens c) b stamp ver ≡ true
      → (held_of (n.tokens c).blocks b).value ≡ Some value → entry.ver ≡ ver → SentOffer other w stamp inc req Copy (entry_seen entry)
      → Premise logs (Supplies stamp.epoch ver value w)
  supplies_so c other stamp inc req ver value entry pos less up serves fact same sent = go logs w (shown_up c pos less up) sent v.steps
    where
      go : (l : Bool) (u : World) → Shows (setting b c (n.tokens c).inc) u.epoch (local_of (n.tokens c) b) (u.client c)
          → SentOffer other u stamp inc req Copy (entry_seen entry) → Steps l (start members) u
          → Premise l (Supplies stamp.epoch ver value u)
      go true u shown sent steps = λ reigns.
          let i = always members u steps in
          let newest = supplies_newest (setting b c (n.tokens c).inc) u (n.tokens c) stamp ver value shown (holders_newest u i c) serves fact in
          record { joined = let joined = offers_joined u i _ (sent.offered reigns) in omega arith; content = newest.0 }
      go false u shown sent steps = tt

  pub supply_view : (c other : ℕ) (block : BlockId) (stamp : Stamp) (inc req ver : ℕ) (value : Option (List ℕ)) → 0 < c → c < members
      → In (ForwardSent c other block stamp inc req ver) n.sent → n.up c ≡ true
      → client.serves (n.tokens c) block stamp ver ≡ true → (held_of (n.tokens c).blocks block).value ≡ Some value
      → View logs members part b (record n { sent = SupplySent other block stamp inc req ver value ∷ n.sent })
  supply_view c other block stamp inc req ver value pos less fact up serves value_is =
      same_world n.slots (SupplySent other block stamp inc req ver value ∷ n.sent) v.reigns v.past
      (λ p h. ⊎_elim (λ e. subst (Carried logs part b w) (sym e) new) (λ old. v.sent p old) h)
    where
      new : Carried logs part b w (SupplySent other block stamp inc req ver value)
      new same =
          let h = v.sent _ fact same in (
            h.0,
            h.1,
            h.2,
            supplies_so c other stamp inc req ver value h.0 pos less up (subst (λ (k : BlockId). client.serves (n.tokens c) k stamp ver ≡ true) same serves)
                (subst (λ (k : BlockId). (held_of (n.tokens c).blocks k).value ≡ Some value) same value_is) h.1 h.2,
          )
