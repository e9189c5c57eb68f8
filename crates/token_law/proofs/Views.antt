-- How the small world is seen, block by block: what its clients, its latest manager and its packets are there; and what a step of a client leaves of that.
use Rattle.std.proofs.Common.{◌≡◌, ℕ, ◌≤◌, ◌<◌, Bool, true, false, List, [], ◌∷◌, ◌++◌, ◌⊎◌, inl, inr, ⊎_elim, Option, Some, None, refl, sym, ap, subst, ◌∙◌, append-nil, arith}
use Rattle.xfs_base.specs.declared.block.BlockId.{BlockId}
use Rattle.xfs_base.specs.declared.entry.Entry.{Entry}
use Rattle.xfs_base.specs.declared.token.Mode.TheVariants.{Copy}
use Rattle.xfs_base.specs.Blocks.{slot_of}
use Rattle.slot_beliefs.specs.declared.job.Job.{Job}
use Rattle.slot_beliefs.specs.Beliefs.{share_of}
use Rattle.slot_beliefs.specs.Recalls as slot_recalls
use Rattle.token_client.specs.declared.output.Out as outputs
use Rattle.token_client.specs.declared.output.Out.TheVariants as output
use Rattle.token_client.specs.Laws.{IsSound}
use Rattle.token_client.specs.State.{held_of}
use Rattle.token_client.specs.Transition as client
use Rattle.token_manager.specs.SlotState.{SlotState}
use Rattle.token_manager.specs.Transition as slot
use Rattle.token_manager.proofs.Guarded.{Sound}
use Rattle.token_protocol.specs.Basics.{put, In}
use Rattle.token_protocol.specs.Client.{Client}
use Rattle.token_protocol.specs.Packets as packets
use Rattle.token_protocol.specs.Acts as block
use Rattle.token_protocol.specs.Premises.{Premise, SettledEnd}
use Rattle.token_protocol.specs.Step.{Steps}
use Rattle.token_protocol.specs.Told.{told}
use Rattle.version_model.specs.declared.act.Act.{Act}
use Rattle.act_tie.specs.BlockActs.{acts_of}
use Rattle.act_tie.specs.Number.{number}
use Rattle.token_protocol.specs.Step.Steps.{More}
use Rattle.token_protocol.specs.World.{World, start}
use Rattle.token_tie.specs.Seen.{Setting, Shows, SentOffer, SentRecall, local_of, entry_seen}
use Rattle.xfs_base.specs.Modes.{mode_number}
use Rattle.token_tie.specs.Taken.{ByClient, AllSaid, Acted, Took}
use Rattle.token_tie.specs.Managed.{want_seen, JobShown, Manages}
use Rattle.token_law.specs.Net.{Packet, Net, client_packets, after_client}
use Rattle.token_law.specs.Net.Packet.{WantSent, GrantSent, RecallSent, GaveSent, ForwardSent, SupplySent, ReportSent}
use Rattle.std.proofs.Common.{unwrap_or}
use Rattle.std.proofs.lemmas.Bool.{eqb-true}
use Rattle.token_client.specs.declared.held.Held.{Held}
use Rattle.token_client.specs.State.{held_in, is_in_slot, epoch_of}
use Rattle.token_protocol.specs.Takeover as takeover
use Rattle.token_client.specs.Held.{is_dirty}
use Rattle.token_client.specs.State.{TokensState}
use Rattle.token_protocol.specs.Step.Step.{Reports as ReportsStep}
use Rattle.token_protocol.proofs.Refining.{put_each}
use Rattle.token_tie.proofs.Frames.{put_here, put_there}
use Rattle.token_tie.proofs.TakingOver.{one_numbers}
use Rattle.token_protocol.proofs.Told.{steps_through, told_through}
use Rattle.token_protocol.proofs.Growing.{grows}
use Rattle.token_tie.proofs.Frames.{shown_on, epoch_on}
use Rattle.token_tie.proofs.Managing.{offer_on, recall_on}
use Rattle.token_client.proofs.Tables.{InOrder}
use Rattle.xfs_base.proofs.Booleans.{contrary}
use Rattle.token_law.proofs.Premises.{owed, owed_on, owed_both}
use Rattle.token_law.proofs.Logged.{Kept}

-- what is told, and then nothing more
pub told_no_more : (logs : Bool) (acts all : List block.Act) → Premise logs (acts ≡ all) → Premise logs (acts ++ [] ≡ all)
told_no_more logs acts all = owed_on logs (acts ≡ all) (acts ++ [] ≡ all) (λ same. append-nil acts ∙ same)

pub either_in : {X : Type 0} (p : X) (xs ys : List X) → In p (xs ++ ys) → In p xs ⊎ In p ys
either_in p [] ys fact = inr fact
either_in p (x ∷ xs) ys fact = ⊎_elim (λ e. inl (inl e)) (λ r. ⊎_elim (λ h. inl (inr h)) inr (either_in p xs ys r)) fact

-- client c at block b
abbrev pub setting : BlockId → ℕ → ℕ → Setting
setting b c i = record { number = number; absent = refl; block = b; client = c; incarnation = i }

-- what is left of a client that fell
pub record IsDown (b : BlockId) (s : TokensState) (x : Client) : Type 0 where
  pub serving : x.serving ≡ 0
  pub incarnation : x.incarnation ≡ s.inc
  pub promised : x.promised ≡ epoch_of s.epochs (slot_of b.ino.0)
  pub mode : x.mode ≡ 0
  pub stamp : x.stamp ≡ 0
  pub want : x.want ≡ 0
  pub version : x.version ≡ 0
  pub settled : x.settled ≡ 0
  pub fetching : x.fetching ≡ 0

abbrev pub ClientShown : Bool → BlockId → ℕ → TokensState → ℕ → Client → Type 0
ClientShown true b c s epoch x = Shows (setting b c s.inc) epoch (local_of s b) x
ClientShown false b c s epoch x = IsDown b s x

pub put_each_three : {X Y Z : Type 0} (P : ℕ → X → Y → Z → Type 0) (f : ℕ → X) (g : ℕ → Y) (h : ℕ → Z) (c : ℕ) (x : X) (y : Y) (z : Z) → P c x y z
    → ((d : ℕ) → (d ≡ c → ⊥) → P d (f d) (g d) (h d)) → (d : ℕ) → P d (put f c x d) (put g c y d) (put h c z d)
put_each_three {X = X} {Y = Y} {Z = Z} P f g h c x y z here there d =
    ⊎_elim
    (λ same. subst (λ k. P k (put f c x k) (put g c y k) (put h c z k)) (sym same)
    (subst (λ (q : X × Y × Z). P c q.0 q.1 q.2) (λ i. (sym (put_here f c x) i, sym (put_here g c y) i, sym (put_here h c z) i)) here))
    (λ other. subst (λ (q : X × Y × Z). P d q.0 q.1 q.2)
    (λ i. (sym (put_there f c x d other) i, sym (put_there g c y d other) i, sym (put_there h c z d other) i)) (there d other))
    (one_numbers d c)

pub some_one : {A : Type 0} (x y : A) → Some x ≡ Some y → x ≡ y
some_one {A = A} x y fact = ap (λ (o : Option A). unwrap_or o x) fact

-- the value is the history's of that version, which is filed
pub record IsValue (ver : ℕ) (value : Option (List ℕ)) (join_version : ℕ) (value_at : ℕ → ℕ) : Type 0 where
  pub joined : ver ≤ join_version
  pub content : number value ≡ value_at ver

-- what is supplied is the value of the offered version, while its manager reigns
abbrev pub Supplies : ℕ → ℕ → Option (List ℕ) → World → Type 0
Supplies epoch ver value w = epoch ≡ w.epoch → IsValue ver value w.join_version w.value_at

-- a sent packet was sent there, where it speaks of the block; a report says what a client held
abbrev pub Carried : Bool → ℕ → BlockId → World → Packet → Type 0
Carried logs part b w (WantSent c inc req again block mode end) = (0 < c) × (block ≡ b → In (want_seen (slot.want_of c block inc req again mode) end) w.wants)
Carried logs part b w (GrantSent c block stamp inc req mode entry) = block ≡ b → SentOffer c w stamp inc req mode (entry_seen entry)
Carried logs part b w (RecallSent c block stamp keep) = block ≡ b → SentRecall c w stamp keep
Carried logs part b w (GaveSent c block stamp end) =
    (0 < c) × (block ≡ b → (stamp.epoch ≤ w.epoch) × (stamp.epoch ≡ w.epoch → In (record { client = c; stamp = stamp.turn; end = end }) w.gaves))
Carried logs part b w (ForwardSent passer c block stamp inc req ver) =
    block ≡ b → (entry : Entry) × (entry.ver ≡ ver) × SentOffer c w stamp inc req Copy (entry_seen entry)
Carried logs part b w (SupplySent c block stamp inc req ver value) =
    block ≡ b → (entry : Entry) × (entry.ver ≡ ver) × SentOffer c w stamp inc req Copy (entry_seen entry) × Premise logs (Supplies stamp.epoch ver value w)
Carried logs part b w (ReportSent c epoch rows end) =
    (blocks : List (BlockId × Held)) × InOrder blocks × (rows ≡ held_in part blocks)
    × In (record { client = c; epoch = epoch; mode = mode_number (held_of blocks b).mode; end = end }) w.reports

-- a client that fell with the block dirty is known as fallen there
abbrev pub FellDirty : Bool → Held → ℕ → Type 0
FellDirty up h fallen = up ≡ false → is_dirty h ≡ true → fallen ≡ 1

-- number 0 is nobody's: a client that holds nothing and promises only when all have
pub record IsNobody (x : Client) (epoch : ℕ) : Type 0 where
  pub serving : x.serving ≡ 1
  pub mode : x.mode ≡ 0
  pub promised : x.promised ≤ epoch

-- a block is seen in an abstract world to which steps lead, where logs keep their word by steps that tell its acts
pub record View (logs : Bool) (members part : ℕ) (b : BlockId) (n : Net) : Type 0 where
  pub world : World
  pub steps : Steps logs (start members) world
  pub many : world.members ≡ members
  pub some : 0 < members
  pub nobody : IsNobody (world.client 0) world.epoch
  pub positive : 0 < world.epoch
  pub clients : (c : ℕ) → 0 < c → c < members → ClientShown (n.up c) b c (n.tokens c) world.epoch (world.client c)
  pub fell : (c : ℕ) → 0 < c → c < members → FellDirty (n.up c) (held_of (n.tokens c).blocks b) (world.fallen c)
  pub slot : SlotState
  pub sound : Sound slot
  pub reigns : n.slots world.epoch ≡ Some slot
  pub manages : Manages b slot world
  pub past : (e : ℕ) (s : SlotState) → n.slots e ≡ Some s → (e ≤ world.epoch) × (s.epoch ≡ e)
  pub sent : (p : Packet) → In p n.sent → Carried logs part b world p
  pub kept : Premise logs (Kept b n.books world)
  pub acts : Premise logs (told (start members) world steps ≡ acts_of b n.acts)

-- ---- what a step of one side leaves of the other

-- what is filed lasts, with its value
pub record Lasts (w v : World) : Type 0 where
  pub join : w.join_version ≤ v.join_version
  pub value : (n : ℕ) → n ≤ w.join_version → v.value_at n ≡ w.value_at n

pub lasts_by : (logs : Bool) (members : ℕ) (w v : World) → Steps logs (start members) w → Steps logs w v → Premise logs (Lasts w v)
lasts_by true members w v reached steps = let g = grows members w v reached steps in record { join = g.join; value = g.value }
lasts_by false members w v reached steps = tt

pub record Grows (logs : Bool) (w v : World) : Type 0 where
  pub epoch : v.epoch ≡ w.epoch
  pub wants : (x : packets.Want) → In x w.wants → In x v.wants
  pub gaves : (x : packets.Gave) → In x w.gaves → In x v.gaves
  pub offers : (x : packets.Offer) → In x w.offers → In x v.offers
  pub recalls : (x : packets.Recall) → In x w.recalls → In x v.recalls
  pub reports : (x : packets.Report) → In x w.reports → In x v.reports
  pub lasts : Premise logs (Lasts w v)

supplied_on : (epoch ver : ℕ) (value : Option (List ℕ)) (w v : World) → v.epoch ≡ w.epoch → Lasts w v → Supplies epoch ver value w → Supplies epoch ver value v
supplied_on epoch ver value w v same lasts h = λ fact.
    let k = h (fact ∙ same) in
    record { joined = let a = k.joined in let j = lasts.join in omega arith; content = k.content ∙ sym (lasts.value ver k.joined) }

pub carried_on : (logs : Bool) (part : ℕ) (b : BlockId) (w v : World) (p : Packet) → Grows logs w v → Carried logs part b w p → Carried logs part b v p
carried_on logs part b w v (WantSent c inc req again block mode end) g h = (h.0, λ fact. g.wants _ (h.1 fact))
carried_on logs part b w v (GrantSent c block stamp inc req mode entry) g h =
    λ fact. offer_on c w v stamp inc req mode (entry_seen entry) g.epoch g.offers (h fact)
carried_on logs part b w v (RecallSent c block stamp keep) g h = λ fact. recall_on c w v stamp keep g.epoch g.recalls (h fact)
carried_on logs part b w v (GaveSent c block stamp end) g h =
    (h.0, λ fact. let k = h.1 fact in let e = g.epoch in let low = k.0 in (omega arith, λ of_epoch. g.gaves _ (k.1 (of_epoch ∙ e))))
carried_on logs part b w v (ForwardSent passer c block stamp inc req ver) g h = λ fact. let k =
    h fact in (k.0, k.1, offer_on c w v stamp inc req Copy (entry_seen k.0) g.epoch g.offers k.2)
carried_on logs part b w v (SupplySent c block stamp inc req ver value) g h = λ fact.
    let k = h fact in (
      k.0,
      k.1,
      offer_on c w v stamp inc req Copy (entry_seen k.0) g.epoch g.offers k.2,
      owed_both logs (Lasts w v) (Supplies stamp.epoch ver value w) (Supplies stamp.epoch ver value v)
          (supplied_on stamp.epoch ver value w v g.epoch) g.lasts k.3,
    )
carried_on logs part b w v (ReportSent c epoch rows end) g h = (h.0, h.1, h.2, g.reports _ h.3)

pub job_wants : (o : Option Job) (epoch : ℕ) (awaited keep owed applied : ℕ → ℕ) (wants more : List packets.Want) (recalls : List packets.Recall)
    → ((x : packets.Want) → In x wants → In x more) → JobShown o epoch awaited keep owed applied wants recalls
    → JobShown o epoch awaited keep owed applied more recalls
job_wants None epoch awaited keep owed applied wants more recalls grows j = j
job_wants (Some job) epoch awaited keep owed applied wants more recalls grows j =
    record { end = j.end; asked = grows _ j.asked; asker = j.asker; something = j.something; only = j.only; each = j.each; paid = j.paid }

pub managed_on : (b : BlockId) (s : SlotState) (c : ℕ) (w v : World) → ByClient c w v → Manages b s w → Manages b s v
managed_on b s c w v by m = record {
  epoch = m.epoch ∙ sym (ap (λ (u : World). u.epoch) by.others);
  turn = m.turn ∙ sym (ap (λ (u : World). u.turn) by.others);
  belief = λ d. subst (λ n. n ≤ share_of s.beliefs b d) (sym (ap (λ (u : World). u.belief d) by.others)) (m.belief d);
  applied = λ d some. ap (λ (u : World). u.applied d) by.others ∙ m.applied d some;
  index = ap (λ (u : World). u.index) by.others ∙ m.index;
  job = job_wants (slot_recalls.job_at s.jobs b) s.epoch v.awaited v.keep v.owed v.applied w.wants v.wants v.recalls by.wants
      (subst (λ (u : World). JobShown (slot_recalls.job_at s.jobs b) s.epoch u.awaited u.keep u.owed u.applied w.wants u.recalls) (sym by.others) m.job);
}

-- ---- a client's step

pub said_carried : (logs : Bool) (part : ℕ) (b : BlockId) (c i inc end : ℕ) (v : World) (outs : List outputs.Out) → 0 < c → i ≡ inc
    → AllSaid (setting b c i) end v outs → (p : Packet) → In p (client_packets c inc end outs) → Carried logs part b v p
said_carried logs part b c i inc end v [] some one said p fact = absurd fact
said_carried logs part b c i inc end v (output.Want block req again mode ∷ os) some one said p fact =
    ⊎_elim (λ e. subst (Carried logs part b v) (sym e)
    (some, λ same. subst (λ k. In (record { client = c; incarnation = k; request = req; mode = mode_number mode; end = end }) v.wants) one (said.0 same)))
    (λ r. said_carried logs part b c i inc end v os some one said.1 p r) fact
said_carried logs part b c i inc end v (output.Gave block stamp ∷ os) some one said p fact =
    ⊎_elim (λ e. subst (Carried logs part b v) (sym e) (some, λ same. ((said.0 same).0, λ _. (said.0 same).1)))
    (λ r. said_carried logs part b c i inc end v os some one said.1 p r) fact
said_carried logs part b c i inc end v (output.Supply block ver value ∷ os) some one said p fact =
    said_carried logs part b c i inc end v os some one said.1 p fact
said_carried logs part b c i inc end v (output.Flush block ∷ os) some one said p fact = said_carried logs part b c i inc end v os some one said.1 p fact
said_carried logs part b c i inc end v (output.Read block place ∷ os) some one said p fact = said_carried logs part b c i inc end v os some one said.1 p fact
said_carried logs part b c i inc end v (output.Ready block ∷ os) some one said p fact = said_carried logs part b c i inc end v os some one said.1 p fact

pub by_client_grows : (logs : Bool) (c : ℕ) (w v : World) → ByClient c w v → Premise logs (Lasts w v) → Grows logs w v
by_client_grows logs c w v by lasts = record {
  epoch = ap (λ (u : World). u.epoch) by.others;
  wants = by.wants;
  gaves = by.gaves;
  offers = λ x h. subst (In x) (sym (ap (λ (u : World). u.offers) by.others)) h;
  recalls = λ x h. subst (In x) (sym (ap (λ (u : World). u.recalls) by.others)) h;
  reports = λ x h. subst (In x) (sym (ap (λ (u : World). u.reports) by.others)) h;
  lasts = lasts;
}

module _ (logs : Bool) (members part : ℕ) (b : BlockId) (n : Net) (v : View logs members part b n) where
  abbrev pub w : World
  w = v.world

  -- where logs keep their word, the end of a client's log is the one that is known there
  pub end_owed : (c end : ℕ) → Premise logs (end ≡ n.books.end c) → Premise logs (SettledEnd w c end)
  end_owed c end fact =
      owed_both logs (Kept b n.books w) (end ≡ n.books.end c) (SettledEnd w c end) (λ kept same. record { last_filed = same ∙ sym (kept.ends c) }) v.kept fact

  -- a client took an input, and acted so
  pub client_view : (c end : ℕ) (acts : List block.Act) (d : client.Done) (more : List Act) → 0 < c → n.up c ≡ true
      → Acted logs (setting b c (n.tokens c).inc) end w acts d
      → Premise logs (acts_of b n.acts ++ acts ≡ acts_of b more) → View logs members part b (record (after_client n c end d) { acts = more })
  client_view c end acts d more some up t adds =
      let epoch = epoch_on logs (setting b c (n.tokens c).inc) end w t.world t.frame in
      record {
        world = t.world;
        steps = steps_through (start members) w t.world v.steps t.steps;
        many = ap (λ (u : World). u.members) t.frame.others ∙ v.many;
        some = v.some;
        nobody = subst (λ e. IsNobody (t.world.client 0) e) (sym epoch)
            (subst (λ x. IsNobody x w.epoch) (sym (t.frame.client 0 (λ same. absurd (omega arith)))) v.nobody);
        positive = let p = v.positive in omega arith;
        clients = put_each (λ k x. 0 < k → k < members → ClientShown (n.up k) b k x t.world.epoch (t.world.client k)) n.tokens c d.state
            (λ _ _. subst (λ u. ClientShown u b c d.state t.world.epoch (t.world.client c)) (sym up)
            (subst (λ k. Shows (setting b c k) t.world.epoch (local_of d.state b) (t.world.client c)) (sym t.shows.boot)
            (shown_on logs (setting b c (n.tokens c).inc) end w acts (local_of d.state b) d.outs t)))
            (λ k other pos less. subst (λ e. ClientShown (n.up k) b k (n.tokens k) e (t.world.client k)) (sym epoch)
            (subst (λ x. ClientShown (n.up k) b k (n.tokens k) w.epoch x) (sym (t.frame.client k other)) (v.clients k pos less)));
        fell = put_each (λ k x. 0 < k → k < members → FellDirty (n.up k) (held_of x.blocks b) (t.world.fallen k)) n.tokens c d.state
            (λ _ _ down _. contrary (sym down ∙ up))
            (λ k other pos less down dirty. ap (λ (u : World). u.fallen k) t.frame.others ∙ v.fell k pos less down dirty);
        slot = v.slot;
        sound = v.sound;
        reigns = ap n.slots epoch ∙ v.reigns;
        manages = managed_on b v.slot c w t.world t.frame v.manages;
        past = λ e s fact. (let p = (v.past e s fact).0 in omega arith, (v.past e s fact).1);
        sent = λ p fact. ⊎_elim (λ new. said_carried logs part b c (n.tokens c).inc d.state.inc end t.world d.outs some (sym t.shows.boot) t.said p new)
            (λ old. carried_on logs part b w t.world p (by_client_grows logs c w t.world t.frame (lasts_by logs members w t.world v.steps t.steps))
            (v.sent p old))
            (either_in p (client_packets c d.state.inc end d.outs) n.sent fact);
        kept = owed_on logs (Kept b n.books w) (Kept b n.books t.world) (subst (λ (u : World). Kept b n.books u) (sym t.frame.others)) v.kept;
        acts = owed_both logs (told (start members) w v.steps ≡ acts_of b n.acts) (acts_of b n.acts ++ acts ≡ acts_of b more)
            (told (start members) t.world (steps_through (start members) w t.world v.steps t.steps) ≡ acts_of b more)
            (λ old new. told_through logs (start members) w t.world v.steps t.steps ∙ (λ i. old i ++ t.tells i) ∙ new) v.acts adds;
      }

  -- where it acts nothing
  pub quiet_view : (c end : ℕ) (d : client.Done) → 0 < c → n.up c ≡ true → Took logs (setting b c (n.tokens c).inc) end w d
      → View logs members part b (after_client n c end d)
  quiet_view c end d some up t =
      client_view c end [] d n.acts some up t (owed logs (acts_of b n.acts ++ [] ≡ acts_of b n.acts) (λ _. append-nil (acts_of b n.acts)))

  -- a client reports: nothing but its report is new
  pub report_view : (c end : ℕ) → 0 < c → c < members → n.up c ≡ true → Premise logs (end ≡ n.books.end c) → IsSound (n.tokens c) → is_in_slot part b ≡ true
      → View logs members part b (record n { sent = ReportSent c (epoch_of (n.tokens c).epochs part) (held_in part (n.tokens c).blocks) end ∷ n.sent })
  report_view c end pos less up ends sound inside =
      let shown : Shows (setting b c (n.tokens c).inc) w.epoch (local_of (n.tokens c) b) (w.client c) =
      subst (λ u. ClientShown u b c (n.tokens c) w.epoch (w.client c)) up (v.clients c pos less) in
      let u = takeover.reports w c end in
      let same : slot_of b.ino.0 ≡ part = eqb-true (slot_of b.ino.0) part inside in
      record {
        world = u;
        steps = More v.steps (ReportsStep c end (record { serving = shown.serving }) (end_owed c end ends));
        many = v.many;
        some = v.some;
        nobody = v.nobody;
        positive = v.positive;
        clients = v.clients;
        fell = v.fell;
        slot = v.slot;
        sound = v.sound;
        reigns = v.reigns;
        past = v.past;
        manages = record {
          epoch = v.manages.epoch;
          turn = v.manages.turn;
          belief = v.manages.belief;
          applied = v.manages.applied;
          index = v.manages.index;
          job = v.manages.job;
        };
        sent = λ p fact. ⊎_elim
            (λ e. subst (Carried logs part b u) (sym e) (
              (n.tokens c).blocks,
              sound.sorted,
              refl,
              inl (λ i. record {
                client = c;
                epoch = (ap (λ k. epoch_of (n.tokens c).epochs k) (sym same) ∙ sym shown.stamps.promised) i;
                mode = sym shown.mode i;
                end = end;
              }),
            ))
            (λ old. carried_on logs part b w u p
            (record { epoch = refl; wants = λ x h. h; gaves = λ x h. h; offers = λ x h. h; recalls = λ x h. h; reports = λ x h. inr h; lasts = unchanged })
            (v.sent p old)) fact;
        kept = v.kept;
        acts = told_no_more logs (told (start members) w v.steps) (acts_of b n.acts) v.acts;
      }
    where
      unchanged : Premise logs (Lasts w (takeover.reports w c end))
      unchanged = owed logs (Lasts w (takeover.reports w c end)) (λ _. record { join = omega arith; value = λ k _. refl })
