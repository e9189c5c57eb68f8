-- What an event makes of the cleaner in the small world: nothing, where a counter is near its end; and which questions it asked of blocks of the slot.
use Rattle.std.proofs.Common.{◌≡◌, ◌==◌, ◌-◌, ℕ, ◌<◌, Bool, true, false, List, [], ◌∷◌, inl, inr, nat_le, refl, sym, ap, subst, arith}
use Rattle.std.proofs.lemmas.Bool.{eqb-true, leb-true}
use Rattle.std.proofs.lemmas.Bool.Decides.{nat_tests}
use Rattle.std.specs.List.{AllByRecursion}
use Rattle.cleaner_node.specs.CleanerEvents.{lasting_of, phase_has_room, happens, takes}
use Rattle.cleaner_node.specs.declared.cleaner.Cleaner.{Cleaner as CleanerNode}
use Rattle.cleaner_node.specs.declared.cleaner.Phase.{Phase}
use Rattle.cleaner_node.specs.declared.cleaner.Phase.TheVariants.{Down, Opening, Serving}
use Rattle.cleaner_job.specs.declared.lasting.Lasting.{Lasting}
use Rattle.cleaner_job.specs.Lasting.{lasting_has_room}
use Rattle.index_tie.proofs.Tables.{second_of}
use Rattle.index_tie.specs.Net.{Net}
use Rattle.index_tie.specs.Net.Runs.{Begun}
use Rattle.log_protocol.specs.Tables as tables
use Rattle.node_base.specs.Room.{has_room}
use Rattle.node_base.specs.declared.effects.Effect.{Effect}
use Rattle.node_base.specs.declared.effects.Effect.TheVariants.{Send, Answer, Lose, Does}
use Rattle.node_slots.specs.node_index_tie.Sight.{CheckKnown, Questions}
use Rattle.headline.specs.Filed.{Texts}
use Rattle.node_slots.proofs.owner_index_tie.Frames.{more_itself}
use Rattle.node_slots.specs.owner_index_tie.CleanerEvents.{CleanerAgrees, CleanerDoes, CleanerEventGoes, CleanerGoes, CleanerSays}
use Rattle.wire_msg.specs.declared.body.Body.{Body}
use Rattle.wire_msg.specs.declared.body.Body.TheVariants as body
use Rattle.wire_msg.specs.declared.cleaning.Check.{Check}
use Rattle.wire_msg.specs.declared.packet.Do.{Do}
use Rattle.wire_msg.specs.declared.packet.Do.TheVariants.{Deliver}
use Rattle.wire_msg.specs.declared.packet.Packet.{Packet}
use Rattle.run_laws.proofs.world_index.Asking.{AsksIn}
use Rattle.run_laws.specs.world_index.Asking.{CleanerAsks}
use Rattle.run_laws.proofs.world_index.Gets.{cleaner_gets}
use Rattle.run_laws.proofs.world_index.Senders.{IsSentBy}
use Rattle.run_laws.specs.world_index.Standing.{SentBy, WasAsked}
use Rattle.run_laws.specs.world_index.Owes.{CleanerTold}
use Rattle.xfs_base.specs.Blocks.{slot_of}
use Rattle.xfs_base.specs.Limits.{u32_end, counter_room}
use Rattle.xfs_base.specs.Steps.{still}
use Rattle.xfs_base.specs.declared.segment.SegName.{SegName}
use Rattle.xfs_base.proofs.Booleans.{and_first, and_second}

-- ---- counters

below_end : (x end room : ℕ) → nat_le x (end - room) ≡ true → 0 < room → 0 < end → x < end
below_end x end room h some more = let limit = leb-true x (end - room) h in omega arith

lasting_below : (l : Lasting) → lasting_has_room l ≡ true → l.questions.last < u32_end
lasting_below l h = below_end l.questions.last u32_end counter_room (and_second (has_room l.inc) (has_room l.questions.last) h) (omega arith) (omega arith)

room_below : (p : Phase) → phase_has_room p ≡ true → (lasting_of p).questions.last < u32_end
room_below (Down l) h = lasting_below l h
room_below (Opening l o) h = lasting_below l (and_first (lasting_has_room l) _ h)
room_below (Serving e) h = lasting_below e.lasting (and_first (lasting_has_room e.lasting) _ h)

module _ (part : ℕ) (texts : Texts) (asked : Questions) (n : Net) where
  -- ---- the event

  rests : (p : Phase) → CleanerAgrees part n texts p → CleanerGoes part texts asked n (still p)
  rests p h = record {
    next = n;
    runs = Begun;
    agrees = h;
    filed = refl;
    more = more_itself n.filed;
    others = λ l other. record { head = refl; segment = λ q some limit. refl };
    named = λ are. are;
    slots = refl;
    epoch = refl;
    horizon = refl;
    parts = refl;
    promised = let x = n.promised in omega arith;
    away = λ none. refl;
    sent = λ x premise. premise;
    deleted = λ name premise. premise;
    questions = asked;
    kept = λ x premise. premise;
    does = λ i d less. absurd (omega arith);
  }

  pub cleaner_goes : CleanerEventGoes → part < 8 → (cleaner : CleanerNode) (what : Do) → CleanerAgrees part n texts cleaner.phase
      → CleanerAsks (WasAsked asked) cleaner.phase
      → ((q : Packet) → what ≡ Deliver q → SentBy part n asked q.from q.body × IsSentBy q.from q.body)
      → CleanerTold part texts n cleaner.phase what (takes cleaner.peers cleaner.phase what)
      → CleanerGoes part texts asked n (takes cleaner.peers cleaner.phase what)
  cleaner_goes law of_eight cleaner what agreed asks fact owed = by (phase_has_room cleaner.phase) refl
    where
      by : (t : Bool) → phase_has_room cleaner.phase ≡ t → CleanerGoes part texts asked n (takes cleaner.peers cleaner.phase what)
      by true premise = law part texts asked n cleaner what of_eight agreed
          (record {
            files = owed.files;
            asks = owed.asks;
            reopens = owed.reopens;
            gets = cleaner_gets part texts asked n cleaner.phase what agreed.phase asks (room_below cleaner.phase premise) fact owed.gets;
            writes = owed.writes;
          })
      by false premise = subst (CleanerGoes part texts asked n)
          (sym (second_of (phase_has_room cleaner.phase) (happens cleaner.peers cleaner.phase what) (still cleaner.phase) premise))
          (rests cleaner.phase agreed)

  -- ---- what it asked

  -- of each Check of a block of the slot, in these questions
  abbrev pub BodyKnown : Questions → Body → Type 0
  BodyKnown questions (body.Check m) = slot_of m.block.ino.0 ≡ part → CheckKnown part questions n m
  BodyKnown questions _ = Unit {0}

  abbrev pub EffectKnown : Questions → Effect → Type 0
  EffectKnown questions (Send to m) = BodyKnown questions m
  EffectKnown questions (Answer item answer) = Unit {0}
  EffectKnown questions (Lose seg) = Unit {0}
  EffectKnown questions (Does act) = Unit {0}

  module _ (questions more : Questions) (kept : (x : ℕ × ℕ × SegName) → tables.In x questions → tables.In x more) where
    body_more : (m : Body) → BodyKnown questions m → BodyKnown more m
    body_more (body.Check m) h =
        λ inside. (let k = h inside in record { number = k.number; below = k.below; sent = k.sent; question = kept _ k.question })
    body_more _ h = tt

    pub effect_more : (e : Effect) → EffectKnown questions e → EffectKnown more e
    effect_more (Send to m) h = body_more m h
    effect_more (Answer item answer) h = tt
    effect_more (Lose seg) h = tt
    effect_more (Does act) h = tt

    pub all_more : (es : List Effect) → AllByRecursion (EffectKnown questions) es → AllByRecursion (EffectKnown more) es
    all_more [] all = tt
    all_more (e ∷ es) all = (effect_more e all.0, all_more es all.1)

  -- the questions of these Checks alone
  pub record NewAsks (outs : List Effect) : Type 0 where
    pub list : Questions
    pub known : AllByRecursion (EffectKnown list) outs
    pub from : (x : ℕ × ℕ × SegName) → tables.In x list → AsksIn outs x.0 x.2

  -- one more effect that asks nothing of the slot
  quiet_asks : (e : Effect) (es : List Effect) → (r : NewAsks es) → EffectKnown r.list e → NewAsks (e ∷ es)
  quiet_asks e es r h = record { list = r.list; known = (h, r.known); from = λ x premise. inr (r.from x premise) }

  module _ (since : ℕ) (questions : Questions) where
    check_asks : (to : _) (m : Check) (es : List Effect) → (slot_of m.block.ino.0 ≡ part → CheckKnown part questions n m) → NewAsks es
        → NewAsks (Send to (body.Check m) ∷ es)
    check_asks to m es h r = by (slot_of m.block.ino.0 == part) refl
      where
        one : CheckKnown part questions n m → NewAsks (Send to (body.Check m) ∷ es)
        one k =
            let x : ℕ × ℕ × SegName = (m.ask, k.number, m.place.seg.name) in
            let list : Questions = x ∷ r.list in
            record {
              list = list;
              known = (
                λ inside. record { number = k.number; below = k.below; sent = k.sent; question = inl refl },
                all_more r.list list (λ y premise. inr premise) es r.known,
              );
              from = λ y premise. elim premise [
                | inl same ↦ inl (ap (λ (z : ℕ × ℕ × SegName). z.0) (sym same), ap (λ (z : ℕ × ℕ × SegName). z.2) (sym same))
                | inr older ↦ inr (r.from y older)
              ];
            }

        by : (t : Bool) → (slot_of m.block.ino.0 == part) ≡ t → NewAsks (Send to (body.Check m) ∷ es)
        by true premise = one (h (eqb-true (slot_of m.block.ino.0) part premise))
        by false premise = quiet_asks (Send to (body.Check m)) es r (λ inside. absurd (let same = inside in grind (arith, nat_tests, same, premise)))

    body_asks : (to : _) (m : Body) (es : List Effect) → CleanerSays part questions n since m → NewAsks es → NewAsks (Send to m ∷ es)
    body_asks to (body.Check m) es h r = check_asks to m es h r
    body_asks to _ es h r = quiet_asks _ es r tt

    pub new_asks : (es : List Effect) → AllByRecursion (CleanerDoes part questions n since) es → NewAsks es
    new_asks [] all = record { list = []; known = tt; from = λ x premise. absurd premise }
    new_asks (Send to m ∷ es) all = body_asks to m es all.0 (new_asks es all.1)
    new_asks (Answer item answer ∷ es) all = quiet_asks (Answer item answer) es (new_asks es all.1) tt
    new_asks (Lose seg ∷ es) all = quiet_asks (Lose seg) es (new_asks es all.1) tt
    new_asks (Does act ∷ es) all = quiet_asks (Does act) es (new_asks es all.1) tt
