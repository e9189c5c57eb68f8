-- The small world as it runs: one run after another, what no event changes, the acts of nodes that change no history, and premises on logs.
use Rattle.std.proofs.Common.{◌≡◌, ℕ, Bool, true, false, List, [], ◌∷◌, append_assoc, append-nil, refl, sym, subst, ◌∙◌}
use Rattle.std.specs.List.{AllByRecursion}
use Rattle.token_law.specs.Net.{Net, Happens, Runs, IsServing, acted}
use Rattle.token_law.specs.Net.Happens.{Acts, Elsewhere, Reports, GetsCopy, GetsOwn, Declines, GetsRecall, GetsForward, GetsSupply, Fetches, Reads, Syncs, Seals, Files, GetsDeltas, GetsWant, GetsGave, Ticks, Crashes, Returns, SealsCopies, FilesCopies, Reopens, Activates, Says}
use Rattle.token_law.specs.Net.Runs.{Begun, On}
use Rattle.token_law.specs.Owed.{IsNeutral}
use Rattle.token_protocol.specs.Premises.{Premise}
use Rattle.node_base.specs.declared.effects.Effect.{Effect}
use Rattle.node_base.specs.declared.effects.Effect.TheVariants.{Send, Answer, Lose, Does}
use Rattle.node_base.specs.Effects.{acts_of}
use Rattle.version_model.specs.declared.act.Act.{Act}
use Rattle.xfs_base.specs.declared.node.NodeId.{NodeId}
pub use Rattle.node_slots.specs.node_tie.Promised.{with_promise}

-- ---- premises

pub premise : (logs : Bool) {P : Type 0} → P → Premise logs P
premise true p = p
premise false p = tt

pub premise_by : (logs : Bool) {P Q : Type 0} → (P → Q) → Premise logs P → Premise logs Q
premise_by true f p = f p
premise_by false f p = tt

-- a premise that is met only where something else is so
pub premise_to : (logs : Bool) (P Q : Type 0) → Premise logs (P → Q) → P → Premise logs Q
premise_to true P Q f p = f p
premise_to false P Q f p = tt

pub premise_both : (logs : Bool) {P Q R : Type 0} → (P → Q → R) → Premise logs P → Premise logs Q → Premise logs R
premise_both true f p q = f p q
premise_both false f p q = tt

-- ---- acts that change no history

pub neutral_acts : (node : NodeId) (P : Effect → Type 0) → ((a : Act) → P (Does a) → IsNeutral a) → (outs : List Effect) → AllByRecursion P outs
    → AllByRecursion IsNeutral (acts_of node outs)
neutral_acts node P each [] all = tt
neutral_acts node P each (Send to said ∷ outs) all = neutral_acts node P each outs all.1
neutral_acts node P each (Answer item answer ∷ outs) all = (tt, neutral_acts node P each outs all.1)
neutral_acts node P each (Lose seg ∷ outs) all = (tt, neutral_acts node P each outs all.1)
neutral_acts node P each (Does a ∷ outs) all = (each a all.0, neutral_acts node P each outs all.1)

-- ---- runs

module _ {logs : Bool} {members part : ℕ} where
  pub runs_through : (n m o : Net) → Runs logs members part n m → Runs logs members part m o → Runs logs members part n o
  runs_through n m o r Begun = r
  runs_through n m o r (On {m = x} s h) = On (runs_through n m x r s) h

module _ (logs : Bool) (members part : ℕ) where
  -- what the cleaner has promised is left alone by all that happens
  stays : (n m : Net) → Happens logs members part n m → m.promised ≡ n.promised
  stays n m (Acts c end i serves own) = refl
  stays n m (Elsewhere c end i serves other) = refl
  stays n m (Reports c end serves) = refl
  stays n m (GetsCopy c end block stamp inc req entry serves fact) = refl
  stays n m (GetsOwn c end block stamp inc req entry value serves fact accepts room) = refl
  stays n m (Declines c end block stamp inc req entry serves fact accepts) = refl
  stays n m (GetsRecall c end block stamp keep serves fact) = refl
  stays n m (GetsForward c other block stamp inc req ver value pos less fact up serves held) = refl
  stays n m (GetsSupply c end block stamp inc req ver value serves fact) = refl
  stays n m (Fetches c end block value serves there) = refl
  stays n m (Reads c block value pos less up holds held) = refl
  stays n m (Syncs c pos less up clean) = refl
  stays n m (Seals c rows pos less up idle newest) = refl
  stays n m (Files c pos less up flies) = refl
  stays n m (GetsDeltas e s log first upto rows at known some covers) = refl
  stays n m (GetsWant e s c inc req again block mode end at fact) = refl
  stays n m (GetsGave e s c block stamp end at fact) = refl
  stays n m (Ticks e s at) = refl
  stays n m (Crashes c flight falls pos less up once so) = refl
  stays n m (Returns c inc epochs chain count pos less up later rises flies) = refl
  stays n m (SealsCopies l rows above idle copies) = refl
  stays n m (FilesCopies l above flies) = refl
  stays n m (Reopens l adopted count above flies) = refl
  stays n m (Activates e index applied rows ends order none all each sent gathered) = refl
  stays n m (Says a neutral) = refl

  pub promised_stays : (n m : Net) → Runs logs members part n m → m.promised ≡ n.promised
  promised_stays n m Begun = refl
  promised_stays n m (On {m = o} runs last) = stays o m last ∙ promised_stays n o runs

  -- and what happens doesn't depend on it
  serving_any : (k : ℕ) (n : Net) (c end : ℕ) → IsServing logs members n c end → IsServing logs members (with_promise k n) c end
  serving_any k n c end serves = record { some = serves.some; within = serves.within; up = serves.up; end_is = serves.end_is }

  happens_any : (k : ℕ) (n m : Net) → Happens logs members part n m → Happens logs members part (with_promise k n) (with_promise k m)
  happens_any k n m (Acts c end i serves own) = Acts c end i (serving_any k n c end serves) own
  happens_any k n m (Elsewhere c end i serves other) = Elsewhere c end i (serving_any k n c end serves) other
  happens_any k n m (Reports c end serves) = Reports c end (serving_any k n c end serves)
  happens_any k n m (GetsCopy c end block stamp inc req entry serves fact) = GetsCopy c end block stamp inc req entry (serving_any k n c end serves) fact
  happens_any k n m (GetsOwn c end block stamp inc req entry value serves fact accepts room) =
      GetsOwn c end block stamp inc req entry value (serving_any k n c end serves) fact accepts room
  happens_any k n m (Declines c end block stamp inc req entry serves fact accepts) =
      Declines c end block stamp inc req entry (serving_any k n c end serves) fact accepts
  happens_any k n m (GetsRecall c end block stamp keep serves fact) = GetsRecall c end block stamp keep (serving_any k n c end serves) fact
  happens_any k n m (GetsForward c other block stamp inc req ver value pos less fact up serves held) =
      GetsForward c other block stamp inc req ver value pos less fact up serves held
  happens_any k n m (GetsSupply c end block stamp inc req ver value serves fact) =
      GetsSupply c end block stamp inc req ver value (serving_any k n c end serves) fact
  happens_any k n m (Fetches c end block value serves there) = Fetches c end block value (serving_any k n c end serves) there
  happens_any k n m (Reads c block value pos less up holds held) = Reads c block value pos less up holds held
  happens_any k n m (Syncs c pos less up clean) = Syncs c pos less up clean
  happens_any k n m (Seals c rows pos less up idle newest) = Seals c rows pos less up idle newest
  happens_any k n m (Files c pos less up flies) = Files c pos less up flies
  happens_any k n m (GetsDeltas e s log first upto rows at known some covers) = GetsDeltas e s log first upto rows at known some covers
  happens_any k n m (GetsWant e s c inc req again block mode end at fact) = GetsWant e s c inc req again block mode end at fact
  happens_any k n m (GetsGave e s c block stamp end at fact) = GetsGave e s c block stamp end at fact
  happens_any k n m (Ticks e s at) = Ticks e s at
  happens_any k n m (Crashes c flight falls pos less up once so) = Crashes c flight falls pos less up once so
  happens_any k n m (Returns c inc epochs chain count pos less up later rises flies) = Returns c inc epochs chain count pos less up later rises flies
  happens_any k n m (SealsCopies l rows above idle copies) = SealsCopies l rows above idle copies
  happens_any k n m (FilesCopies l above flies) = FilesCopies l above flies
  happens_any k n m (Reopens l adopted count above flies) = Reopens l adopted count above flies
  happens_any k n m (Activates e index applied rows ends order none all each sent gathered) =
      Activates e index applied rows ends order none all each sent gathered
  happens_any k n m (Says a neutral) = Says a neutral

  pub any_promise : (k : ℕ) (n m : Net) → Runs logs members part n m → Runs logs members part (with_promise k n) (with_promise k m)
  any_promise k n m Begun = Begun
  any_promise k n m (On {m = o} runs last) = On (any_promise k n o runs) (happens_any k o m last)

  -- acts that change no history are done
  pub says_all : (n : Net) (acts : List Act) → AllByRecursion IsNeutral acts → Runs logs members part n (acted n acts)
  says_all n [] all = subst (λ (acts : List Act). Runs logs members part n (record n { acts = acts })) (sym (append-nil n.acts)) Begun
  says_all n (a ∷ acts) all =
      let m : Net = acted n (a ∷ []) in
      subst (λ (done : List Act). Runs logs members part n (record n { acts = done })) (append_assoc n.acts (a ∷ []) acts)
      (runs_through n m (acted m acts) (On Begun (Says a all.0)) (says_all m acts all.1))
