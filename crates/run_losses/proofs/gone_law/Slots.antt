-- What the moves of a manager make of its broken slots: a slot that is broken then was so before, and each Gone is of a slot that was broken before.
use Rattle.std.proofs.Common.{◌≡◌, ℕ, zero, suc, ◌==◌, Bool, true, false, List, [], ◌∷◌, Option, Some, refl, sym, ap, subst, ◌∙◌, arith}
use Rattle.std.specs.List.{AllByRecursion, slice_get, slice_set}
use Rattle.std.specs.Prelude.{unwrap_or}
use Rattle.std.proofs.lemmas.Bool.{eqb-true}
use Rattle.std.proofs.lemmas.Bool.Decides.{nat_tests}
use Rattle.std.proofs.lemmas.Option.{slice_get_within}
use Rattle.group_map.specs.GroupMapState.{GroupMapState}
use Rattle.headline.specs.Managers.{phase_at}
use Rattle.manager_moves.specs.Moves.{Given, Moves, Said, SlotMove, begun}
use Rattle.manager_moves.specs.Moves.Given.{MapsCame, ReportCame}
use Rattle.manager_moves.specs.Moves.Moves.{InSlot, LogSettles, LogTakes, Notes, Rests, Says, TakesMaps, Then, WriterTakes}
use Rattle.manager_moves.specs.Moves.Said.{AnswersItem, Counts, Greets, Registers, Stores}
use Rattle.manager_moves.specs.Moves.SlotMove.{AsksAgain, Begins, Checks, Cleans, Hears, Leaves, Names, Refuses, Stays, Takes}
use Rattle.manager_serving.specs.declared.serving.Serving.{Serving}
use Rattle.manager_slots.specs.declared.slot_phase.SlotPhase.{SlotPhase}
use Rattle.manager_slots.specs.declared.slot_phase.SlotPhase.TheVariants as phase
use Rattle.manager_slots.specs.declared.slot_phase.Taking.{Taking}
use Rattle.manager_slots.specs.SlotTable.{Table}
use Rattle.manager_slots.specs.Takeovers.{Asker, asker, is_wanted, say_each, takeovers_fetch, takeovers_say}
use Rattle.manager_slots.specs.Tokens as tokens
use Rattle.node_base.specs.declared.effects.Effect.{Effect}
use Rattle.node_base.specs.declared.effects.Effect.TheVariants.{Send, Answer, Lose, Does}
use Rattle.node_base.specs.declared.questions.Questions.{Questions}
use Rattle.node_slots.proofs.node_tie.ManagerTables.{set_here, set_there}
use Rattle.takeover.specs.declared.input.In.{In as TakeIn}
use Rattle.takeover.specs.declared.input.In.TheVariants as take_in
use Rattle.takeover.specs.declared.output.Out.{Out}
use Rattle.takeover.specs.declared.output.Out.TheVariants as out
use Rattle.takeover.specs.Transition.{transition}
use Rattle.token_manager.specs.declared.output.Out.{Out as SlotOut}
use Rattle.token_manager.specs.declared.output.Out.TheVariants as slot_out
use Rattle.token_manager.specs.Transition as slot
use Rattle.wire_msg.specs.declared.body.Body.TheVariants as body
use Rattle.wire_msg.specs.declared.cleaning.Check.{Check}
use Rattle.wire_msg.specs.declared.packet.Do.{Do}
use Rattle.wire_msg.specs.declared.tokens.Gone.{Gone}
use Rattle.xfs_base.proofs.Alls.{all_append, all_filter, all_flat_map, all_weaker}
use Rattle.xfs_base.specs.Blocks.{slot_of}
use Rattle.xfs_base.specs.declared.segment.SegName.{SegName}
use Rattle.run_losses.proofs.gone_law.Alone.{NoneLost, NotLost, calm_none}
use Rattle.run_losses.specs.gone_law.Gones.{IfGone}

-- where it is broken then, it was so before
abbrev pub Kept : SlotPhase → SlotPhase → Type 0
Kept p q = (epoch : ℕ) (name : SegName) → q ≡ phase.Broken epoch name → p ≡ phase.Broken epoch name

abbrev pub IsWhole : SlotPhase → Type 0
IsWhole (phase.Broken epoch seg) = ⊥
IsWhole (phase.Taking t) = Unit {0}
IsWhole (phase.Away epoch) = Unit {0}
IsWhole (phase.Active a) = Unit {0}

whole_kept : (p q : SlotPhase) → IsWhole q → Kept p q
whole_kept p q whole epoch name fact = absurd (subst IsWhole fact whole)

pub whole_at : (t : Table) → AllByRecursion IsWhole t → (k : ℕ) → IsWhole (phase_at t k)
whole_at [] all k = tt
whole_at (p ∷ t) all zero = all.0
whole_at (p ∷ t) all (suc k) = whole_at t all.1 k

-- of each Gone this is so
abbrev pub EffectGone : (Gone → Type 0) → Effect → Type 0
EffectGone A (Send to said) = IfGone A said
EffectGone A (Answer item a) = Unit {0}
EffectGone A (Lose name) = Unit {0}
EffectGone A (Does act) = Unit {0}

pub said_none : (A : Gone → Type 0) (e : Effect) → Said e → EffectGone A e
said_none A e (Stores f m) = tt
said_none A e (AnswersItem item a) = tt
said_none A e (Greets inc ask) = tt
said_none A e (Registers d) = tt
said_none A e (Counts u) = tt

pub gones_before : (A B : Gone → Type 0) → ((g : Gone) → A g → B g) → (outs : List Effect) → AllByRecursion (EffectGone A) outs
    → AllByRecursion (EffectGone B) outs
gones_before A B sub outs all = all_weaker (EffectGone A) (EffectGone B) each outs all
  where
    each : (e : Effect) → EffectGone A e → EffectGone B e
    each (Send to (body.Gone g)) h = sub g h
    each (Send to _) h = tt
    each (Answer item a) h = tt
    each (Lose name) h = tt
    each (Does act) h = tt

-- ---- one slot

module _ (A : Gone → Type 0) where
  abbrev NoGone : List Effect → Type 0
  NoGone outs = AllByRecursion (EffectGone A) outs

  slot_none : (k epoch : ℕ) (o : SlotOut) → NoGone (tokens.tokens_say k epoch o)
  unfolding tokens.tokens_say
  slot_none k epoch (slot_out.Grant client block stamp inc req mode entry) = (tt, tt)
  slot_none k epoch (slot_out.Forward client block stamp to inc req ver) = (tt, tt)
  slot_none k epoch (slot_out.Recall client block stamp keep) = (tt, tt)
  slot_none k epoch (slot_out.Applied log applied) = (tt, tt)
  slot_none k epoch (slot_out.Live entry) = tt
  slot_none k epoch slot_out.Dead = tt

  check_none : (m : Check) (epoch : ℕ) (o : SlotOut) → NoGone (tokens.tokens_answer m epoch o)
  unfolding tokens.tokens_answer
  check_none m epoch (slot_out.Grant client block stamp inc req mode entry) = (tt, tt)
  check_none m epoch (slot_out.Forward client block stamp to inc req ver) = (tt, tt)
  check_none m epoch (slot_out.Recall client block stamp keep) = (tt, tt)
  check_none m epoch (slot_out.Applied log applied) = (tt, tt)
  check_none m epoch (slot_out.Live entry) = (tt, tt)
  check_none m epoch slot_out.Dead = (tt, tt)

  -- what says nothing of losses breaks no slot
  fetched : (p : SlotPhase) (q : Questions) (server : ℕ) (name : SegName) (own : ℕ) → IsWhole p
      → IsWhole (takeovers_fetch p q server name own).state.phase × NoGone (takeovers_fetch p q server name own).outs
  fetched (phase.Taking t) q server name own whole = (tt, (tt, tt))
  fetched (phase.Away epoch) q server name own whole = (tt, tt)
  fetched (phase.Active a) q server name own whole = (tt, tt)
  fetched (phase.Broken epoch seg) q server name own whole = absurd whole

  one_whole : (k : ℕ) (x : Asker) (o : Out) → NotLost o → IsWhole x.phase
      → IsWhole (takeovers_say k x o).state.phase × NoGone (takeovers_say k x o).outs
  unfolding takeovers_say
  one_whole k x (out.Poll to) none whole = (whole, (tt, tt))
  one_whole k x (out.Fetch server name own) none whole = fetched x.phase x.questions server name own whole
  one_whole k x (out.Active epoch index beliefs applied) none whole = (tt, tt)
  one_whole k x (out.Lost name) none whole = absurd none

  pub each_whole : (k : ℕ) (x : Asker) (outs : List Out) → NoneLost outs → IsWhole x.phase
      → IsWhole (say_each k x outs).state.phase × NoGone (say_each k x outs).outs
  unfolding say_each
  each_whole k x [] none whole = (whole, tt)
  each_whole k x (o ∷ outs) none whole =
      let a = one_whole k x o none.0 whole in
      let b = each_whole k (takeovers_say k x o).state outs none.1 a.0 in
      (b.0, all_append (EffectGone A) (takeovers_say k x o).outs (say_each k (takeovers_say k x o).state outs).outs a.1 b.1)

  record SlotRests (x y : Asker) (outs : List Effect) : Type 0 where
    kept : Kept x.phase y.phase
    gones : NoGone outs

  took_rests : (k : ℕ) (x : Asker) (t : Taking) (outs : List Out) → NoneLost outs
      → SlotRests x (say_each k (record x { phase = phase.Taking t }) outs).state (say_each k (record x { phase = phase.Taking t }) outs).outs
  took_rests k x t outs none =
      let e = each_whole k (record x { phase = phase.Taking t }) outs none tt in
      record { kept = whole_kept x.phase (say_each k (record x { phase = phase.Taking t }) outs).state.phase e.0; gones = e.1 }

  given_none : (what : Do) (k : ℕ) (t : Taking) (given : TakeIn) → Given what k given → NoneLost (transition t.take given).outs
  given_none what k t given (ReportCame packet m came) = calm_none t.take given refl
  given_none what k t given (MapsCame at packet news brought) = calm_none t.take given refl

  module _ (what : Do) (known : Option GroupMapState) (k : ℕ) where
    slot_rests : (x y : Asker) (o : List Effect) → ((g : Gone) → k ≡ slot_of g.block.ino.0 → x.phase ≡ phase.Broken g.epoch g.seg → A g)
        → SlotMove what known k x y o → SlotRests x y o
    slot_rests x y o may (Stays z) = record { kept = λ epoch name fact. fact; gones = tt }
    slot_rests x y o may (Takes z a given fed at) = record {
      kept = whole_kept x.phase y.phase tt;
      gones = all_flat_map (EffectGone A) (tokens.tokens_say k a.slot.epoch) (slot_none k a.slot.epoch) (slot.transition a.slot given).outs;
    }
    slot_rests x y o may (Checks z a packet m came same at) = record {
      kept = whole_kept x.phase y.phase tt;
      gones = all_flat_map (EffectGone A) (tokens.tokens_answer m a.slot.epoch) (check_none m a.slot.epoch)
          (slot.transition a.slot (tokens.check_input m)).outs;
    }
    slot_rests x y o may (Refuses z epoch seg packet client m came from same at) =
        record { kept = λ e name fact. fact; gones = (may _ same at, tt) }
    slot_rests x y o may (Cleans z a at) = record { kept = whole_kept x.phase y.phase tt; gones = tt }
    slot_rests x y o may (Names z a parts at) = record { kept = whole_kept x.phase y.phase tt; gones = tt }
    slot_rests x y o may (Hears z t given because at) = took_rests k x _ (transition t.take given).outs (given_none what k t given because)
    slot_rests x y o may (AsksAgain z t polls at) =
        took_rests k x _ _ (all_filter NotLost (is_wanted polls) (transition t.take take_in.Tick).outs (calm_none t.take take_in.Tick refl))
    slot_rests x y o may (Leaves z packet news s brought among same) = record { kept = whole_kept x.phase y.phase tt; gones = tt }
    slot_rests x y o may (Begins z packet news s groups clients brought among same is_known) =
        took_rests k x _ (transition (begun s groups clients).take take_in.Tick).outs (calm_none (begun s groups clients).take take_in.Tick refl)

-- ---- tables

-- a slot is the one that is put, or as it was
pub put_by : (t : Table) (k : ℕ) (p q : SlotPhase) → slice_get t k ≡ Some p → (P : ℕ → SlotPhase → Type 0) → P k q
    → ((m : ℕ) → P m (phase_at t m)) → (m : ℕ) → P m (phase_at (slice_set t k q) m)
put_by t k p q fact P own others m = by (m == k) refl
  where
    apart : (m == k) ≡ false → m ≡ k → ⊥
    apart e = grind (arith, nat_tests)

    by : (b : Bool) → (m == k) ≡ b → P m (phase_at (slice_set t k q) m)
    by true e =
        subst (λ n. P n (phase_at (slice_set t k q) n)) (sym (eqb-true m k e)) (subst (P k) (sym (set_here t k q (slice_get_within t k p fact))) own)
    by false e = subst (P m) (sym (set_there t k m q (apart e))) (others m)

pub here_is : (t : Table) (k : ℕ) (p : SlotPhase) → slice_get t k ≡ Some p → phase_at t k ≡ p
here_is t k p fact = ap (λ o. unwrap_or o (phase.Away 0)) fact

-- ---- all moves

-- the slot of its block was broken, in that epoch and by that segment
abbrev pub WasBroken : Table → Gone → Type 0
WasBroken t g = phase_at t (slot_of g.block.ino.0) ≡ phase.Broken g.epoch g.seg

pub record TableRests (t u : Table) (outs : List Effect) : Type 0 where
  pub kept : (k : ℕ) → Kept (phase_at t k) (phase_at u k)
  pub gones : AllByRecursion (EffectGone (WasBroken t)) outs

same_table : (t : Table) → TableRests t t []
same_table t = record { kept = λ k epoch name fact. fact; gones = tt }

module _ (what : Do) where
  pub moves_rest : (s t : Serving) (o : List Effect) → Moves what s t o → TableRests s.slots t.slots o
  moves_rest s t o (Rests u) = same_table s.slots
  moves_rest s t o (Then {t = v} {o = first} {m = more} a b) =
      let x = moves_rest s v first a in
      let y = moves_rest v t more b in
      record {
        kept = λ k epoch name fact. x.kept k epoch name (y.kept k epoch name fact);
        gones = all_append (EffectGone (WasBroken s.slots)) first more x.gones
            (gones_before (WasBroken v.slots) (WasBroken s.slots) (λ g. x.kept (slot_of g.block.ino.0) g.epoch g.seg) more y.gones);
      }
  moves_rest s t o (InSlot u k p x m at move) =
      let r = slot_rests (WasBroken s.slots) what s.maps.groups k (asker p s.lasting.questions) x o
      (λ g same broken. subst (λ n. phase_at s.slots n ≡ phase.Broken g.epoch g.seg) same (here_is s.slots k p at ∙ broken)) move in
      record {
        kept = put_by s.slots k p x.phase at (λ m z. Kept (phase_at s.slots m) z) (subst (λ z. Kept z x.phase) (sym (here_is s.slots k p at)) r.kept)
            (λ m epoch name fact. fact);
        gones = r.gones;
      }
  moves_rest s t o (LogTakes u given because same) = same_table s.slots
  moves_rest s t o (LogSettles u given because f flew ends) = record { kept = λ k epoch name fact. fact; gones = (tt, tt) }
  moves_rest s t o (WriterTakes u given) = same_table s.slots
  moves_rest s t o (TakesMaps u packet news brought) = same_table s.slots
  moves_rest s t o (Notes u v slots log writer maps number inc) = subst (λ z. TableRests s.slots z []) (sym slots) (same_table s.slots)
  moves_rest s t o (Says u e said) = record { kept = λ k epoch name fact. fact; gones = (said_none (WasBroken s.slots) e said, tt) }
