-- What the cleaner acts to be filed is owed to it: it flew, and is filed after the event; and what a reopening adopts was answered Live, and moved once.
use Rattle.std.proofs.Common.{◌≡◌, ◌≤◌, ◌<◌, ◌==◌, ◌⊎◌, ℕ, suc, Bool, true, false, List, [], ◌∷◌, Some, if◌then◌else◌, inl, inr, refl, sym, ap, subst, ◌∙◌, arith}
use Rattle.std.specs.List.{AllByRecursion}
use Rattle.headline.specs.Filed.{Filed, Texts}
use Rattle.index_tie.specs.Growth.{with_segment}
use Rattle.index_tie.specs.Net as index
use Rattle.log_flight.specs.Flights.{FlightState}
use Rattle.log_law.specs.Events.{Happens}
use Rattle.log_law.specs.Events.Runs.{On}
use Rattle.log_law.specs.Laws.{IsAttemptOf, Moment}
use Rattle.log_law.specs.Net.{Net}
use Rattle.log_law.specs.Restarts.{EndsRestart, IsSureRun, last_flight}
use Rattle.log_law.specs.Tails.{ARestartFilesTheTail, TellsOnlyTheTail}
use Rattle.log_protocol.specs.Tables.{In}
use Rattle.log_tie.specs.Setting.{Setting}
use Rattle.node_base.specs.declared.effects.Effect.{Effect}
use Rattle.node_base.specs.declared.effects.Effect.TheVariants.{Send, Answer, Lose, Does}
use Rattle.node_slots.proofs.owner_index_tie.Growing.{head_is}
use Rattle.node_slots.proofs.owner_index_tie.MovesLog.{segment_moves}
use Rattle.node_slots.specs.owner_index_tie.CleanerEvents.{IsMoved}
use Rattle.node_slots.specs.owner_index_tie.CleanerMoves.{ItemMoves}
use Rattle.node_slots.specs.owner_index_tie.Filing.{after_act, after_effect, with_name}
use Rattle.run_laws.specs.reopening_law.Reopens.{TellsApart}
use Rattle.segment_format.specs.declared.segment.Segment.{Segment}
use Rattle.version_model.specs.declared.act.Act.{Act}
use Rattle.version_model.specs.declared.act.Act.TheVariants.{Filed as ActsFiled}
use Rattle.run_laws.specs.world_lines.Lines.{FlownAreTexts, IsLine}
use Rattle.run_laws.specs.world_lines.Turns.{ActSo, AllNew, AllSo, EffectSo, NewAct, NewEffect}
use Rattle.xfs_base.specs.declared.segment.SegName.{SegName}

-- ---- what is new

module _ (New : Filed → Segment → Type 0) (texts : Texts) (l : ℕ) where
  -- the head never falls
  name_rises : (f : Filed) (name : SegName) → f.head l ≤ (with_name texts l f name).head l
  name_rises f name = by (name.seq == suc (f.head l)) refl
    where
      by : (t : Bool) → (name.seq == suc (f.head l)) ≡ t → f.head l ≤ (with_name texts l f name).head l
      by true fact = (let h = ap (λ (t : Bool). (if t then with_segment f l (texts name) else f).head l) fact ∙ head_is l f (texts name) in omega arith)
      by false fact = (let h = ap (λ (t : Bool). (if t then with_segment f l (texts name) else f).head l) fact in omega arith)

  act_rises : (f : Filed) (a : Act) → f.head l ≤ (after_act texts l f a).head l
  act_rises f (ActsFiled name) = name_rises f name
  act_rises f _ = omega arith

  effect_rises : (f : Filed) (e : Effect) → f.head l ≤ (after_effect texts l f e).head l
  effect_rises f (Send to m) = omega arith
  effect_rises f (Answer item answer) = omega arith
  effect_rises f (Lose seg) = omega arith
  effect_rises f (Does act) = act_rises f act

  -- what is so of each name beyond a head is new there
  module _ (low : ℕ) (So : SegName → Type 0) (new : (f : Filed) (name : SegName) → So name → low < name.seq → New f (texts name)) where
    act_new : (f : Filed) (a : Act) → low ≤ f.head l → ActSo So a → NewAct New texts l f a
    act_new f (ActsFiled name) upto so = λ next. new f name so (omega arith)
    act_new f _ upto so = tt

    effect_new : (f : Filed) (e : Effect) → low ≤ f.head l → EffectSo So e → NewEffect New texts l f e
    effect_new f (Send to m) upto so = tt
    effect_new f (Answer item answer) upto so = tt
    effect_new f (Lose seg) upto so = tt
    effect_new f (Does act) upto so = act_new f act upto so

    pub all_new : (f : Filed) (outs : List Effect) → low ≤ f.head l → AllSo So outs → AllNew New texts l f outs
    all_new f [] upto so = tt
    all_new f (e ∷ outs) upto so =
        (effect_new f e upto so.0, all_new (after_effect texts l f e) outs (let r = effect_rises f e in omega arith) so.1)

-- ---- what a reopening adopts

module _ (only : ARestartFilesTheTail) (texts : Texts) (part : ℕ) (said : List index.Packet) (g : Setting) (n o : Net) (trusted : g.doubts ≡ false)
    (apart : TellsApart g) (at : Moment g n) (happens : Happens g n o) (calm : IsSureRun (On at.run happens)) (ends : EndsRestart n o)
    (are : FlownAreTexts texts o) (f : Filed) (line : IsLine 9 n f)
    (moved : (x : FlightState) → last_flight at.run ≡ Some x → AllByRecursion (ItemMoves part said) x.segment.items) where
  tail_moves : (name : SegName) → TellsOnlyTheTail at o name → IsMoved part said f (texts name)
  tail_moves name (t, flew, same, tells) =
      λ b inside some. segment_moves part said (texts name)
      (subst (AllByRecursion (ItemMoves part said)) (ap (λ (s : Segment). s.items) its) (by tells)) b inside some
    where
      its : t ≡ texts name
      its = sym (are t flew) ∙ ap texts same

      by : ((g.content t.items ≡ 0) ⊎ ((x : FlightState) × (last_flight at.run ≡ Some x) × IsAttemptOf g x t)) → AllByRecursion (ItemMoves part said) t.items
      by (inl nothing) = subst (AllByRecursion (ItemMoves part said)) (sym (apart t.items [] (nothing ∙ sym g.no_content))) tt
      by (inr (x, last, attempt)) = subst (AllByRecursion (ItemMoves part said)) (sym (apart t.items x.segment.items attempt.content)) (moved x last)

  -- each segment that is filed beyond what was
  pub adopted_moves : (name : SegName) → In name o.filed → f.head 9 < name.seq → IsMoved part said f (texts name)
  adopted_moves name filed beyond = by (only g n o trusted at happens calm ends name filed)
    where
      by : In name n.filed ⊎ TellsOnlyTheTail at o name → IsMoved part said f (texts name)
      by (inl before) = (let limit = (line.all name before).1 in absurd (omega arith))
      by (inr tail) = tail_moves name tail
