-- What a cell chooses to do, and what comes of it in a visit.
use Rattle.std.proofs.Common.{true≢false, ◌≡◌, refl, sym, subst, ◌∙◌, ℕ, zero, suc, ◌+◌, ◌≤◌, Bool, true, false, List, arith}
use Rattle.wire_msg.specs.declared.packet.Do.{Do}
use Rattle.wire_msg.specs.declared.packet.Do.TheVariants.{Begin, Tick}
use Rattle.wire_msg.specs.NodeStep.{NodeStep}
use Rattle.xfs_base.specs.declared.node.NodeId.{NodeId}
use Rattle.world_base.specs.declared.cluster.Cluster.{Cluster}
use Rattle.world_base.specs.declared.due.Due.{Due}
use Rattle.journals.specs.Journals.{MayBegin, whats}
use Rattle.live_links.specs.Acts.{Acted, Acts, CellView, Chooses, Turns, Visits, ticks}
use Rattle.live_links.specs.Ends.{AreStill}
use Rattle.live_links.proofs.Answering.{unticked_then}

module _ {N : Type 0} (step : N → Do → NodeStep N) (firsts : ℕ → N) (c : Cluster) (p : ℕ) (node : NodeId) (dues : List Due) (idle : Bool) where
  pub tick_chosen : (may_begin : Bool) (old new : CellView) → idle ≡ true → AreStill old.ins new.ins → Turns step (firsts p) c p Tick 0 0 old new
      → Chooses step (firsts p) c p node dues idle may_begin true old new
  tick_chosen may_begin old new is still turns = record {
    passes = λ e. (still, turns);
    begins = λ busy may due. absurd (true≢false (sym is ∙ busy));
    waits = λ busy. absurd (true≢false (sym is ∙ busy));
    rests = λ e. absurd (true≢false e);
  }

  pub begin_chosen : (may_begin : Bool) (old new : CellView) → idle ≡ false → AreStill old.ins new.ins → Turns step (firsts p) c p Begin 0 0 old new
      → Chooses step (firsts p) c p node dues idle may_begin true old new
  begin_chosen may_begin old new busy still turns = record {
    passes = λ e. absurd (true≢false (sym e ∙ busy));
    begins = λ b may due. (still, turns);
    waits = λ b. unticked_then step node (firsts p) p Begin 0 0 old.moments old.moments new.moments refl turns.moments refl;
    rests = λ e. absurd (true≢false e);
  }

  -- what says wherever an item is due that may begin says that none is
  pub else_chosen : (may_begin moved due : Bool) (old new : CellView) → idle ≡ false → (may_begin ≡ true → MayBegin step node (firsts p) dues (whats old.moments) → due ≡ true) → due ≡ false
      → ticks (whats new.moments) ≡ ticks (whats old.moments) → Chooses step (firsts p) c p node dues idle may_begin moved old new
  else_chosen may_begin moved due old new busy wherever none waits = record {
    passes = λ e. absurd (true≢false (sym e ∙ busy));
    begins = λ b may here. absurd (true≢false (sym (wherever may here) ∙ none));
    waits = λ b. waits;
    rests = λ e. (busy, λ may here. true≢false (sym (wherever may here) ∙ none));
  }

  -- the first act made no turn
  pub visit_rests : (more : ℕ) (moved : Bool) (old mid : CellView) → moved ≡ false → Acted step (firsts p) c p moved old mid
      → Chooses step (firsts p) c p node dues idle true moved old mid → Visits step (firsts p) c p node dues idle more false old mid
  visit_rests more moved old mid rests acted chosen = record {
    mid = mid;
    acted = subst (λ (m : Bool). Acted step (firsts p) c p m old mid) rests acted;
    chosen = subst (λ (m : Bool). Chooses step (firsts p) c p node dues idle true m old mid) rests chosen;
    still = λ e. refl;
    count = 0;
    most = omega arith;
    later = refl;
    waits = refl;
  }

  -- it made one, and others followed
  pub visit_goes_on : (more : ℕ) (moved : Bool) (q count : ℕ) (old mid new : CellView) → moved ≡ true → q ≡ p → Acted step (firsts p) c p moved old mid
      → Chooses step (firsts p) c p node dues idle true moved old mid → count ≤ more → Acts step (firsts q) c q count mid new
      → ticks (whats new.moments) ≡ ticks (whats mid.moments) → Visits step (firsts p) c p node dues idle more true old new
  visit_goes_on more moved q count old mid new moves at acted chosen most later waits = record {
    mid = mid;
    acted = subst (λ (m : Bool). Acted step (firsts p) c p m old mid) moves acted;
    chosen = subst (λ (m : Bool). Chooses step (firsts p) c p node dues idle true m old mid) moves chosen;
    still = λ e. absurd (true≢false e);
    count = count;
    most = most;
    later = subst (λ (k : ℕ). Acts step (firsts k) c k count mid new) at later;
    waits = waits;
  }

  acts_behind : (count : ℕ) (moved : Bool) (old mid new : CellView) → Acted step (firsts p) c p moved old mid → Acts step (firsts p) c p count mid new
      → Acts step (firsts p) c p (suc count) old new
  acts_behind zero moved old mid new acted is = subst (λ (v : CellView). Acts step (firsts p) c p 1 old v) is (old, moved, refl, acted)
  acts_behind (suc count) moved old mid new acted later = (later.0, later.1, acts_behind count moved old mid later.0 acted later.2, later.3)

  -- the acts of a visit, one after the other
  pub visit_acts : (more : ℕ) (moved : Bool) (old new : CellView) → Visits step (firsts p) c p node dues idle more moved old new
      → (count : ℕ) × (count ≤ more + 1) × Acts step (firsts p) c p count old new
  visit_acts more moved old new v = let most = v.most in (suc v.count, omega arith, acts_behind v.count moved old v.mid new v.acted v.later)
