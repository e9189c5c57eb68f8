-- What stays drained where one client and one slot have changed, and the rows of the index haven't.
use Rattle.std.proofs.Common.{◌≡◌, ℕ, suc, ◌<◌, ◌≤◌, ◌==◌, true, false, All, List, Option, refl, sym, ap, subst, ◌∙◌, arith}
use Rattle.std.proofs.lemmas.Bool.{false≢true}
use Rattle.std.proofs.lemmas.Bool.Decides.{nat_tests}
use Rattle.client_log.specs.Transition.{prior_from}
use Rattle.delta_index.specs.Index.{entry_of}
use Rattle.fragment_store.specs.ShelfState.{held_at}
use Rattle.segment_format.specs.Ranges.{FitsPrior}
use Rattle.segment_reading.specs.Reading.{is_known}
use Rattle.token_manager.specs.SlotState.{SlotState}
use Rattle.version_model.specs.declared.work.Work.{Work}
use Rattle.xfs_base.specs.Blocks.{slot_of}
use Rattle.xfs_base.specs.declared.block.BlockId.{BlockId}
use Rattle.xfs_base.specs.declared.entry.Place.{Place}
use Rattle.xfs_base.specs.declared.node.NodeId.{NodeId}
use Rattle.xfs_base.specs.declared.segment.End.{End}
use Rattle.xfs_base.specs.declared.setup.Setup.{Setup}
use Rattle.quiet_law.specs.Drained.{AreSquare, Drained, IsCalm, IsIdle, IsPlaceReadable, IsShelved}
use Rattle.quiet_nodes.specs.Scene.{ClientPart, Scene, its_groups}
use Rattle.quiet_law.proofs.Keeping.{all_shelved, calm_more, idle_again, readable_as}

-- what holds of the one that is changed, and of each other as it was, holds of all
pub each_of : {X : Type 0} (f g : ℕ → X) (n : ℕ) (x : X) → ((m : ℕ) → (m ≡ n → ⊥) → g m ≡ f m) → g n ≡ x → (P : ℕ → X → Type 0) → P n x
    → ((m : ℕ) → (m ≡ n → ⊥) → P m (f m)) → (m : ℕ) → P m (g m)
each_of f g n x same is P here others m =
    elim (m == n) as (λ b. (m == n) ≡ b → P m (g m)) [
      | true ↦ λ one. subst (λ k. P k (g k)) (sym (equal m n one)) (subst (P n) (sym is) here)
      | false ↦ λ differs. subst (P m) (sym (same m (apart m n differs))) (others m (apart m n differs))
    ] refl
  where
    equal : (a c : ℕ) → (a == c) ≡ true → a ≡ c
    equal a c h = grind (arith, nat_tests)

    itself : (a : ℕ) → (a == a) ≡ true
    itself a = grind (arith, nat_tests)

    apart : (a c : ℕ) → (a == c) ≡ false → a ≡ c → ⊥
    apart a c differs one = false≢true (sym differs ∙ ap (λ t. t == c) one ∙ itself c)

module _ (setup : Setup) (works : NodeId → List Work) (k : ℕ) (s u : Scene) (c i : ℕ) (q : ClientPart) (z : SlotState) (d : Drained setup works k s) where
  -- the next scene is this one but for one client and one slot
  pub record ButForTwo : Type 0 where
    pub clients : (e : ℕ) → (e ≡ c → ⊥) → u.client e ≡ s.client e
    pub client : u.client c ≡ q
    pub slots : (m : ℕ) → (m ≡ i → ⊥) → u.slot m ≡ s.slot m
    pub slot : u.slot i ≡ z
    pub held : (v : ℕ) → u.held v ≡ s.held v
    pub rows : z.index.rows ≡ (s.slot i).index.rows

  -- and those two are as they should be
  pub record AreFit : Type 0 where
    pub idle : IsIdle (suc k) q
    pub fed : q.fed ≡ q.end.seq
    pub end : q.end ≡ (s.client c).end
    pub calm : IsCalm setup (suc k) z
    pub square : AreSquare setup works c i q z
    pub elsewhere : (m : ℕ) → (m ≡ i → ⊥) → m < 8 → AreSquare setup works c m q (s.slot m)
    pub theirs : (e : ℕ) → (e ≡ c → ⊥) → 1 ≤ e → e ≤ setup.clients → AreSquare setup works e i (s.client e) z

  module _ (but : ButForTwo) (fit : AreFit) where
    each_client : (P : ℕ → ClientPart → Type 0) → P c q → ((e : ℕ) → (e ≡ c → ⊥) → P e (s.client e)) → (e : ℕ) → P e (u.client e)
    each_client = each_of s.client u.client c q but.clients but.client

    each_slot : (P : ℕ → SlotState → Type 0) → P i z → ((m : ℕ) → (m ≡ i → ⊥) → P m (s.slot m)) → (m : ℕ) → P m (u.slot m)
    each_slot = each_of s.slot u.slot i z but.slots but.slot

    readable : (b : BlockId) (o : Option Place) → IsPlaceReadable setup works s b o → IsPlaceReadable setup works u b o
    readable = readable_as setup works s u (λ v n x is. ap (λ shelf. held_at shelf n) (but.held v) ∙ is)

    ends : (e : ℕ) → (u.client e).end ≡ (s.client e).end
    ends = each_client (λ e (p : ClientPart). p.end ≡ (s.client e).end) fit.end (λ e differs. refl)

    pub drained_both : Drained setup works (suc k) u
    drained_both = record {
      clients = each_client (λ e p. 1 ≤ e → e ≤ setup.clients → IsIdle (suc k) p) (λ least most. fit.idle)
          (λ e differs least most. idle_again k (s.client e) (d.clients e least most));
      fed = each_client (λ e (p : ClientPart). 1 ≤ e → e ≤ setup.clients → p.fed ≡ p.end.seq) (λ least most. fit.fed) (λ e differs. d.fed e);
      linked = λ e l m. ap (λ x. is_known (its_groups setup works) (prior_from x)) (ends e) ∙ d.linked e l m;
      passes = λ e l m. subst (λ x. FitsPrior (prior_from x)) (sym (ends e)) (d.passes e l m);
      slots = each_slot (λ m z. m < 8 → IsCalm setup (suc k) z) (λ within. fit.calm) (λ m differs within. calm_more setup k (s.slot m) (d.slots m within));
      square = λ e m least most within.
          each_client (λ e p. 1 ≤ e → e ≤ setup.clients → AreSquare setup works e m p (u.slot m))
          (λ l h. each_slot (λ m z. m < 8 → AreSquare setup works c m q z) (λ w. fit.square) (λ m differs. fit.elsewhere m differs) m within)
          (λ e other l h.
          each_slot (λ m z. m < 8 → AreSquare setup works e m (s.client e) z) (λ w. fit.theirs e other l h) (λ m differs. d.square e m l h) m within)
          e least most;
      legible = each_slot
          (λ m (z : SlotState). m < 8 → (b : BlockId) → slot_of b.ino.0 ≡ m → IsPlaceReadable setup works u b (entry_of z.index.rows b).place)
          (λ within b of_slot. readable b (entry_of z.index.rows b).place
          (subst (λ rows. IsPlaceReadable setup works s b (entry_of rows b).place) (sym but.rows) (d.legible i within b of_slot)))
          (λ m differs within b of_slot. readable b (entry_of (s.slot m).index.rows b).place (d.legible m within b of_slot));
      shelved = λ v least most. subst (All (IsShelved setup works u)) (sym (but.held v))
          (all_shelved setup works s u (λ e. ap (λ (x : End). x.seq) (ends e)) (s.held v) (d.shelved v least most));
    }
