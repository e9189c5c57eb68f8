-- An act is one turn, or none.
use Rattle.std.proofs.Common.{◌≡◌, sym, ap, subst, ◌∙◌, ℕ, true, List}
use Rattle.wire_msg.specs.declared.packet.Do.{Do}
use Rattle.wire_msg.specs.NodeStep.{NodeStep}
use Rattle.world_base.specs.declared.cluster.Cluster.{Cluster}
use Rattle.journals.specs.declared.moment.Moment.{Moment}
use Rattle.live_links.specs.Acts.{Acted, CellView, TakesFor, Turns, turned}
use Rattle.live_links.specs.Ends.{In, Out, Sends}

module _ {N : Type 0} (step : N → Do → NodeStep N) (firsts : ℕ → N) (c : Cluster) where
  -- a turn of what a cell is after a packet was taken from its rings
  pub acted_then : (p q : ℕ) (what : Do) (from number : ℕ) (old mid new : CellView) → q ≡ p → mid.moments ≡ old.moments → mid.outs ≡ old.outs
      → TakesFor what from number old.ins mid.ins → new.ins ≡ mid.ins → Turns step (firsts q) c q what from number mid new → Acted step (firsts p) c p true old new
  acted_then p q what from number old mid new at moments outs takes ins t =
      let here : Turns step (firsts q) c q what from number old new = record {
        moments = t.moments ∙ ap (λ (ms : List Moment). (turned step (firsts q) q what from number ms).moments) moments;
        pushed =
            subst (λ (o : List Out). Sends c o (turned step (firsts q) q what from number old.moments).letters new.outs) outs
            (subst (λ (ms : List Moment). Sends c mid.outs (turned step (firsts q) q what from number ms).letters new.outs) moments t.pushed);
      }
      in
      subst (λ (k : ℕ). Acted step (firsts k) c k true old new) at
      (what, from, number, subst (λ (is : List In). TakesFor what from number old.ins is) (sym ins) takes, here)
