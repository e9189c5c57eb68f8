-- The first question of an opening.
use Rattle.std.proofs.Common.{◌≡◌, ℕ, List, [], ◌∷◌, None, refl, ap, ◌∙◌}
use Rattle.log_owner.specs.declared.ended.Owner.{Owner}
use Rattle.log_owner.specs.declared.ended.Sent.{Sent}
use Rattle.log_owner.specs.Opening.{nothing_asked, sent_send, scanned}
use Rattle.log_owner.specs.Sending.{hello}
use Rattle.log_scan.specs.declared.input.In.TheVariants.{Tick}
use Rattle.log_scan.specs.declared.output.Out.{Out}
use Rattle.log_scan.specs.ScanState.{ScanState, scan_start}
use Rattle.log_scan.specs.Transition.{transition, on_tick}
use Rattle.node_base.specs.Asking.{draw, next_ask}
use Rattle.node_base.specs.declared.effects.Effect.{Effect}
use Rattle.node_base.specs.declared.questions.Asked.{Asked}
use Rattle.node_base.specs.declared.questions.Questions.{Questions}
use Rattle.xfs_base.specs.Steps.{Stepped}

-- the registry is asked under a new question
abbrev pub first_said : Owner → Questions → Stepped Sent Effect
first_said owner q =
    record {
      state = record { asked = record { own = 1; ask = next_ask q }; questions = draw q; ended = None };
      outs = hello owner.inc (next_ask q) ∷ [];
    }

said_at_tick : (owner : Owner) (low : ℕ) (q : Questions)
    → scanned owner low nothing_asked q (transition (scan_start owner.log owner.inc) Tick).outs ≡ first_said owner q
unfolding sent_send on_tick
said_at_tick owner low q = refl

pub said_first : (owner : Owner) (low : ℕ) (q : Questions) (asked : Asked) (s : ScanState) (outs : List Out)
    → asked ≡ nothing_asked → s ≡ scan_start owner.log owner.inc → outs ≡ (transition s Tick).outs → scanned owner low asked q outs ≡ first_said owner q
said_first owner low q asked s outs none begun told =
    ap (λ a. scanned owner low a q outs) none
    ∙ ap (λ os. scanned owner low nothing_asked q os) (told ∙ ap (λ t. (transition t Tick).outs) begun)
    ∙ said_at_tick owner low q
