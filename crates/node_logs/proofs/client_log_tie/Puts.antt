-- What a log took on the way: nothing, one input, or what it took in one part and then in another.
use Rattle.std.proofs.Common.{◌≡◌, List, [], ◌∷◌, ◌++◌, refl, sym, ap, ◌∙◌}
use Rattle.std.specs.List.{AllByRecursion}
use Rattle.client_log.specs.declared.input.In.{In as Input}
use Rattle.client_log.specs.History.{state_after}
use Rattle.client_log.specs.LogState.{LogState}
use Rattle.client_log.specs.Transition.{transition}
use Rattle.log_law.specs.Net.{Net, Owner, flown_with}
use Rattle.log_law.specs.Net.Owner.{Serving}
use Rattle.segment_format.specs.declared.segment.Segment.{Segment}
use Rattle.node_logs.specs.client_log_tie.Puts.{LogTook, flown_after}
use Rattle.xfs_base.proofs.StepLoops.{steps_both}

-- ---- lists of inputs

flown_both : (s : LogState) (first second : List Input) (before : List Segment)
    → flown_after s (first ++ second) before ≡ flown_after (state_after s first) second (flown_after s first before)
flown_both s [] second before = refl
flown_both s (i ∷ first) second before = flown_both (transition s i).state first second (flown_with (transition s i).state.flight before)

all_both : (Puts : Input → Type 0) (first second : List Input) → AllByRecursion Puts first → AllByRecursion Puts second
    → AllByRecursion Puts (first ++ second)
all_both Puts [] second a b = b
all_both Puts (i ∷ first) second a b = (a.0, all_both Puts first second a.1 b)

all_such : (P Q : Input → Type 0) → ((i : Input) → P i → Q i) → (inputs : List Input) → AllByRecursion P inputs → AllByRecursion Q inputs
all_such P Q weaker [] all = tt
all_such P Q weaker (i ∷ inputs) all = (weaker i all.0, all_such P Q weaker inputs all.1)

-- ---- what was taken

served_or : LogState → Owner → LogState
served_or s (Serving log) = log
served_or s _ = s

-- an owner has one log
pub one_log : (s t : LogState) (n : Net) → n.owner ≡ Serving s → n.owner ≡ Serving t → s ≡ t
unfolding served_or
one_log s t n fact also = ap (served_or s) (sym fact ∙ also)

pub took_nothing : (Puts : Input → Type 0) (n : Net) (s : LogState) → n.owner ≡ Serving s → LogTook Puts n n s
took_nothing Puts n s fact = record { inputs = []; all = tt; serves = fact; flown = refl }

pub took_both : (Puts : Input → Type 0) (n m o : Net) (s : LogState) (a : LogTook Puts n m s) → LogTook Puts m o (state_after s a.inputs) → LogTook Puts n o s
took_both Puts n m o s a b = record {
  inputs = a.inputs ++ b.inputs;
  all = all_both Puts a.inputs b.inputs a.all b.all;
  serves = b.serves ∙ ap (λ t. Serving t) (sym (steps_both transition s a.inputs b.inputs));
  flown = b.flown ∙ ap (flown_after (state_after s a.inputs) b.inputs) a.flown ∙ sym (flown_both s a.inputs b.inputs n.flown);
}

pub took_such : (P Q : Input → Type 0) → ((i : Input) → P i → Q i) → (n o : Net) (s : LogState) → LogTook P n o s → LogTook Q n o s
took_such P Q weaker n o s a = record { inputs = a.inputs; all = all_such P Q weaker a.inputs a.all; serves = a.serves; flown = a.flown }
