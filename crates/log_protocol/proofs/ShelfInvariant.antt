-- The first layer of the invariant, shelves: what is booked, held, listed, remembered and filed. It holds in every run, whatever is lost, and stands
-- on nothing but itself.
use Rattle.std.proofs.Common.{ℕ}
use Rattle.log_protocol.specs.State.{State, Names, new_log}
use Rattle.log_protocol.specs.Step.{Step}
use Rattle.log_protocol.proofs.Generations.{Generations, step_keeps_generations, new_log_generations}
use Rattle.log_protocol.proofs.Boots.{Boots, step_keeps_boots, new_log_boots}
use Rattle.log_protocol.proofs.Texts.{Texts, step_keeps_texts, new_log_texts}
use Rattle.log_protocol.proofs.Lists.{Lists, step_keeps_lists, new_log_lists}
use Rattle.log_protocol.proofs.Horizons.{Horizons, step_keeps_horizons, new_log_horizons}
use Rattle.log_protocol.proofs.Contents.{Contents, step_keeps_contents, new_log_contents}
use Rattle.log_protocol.proofs.Secured.{Secured, step_keeps_secured, new_log_secured}
use Rattle.log_protocol.proofs.Priors.{Priors, step_keeps_priors, new_log_priors}
use Rattle.log_protocol.proofs.Filed.{Filed, step_keeps_filed, new_log_filed}
use Rattle.log_protocol.proofs.Naming.{step_keeps_names}

pub record ShelfInvariant (w : State) : Type 0 where
  pub names : Names w.seq_of w.incarnation_of w.attempt_of
  pub generations : Generations w
  pub boots : Boots w
  pub texts : Texts w
  pub lists : Lists w
  pub horizons : Horizons w
  pub contents : Contents w
  pub secured : Secured w
  pub priors : Priors w
  pub filed : Filed w

pub step_keeps_shelf : (w u : State) → Step w u → ShelfInvariant w → ShelfInvariant u
step_keeps_shelf w u step shelf = record {
  names = step_keeps_names w u step shelf.names;
  generations = step_keeps_generations w u step shelf.generations;
  boots = step_keeps_boots w u step shelf.boots;
  texts = step_keeps_texts w u step shelf.boots shelf.texts;
  lists = step_keeps_lists w u step shelf.generations shelf.texts shelf.lists;
  horizons = step_keeps_horizons w u step shelf.horizons;
  contents = step_keeps_contents w u step shelf.boots shelf.contents;
  secured = step_keeps_secured w u step shelf.generations shelf.boots shelf.texts shelf.lists shelf.secured;
  priors = step_keeps_priors w u step shelf.names shelf.boots shelf.lists shelf.horizons shelf.secured shelf.priors;
  filed = step_keeps_filed w u step shelf.boots shelf.horizons shelf.secured shelf.priors shelf.filed;
}

pub new_log_shelf : (servers : ℕ) (seq_of incarnation_of attempt_of : ℕ → ℕ) → Names seq_of incarnation_of attempt_of
    → ShelfInvariant (new_log servers seq_of incarnation_of attempt_of)
new_log_shelf servers seq_of incarnation_of attempt_of names = record {
  names = names;
  generations = new_log_generations servers seq_of incarnation_of attempt_of;
  boots = new_log_boots servers seq_of incarnation_of attempt_of;
  texts = new_log_texts servers seq_of incarnation_of attempt_of;
  lists = new_log_lists servers seq_of incarnation_of attempt_of;
  horizons = new_log_horizons servers seq_of incarnation_of attempt_of;
  contents = new_log_contents servers seq_of incarnation_of attempt_of;
  secured = new_log_secured servers seq_of incarnation_of attempt_of;
  priors = new_log_priors servers seq_of incarnation_of attempt_of;
  filed = new_log_filed servers seq_of incarnation_of attempt_of;
}
