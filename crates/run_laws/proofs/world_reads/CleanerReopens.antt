-- Where the cleaner's log is open again: what it read back is what was filed, and the log is open as the books of tokens are.
use Rattle.std.proofs.Common.{◌≡◌, ℕ, Bool, true, false, Option, None, Some, if◌then◌else◌, refl, sym, ap}
use Rattle.cleaner_serving.specs.declared.emptying.Emptying.{Emptying}
use Rattle.cleaner_node.specs.CleanerEvents.{after_opening, happens, cleaner_hear, on_begin, on_deliver, on_time, opening_at, opening_wishes, phase_has_room, takes}
use Rattle.cleaner_node.specs.CleanerEvents as events
use Rattle.cleaner_node.specs.declared.cleaner.Phase.TheVariants.{Opening, Serving}
use Rattle.cleaner_node.specs.declared.cleaner.Wish.{Wish}
use Rattle.cleaner_node.specs.declared.cleaner.Wish.TheVariants.{Crash, Restart, Clean}
use Rattle.cleaner_job.specs.declared.lasting.Lasting.{Lasting}
use Rattle.log_owner.specs.declared.opened.Opened.{Opened}
use Rattle.log_owner.specs.declared.opened.Progress.{Progress}
use Rattle.log_owner.specs.declared.opened.Progress.TheVariants as progress
use Rattle.log_owner.specs.declared.opening.Opening as openings
use Rattle.log_owner.specs.Opening as opening
use Rattle.node_base.specs.Beginning.{next_item}
use Rattle.node_base.specs.declared.peers.Peers.{Peers}
use Rattle.node_base.specs.Shape.{is_well_formed}
use Rattle.run_laws.specs.reopening_law.Openings.{comes_to}
use Rattle.wire_msg.specs.declared.packet.Do.{Do}
use Rattle.wire_msg.specs.declared.packet.Do.TheVariants.{Begin, Deliver, Tick}
use Rattle.wire_msg.specs.declared.packet.Packet.{Packet}
use Rattle.xfs_base.specs.Steps.{still}

-- ---- the node

-- the cleaner that serves then has the log that was opened, and has promised what the opening did
pub record ComesBack (p : Progress) (v : Emptying) : Type 0 where
  pub opened : Opened
  pub comes : p ≡ progress.Opened opened
  pub log : v.log ≡ opened.log
  pub promised : v.promised ≡ opened.promised

module _ (v : Emptying) where
  served : (a : Emptying) → Serving a ≡ Serving v → a ≡ v
  served a fact = cc

  by_progress : (l : Lasting) (p : Progress) → (after_opening l p).state ≡ Serving v → ComesBack p v
  unfolding after_opening
  by_progress l (progress.Opening o) fact = absurd cc
  by_progress l (progress.Opened o) fact = record {
    opened = o;
    comes = refl;
    log = ap (λ (a : Emptying). a.log) (sym (served _ fact));
    promised = ap (λ (a : Emptying). a.promised) (sym (served _ fact));
  }
  by_progress l (progress.Lost seg) fact = absurd cc

  module _ (l : Lasting) (o : openings.Opening) where
    wishes_not : (m : Lasting) (number : ℕ) (w : Wish) → (opening_wishes m o number w).state ≡ Serving v → ⊥
    unfolding events.crash
    wishes_not m number Crash fact = absurd cc
    wishes_not m number Restart fact = absurd cc
    wishes_not m number (Clean count) fact = absurd cc

    begins_not : (m : Lasting) (item : Option ℕ) → (opening_at m o item).state ≡ Serving v → ⊥
    begins_not m None fact = absurd cc
    begins_not m (Some number) fact = wishes_not m number (events.wish_at m.items number) fact

    by_form : (peers : Peers) (packet : Packet) (t : Bool) → (if t then cleaner_hear (Opening l o) packet else still (Opening l o)).state ≡ Serving v
        → ComesBack (opening.opening_take o l.questions packet).progress v
    unfolding cleaner_hear
    by_form peers packet true fact = by_progress _ (opening.opening_take o l.questions packet).progress fact
    by_form peers packet false fact = absurd cc

    by_do : (peers : Peers) (what : Do) → (happens peers (Opening l o) what).state ≡ Serving v → ComesBack (comes_to o l.questions what) v
    unfolding on_begin on_deliver on_time
    by_do peers Begin fact = absurd (begins_not (events.begun_life l) (next_item l.items) fact)
    by_do peers (Deliver packet) fact = by_form peers packet (is_well_formed peers packet) fact
    by_do peers Tick fact = by_progress _ (opening.on_tick o l.questions).progress fact

    by_room : (peers : Peers) (what : Do) (t : Bool) → (if t then happens peers (Opening l o) what else still (Opening l o)).state ≡ Serving v
        → ComesBack (comes_to o l.questions what) v
    by_room peers what true fact = by_do peers what fact
    by_room peers what false fact = absurd cc

  pub comes_back : (l : Lasting) (o : openings.Opening) (peers : Peers) (what : Do) → (takes peers (Opening l o) what).state ≡ Serving v
      → ComesBack (comes_to o l.questions what) v
  comes_back l o peers what fact = by_room l o peers what (phase_has_room (Opening l o)) fact
