-- By `boards` the script that is played is one that the input spells.
use Rattle.std.proofs.Common.{◌≡◌, ℕ, false, List, Option, Some, None, inl, inr, refl, sym, ap, subst, ◌∙◌}
use Rattle.std.specs.Prelude.{IfSome}
use Rattle.board_play.specs.Plays.{estate_of}
use Rattle.core_world.specs.AnyNode.{any_start, any_step}
use Rattle.core_world.specs.declared.any_node.AnyNode.{AnyNode}
use Rattle.script_print.specs.Printing.{IsScript}
use Rattle.top_call.specs.Claim.{AnswersBoards, Ends, Reading, Wanted, Writing}
use Rattle.top_call.specs.declared.command.Command.{Command}
use Rattle.top_call.specs.declared.command.Command.TheVariants.{Audit, Big, Boards, Disks, Gen, Live, Mount, Run}
use Rattle.top_call.specs.declared.outcome.Outcome.{Outcome}
use Rattle.world_base.specs.declared.estate.Estate.{Estate}

abbrev pub IsAccepted : Option Command → Estate AnyNode → Type 0
IsAccepted (Some Boards) e = IsScript e.script
IsAccepted command e = Unit {0}

one_estate : (a b : Estate AnyNode) → Some a ≡ Some b → a ≡ b
one_estate a b fact = cc

no_estate : (e : Estate AnyNode) → None ≡ Some e → ⊥
no_estate e fact = cc

module _ (r : Reading) (s : Writing) (o : Outcome AnyNode) (e : Estate AnyNode) (there : o.estate ≡ Some e) where
  wanted_so : (input : List ℕ) (w : Wanted AnyNode) → o.estate ≡ w.estate → AnswersBoards any_step any_start input w → IsScript e.script
  wanted_so input w told (inl (script, is, same)) =
      let its : Some (estate_of any_step any_start script).estate ≡ Some e = sym (ap (λ (x : Wanted AnyNode). x.estate) same) ∙ (sym told ∙ there) in
      subst (λ (x : Estate AnyNode). IsScript x.script) (one_estate (estate_of any_step any_start script).estate e its) (false, input, is)
  wanted_so input w told (inr (number, kind, bad, same)) =
      absurd (no_estate e (sym (ap (λ (x : Wanted AnyNode). x.estate) same) ∙ (sym told ∙ there)))

  boards_accept : Ends any_step any_start (Some Boards) r s o → IsScript e.script
  boards_accept (inl (input, is, answers)) = wanted_so input answers.wanted answers.told.0 answers.wants
  boards_accept (inr (inl gives)) = absurd (no_estate e (sym gives.1 ∙ there))
  boards_accept (inr (inr cannot)) = absurd (no_estate e (sym cannot.1.1 ∙ there))

  accepted_by : (command : Option Command) → Ends any_step any_start command r s o → IsAccepted command e
  accepted_by None ends = tt
  accepted_by (Some Run) ends = tt
  accepted_by (Some (Live workers)) ends = tt
  accepted_by (Some (Mount workers)) ends = tt
  accepted_by (Some (Gen drawn)) ends = tt
  accepted_by (Some (Big drawn)) ends = tt
  accepted_by (Some Audit) ends = tt
  accepted_by (Some Boards) ends = boards_accept ends
  accepted_by (Some Disks) ends = tt

pub accepted : (command : Option Command) (r : Reading) (s : Writing) (o : Outcome AnyNode) → Ends any_step any_start command r s o
    → IfSome o.estate (IsAccepted command)
accepted command r s o ends = by o.estate refl
  where
    by : (x : Option (Estate AnyNode)) → o.estate ≡ x → IfSome x (IsAccepted command)
    by None there = tt
    by (Some e) there = accepted_by r s o e there command ends
